-- Entries that must not follow a history, each refused by the test that is to refuse it.
use Rattle.std.specs.Prelude.{◌≡◌, Some, true, false, List, [], ◌∷◌, refl}
use Rattle.hm_base.specs.Program.{Program}
use Rattle.hm_base.specs.declared.ops.Version.{Version}
use Rattle.hm_base.specs.declared.ops.Rights.{Rights}
use Rattle.hm_base.specs.declared.ops.Op.{Op}
use Rattle.hm_base.specs.declared.ops.ScheduleLine.{ScheduleLine}
use Rattle.hm_base.specs.declared.Place.{Place}
use Rattle.hm_base.specs.declared.cause.Cause.{Cause}
use Rattle.hm_history.specs.declared.Who.{Who}
use Rattle.hm_history.specs.declared.TableRight.{TableRight}
use Rattle.hm_history.specs.declared.KeptAt.{KeptAt}
use Rattle.hm_history.specs.declared.KeptWhy.{KeptWhy}
use Rattle.hm_history.specs.declared.Kind.{Kind}
use Rattle.hm_history.specs.Memory.Words.{sys_frame, dev_frame}
use Rattle.hm_history.specs.declared.Entry.{Entry}
use Rattle.hm_history.specs.Memory.After.{after}
use Rattle.hm_history.specs.Memory.Plain.{mirror_owner, plain_accepts}
use Rattle.hm_history.specs.Memory.Places.{places_accept}
use Rattle.hm_history.specs.Memory.Sequences.{sequences_accept}
use Rattle.hm_history.specs.Memory.Lookups.{uses_untold, narrows_guarded}
use Rattle.hm_history.specs.Memory.Rules.{fails_rightly}
use Rattle.hm_history.specs.Kernel.Legal.{kept_rightly}
use Rattle.hm_history.specs.Kernel.Going.{state_of}

abbrev script : Program
script = record {
  version = Version.One;
  frames = 4;
  devices = 4 ∷ [];
  skip = 0;
  actors = (Op.Map 0 (record { first = 16; count = 1 }) Rights.ReadWrite ∷ Op.Store 0 0x10000 (65 ∷ []) ∷ Op.Attach 0 0 0 (record { first = 16; count = 1 }) ∷ Op.ToDevice 0 (record { first = 16; count = 1 }) ∷ []) ∷ [];
  schedule = ScheduleLine.Run 0 99 ∷ [];
}

-- a guard ends without telling
abbrev before_ends_untold : List Entry
before_ends_untold =
    record { actor = 0; kind = Kind.Wlock 0 } ∷
    record { actor = 0; kind = Kind.Mapped 0 (record { first = 16; count = 1 }) Rights.ReadWrite } ∷
    record { actor = 0; kind = Kind.Rlock 0 } ∷
    record { actor = 0; kind = Kind.Take (sys_frame 0) } ∷
    record { actor = 0; kind = Kind.Place 0 16 (Place.Sys 0 true) } ∷
    record { actor = 0; kind = Kind.Runlock 0 } ∷
    record { actor = 0; kind = Kind.Stored (Who.Cpu 0) 0x10000 (65 ∷ []) } ∷
    record { actor = 0; kind = Kind.Attached 0 0 0 (record { first = 16; count = 1 }) 1 } ∷
    record { actor = 0; kind = Kind.Wlock 0 } ∷
    record { actor = 0; kind = Kind.Start 0 (record { first = 16; count = 1 }) 3 } ∷
    record { actor = 0; kind = Kind.Place 0 16 Place.Empty } ∷
    record { actor = 0; kind = Kind.Drop (sys_frame 0) } ∷ []

ends_untold : sequences_accept (after before_ends_untold).sequences 0 (Kind.End 0 (record { first = 16; count = 1 }) 4) ≡ false
ends_untold = refl

-- a place is taken away before the interval was told
abbrev before_zapped_untold : List Entry
before_zapped_untold =
    record { actor = 0; kind = Kind.Wlock 0 } ∷
    record { actor = 0; kind = Kind.Mapped 0 (record { first = 16; count = 1 }) Rights.ReadWrite } ∷
    record { actor = 0; kind = Kind.Rlock 0 } ∷
    record { actor = 0; kind = Kind.Take (sys_frame 0) } ∷
    record { actor = 0; kind = Kind.Place 0 16 (Place.Sys 0 true) } ∷
    record { actor = 0; kind = Kind.Runlock 0 } ∷
    record { actor = 0; kind = Kind.Stored (Who.Cpu 0) 0x10000 (65 ∷ []) } ∷
    record { actor = 0; kind = Kind.Attached 0 0 0 (record { first = 16; count = 1 }) 1 } ∷
    record { actor = 0; kind = Kind.Wlock 0 } ∷
    record { actor = 0; kind = Kind.Start 0 (record { first = 16; count = 1 }) 3 } ∷ []

zapped_untold : narrows_guarded (after before_zapped_untold).sequences (after before_zapped_untold).places.place 0 (Kind.Place 0 16 Place.Empty) ≡ false
zapped_untold = refl

-- a place is taken away outside a guard
abbrev before_zapped_unguarded : List Entry
before_zapped_unguarded =
    record { actor = 0; kind = Kind.Wlock 0 } ∷
    record { actor = 0; kind = Kind.Mapped 0 (record { first = 16; count = 1 }) Rights.ReadWrite } ∷
    record { actor = 0; kind = Kind.Rlock 0 } ∷
    record { actor = 0; kind = Kind.Take (sys_frame 0) } ∷
    record { actor = 0; kind = Kind.Place 0 16 (Place.Sys 0 true) } ∷
    record { actor = 0; kind = Kind.Runlock 0 } ∷
    record { actor = 0; kind = Kind.Stored (Who.Cpu 0) 0x10000 (65 ∷ []) } ∷
    record { actor = 0; kind = Kind.Attached 0 0 0 (record { first = 16; count = 1 }) 1 } ∷
    record { actor = 0; kind = Kind.Wlock 0 } ∷ []

zapped_unguarded : narrows_guarded (after before_zapped_unguarded).sequences (after before_zapped_unguarded).places.place 0 (Kind.Place 0 16 Place.Empty) ≡ false
zapped_unguarded = refl

-- a table entry of a look-up that was told since it began
abbrev before_commits_unlooked : List Entry
before_commits_unlooked =
    record { actor = 0; kind = Kind.Wlock 0 } ∷
    record { actor = 0; kind = Kind.Mapped 0 (record { first = 16; count = 1 }) Rights.ReadWrite } ∷
    record { actor = 0; kind = Kind.Rlock 0 } ∷
    record { actor = 0; kind = Kind.Take (sys_frame 0) } ∷
    record { actor = 0; kind = Kind.Place 0 16 (Place.Sys 0 true) } ∷
    record { actor = 0; kind = Kind.Runlock 0 } ∷
    record { actor = 0; kind = Kind.Stored (Who.Cpu 0) 0x10000 (65 ∷ []) } ∷
    record { actor = 0; kind = Kind.Attached 0 0 0 (record { first = 16; count = 1 }) 1 } ∷
    record { actor = 0; kind = Kind.Begin 0 1 } ∷
    record { actor = 0; kind = Kind.Rlock 0 } ∷
    record { actor = 0; kind = Kind.Runlock 0 } ∷
    record { actor = 1; kind = Kind.Wlock 0 } ∷
    record { actor = 1; kind = Kind.Start 0 (record { first = 16; count = 1 }) 3 } ∷
    record { actor = 1; kind = Kind.Told 0 (record { first = 16; count = 1 }) 3 } ∷
    record { actor = 1; kind = Kind.End 0 (record { first = 16; count = 1 }) 4 } ∷
    record { actor = 1; kind = Kind.Protected 0 (record { first = 16; count = 1 }) Rights.ReadWrite } ∷
    record { actor = 0; kind = Kind.Set 0 16 (Some (sys_frame 0)) TableRight.Write 8 } ∷ []

commits_unlooked : uses_untold before_commits_unlooked (Kind.Loaded (Who.Mirror 0) 0x10000 (65 ∷ [])) ≡ false
commits_unlooked = refl

-- an end moves the sequence on while another is under way
abbrev before_ends_early : List Entry
before_ends_early =
    record { actor = 0; kind = Kind.Wlock 0 } ∷
    record { actor = 0; kind = Kind.Mapped 0 (record { first = 16; count = 1 }) Rights.ReadWrite } ∷
    record { actor = 0; kind = Kind.Rlock 0 } ∷
    record { actor = 0; kind = Kind.Take (sys_frame 0) } ∷
    record { actor = 0; kind = Kind.Place 0 16 (Place.Sys 0 true) } ∷
    record { actor = 0; kind = Kind.Runlock 0 } ∷
    record { actor = 0; kind = Kind.Stored (Who.Cpu 0) 0x10000 (65 ∷ []) } ∷
    record { actor = 0; kind = Kind.Attached 0 0 0 (record { first = 16; count = 1 }) 1 } ∷
    record { actor = 0; kind = Kind.Start 0 (record { first = 16; count = 1 }) 3 } ∷
    record { actor = 0; kind = Kind.Told 0 (record { first = 16; count = 1 }) 3 } ∷
    record { actor = 1; kind = Kind.Start 0 (record { first = 16; count = 1 }) 3 } ∷
    record { actor = 1; kind = Kind.Told 0 (record { first = 16; count = 1 }) 3 } ∷ []

ends_early : sequences_accept (after before_ends_early).sequences 0 (Kind.End 0 (record { first = 16; count = 1 }) 4) ≡ false
ends_early = refl

-- a mirror is told whose interval does not overlap
abbrev before_told_out_of_order : List Entry
before_told_out_of_order =
    record { actor = 0; kind = Kind.Wlock 0 } ∷
    record { actor = 0; kind = Kind.Mapped 0 (record { first = 16; count = 1 }) Rights.ReadWrite } ∷
    record { actor = 0; kind = Kind.Rlock 0 } ∷
    record { actor = 0; kind = Kind.Take (sys_frame 0) } ∷
    record { actor = 0; kind = Kind.Place 0 16 (Place.Sys 0 true) } ∷
    record { actor = 0; kind = Kind.Runlock 0 } ∷
    record { actor = 0; kind = Kind.Stored (Who.Cpu 0) 0x10000 (65 ∷ []) } ∷
    record { actor = 0; kind = Kind.Attached 0 0 0 (record { first = 16; count = 1 }) 1 } ∷
    record { actor = 0; kind = Kind.Attached 1 0 0 (record { first = 20; count = 1 }) 1 } ∷
    record { actor = 0; kind = Kind.Wlock 0 } ∷
    record { actor = 0; kind = Kind.Start 0 (record { first = 16; count = 1 }) 3 } ∷ []

told_out_of_order : sequences_accept (after before_told_out_of_order).sequences 0 (Kind.Told 1 (record { first = 16; count = 1 }) 3) ≡ false
told_out_of_order = refl

-- a fork leaves the parent writable
abbrev before_fork_leaves_right : List Entry
before_fork_leaves_right =
    record { actor = 0; kind = Kind.Wlock 0 } ∷
    record { actor = 0; kind = Kind.Mapped 0 (record { first = 16; count = 1 }) Rights.ReadWrite } ∷
    record { actor = 0; kind = Kind.Rlock 0 } ∷
    record { actor = 0; kind = Kind.Take (sys_frame 0) } ∷
    record { actor = 0; kind = Kind.Place 0 16 (Place.Sys 0 true) } ∷
    record { actor = 0; kind = Kind.Runlock 0 } ∷
    record { actor = 0; kind = Kind.Stored (Who.Cpu 0) 0x10000 (65 ∷ []) } ∷
    record { actor = 0; kind = Kind.Wlock 0 } ∷
    record { actor = 0; kind = Kind.Named 0 1 } ∷
    record { actor = 0; kind = Kind.Start 0 (record { first = 0; count = 68719476736 }) 2 } ∷ []

fork_leaves_right : places_accept script (mirror_owner (after before_fork_leaves_right).plain) (after before_fork_leaves_right).places 0 (Kind.Place 1 16 (Place.Sys 0 false)) ≡ false
fork_leaves_right = refl

-- the CPU reads device memory
abbrev before_reads_device_memory : List Entry
before_reads_device_memory =
    record { actor = 0; kind = Kind.Wlock 0 } ∷
    record { actor = 0; kind = Kind.Mapped 0 (record { first = 16; count = 1 }) Rights.ReadWrite } ∷
    record { actor = 0; kind = Kind.Attached 0 0 0 (record { first = 16; count = 1 }) 1 } ∷
    record { actor = 0; kind = Kind.Rlock 0 } ∷
    record { actor = 0; kind = Kind.Take (dev_frame 0 0) } ∷
    record { actor = 0; kind = Kind.Place 0 16 (Place.Own 0 0 true) } ∷
    record { actor = 0; kind = Kind.Runlock 0 } ∷ []

reads_device_memory : places_accept script (mirror_owner (after before_reads_device_memory).plain) (after before_reads_device_memory).places 0 (Kind.Loaded (Who.Cpu 0) 0x10000 (0 ∷ [])) ≡ false
reads_device_memory = refl

-- a device is removed while a frame is held
abbrev before_removed_with_a_frame : List Entry
before_removed_with_a_frame =
    record { actor = 0; kind = Kind.Wlock 0 } ∷
    record { actor = 0; kind = Kind.Mapped 0 (record { first = 16; count = 1 }) Rights.ReadWrite } ∷
    record { actor = 0; kind = Kind.Take (dev_frame 0 0) } ∷
    record { actor = 0; kind = Kind.Withdrawn 0 } ∷ []

removed_with_a_frame : places_accept script (mirror_owner (after before_removed_with_a_frame).plain) (after before_removed_with_a_frame).places 0 (Kind.Removed 0) ≡ false
removed_with_a_frame = refl

-- a failure for want of a frame while one is free
abbrev before_fails_with_a_frame_free : List Entry
before_fails_with_a_frame_free =
    record { actor = 0; kind = Kind.Wlock 0 } ∷
    record { actor = 0; kind = Kind.Mapped 0 (record { first = 16; count = 1 }) Rights.ReadWrite } ∷
    record { actor = 0; kind = Kind.Rlock 0 } ∷ []

fails_with_a_frame_free : fails_rightly script before_fails_with_a_frame_free (record { actor = 0; kind = Kind.Failed (Who.Cpu 0) 0x10000 1 Cause.NoFrame }) ≡ false
fails_with_a_frame_free = refl

-- a frame is taken that is not the lowest
abbrev before_takes_another : List Entry
before_takes_another =
    record { actor = 0; kind = Kind.Wlock 0 } ∷
    record { actor = 0; kind = Kind.Mapped 0 (record { first = 16; count = 1 }) Rights.ReadWrite } ∷
    record { actor = 0; kind = Kind.Rlock 0 } ∷ []

takes_another : places_accept script (mirror_owner (after before_takes_another).plain) (after before_takes_another).places 0 (Kind.Take (sys_frame 1)) ≡ false
takes_another = refl

-- a frame of a withdrawn device is taken
abbrev before_takes_withdrawn : List Entry
before_takes_withdrawn =
    record { actor = 0; kind = Kind.Withdrawn 0 } ∷ []

takes_withdrawn : places_accept script (mirror_owner (after before_takes_withdrawn).plain) (after before_takes_withdrawn).places 0 (Kind.Take (dev_frame 0 0)) ≡ false
takes_withdrawn = refl

-- a frame is dropped that a place names
abbrev before_drops_named : List Entry
before_drops_named =
    record { actor = 0; kind = Kind.Wlock 0 } ∷
    record { actor = 0; kind = Kind.Mapped 0 (record { first = 16; count = 1 }) Rights.ReadWrite } ∷
    record { actor = 0; kind = Kind.Rlock 0 } ∷
    record { actor = 0; kind = Kind.Take (sys_frame 0) } ∷
    record { actor = 0; kind = Kind.Place 0 16 (Place.Sys 0 true) } ∷
    record { actor = 0; kind = Kind.Runlock 0 } ∷
    record { actor = 0; kind = Kind.Stored (Who.Cpu 0) 0x10000 (65 ∷ []) } ∷ []

drops_named : places_accept script (mirror_owner (after before_drops_named).plain) (after before_drops_named).places 0 (Kind.Drop (sys_frame 0)) ≡ false
drops_named = refl

-- a load answers another byte
abbrev before_loads_another_byte : List Entry
before_loads_another_byte =
    record { actor = 0; kind = Kind.Wlock 0 } ∷
    record { actor = 0; kind = Kind.Mapped 0 (record { first = 16; count = 1 }) Rights.ReadWrite } ∷
    record { actor = 0; kind = Kind.Rlock 0 } ∷
    record { actor = 0; kind = Kind.Take (sys_frame 0) } ∷
    record { actor = 0; kind = Kind.Place 0 16 (Place.Sys 0 true) } ∷
    record { actor = 0; kind = Kind.Runlock 0 } ∷
    record { actor = 0; kind = Kind.Stored (Who.Cpu 0) 0x10000 (65 ∷ []) } ∷ []

loads_another_byte : plain_accepts (after before_loads_another_byte).plain (Kind.Loaded (Who.Cpu 0) 0x10000 (66 ∷ [])) ≡ false
loads_another_byte = refl

-- a store to a read-only area
abbrev before_stores_read_only : List Entry
before_stores_read_only =
    record { actor = 0; kind = Kind.Wlock 0 } ∷
    record { actor = 0; kind = Kind.Mapped 0 (record { first = 16; count = 1 }) Rights.Read } ∷
    record { actor = 0; kind = Kind.Rlock 0 } ∷
    record { actor = 0; kind = Kind.Take (sys_frame 0) } ∷
    record { actor = 0; kind = Kind.Place 0 16 (Place.Sys 0 true) } ∷
    record { actor = 0; kind = Kind.Runlock 0 } ∷ []

stores_read_only : plain_accepts (after before_stores_read_only).plain (Kind.Stored (Who.Cpu 0) 0x10000 (65 ∷ [])) ≡ false
stores_read_only = refl

-- a store to a read-only place
abbrev before_stores_shared : List Entry
before_stores_shared =
    record { actor = 0; kind = Kind.Wlock 0 } ∷
    record { actor = 0; kind = Kind.Mapped 0 (record { first = 16; count = 1 }) Rights.ReadWrite } ∷
    record { actor = 0; kind = Kind.Rlock 0 } ∷
    record { actor = 0; kind = Kind.Take (sys_frame 0) } ∷
    record { actor = 0; kind = Kind.Place 0 16 (Place.Sys 0 true) } ∷
    record { actor = 0; kind = Kind.Runlock 0 } ∷
    record { actor = 0; kind = Kind.Stored (Who.Cpu 0) 0x10000 (65 ∷ []) } ∷
    record { actor = 0; kind = Kind.Wlock 0 } ∷
    record { actor = 0; kind = Kind.Named 0 1 } ∷
    record { actor = 0; kind = Kind.Start 0 (record { first = 0; count = 68719476736 }) 2 } ∷
    record { actor = 0; kind = Kind.Place 0 16 (Place.Sys 0 false) } ∷
    record { actor = 0; kind = Kind.Place 1 16 (Place.Sys 0 false) } ∷
    record { actor = 0; kind = Kind.End 0 (record { first = 0; count = 68719476736 }) 2 } ∷
    record { actor = 0; kind = Kind.Forked 0 1 } ∷ []

stores_shared : places_accept script (mirror_owner (after before_stores_shared).plain) (after before_stores_shared).places 0 (Kind.Stored (Who.Cpu 0) 0x10000 (66 ∷ [])) ≡ false
stores_shared = refl

-- the finish gives a right that was not there
abbrev before_finishes_writable : List Entry
before_finishes_writable =
    record { actor = 0; kind = Kind.Wlock 0 } ∷
    record { actor = 0; kind = Kind.Mapped 0 (record { first = 16; count = 1 }) Rights.ReadWrite } ∷
    record { actor = 0; kind = Kind.Rlock 0 } ∷
    record { actor = 0; kind = Kind.Take (sys_frame 0) } ∷
    record { actor = 0; kind = Kind.Place 0 16 (Place.Sys 0 true) } ∷
    record { actor = 0; kind = Kind.Runlock 0 } ∷
    record { actor = 0; kind = Kind.Stored (Who.Cpu 0) 0x10000 (65 ∷ []) } ∷
    record { actor = 0; kind = Kind.Wlock 0 } ∷
    record { actor = 0; kind = Kind.Named 0 1 } ∷
    record { actor = 0; kind = Kind.Start 0 (record { first = 0; count = 68719476736 }) 2 } ∷
    record { actor = 0; kind = Kind.Place 0 16 (Place.Sys 0 false) } ∷
    record { actor = 0; kind = Kind.Place 1 16 (Place.Sys 0 false) } ∷
    record { actor = 0; kind = Kind.End 0 (record { first = 0; count = 68719476736 }) 2 } ∷
    record { actor = 0; kind = Kind.Forked 0 1 } ∷
    record { actor = 0; kind = Kind.Attached 0 0 0 (record { first = 16; count = 1 }) 1 } ∷
    record { actor = 0; kind = Kind.Rlock 0 } ∷
    record { actor = 0; kind = Kind.Start 0 (record { first = 16; count = 1 }) 3 } ∷
    record { actor = 0; kind = Kind.Told 0 (record { first = 16; count = 1 }) 3 } ∷
    record { actor = 0; kind = Kind.Place 0 16 (Place.Moving (sys_frame 0) false) } ∷
    record { actor = 0; kind = Kind.End 0 (record { first = 16; count = 1 }) 4 } ∷
    record { actor = 0; kind = Kind.Start 1 (record { first = 16; count = 1 }) 2 } ∷
    record { actor = 0; kind = Kind.Place 1 16 (Place.Moving (sys_frame 0) false) } ∷
    record { actor = 0; kind = Kind.End 1 (record { first = 16; count = 1 }) 2 } ∷
    record { actor = 0; kind = Kind.Take (dev_frame 0 0) } ∷
    record { actor = 0; kind = Kind.Committed (sys_frame 0) (dev_frame 0 0) } ∷ []

finishes_writable : places_accept script (mirror_owner (after before_finishes_writable).plain) (after before_finishes_writable).places 0 (Kind.Place 0 16 (Place.Own 0 0 true)) ≡ false
finishes_writable = refl

-- a page is passed over that the rule does not name
abbrev before_skipped_unasked : List Entry
before_skipped_unasked =
    record { actor = 0; kind = Kind.Wlock 0 } ∷
    record { actor = 0; kind = Kind.Mapped 0 (record { first = 16; count = 1 }) Rights.ReadWrite } ∷
    record { actor = 0; kind = Kind.Rlock 0 } ∷
    record { actor = 0; kind = Kind.Take (sys_frame 0) } ∷
    record { actor = 0; kind = Kind.Place 0 16 (Place.Sys 0 true) } ∷
    record { actor = 0; kind = Kind.Runlock 0 } ∷
    record { actor = 0; kind = Kind.Stored (Who.Cpu 0) 0x10000 (65 ∷ []) } ∷
    record { actor = 0; kind = Kind.Attached 0 0 0 (record { first = 16; count = 1 }) 1 } ∷
    record { actor = 0; kind = Kind.Rlock 0 } ∷
    record { actor = 0; kind = Kind.Start 0 (record { first = 16; count = 1 }) 3 } ∷
    record { actor = 0; kind = Kind.Told 0 (record { first = 16; count = 1 }) 3 } ∷
    record { actor = 0; kind = Kind.Place 0 16 (Place.Moving (sys_frame 0) true) } ∷
    record { actor = 0; kind = Kind.End 0 (record { first = 16; count = 1 }) 4 } ∷ []

skipped_unasked : kept_rightly script (state_of script before_skipped_unasked) (record { actor = 0; kind = Kind.Kept (KeptAt.Page 16) KeptWhy.Skipped }) ≡ false
skipped_unasked = refl

-- a page is kept for want of a frame while one is free
abbrev before_kept_with_a_frame_free : List Entry
before_kept_with_a_frame_free =
    record { actor = 0; kind = Kind.Wlock 0 } ∷
    record { actor = 0; kind = Kind.Mapped 0 (record { first = 16; count = 1 }) Rights.ReadWrite } ∷
    record { actor = 0; kind = Kind.Rlock 0 } ∷
    record { actor = 0; kind = Kind.Take (sys_frame 0) } ∷
    record { actor = 0; kind = Kind.Place 0 16 (Place.Sys 0 true) } ∷
    record { actor = 0; kind = Kind.Runlock 0 } ∷
    record { actor = 0; kind = Kind.Stored (Who.Cpu 0) 0x10000 (65 ∷ []) } ∷
    record { actor = 0; kind = Kind.Attached 0 0 0 (record { first = 16; count = 1 }) 1 } ∷
    record { actor = 0; kind = Kind.Rlock 0 } ∷
    record { actor = 0; kind = Kind.Start 0 (record { first = 16; count = 1 }) 3 } ∷
    record { actor = 0; kind = Kind.Told 0 (record { first = 16; count = 1 }) 3 } ∷
    record { actor = 0; kind = Kind.Place 0 16 (Place.Moving (sys_frame 0) true) } ∷
    record { actor = 0; kind = Kind.End 0 (record { first = 16; count = 1 }) 4 } ∷ []

kept_with_a_frame_free : kept_rightly script (state_of script before_kept_with_a_frame_free) (record { actor = 0; kind = Kind.Kept (KeptAt.Page 16) KeptWhy.NoFrame }) ≡ false
kept_with_a_frame_free = refl

-- a map over a page that has an area
abbrev before_maps_twice : List Entry
before_maps_twice =
    record { actor = 0; kind = Kind.Wlock 0 } ∷
    record { actor = 0; kind = Kind.Mapped 0 (record { first = 16; count = 1 }) Rights.ReadWrite } ∷
    record { actor = 0; kind = Kind.Rlock 0 } ∷
    record { actor = 0; kind = Kind.Take (sys_frame 0) } ∷
    record { actor = 0; kind = Kind.Place 0 16 (Place.Sys 0 true) } ∷
    record { actor = 0; kind = Kind.Runlock 0 } ∷
    record { actor = 0; kind = Kind.Stored (Who.Cpu 0) 0x10000 (65 ∷ []) } ∷
    record { actor = 0; kind = Kind.Wlock 0 } ∷ []

maps_twice : plain_accepts (after before_maps_twice).plain (Kind.Mapped 0 (record { first = 16; count = 1 }) Rights.Read) ≡ false
maps_twice = refl

-- a table entry of a mirror that was never attached
abbrev before_sets_unattached : List Entry
before_sets_unattached =
    record { actor = 0; kind = Kind.Wlock 0 } ∷
    record { actor = 0; kind = Kind.Mapped 0 (record { first = 16; count = 1 }) Rights.ReadWrite } ∷
    record { actor = 0; kind = Kind.Rlock 0 } ∷
    record { actor = 0; kind = Kind.Take (sys_frame 0) } ∷
    record { actor = 0; kind = Kind.Place 0 16 (Place.Sys 0 true) } ∷
    record { actor = 0; kind = Kind.Runlock 0 } ∷
    record { actor = 0; kind = Kind.Stored (Who.Cpu 0) 0x10000 (65 ∷ []) } ∷ []

sets_unattached : places_accept script (mirror_owner (after before_sets_unattached).plain) (after before_sets_unattached).places 0 (Kind.Set 7 16 (Some (sys_frame 0)) TableRight.Write 7) ≡ false
sets_unattached = refl

-- a load through the table of a mirror that was never attached
abbrev before_loads_unattached : List Entry
before_loads_unattached =
    record { actor = 0; kind = Kind.Wlock 0 } ∷
    record { actor = 0; kind = Kind.Mapped 0 (record { first = 16; count = 1 }) Rights.ReadWrite } ∷
    record { actor = 0; kind = Kind.Rlock 0 } ∷
    record { actor = 0; kind = Kind.Take (sys_frame 0) } ∷
    record { actor = 0; kind = Kind.Place 0 16 (Place.Sys 0 true) } ∷
    record { actor = 0; kind = Kind.Runlock 0 } ∷
    record { actor = 0; kind = Kind.Stored (Who.Cpu 0) 0x10000 (65 ∷ []) } ∷
    record { actor = 0; kind = Kind.Set 7 16 (Some (sys_frame 0)) TableRight.Write 7 } ∷ []

loads_unattached : places_accept script (mirror_owner (after before_loads_unattached).plain) (after before_loads_unattached).places 0 (Kind.Loaded (Who.Mirror 7) 0x10000 (65 ∷ [])) ≡ false
loads_unattached = refl

-- a mirror that was never attached fails for want of a frame
abbrev before_fails_unattached : List Entry
before_fails_unattached =
    record { actor = 0; kind = Kind.Wlock 0 } ∷
    record { actor = 0; kind = Kind.Mapped 0 (record { first = 16; count = 1 }) Rights.ReadWrite } ∷
    record { actor = 0; kind = Kind.Rlock 0 } ∷
    record { actor = 0; kind = Kind.Take (sys_frame 0) } ∷
    record { actor = 0; kind = Kind.Place 0 16 (Place.Sys 0 true) } ∷
    record { actor = 0; kind = Kind.Runlock 0 } ∷
    record { actor = 0; kind = Kind.Stored (Who.Cpu 0) 0x10000 (65 ∷ []) } ∷ []

fails_unattached : plain_accepts (after before_fails_unattached).plain (Kind.Failed (Who.Mirror 7) 0x10000 1 Cause.NoFrame) ≡ false
fails_unattached = refl

-- a store through a mirror that was never attached writes the bytes of process 0
abbrev before_stores_unattached : List Entry
before_stores_unattached =
    record { actor = 0; kind = Kind.Wlock 0 } ∷
    record { actor = 0; kind = Kind.Mapped 0 (record { first = 16; count = 1 }) Rights.ReadWrite } ∷
    record { actor = 0; kind = Kind.Rlock 0 } ∷
    record { actor = 0; kind = Kind.Take (sys_frame 0) } ∷
    record { actor = 0; kind = Kind.Place 0 16 (Place.Sys 0 true) } ∷
    record { actor = 0; kind = Kind.Runlock 0 } ∷
    record { actor = 0; kind = Kind.Stored (Who.Cpu 0) 0x10000 (65 ∷ []) } ∷
    record { actor = 0; kind = Kind.Stored (Who.Mirror 7) 0x10000 (66 ∷ []) } ∷ []

stores_unattached : plain_accepts (after before_stores_unattached).plain (Kind.Loaded (Who.Cpu 0) 0x10000 (66 ∷ [])) ≡ false
stores_unattached = refl
