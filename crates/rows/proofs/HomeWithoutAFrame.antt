-- The worked script home_without_a_frame: its run, and that it is legal.
use Rattle.std.specs.Prelude.{◌≡◌, Some, true, false, List, [], ◌∷◌, ◌++◌, refl, take}
use Rattle.hm_base.specs.Program.{Program}
use Rattle.hm_base.specs.declared.ops.Version.{Version}
use Rattle.hm_base.specs.declared.ops.Rights.{Rights}
use Rattle.hm_base.specs.declared.ops.Op.{Op}
use Rattle.hm_base.specs.declared.ops.ScheduleLine.{ScheduleLine}
use Rattle.hm_base.specs.declared.Place.{Place}
use Rattle.hm_base.specs.declared.cause.Cause.{Cause}
use Rattle.hm_history.specs.declared.Who.{Who}
use Rattle.hm_history.specs.declared.TableRight.{TableRight}
use Rattle.hm_history.specs.declared.KeptAt.{KeptAt}
use Rattle.hm_history.specs.declared.KeptWhy.{KeptWhy}
use Rattle.hm_history.specs.declared.Kind.{Kind}
use Rattle.hm_history.specs.Memory.Words.{sys_frame, dev_frame}
use Rattle.hm_history.specs.declared.Entry.{Entry}
use Rattle.hm_history.specs.Kernel.Run.{run}
use Rattle.hm_history.specs.Memory.Rules.{fails_rightly}
use Rattle.hm_history.specs.Kernel.Legal.{Legal}

abbrev script : Program
script = record {
  version = Version.Two;
  frames = 1;
  devices = 4 ∷ [];
  skip = 0;
  actors = (Op.Map 0 (record { first = 16; count = 1 }) Rights.ReadWrite ∷ Op.Store 0 0x10000 (65 ∷ []) ∷ Op.Attach 0 0 0 (record { first = 16; count = 1 }) ∷ Op.ToDevice 0 (record { first = 16; count = 1 }) ∷ Op.Map 0 (record { first = 32; count = 1 }) Rights.ReadWrite ∷ Op.Store 0 0x20000 (66 ∷ []) ∷ Op.Load 0 0x10000 1 ∷ Op.DeviceLoad 0 0x10000 1 ∷ Op.Fork 0 1 ∷ Op.DeviceStore 0 0x10000 (67 ∷ []) ∷ Op.Exclusive 0 16 ∷ Op.Add 0 0x10000 1 ∷ Op.Evict 0 ∷ Op.Remove 0 ∷ Op.ToDevice 0 (record { first = 32; count = 1 }) ∷ Op.ToSystem 0 (record { first = 16; count = 1 }) ∷ []) ∷ [];
  schedule = ScheduleLine.Run 0 400 ∷ [];
}

abbrev history : List Entry
history =
    record { actor = 0; kind = Kind.Wlock 0 } ∷
    record { actor = 0; kind = Kind.Mapped 0 (record { first = 16; count = 1 }) Rights.ReadWrite } ∷
    record { actor = 0; kind = Kind.Rlock 0 } ∷
    record { actor = 0; kind = Kind.Take (sys_frame 0) } ∷
    record { actor = 0; kind = Kind.Place 0 16 (Place.Sys 0 true) } ∷
    record { actor = 0; kind = Kind.Runlock 0 } ∷
    record { actor = 0; kind = Kind.Stored (Who.Cpu 0) 0x10000 (65 ∷ []) } ∷
    record { actor = 0; kind = Kind.Attached 0 0 0 (record { first = 16; count = 1 }) 1 } ∷
    record { actor = 0; kind = Kind.Rlock 0 } ∷
    record { actor = 0; kind = Kind.Start 0 (record { first = 16; count = 1 }) 3 } ∷
    record { actor = 0; kind = Kind.Told 0 (record { first = 16; count = 1 }) 3 } ∷
    record { actor = 0; kind = Kind.Place 0 16 (Place.Moving (sys_frame 0) true) } ∷
    record { actor = 0; kind = Kind.End 0 (record { first = 16; count = 1 }) 4 } ∷
    record { actor = 0; kind = Kind.Take (dev_frame 0 0) } ∷
    record { actor = 0; kind = Kind.Copied (sys_frame 0) (dev_frame 0 0) (Some 0) } ∷
    record { actor = 0; kind = Kind.Copied (sys_frame 0) (dev_frame 0 0) (Some 1) } ∷
    record { actor = 0; kind = Kind.Copied (sys_frame 0) (dev_frame 0 0) (Some 2) } ∷
    record { actor = 0; kind = Kind.Copied (sys_frame 0) (dev_frame 0 0) (Some 3) } ∷
    record { actor = 0; kind = Kind.Copied (sys_frame 0) (dev_frame 0 0) (Some 4) } ∷
    record { actor = 0; kind = Kind.Copied (sys_frame 0) (dev_frame 0 0) (Some 5) } ∷
    record { actor = 0; kind = Kind.Copied (sys_frame 0) (dev_frame 0 0) (Some 6) } ∷
    record { actor = 0; kind = Kind.Copied (sys_frame 0) (dev_frame 0 0) (Some 7) } ∷
    record { actor = 0; kind = Kind.Committed (sys_frame 0) (dev_frame 0 0) } ∷
    record { actor = 0; kind = Kind.Set 0 16 (Some (dev_frame 0 0)) TableRight.Write 23 } ∷
    record { actor = 0; kind = Kind.Place 0 16 (Place.Own 0 0 true) } ∷
    record { actor = 0; kind = Kind.Drop (sys_frame 0) } ∷
    record { actor = 0; kind = Kind.Done (dev_frame 0 0) } ∷
    record { actor = 0; kind = Kind.Migrated 1 } ∷
    record { actor = 0; kind = Kind.Wlock 0 } ∷
    record { actor = 0; kind = Kind.Mapped 0 (record { first = 32; count = 1 }) Rights.ReadWrite } ∷
    record { actor = 0; kind = Kind.Rlock 0 } ∷
    record { actor = 0; kind = Kind.Take (sys_frame 0) } ∷
    record { actor = 0; kind = Kind.Place 0 32 (Place.Sys 0 true) } ∷
    record { actor = 0; kind = Kind.Runlock 0 } ∷
    record { actor = 0; kind = Kind.Stored (Who.Cpu 0) 0x20000 (66 ∷ []) } ∷
    record { actor = 0; kind = Kind.Rlock 0 } ∷
    record { actor = 0; kind = Kind.Start 0 (record { first = 16; count = 1 }) 5 } ∷
    record { actor = 0; kind = Kind.Told 0 (record { first = 16; count = 1 }) 5 } ∷
    record { actor = 0; kind = Kind.Place 0 16 (Place.Moving (dev_frame 0 0) true) } ∷
    record { actor = 0; kind = Kind.End 0 (record { first = 16; count = 1 }) 6 } ∷
    record { actor = 0; kind = Kind.Kept (KeptAt.Page 16) KeptWhy.NoFrame } ∷
    record { actor = 0; kind = Kind.Place 0 16 (Place.Own 0 0 true) } ∷
    record { actor = 0; kind = Kind.Done (dev_frame 0 0) } ∷
    record { actor = 0; kind = Kind.Failed (Who.Cpu 0) 0x10000 1 Cause.NoFrame } ∷
    record { actor = 0; kind = Kind.Begin 0 5 } ∷
    record { actor = 0; kind = Kind.Rlock 0 } ∷
    record { actor = 0; kind = Kind.Runlock 0 } ∷
    record { actor = 0; kind = Kind.Set 0 16 (Some (dev_frame 0 0)) TableRight.Write 44 } ∷
    record { actor = 0; kind = Kind.Loaded (Who.Mirror 0) 0x10000 (65 ∷ []) } ∷
    record { actor = 0; kind = Kind.Wlock 0 } ∷
    record { actor = 0; kind = Kind.Named 0 1 } ∷
    record { actor = 0; kind = Kind.Start 0 (record { first = 0; count = 68719476736 }) 7 } ∷
    record { actor = 0; kind = Kind.Told 0 (record { first = 0; count = 68719476736 }) 7 } ∷
    record { actor = 0; kind = Kind.Place 0 16 (Place.Own 0 0 false) } ∷
    record { actor = 0; kind = Kind.Place 1 16 (Place.Own 0 0 false) } ∷
    record { actor = 0; kind = Kind.Place 0 32 (Place.Sys 0 false) } ∷
    record { actor = 0; kind = Kind.Place 1 32 (Place.Sys 0 false) } ∷
    record { actor = 0; kind = Kind.End 0 (record { first = 0; count = 68719476736 }) 8 } ∷
    record { actor = 0; kind = Kind.Forked 0 1 } ∷
    record { actor = 0; kind = Kind.Begin 0 7 } ∷
    record { actor = 0; kind = Kind.Rlock 0 } ∷
    record { actor = 0; kind = Kind.Start 0 (record { first = 16; count = 1 }) 9 } ∷
    record { actor = 0; kind = Kind.Told 0 (record { first = 16; count = 1 }) 9 } ∷
    record { actor = 0; kind = Kind.Place 0 16 (Place.Moving (dev_frame 0 0) false) } ∷
    record { actor = 0; kind = Kind.End 0 (record { first = 16; count = 1 }) 10 } ∷
    record { actor = 0; kind = Kind.Start 1 (record { first = 16; count = 1 }) 2 } ∷
    record { actor = 0; kind = Kind.Place 1 16 (Place.Moving (dev_frame 0 0) false) } ∷
    record { actor = 0; kind = Kind.End 1 (record { first = 16; count = 1 }) 2 } ∷
    record { actor = 0; kind = Kind.Kept (KeptAt.Page 16) KeptWhy.NoFrame } ∷
    record { actor = 0; kind = Kind.Place 0 16 (Place.Own 0 0 false) } ∷
    record { actor = 0; kind = Kind.Place 1 16 (Place.Own 0 0 false) } ∷
    record { actor = 0; kind = Kind.Done (dev_frame 0 0) } ∷
    record { actor = 0; kind = Kind.Failed (Who.Mirror 0) 0x10000 1 Cause.NoFrame } ∷
    record { actor = 0; kind = Kind.Rlock 0 } ∷
    record { actor = 0; kind = Kind.Start 0 (record { first = 16; count = 1 }) 11 } ∷
    record { actor = 0; kind = Kind.Told 0 (record { first = 16; count = 1 }) 11 } ∷
    record { actor = 0; kind = Kind.Place 0 16 (Place.Moving (dev_frame 0 0) false) } ∷
    record { actor = 0; kind = Kind.End 0 (record { first = 16; count = 1 }) 12 } ∷
    record { actor = 0; kind = Kind.Start 1 (record { first = 16; count = 1 }) 2 } ∷
    record { actor = 0; kind = Kind.Place 1 16 (Place.Moving (dev_frame 0 0) false) } ∷
    record { actor = 0; kind = Kind.End 1 (record { first = 16; count = 1 }) 2 } ∷
    record { actor = 0; kind = Kind.Kept (KeptAt.Page 16) KeptWhy.NoFrame } ∷
    record { actor = 0; kind = Kind.Place 0 16 (Place.Own 0 0 false) } ∷
    record { actor = 0; kind = Kind.Place 1 16 (Place.Own 0 0 false) } ∷
    record { actor = 0; kind = Kind.Done (dev_frame 0 0) } ∷
    record { actor = 0; kind = Kind.Refused Cause.NoFrame } ∷
    record { actor = 0; kind = Kind.Rlock 0 } ∷
    record { actor = 0; kind = Kind.Start 0 (record { first = 16; count = 1 }) 13 } ∷
    record { actor = 0; kind = Kind.Told 0 (record { first = 16; count = 1 }) 13 } ∷
    record { actor = 0; kind = Kind.Place 0 16 (Place.Moving (dev_frame 0 0) false) } ∷
    record { actor = 0; kind = Kind.End 0 (record { first = 16; count = 1 }) 14 } ∷
    record { actor = 0; kind = Kind.Start 1 (record { first = 16; count = 1 }) 2 } ∷
    record { actor = 0; kind = Kind.Place 1 16 (Place.Moving (dev_frame 0 0) false) } ∷
    record { actor = 0; kind = Kind.End 1 (record { first = 16; count = 1 }) 2 } ∷
    record { actor = 0; kind = Kind.Kept (KeptAt.Page 16) KeptWhy.NoFrame } ∷
    record { actor = 0; kind = Kind.Place 0 16 (Place.Own 0 0 false) } ∷
    record { actor = 0; kind = Kind.Place 1 16 (Place.Own 0 0 false) } ∷
    record { actor = 0; kind = Kind.Done (dev_frame 0 0) } ∷
    record { actor = 0; kind = Kind.Failed (Who.Mirror 0) 0x10000 1 Cause.NoFrame } ∷
    record { actor = 0; kind = Kind.Start 0 (record { first = 16; count = 1 }) 15 } ∷
    record { actor = 0; kind = Kind.Told 0 (record { first = 16; count = 1 }) 15 } ∷
    record { actor = 0; kind = Kind.Place 0 16 (Place.Moving (dev_frame 0 0) false) } ∷
    record { actor = 0; kind = Kind.End 0 (record { first = 16; count = 1 }) 16 } ∷
    record { actor = 0; kind = Kind.Start 1 (record { first = 16; count = 1 }) 2 } ∷
    record { actor = 0; kind = Kind.Place 1 16 (Place.Moving (dev_frame 0 0) false) } ∷
    record { actor = 0; kind = Kind.End 1 (record { first = 16; count = 1 }) 2 } ∷
    record { actor = 0; kind = Kind.Kept (KeptAt.Frame (dev_frame 0 0)) KeptWhy.NoFrame } ∷
    record { actor = 0; kind = Kind.Place 0 16 (Place.Own 0 0 false) } ∷
    record { actor = 0; kind = Kind.Place 1 16 (Place.Own 0 0 false) } ∷
    record { actor = 0; kind = Kind.Done (dev_frame 0 0) } ∷
    record { actor = 0; kind = Kind.Evicted 0 } ∷
    record { actor = 0; kind = Kind.Withdrawn 0 } ∷
    record { actor = 0; kind = Kind.Start 0 (record { first = 16; count = 1 }) 17 } ∷
    record { actor = 0; kind = Kind.Told 0 (record { first = 16; count = 1 }) 17 } ∷
    record { actor = 0; kind = Kind.Place 0 16 (Place.Moving (dev_frame 0 0) false) } ∷
    record { actor = 0; kind = Kind.End 0 (record { first = 16; count = 1 }) 18 } ∷
    record { actor = 0; kind = Kind.Start 1 (record { first = 16; count = 1 }) 2 } ∷
    record { actor = 0; kind = Kind.Place 1 16 (Place.Moving (dev_frame 0 0) false) } ∷
    record { actor = 0; kind = Kind.End 1 (record { first = 16; count = 1 }) 2 } ∷
    record { actor = 0; kind = Kind.Kept (KeptAt.Frame (dev_frame 0 0)) KeptWhy.NoFrame } ∷
    record { actor = 0; kind = Kind.Place 0 16 (Place.Own 0 0 false) } ∷
    record { actor = 0; kind = Kind.Place 1 16 (Place.Own 0 0 false) } ∷
    record { actor = 0; kind = Kind.Done (dev_frame 0 0) } ∷
    record { actor = 0; kind = Kind.Refused Cause.NoFrame } ∷
    record { actor = 0; kind = Kind.Refused Cause.Outside } ∷
    record { actor = 0; kind = Kind.Rlock 0 } ∷
    record { actor = 0; kind = Kind.Start 0 (record { first = 16; count = 1 }) 19 } ∷
    record { actor = 0; kind = Kind.Told 0 (record { first = 16; count = 1 }) 19 } ∷
    record { actor = 0; kind = Kind.Place 0 16 (Place.Moving (dev_frame 0 0) false) } ∷
    record { actor = 0; kind = Kind.End 0 (record { first = 16; count = 1 }) 20 } ∷
    record { actor = 0; kind = Kind.Start 1 (record { first = 16; count = 1 }) 2 } ∷
    record { actor = 0; kind = Kind.Place 1 16 (Place.Moving (dev_frame 0 0) false) } ∷
    record { actor = 0; kind = Kind.End 1 (record { first = 16; count = 1 }) 2 } ∷
    record { actor = 0; kind = Kind.Kept (KeptAt.Page 16) KeptWhy.NoFrame } ∷
    record { actor = 0; kind = Kind.Place 0 16 (Place.Own 0 0 false) } ∷
    record { actor = 0; kind = Kind.Place 1 16 (Place.Own 0 0 false) } ∷
    record { actor = 0; kind = Kind.Done (dev_frame 0 0) } ∷
    record { actor = 0; kind = Kind.Migrated 0 } ∷ []

runs : run script ≡ history
runs = refl

legal : Legal script history
legal = (
  record { is_due = refl; rules = record { answers = refl; places = refl; frames = refl; sequences = refl; untold = refl; guarded = refl }; kept = refl },
  (
    record { is_due = refl; rules = record { answers = refl; places = refl; frames = refl; sequences = refl; untold = refl; guarded = refl }; kept = refl },
    (
      record { is_due = refl; rules = record { answers = refl; places = refl; frames = refl; sequences = refl; untold = refl; guarded = refl }; kept = refl },
      (
        record { is_due = refl; rules = record { answers = refl; places = refl; frames = refl; sequences = refl; untold = refl; guarded = refl }; kept = refl },
        (
          record { is_due = refl; rules = record { answers = refl; places = refl; frames = refl; sequences = refl; untold = refl; guarded = refl }; kept = refl },
          (
            record { is_due = refl; rules = record { answers = refl; places = refl; frames = refl; sequences = refl; untold = refl; guarded = refl }; kept = refl },
            (
              record { is_due = refl; rules = record { answers = refl; places = refl; frames = refl; sequences = refl; untold = refl; guarded = refl }; kept = refl },
              (
                record { is_due = refl; rules = record { answers = refl; places = refl; frames = refl; sequences = refl; untold = refl; guarded = refl }; kept = refl },
                (
                  record { is_due = refl; rules = record { answers = refl; places = refl; frames = refl; sequences = refl; untold = refl; guarded = refl }; kept = refl },
                  (
                    record { is_due = refl; rules = record { answers = refl; places = refl; frames = refl; sequences = refl; untold = refl; guarded = refl }; kept = refl },
                    (
                      record { is_due = refl; rules = record { answers = refl; places = refl; frames = refl; sequences = refl; untold = refl; guarded = refl }; kept = refl },
                      (
                        record { is_due = refl; rules = record { answers = refl; places = refl; frames = refl; sequences = refl; untold = refl; guarded = refl }; kept = refl },
                        (
                          record { is_due = refl; rules = record { answers = refl; places = refl; frames = refl; sequences = refl; untold = refl; guarded = refl }; kept = refl },
                          (
                            record { is_due = refl; rules = record { answers = refl; places = refl; frames = refl; sequences = refl; untold = refl; guarded = refl }; kept = refl },
                            (
                              record { is_due = refl; rules = record { answers = refl; places = refl; frames = refl; sequences = refl; untold = refl; guarded = refl }; kept = refl },
                              (
                                record { is_due = refl; rules = record { answers = refl; places = refl; frames = refl; sequences = refl; untold = refl; guarded = refl }; kept = refl },
                                (
                                  record { is_due = refl; rules = record { answers = refl; places = refl; frames = refl; sequences = refl; untold = refl; guarded = refl }; kept = refl },
                                  (
                                    record { is_due = refl; rules = record { answers = refl; places = refl; frames = refl; sequences = refl; untold = refl; guarded = refl }; kept = refl },
                                    (
                                      record { is_due = refl; rules = record { answers = refl; places = refl; frames = refl; sequences = refl; untold = refl; guarded = refl }; kept = refl },
                                      (
                                        record { is_due = refl; rules = record { answers = refl; places = refl; frames = refl; sequences = refl; untold = refl; guarded = refl }; kept = refl },
                                        (
                                          record { is_due = refl; rules = record { answers = refl; places = refl; frames = refl; sequences = refl; untold = refl; guarded = refl }; kept = refl },
                                          (
                                            record { is_due = refl; rules = record { answers = refl; places = refl; frames = refl; sequences = refl; untold = refl; guarded = refl }; kept = refl },
                                            (
                                              record { is_due = refl; rules = record { answers = refl; places = refl; frames = refl; sequences = refl; untold = refl; guarded = refl }; kept = refl },
                                              (
                                                record { is_due = refl; rules = record { answers = refl; places = refl; frames = refl; sequences = refl; untold = refl; guarded = refl }; kept = refl },
                                                (
                                                  record { is_due = refl; rules = record { answers = refl; places = refl; frames = refl; sequences = refl; untold = refl; guarded = refl }; kept = refl },
                                                  (
                                                    record { is_due = refl; rules = record { answers = refl; places = refl; frames = refl; sequences = refl; untold = refl; guarded = refl }; kept = refl },
                                                    (
                                                      record { is_due = refl; rules = record { answers = refl; places = refl; frames = refl; sequences = refl; untold = refl; guarded = refl }; kept = refl },
                                                      (
                                                        record { is_due = refl; rules = record { answers = refl; places = refl; frames = refl; sequences = refl; untold = refl; guarded = refl }; kept = refl },
                                                        (
                                                          record { is_due = refl; rules = record { answers = refl; places = refl; frames = refl; sequences = refl; untold = refl; guarded = refl }; kept = refl },
                                                          (
                                                            record { is_due = refl; rules = record { answers = refl; places = refl; frames = refl; sequences = refl; untold = refl; guarded = refl }; kept = refl },
                                                            (
                                                              record { is_due = refl; rules = record { answers = refl; places = refl; frames = refl; sequences = refl; untold = refl; guarded = refl }; kept = refl },
                                                              (
                                                                record { is_due = refl; rules = record { answers = refl; places = refl; frames = refl; sequences = refl; untold = refl; guarded = refl }; kept = refl },
                                                                (
                                                                  record { is_due = refl; rules = record { answers = refl; places = refl; frames = refl; sequences = refl; untold = refl; guarded = refl }; kept = refl },
                                                                  (
                                                                    record { is_due = refl; rules = record { answers = refl; places = refl; frames = refl; sequences = refl; untold = refl; guarded = refl }; kept = refl },
                                                                    (
                                                                      record { is_due = refl; rules = record { answers = refl; places = refl; frames = refl; sequences = refl; untold = refl; guarded = refl }; kept = refl },
                                                                      (
                                                                        record { is_due = refl; rules = record { answers = refl; places = refl; frames = refl; sequences = refl; untold = refl; guarded = refl }; kept = refl },
                                                                        (
                                                                          record { is_due = refl; rules = record { answers = refl; places = refl; frames = refl; sequences = refl; untold = refl; guarded = refl }; kept = refl },
                                                                          (
                                                                            record { is_due = refl; rules = record { answers = refl; places = refl; frames = refl; sequences = refl; untold = refl; guarded = refl }; kept = refl },
                                                                            (
                                                                              record { is_due = refl; rules = record { answers = refl; places = refl; frames = refl; sequences = refl; untold = refl; guarded = refl }; kept = refl },
                                                                              (
                                                                                record { is_due = refl; rules = record { answers = refl; places = refl; frames = refl; sequences = refl; untold = refl; guarded = refl }; kept = refl },
                                                                                (
                                                                                  record { is_due = refl; rules = record { answers = refl; places = refl; frames = refl; sequences = refl; untold = refl; guarded = refl }; kept = refl },
                                                                                  (
                                                                                    record { is_due = refl; rules = record { answers = refl; places = refl; frames = refl; sequences = refl; untold = refl; guarded = refl }; kept = refl },
                                                                                    (
                                                                                      record { is_due = refl; rules = record { answers = refl; places = refl; frames = refl; sequences = refl; untold = refl; guarded = refl }; kept = refl },
                                                                                      (
                                                                                        record { is_due = refl; rules = record { answers = refl; places = refl; frames = refl; sequences = refl; untold = refl; guarded = refl }; kept = refl },
                                                                                        (
                                                                                          record { is_due = refl; rules = record { answers = refl; places = refl; frames = refl; sequences = refl; untold = refl; guarded = refl }; kept = refl },
                                                                                          (
                                                                                            record { is_due = refl; rules = record { answers = refl; places = refl; frames = refl; sequences = refl; untold = refl; guarded = refl }; kept = refl },
                                                                                            (
                                                                                              record { is_due = refl; rules = record { answers = refl; places = refl; frames = refl; sequences = refl; untold = refl; guarded = refl }; kept = refl },
                                                                                              (
                                                                                                record { is_due = refl; rules = record { answers = refl; places = refl; frames = refl; sequences = refl; untold = refl; guarded = refl }; kept = refl },
                                                                                                (
                                                                                                  record { is_due = refl; rules = record { answers = refl; places = refl; frames = refl; sequences = refl; untold = refl; guarded = refl }; kept = refl },
                                                                                                  (
                                                                                                    record { is_due = refl; rules = record { answers = refl; places = refl; frames = refl; sequences = refl; untold = refl; guarded = refl }; kept = refl },
                                                                                                    (
                                                                                                      record { is_due = refl; rules = record { answers = refl; places = refl; frames = refl; sequences = refl; untold = refl; guarded = refl }; kept = refl },
                                                                                                      (
                                                                                                        record { is_due = refl; rules = record { answers = refl; places = refl; frames = refl; sequences = refl; untold = refl; guarded = refl }; kept = refl },
                                                                                                        (
                                                                                                          record { is_due = refl; rules = record { answers = refl; places = refl; frames = refl; sequences = refl; untold = refl; guarded = refl }; kept = refl },
                                                                                                          (
                                                                                                            record { is_due = refl; rules = record { answers = refl; places = refl; frames = refl; sequences = refl; untold = refl; guarded = refl }; kept = refl },
                                                                                                            (
                                                                                                              record { is_due = refl; rules = record { answers = refl; places = refl; frames = refl; sequences = refl; untold = refl; guarded = refl }; kept = refl },
                                                                                                              (
                                                                                                                record { is_due = refl; rules = record { answers = refl; places = refl; frames = refl; sequences = refl; untold = refl; guarded = refl }; kept = refl },
                                                                                                                (
                                                                                                                  record { is_due = refl; rules = record { answers = refl; places = refl; frames = refl; sequences = refl; untold = refl; guarded = refl }; kept = refl },
                                                                                                                  (
                                                                                                                    record { is_due = refl; rules = record { answers = refl; places = refl; frames = refl; sequences = refl; untold = refl; guarded = refl }; kept = refl },
                                                                                                                    (
                                                                                                                      record { is_due = refl; rules = record { answers = refl; places = refl; frames = refl; sequences = refl; untold = refl; guarded = refl }; kept = refl },
                                                                                                                      (
                                                                                                                        record { is_due = refl; rules = record { answers = refl; places = refl; frames = refl; sequences = refl; untold = refl; guarded = refl }; kept = refl },
                                                                                                                        (
                                                                                                                          record { is_due = refl; rules = record { answers = refl; places = refl; frames = refl; sequences = refl; untold = refl; guarded = refl }; kept = refl },
                                                                                                                          (
                                                                                                                            record { is_due = refl; rules = record { answers = refl; places = refl; frames = refl; sequences = refl; untold = refl; guarded = refl }; kept = refl },
                                                                                                                            (
                                                                                                                              record { is_due = refl; rules = record { answers = refl; places = refl; frames = refl; sequences = refl; untold = refl; guarded = refl }; kept = refl },
                                                                                                                              (
                                                                                                                                record { is_due = refl; rules = record { answers = refl; places = refl; frames = refl; sequences = refl; untold = refl; guarded = refl }; kept = refl },
                                                                                                                                (
                                                                                                                                  record { is_due = refl; rules = record { answers = refl; places = refl; frames = refl; sequences = refl; untold = refl; guarded = refl }; kept = refl },
                                                                                                                                  (
                                                                                                                                    record { is_due = refl; rules = record { answers = refl; places = refl; frames = refl; sequences = refl; untold = refl; guarded = refl }; kept = refl },
                                                                                                                                    (
                                                                                                                                      record { is_due = refl; rules = record { answers = refl; places = refl; frames = refl; sequences = refl; untold = refl; guarded = refl }; kept = refl },
                                                                                                                                      (
                                                                                                                                        record { is_due = refl; rules = record { answers = refl; places = refl; frames = refl; sequences = refl; untold = refl; guarded = refl }; kept = refl },
                                                                                                                                        (
                                                                                                                                          record { is_due = refl; rules = record { answers = refl; places = refl; frames = refl; sequences = refl; untold = refl; guarded = refl }; kept = refl },
                                                                                                                                          (
                                                                                                                                            record { is_due = refl; rules = record { answers = refl; places = refl; frames = refl; sequences = refl; untold = refl; guarded = refl }; kept = refl },
                                                                                                                                            (
                                                                                                                                              record { is_due = refl; rules = record { answers = refl; places = refl; frames = refl; sequences = refl; untold = refl; guarded = refl }; kept = refl },
                                                                                                                                              (
                                                                                                                                                record { is_due = refl; rules = record { answers = refl; places = refl; frames = refl; sequences = refl; untold = refl; guarded = refl }; kept = refl },
                                                                                                                                                (
                                                                                                                                                  record { is_due = refl; rules = record { answers = refl; places = refl; frames = refl; sequences = refl; untold = refl; guarded = refl }; kept = refl },
                                                                                                                                                  (
                                                                                                                                                    record { is_due = refl; rules = record { answers = refl; places = refl; frames = refl; sequences = refl; untold = refl; guarded = refl }; kept = refl },
                                                                                                                                                    (
                                                                                                                                                      record { is_due = refl; rules = record { answers = refl; places = refl; frames = refl; sequences = refl; untold = refl; guarded = refl }; kept = refl },
                                                                                                                                                      (
                                                                                                                                                        record { is_due = refl; rules = record { answers = refl; places = refl; frames = refl; sequences = refl; untold = refl; guarded = refl }; kept = refl },
                                                                                                                                                        (
                                                                                                                                                          record { is_due = refl; rules = record { answers = refl; places = refl; frames = refl; sequences = refl; untold = refl; guarded = refl }; kept = refl },
                                                                                                                                                          (
                                                                                                                                                            record { is_due = refl; rules = record { answers = refl; places = refl; frames = refl; sequences = refl; untold = refl; guarded = refl }; kept = refl },
                                                                                                                                                            (
                                                                                                                                                              record { is_due = refl; rules = record { answers = refl; places = refl; frames = refl; sequences = refl; untold = refl; guarded = refl }; kept = refl },
                                                                                                                                                              (
                                                                                                                                                                record { is_due = refl; rules = record { answers = refl; places = refl; frames = refl; sequences = refl; untold = refl; guarded = refl }; kept = refl },
                                                                                                                                                                (
                                                                                                                                                                  record { is_due = refl; rules = record { answers = refl; places = refl; frames = refl; sequences = refl; untold = refl; guarded = refl }; kept = refl },
                                                                                                                                                                  (
                                                                                                                                                                    record { is_due = refl; rules = record { answers = refl; places = refl; frames = refl; sequences = refl; untold = refl; guarded = refl }; kept = refl },
                                                                                                                                                                    (
                                                                                                                                                                      record { is_due = refl; rules = record { answers = refl; places = refl; frames = refl; sequences = refl; untold = refl; guarded = refl }; kept = refl },
                                                                                                                                                                      (
                                                                                                                                                                        record { is_due = refl; rules = record { answers = refl; places = refl; frames = refl; sequences = refl; untold = refl; guarded = refl }; kept = refl },
                                                                                                                                                                        (
                                                                                                                                                                          record { is_due = refl; rules = record { answers = refl; places = refl; frames = refl; sequences = refl; untold = refl; guarded = refl }; kept = refl },
                                                                                                                                                                          (
                                                                                                                                                                            record { is_due = refl; rules = record { answers = refl; places = refl; frames = refl; sequences = refl; untold = refl; guarded = refl }; kept = refl },
                                                                                                                                                                            (
                                                                                                                                                                              record { is_due = refl; rules = record { answers = refl; places = refl; frames = refl; sequences = refl; untold = refl; guarded = refl }; kept = refl },
                                                                                                                                                                              (
                                                                                                                                                                                record { is_due = refl; rules = record { answers = refl; places = refl; frames = refl; sequences = refl; untold = refl; guarded = refl }; kept = refl },
                                                                                                                                                                                (
                                                                                                                                                                                  record { is_due = refl; rules = record { answers = refl; places = refl; frames = refl; sequences = refl; untold = refl; guarded = refl }; kept = refl },
                                                                                                                                                                                  (
                                                                                                                                                                                    record { is_due = refl; rules = record { answers = refl; places = refl; frames = refl; sequences = refl; untold = refl; guarded = refl }; kept = refl },
                                                                                                                                                                                    (
                                                                                                                                                                                      record { is_due = refl; rules = record { answers = refl; places = refl; frames = refl; sequences = refl; untold = refl; guarded = refl }; kept = refl },
                                                                                                                                                                                      (
                                                                                                                                                                                        record { is_due = refl; rules = record { answers = refl; places = refl; frames = refl; sequences = refl; untold = refl; guarded = refl }; kept = refl },
                                                                                                                                                                                        (
                                                                                                                                                                                          record { is_due = refl; rules = record { answers = refl; places = refl; frames = refl; sequences = refl; untold = refl; guarded = refl }; kept = refl },
                                                                                                                                                                                          (
                                                                                                                                                                                            record { is_due = refl; rules = record { answers = refl; places = refl; frames = refl; sequences = refl; untold = refl; guarded = refl }; kept = refl },
                                                                                                                                                                                            (
                                                                                                                                                                                              record { is_due = refl; rules = record { answers = refl; places = refl; frames = refl; sequences = refl; untold = refl; guarded = refl }; kept = refl },
                                                                                                                                                                                              (
                                                                                                                                                                                                record { is_due = refl; rules = record { answers = refl; places = refl; frames = refl; sequences = refl; untold = refl; guarded = refl }; kept = refl },
                                                                                                                                                                                                (
                                                                                                                                                                                                  record { is_due = refl; rules = record { answers = refl; places = refl; frames = refl; sequences = refl; untold = refl; guarded = refl }; kept = refl },
                                                                                                                                                                                                  (
                                                                                                                                                                                                    record { is_due = refl; rules = record { answers = refl; places = refl; frames = refl; sequences = refl; untold = refl; guarded = refl }; kept = refl },
                                                                                                                                                                                                    (
                                                                                                                                                                                                      record { is_due = refl; rules = record { answers = refl; places = refl; frames = refl; sequences = refl; untold = refl; guarded = refl }; kept = refl },
                                                                                                                                                                                                      (
                                                                                                                                                                                                        record { is_due = refl; rules = record { answers = refl; places = refl; frames = refl; sequences = refl; untold = refl; guarded = refl }; kept = refl },
                                                                                                                                                                                                        (
                                                                                                                                                                                                          record { is_due = refl; rules = record { answers = refl; places = refl; frames = refl; sequences = refl; untold = refl; guarded = refl }; kept = refl },
                                                                                                                                                                                                          (
                                                                                                                                                                                                            record { is_due = refl; rules = record { answers = refl; places = refl; frames = refl; sequences = refl; untold = refl; guarded = refl }; kept = refl },
                                                                                                                                                                                                            (
                                                                                                                                                                                                              record { is_due = refl; rules = record { answers = refl; places = refl; frames = refl; sequences = refl; untold = refl; guarded = refl }; kept = refl },
                                                                                                                                                                                                              (
                                                                                                                                                                                                                record { is_due = refl; rules = record { answers = refl; places = refl; frames = refl; sequences = refl; untold = refl; guarded = refl }; kept = refl },
                                                                                                                                                                                                                (
                                                                                                                                                                                                                  record { is_due = refl; rules = record { answers = refl; places = refl; frames = refl; sequences = refl; untold = refl; guarded = refl }; kept = refl },
                                                                                                                                                                                                                  (
                                                                                                                                                                                                                    record { is_due = refl; rules = record { answers = refl; places = refl; frames = refl; sequences = refl; untold = refl; guarded = refl }; kept = refl },
                                                                                                                                                                                                                    (
                                                                                                                                                                                                                      record { is_due = refl; rules = record { answers = refl; places = refl; frames = refl; sequences = refl; untold = refl; guarded = refl }; kept = refl },
                                                                                                                                                                                                                      (
                                                                                                                                                                                                                        record { is_due = refl; rules = record { answers = refl; places = refl; frames = refl; sequences = refl; untold = refl; guarded = refl }; kept = refl },
                                                                                                                                                                                                                        (
                                                                                                                                                                                                                          record { is_due = refl; rules = record { answers = refl; places = refl; frames = refl; sequences = refl; untold = refl; guarded = refl }; kept = refl },
                                                                                                                                                                                                                          (
                                                                                                                                                                                                                            record { is_due = refl; rules = record { answers = refl; places = refl; frames = refl; sequences = refl; untold = refl; guarded = refl }; kept = refl },
                                                                                                                                                                                                                            (
                                                                                                                                                                                                                              record { is_due = refl; rules = record { answers = refl; places = refl; frames = refl; sequences = refl; untold = refl; guarded = refl }; kept = refl },
                                                                                                                                                                                                                              (
                                                                                                                                                                                                                                record { is_due = refl; rules = record { answers = refl; places = refl; frames = refl; sequences = refl; untold = refl; guarded = refl }; kept = refl },
                                                                                                                                                                                                                                (
                                                                                                                                                                                                                                  record { is_due = refl; rules = record { answers = refl; places = refl; frames = refl; sequences = refl; untold = refl; guarded = refl }; kept = refl },
                                                                                                                                                                                                                                  (
                                                                                                                                                                                                                                    record { is_due = refl; rules = record { answers = refl; places = refl; frames = refl; sequences = refl; untold = refl; guarded = refl }; kept = refl },
                                                                                                                                                                                                                                    (
                                                                                                                                                                                                                                      record { is_due = refl; rules = record { answers = refl; places = refl; frames = refl; sequences = refl; untold = refl; guarded = refl }; kept = refl },
                                                                                                                                                                                                                                      (
                                                                                                                                                                                                                                        record { is_due = refl; rules = record { answers = refl; places = refl; frames = refl; sequences = refl; untold = refl; guarded = refl }; kept = refl },
                                                                                                                                                                                                                                        (
                                                                                                                                                                                                                                          record { is_due = refl; rules = record { answers = refl; places = refl; frames = refl; sequences = refl; untold = refl; guarded = refl }; kept = refl },
                                                                                                                                                                                                                                          (
                                                                                                                                                                                                                                            record { is_due = refl; rules = record { answers = refl; places = refl; frames = refl; sequences = refl; untold = refl; guarded = refl }; kept = refl },
                                                                                                                                                                                                                                            (
                                                                                                                                                                                                                                              record { is_due = refl; rules = record { answers = refl; places = refl; frames = refl; sequences = refl; untold = refl; guarded = refl }; kept = refl },
                                                                                                                                                                                                                                              (
                                                                                                                                                                                                                                                record { is_due = refl; rules = record { answers = refl; places = refl; frames = refl; sequences = refl; untold = refl; guarded = refl }; kept = refl },
                                                                                                                                                                                                                                                (
                                                                                                                                                                                                                                                  record { is_due = refl; rules = record { answers = refl; places = refl; frames = refl; sequences = refl; untold = refl; guarded = refl }; kept = refl },
                                                                                                                                                                                                                                                  (
                                                                                                                                                                                                                                                    record { is_due = refl; rules = record { answers = refl; places = refl; frames = refl; sequences = refl; untold = refl; guarded = refl }; kept = refl },
                                                                                                                                                                                                                                                    (
                                                                                                                                                                                                                                                      record { is_due = refl; rules = record { answers = refl; places = refl; frames = refl; sequences = refl; untold = refl; guarded = refl }; kept = refl },
                                                                                                                                                                                                                                                      (
                                                                                                                                                                                                                                                        record { is_due = refl; rules = record { answers = refl; places = refl; frames = refl; sequences = refl; untold = refl; guarded = refl }; kept = refl },
                                                                                                                                                                                                                                                        (
                                                                                                                                                                                                                                                          record { is_due = refl; rules = record { answers = refl; places = refl; frames = refl; sequences = refl; untold = refl; guarded = refl }; kept = refl },
                                                                                                                                                                                                                                                          (
                                                                                                                                                                                                                                                            record { is_due = refl; rules = record { answers = refl; places = refl; frames = refl; sequences = refl; untold = refl; guarded = refl }; kept = refl },
                                                                                                                                                                                                                                                            (
                                                                                                                                                                                                                                                              record { is_due = refl; rules = record { answers = refl; places = refl; frames = refl; sequences = refl; untold = refl; guarded = refl }; kept = refl },
                                                                                                                                                                                                                                                              (
                                                                                                                                                                                                                                                                record { is_due = refl; rules = record { answers = refl; places = refl; frames = refl; sequences = refl; untold = refl; guarded = refl }; kept = refl },
                                                                                                                                                                                                                                                                (
                                                                                                                                                                                                                                                                  record { is_due = refl; rules = record { answers = refl; places = refl; frames = refl; sequences = refl; untold = refl; guarded = refl }; kept = refl },
                                                                                                                                                                                                                                                                  (
                                                                                                                                                                                                                                                                    record { is_due = refl; rules = record { answers = refl; places = refl; frames = refl; sequences = refl; untold = refl; guarded = refl }; kept = refl },
                                                                                                                                                                                                                                                                    (
                                                                                                                                                                                                                                                                      record { is_due = refl; rules = record { answers = refl; places = refl; frames = refl; sequences = refl; untold = refl; guarded = refl }; kept = refl },
                                                                                                                                                                                                                                                                      (
                                                                                                                                                                                                                                                                        record { is_due = refl; rules = record { answers = refl; places = refl; frames = refl; sequences = refl; untold = refl; guarded = refl }; kept = refl },
                                                                                                                                                                                                                                                                        (
                                                                                                                                                                                                                                                                          record { is_due = refl; rules = record { answers = refl; places = refl; frames = refl; sequences = refl; untold = refl; guarded = refl }; kept = refl },
                                                                                                                                                                                                                                                                          (
                                                                                                                                                                                                                                                                            record { is_due = refl; rules = record { answers = refl; places = refl; frames = refl; sequences = refl; untold = refl; guarded = refl }; kept = refl },
                                                                                                                                                                                                                                                                            (
                                                                                                                                                                                                                                                                              record { is_due = refl; rules = record { answers = refl; places = refl; frames = refl; sequences = refl; untold = refl; guarded = refl }; kept = refl },
                                                                                                                                                                                                                                                                              (
                                                                                                                                                                                                                                                                                record { is_due = refl; rules = record { answers = refl; places = refl; frames = refl; sequences = refl; untold = refl; guarded = refl }; kept = refl },
                                                                                                                                                                                                                                                                                (
                                                                                                                                                                                                                                                                                  record { is_due = refl; rules = record { answers = refl; places = refl; frames = refl; sequences = refl; untold = refl; guarded = refl }; kept = refl },
                                                                                                                                                                                                                                                                                  (
                                                                                                                                                                                                                                                                                    record { is_due = refl; rules = record { answers = refl; places = refl; frames = refl; sequences = refl; untold = refl; guarded = refl }; kept = refl },
                                                                                                                                                                                                                                                                                    tt,
                                                                                                                                                                                                                                                                                  ),
                                                                                                                                                                                                                                                                                ),
                                                                                                                                                                                                                                                                              ),
                                                                                                                                                                                                                                                                            ),
                                                                                                                                                                                                                                                                          ),
                                                                                                                                                                                                                                                                        ),
                                                                                                                                                                                                                                                                      ),
                                                                                                                                                                                                                                                                    ),
                                                                                                                                                                                                                                                                  ),
                                                                                                                                                                                                                                                                ),
                                                                                                                                                                                                                                                              ),
                                                                                                                                                                                                                                                            ),
                                                                                                                                                                                                                                                          ),
                                                                                                                                                                                                                                                        ),
                                                                                                                                                                                                                                                      ),
                                                                                                                                                                                                                                                    ),
                                                                                                                                                                                                                                                  ),
                                                                                                                                                                                                                                                ),
                                                                                                                                                                                                                                              ),
                                                                                                                                                                                                                                            ),
                                                                                                                                                                                                                                          ),
                                                                                                                                                                                                                                        ),
                                                                                                                                                                                                                                      ),
                                                                                                                                                                                                                                    ),
                                                                                                                                                                                                                                  ),
                                                                                                                                                                                                                                ),
                                                                                                                                                                                                                              ),
                                                                                                                                                                                                                            ),
                                                                                                                                                                                                                          ),
                                                                                                                                                                                                                        ),
                                                                                                                                                                                                                      ),
                                                                                                                                                                                                                    ),
                                                                                                                                                                                                                  ),
                                                                                                                                                                                                                ),
                                                                                                                                                                                                              ),
                                                                                                                                                                                                            ),
                                                                                                                                                                                                          ),
                                                                                                                                                                                                        ),
                                                                                                                                                                                                      ),
                                                                                                                                                                                                    ),
                                                                                                                                                                                                  ),
                                                                                                                                                                                                ),
                                                                                                                                                                                              ),
                                                                                                                                                                                            ),
                                                                                                                                                                                          ),
                                                                                                                                                                                        ),
                                                                                                                                                                                      ),
                                                                                                                                                                                    ),
                                                                                                                                                                                  ),
                                                                                                                                                                                ),
                                                                                                                                                                              ),
                                                                                                                                                                            ),
                                                                                                                                                                          ),
                                                                                                                                                                        ),
                                                                                                                                                                      ),
                                                                                                                                                                    ),
                                                                                                                                                                  ),
                                                                                                                                                                ),
                                                                                                                                                              ),
                                                                                                                                                            ),
                                                                                                                                                          ),
                                                                                                                                                        ),
                                                                                                                                                      ),
                                                                                                                                                    ),
                                                                                                                                                  ),
                                                                                                                                                ),
                                                                                                                                              ),
                                                                                                                                            ),
                                                                                                                                          ),
                                                                                                                                        ),
                                                                                                                                      ),
                                                                                                                                    ),
                                                                                                                                  ),
                                                                                                                                ),
                                                                                                                              ),
                                                                                                                            ),
                                                                                                                          ),
                                                                                                                        ),
                                                                                                                      ),
                                                                                                                    ),
                                                                                                                  ),
                                                                                                                ),
                                                                                                              ),
                                                                                                            ),
                                                                                                          ),
                                                                                                        ),
                                                                                                      ),
                                                                                                    ),
                                                                                                  ),
                                                                                                ),
                                                                                              ),
                                                                                            ),
                                                                                          ),
                                                                                        ),
                                                                                      ),
                                                                                    ),
                                                                                  ),
                                                                                ),
                                                                              ),
                                                                            ),
                                                                          ),
                                                                        ),
                                                                      ),
                                                                    ),
                                                                  ),
                                                                ),
                                                              ),
                                                            ),
                                                          ),
                                                        ),
                                                      ),
                                                    ),
                                                  ),
                                                ),
                                              ),
                                            ),
                                          ),
                                        ),
                                      ),
                                    ),
                                  ),
                                ),
                              ),
                            ),
                          ),
                        ),
                      ),
                    ),
                  ),
                ),
              ),
            ),
          ),
        ),
      ),
    ),
  ),
)

-- failed p0 0x10000 1 3, by actor 0
tried_1 : fails_rightly script (take 43 history) (record { actor = 0; kind = Kind.Failed (Who.Cpu 0) 0x10000 1 Cause.NoFrame }) ≡ true
tried_1 = refl

-- failed p0 0x10000 1 3, by actor 0
tried_2 : fails_rightly script (take 43 history ++ (record { actor = 1; kind = Kind.Place 0 32 Place.Empty } ∷ record { actor = 1; kind = Kind.Drop (sys_frame 0) } ∷ [])) (record { actor = 0; kind = Kind.Failed (Who.Cpu 0) 0x10000 1 Cause.NoFrame }) ≡ true
tried_2 = refl

-- failed p0 0x10000 1 3, by actor 1
tried_3 : fails_rightly script (take 43 history ++ (record { actor = 1; kind = Kind.Place 0 32 Place.Empty } ∷ record { actor = 1; kind = Kind.Drop (sys_frame 0) } ∷ [])) (record { actor = 1; kind = Kind.Failed (Who.Cpu 0) 0x10000 1 Cause.NoFrame }) ≡ false
tried_3 = refl

-- failed p0 0x10000 1 3, by actor 0
tried_4 : fails_rightly script (take 43 history ++ (record { actor = 1; kind = Kind.Place 0 32 Place.Empty } ∷ record { actor = 1; kind = Kind.Drop (sys_frame 0) } ∷ record { actor = 0; kind = Kind.Rlock 0 } ∷ [])) (record { actor = 0; kind = Kind.Failed (Who.Cpu 0) 0x10000 1 Cause.NoFrame }) ≡ false
tried_4 = refl

-- failed p0 0x10000 1 3, by actor 0
tried_5 : fails_rightly script (take 40 history ++ (record { actor = 1; kind = Kind.Place 0 32 Place.Empty } ∷ record { actor = 1; kind = Kind.Drop (sys_frame 0) } ∷ record { actor = 0; kind = Kind.Kept (KeptAt.Page 16) KeptWhy.NoFrame } ∷ [])) (record { actor = 0; kind = Kind.Failed (Who.Cpu 0) 0x10000 1 Cause.NoFrame }) ≡ false
tried_5 = refl
