-- Rules as tests of an event, after what is known: whether it breaks the rule.
use Rattle.std.specs.Prelude.{ℕ, Bool, true, false, not, ◌&&◌, ◌==◌, Some, None, List, [], ◌∷◌}
use Rattle.std.specs.List.{list_any}
use Rattle.hm_history.specs.declared.TableRight.{TableRight}
use Rattle.hm_protocol.specs.declared.events.TraceFrame.{TraceFrame}
use Rattle.hm_protocol.specs.declared.events.Event.{Event}
use Rattle.hm_protocol.specs.declared.events.Traced.{Traced}
use Rattle.hm_protocol.specs.Words.{device_of, private_to, is_same, is_it, is_other, is_read, is_write, is_sole}
use Rattle.hm_protocol.specs.Known.{Move, Known, is_slot, in_span, is_noted, is_telling, is_invalidated}
use Rattle.hm_protocol.specs.Known.{is_migrated, is_look_up}
use Rattle.hm_protocol.specs.Noted.{is_begun}

-- ---- look-ups

-- `begin-first`: a look-up is committed that has not walked since its `Begin`
abbrev pub begin_first : Known → Traced → Bool
begin_first k s = elim s.event [
  | Event.Set m v f w ↦ is_look_up k s.thread v w && is_begun (k.looks s.thread m).stage
  | _ ↦ false
]

-- `mmap-lock`: a walk while nobody holds the mmap lock
abbrev pub mmap_lock : Known → Traced → Bool
mmap_lock k s = elim s.event [ Event.Walk m r q locked d ↦ not locked | _ ↦ false ]

-- `entry-right`: a page that was found for reads is set for writes
abbrev pub entry_right : Known → Traced → Bool
entry_right k s = elim s.event [
  | Event.Set m v f w ↦ is_write w && (is_look_up k s.thread v w && is_noted v false (k.looks s.thread m).found)
  | _ ↦ false
]

-- `own-device`: another device's private frame is set
abbrev pub own_device : Known → Traced → Bool
own_device k s = elim s.event [
  | Event.Set m v f w ↦ elim (private_to f) [ None ↦ false | Some d ↦ is_other (k.device m) d ]
  | _ ↦ false
]

-- ---- the table

-- `write-entry`: a write goes through an entry for reads
abbrev pub write_entry : Known → Traced → Bool
write_entry k s = elim s.event [
  | Event.Use m r writes ↦ writes && list_any (λ x. in_span m r x && is_read x.right) k.slots
  | _ ↦ false
]

-- `stop-at-detach`: the table is set or used after the removal
abbrev pub stop_at_detach : Known → Traced → Bool
stop_at_detach k s = elim s.event [
  | Event.Use m r w ↦ k.gone m
  | Event.Set m v f w ↦ k.gone m
  | Event.Add m v ↦ k.gone m
  | _ ↦ false
]

-- `detach-waits`: a removal returns while the mirror is told of an invalidation
abbrev pub detach_waits : Known → Traced → Bool
detach_waits k s = elim s.event [ Event.Removed m ↦ list_any (is_telling m) k.calls | _ ↦ false ]

-- `exclusive-waits`: a page for one actor is set while the mirror is invalidated
abbrev pub exclusive_waits : Known → Traced → Bool
exclusive_waits k s = elim s.event [ Event.Set m v f w ↦ is_sole w && is_invalidated k m | _ ↦ false ]

-- `look-again`: an addition to an entry that is not there for one actor
abbrev pub look_again : Known → Traced → Bool
look_again k s = elim s.event [
  | Event.Add m v ↦ not (list_any (λ x. is_slot m v x && is_sole x.right) k.slots)
  | _ ↦ false
]

-- ---- migrations

-- a migration sets a page
abbrev pub is_migrated_set : List Move → (Move → Bool) → ℕ → TableRight → Bool
is_migrated_set [] test v w = false
is_migrated_set (y ∷ ys) test v w = not (is_sole w) && (is_migrated (y ∷ ys) v && test y)

-- `set-moved`: the new frame of a page that stayed is set
abbrev pub set_moved : Known → Traced → Bool
set_moved k s = elim s.event [
  | Event.Set m v f w ↦ is_migrated_set (k.moves s.thread) (λ y. list_any (λ u. u.0 == v) y.stayed) v w
  | _ ↦ false
]

-- `set-right`: a page that was collected for reads is set for writes
abbrev pub set_right : Known → Traced → Bool
set_right k s = elim s.event [
  | Event.Set m v f w ↦ is_write w && is_migrated_set (k.moves s.thread) (λ y. is_noted v false y.source) v w
  | _ ↦ false
]

-- `set-unless-invalidated`: a page that moved is set while the mirror is invalidated
abbrev pub set_unless_invalidated : Known → Traced → Bool
set_unless_invalidated k s = elim s.event [
  | Event.Set m v f w ↦ is_migrated_set (k.moves s.thread) (λ y. true) v w && is_invalidated k m
  | _ ↦ false
]

-- the frame is not among these
abbrev pub is_kept_back : List TraceFrame → TraceFrame → Bool
is_kept_back freed f = not (list_any (is_same f) freed)

-- a migration to a device has not freed the frame of a page that stayed
abbrev pub keeps_lost : List Move → Bool
keeps_lost [] = false
keeps_lost (y ∷ ys) = y.to_device && list_any (λ x. is_kept_back y.freed x.1) y.stayed

-- `drop-lost`: so it is at its end
abbrev pub drop_lost : Known → Traced → Bool
drop_lost k s = elim s.event [ Event.Finalize p ↦ keeps_lost (k.moves s.thread) | _ ↦ false ]

-- ---- devices

-- `take-from-there`: a frame of a withdrawn device is taken
abbrev pub take_from_there : Known → Traced → Bool
take_from_there k s = elim s.event [
  | Event.Take f ↦ elim (device_of f) [ None ↦ false | Some d ↦ k.withdrawn d ]
  | _ ↦ false
]

-- a withdrawn device goes with frames held
abbrev pub goes_held : Known → ℕ → Bool
goes_held k d = k.withdrawn d && list_any (λ f. is_it (device_of f) d) k.held

-- `evict-first`: none of them was passed over
abbrev pub evict_first : Known → Traced → Bool
evict_first k s = elim s.event [ Event.Gone d ↦ not (k.passed d) && goes_held k d | _ ↦ false ]

-- `wait-for-locked`: some were
abbrev pub wait_for_locked : Known → Traced → Bool
wait_for_locked k s = elim s.event [ Event.Gone d ↦ k.passed d && goes_held k d | _ ↦ false ]

-- `withdraw-first`: a device goes that was not withdrawn
abbrev pub withdraw_first : Known → Traced → Bool
withdraw_first k s = elim s.event [ Event.Gone d ↦ not (k.withdrawn d) | _ ↦ false ]
