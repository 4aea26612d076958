-- No verdict blames a legal history: a rule that is kept is not broken, and nothing suggests that it may be.
use Rattle.std.proofs.Common.{refl, ap, ◌∙◌}
use Rattle.std.specs.Prelude.{◌≡◌, ℕ, Bool, true, false, not, ◌&&◌, ◌||◌, nat_lt, if◌then◌else◌, Some, None, is_none, List}
use Rattle.hm_base.specs.Program.{Program, IsScript}
use Rattle.hm_history.specs.Kernel.Legal.{Legal}
use Rattle.hm_history.specs.declared.Entry.{Entry}
use Rattle.hm_protocol.specs.declared.events.Traced.{Traced}
use Rattle.hm_protocol.specs.declared.events.Recorded.{Recorded}
use Rattle.hm_protocol.specs.declared.rules.Rule.{Rule}
use Rattle.hm_protocol.specs.declared.rules.Verdict.{Verdict}
use Rattle.hm_protocol.specs.Words.{is_empty}
use Rattle.hm_protocol.specs.Known.{Call, Known, is_own}
use Rattle.hm_protocol.specs.Callbacks.{own_sequence_left, left_first}
use Rattle.hm_protocol.specs.Rules.{broken}
use Rattle.hm_protocol.specs.Verdicts.{verdict, unbroken, may_break, suspect, joined, none_broken, if_asked, kept, is_recorded, may_leave}
use Rattle.hm_protocol.specs.Projection.{project}
use Rattle.hm_protocol.specs.Laws.{is_blame, IsKept, IsCleared}
use Rattle.hm_protocol.proofs.Slots.{Clean}
use Rattle.hm_protocol.proofs.MmapLock.{mmap_lock_kept}
use Rattle.hm_protocol.proofs.Devices.{own_device_kept}
use Rattle.hm_protocol.proofs.Frames.{take_from_there_kept, withdraw_first_kept, evict_first_kept, wait_for_locked_kept}
use Rattle.hm_protocol.proofs.Invalidations.{detach_waits_kept, exclusive_waits_kept, set_unless_invalidated_kept, begin_waits_kept, compare_kept, set_sequence_kept, own_events_kept, own_sequence_kept, own_by}
use Rattle.hm_protocol.proofs.StaleCommits.{stale_commit_kept, compare_sequence_kept}
use Rattle.hm_protocol.proofs.Detached.{stop_at_detach_kept}
use Rattle.hm_protocol.proofs.BeginFirst.{begin_first_kept}
use Rattle.hm_protocol.proofs.EntryRight.{entry_right_kept}
use Rattle.hm_protocol.proofs.SetMoved.{set_moved_kept, drop_lost_kept}
use Rattle.hm_protocol.proofs.SetRight.{set_right_kept}
use Rattle.hm_protocol.proofs.Tables.{write_entry_kept, look_again_kept, erase_kept, erase_all_kept, erase_in_time_kept, own_entries_kept, kept_by, none_left_behind}

no_blame : (n : ℕ) → is_blame (if_asked n) ≡ false
no_blame n = by_bool (nat_lt 0 n)
  where
    by_bool : (b : Bool) → is_blame (if b then Verdict.Kept n else Verdict.Unseen) ≡ false
    by_bool true = refl
    by_bool false = refl

-- a rule that is not broken, and may not be
cleared : (x : Recorded) (r : Rule) (es : List Traced) → broken r es ≡ None → may_break r es ≡ None → is_blame (verdict x r es) ≡ false
cleared x r es h g = by_bool (is_recorded x r)
  where
    by_bool : (b : Bool) → is_blame (if b then elim (broken r es) as (λ o. Verdict) [ None ↦ unbroken r es | Some i ↦ Verdict.Broken i ] else Verdict.Unseen) ≡ false
    by_bool false = refl
    by_bool true = ap (λ o. is_blame (elim o as (λ o. Verdict) [ None ↦ unbroken r es | Some i ↦ Verdict.Broken i ])) h
        ∙ (ap (λ o. is_blame (elim o as (λ o. Verdict) [ None ↦ if_asked (kept r es) | Some i ↦ Verdict.Maybe i ])) g ∙ no_blame (kept r es))

none_suspect : (r : Rule) (es : List Traced) → suspect r es ≡ None → may_break r es ≡ None
none_suspect r es h = by_bool (none_broken (joined r) es)
  where
    by_bool : (b : Bool) → (if b then suspect r es else None) ≡ None
    by_bool true = h
    by_bool false = refl

from_kept : (r : Rule) → IsKept r → ((c : Program) → IsScript c → (h : List Entry) → Legal c h → suspect r (project c h) ≡ None) → IsCleared r
from_kept r k s c sc x h legal = cleared x r (project c h) (k c sc h legal) (none_suspect r (project c h) (s c sc h legal))

none_may_leave : (k : Known) (x : Call) → Clean x → may_leave k x ≡ false
none_may_leave k x l = ap (λ b. b && (not (is_own k x) || (x.alone && is_none x.stale))) (none_left_behind k x l)

pub compare_cleared : IsCleared Rule.Compare
compare_cleared = from_kept Rule.Compare compare_kept stale_commit_kept

pub compare_sequence_cleared : IsCleared Rule.CompareSequence
compare_sequence_cleared = from_kept Rule.CompareSequence compare_sequence_kept stale_commit_kept

pub entry_right_cleared : IsCleared Rule.EntryRight
entry_right_cleared = from_kept Rule.EntryRight entry_right_kept (λ c sc h legal. refl)

pub mmap_lock_cleared : IsCleared Rule.MmapLock
mmap_lock_cleared = from_kept Rule.MmapLock mmap_lock_kept (λ c sc h legal. refl)

pub own_device_cleared : IsCleared Rule.OwnDevice
own_device_cleared = from_kept Rule.OwnDevice own_device_kept (λ c sc h legal. refl)

pub begin_waits_cleared : IsCleared Rule.BeginWaits
begin_waits_cleared = from_kept Rule.BeginWaits begin_waits_kept (λ c sc h legal. refl)

pub begin_first_cleared : IsCleared Rule.BeginFirst
begin_first_cleared = from_kept Rule.BeginFirst begin_first_kept (λ c sc h legal. refl)

pub set_sequence_cleared : IsCleared Rule.SetSequence
set_sequence_cleared = from_kept Rule.SetSequence set_sequence_kept
    (own_by (λ k x. own_sequence_left k x && is_empty x.had) (λ k x q. ap (λ b. b && is_empty x.had) q))

pub erase_cleared : IsCleared Rule.Erase
erase_cleared = from_kept Rule.Erase erase_kept
    (kept_by may_leave none_may_leave)

pub erase_all_cleared : IsCleared Rule.EraseAll
erase_all_cleared = from_kept Rule.EraseAll erase_all_kept
    (kept_by (λ k x. may_leave k x && (not (is_own k x) && not (left_first k x))) (λ k x l. ap (λ b. b && (not (is_own k x) && not (left_first k x))) (none_may_leave k x l)))

pub erase_in_time_cleared : IsCleared Rule.EraseInTime
erase_in_time_cleared = from_kept Rule.EraseInTime erase_in_time_kept
    (kept_by (λ k x. may_leave k x && (is_own k x || is_none x.ended)) (λ k x l. ap (λ b. b && (is_own k x || is_none x.ended)) (none_may_leave k x l)))

pub own_events_cleared : IsCleared Rule.OwnEvents
own_events_cleared = from_kept Rule.OwnEvents own_events_kept
    (own_by own_sequence_left (λ k x q. q))

pub own_sequence_cleared : IsCleared Rule.OwnSequence
own_sequence_cleared = from_kept Rule.OwnSequence own_sequence_kept
    (own_by own_sequence_left (λ k x q. q))

pub own_entries_cleared : IsCleared Rule.OwnEntries
own_entries_cleared = from_kept Rule.OwnEntries own_entries_kept
    (kept_by (λ k x. may_leave k x && is_own k x) (λ k x l. ap (λ b. b && is_own k x) (none_may_leave k x l)))

pub stop_at_detach_cleared : IsCleared Rule.StopAtDetach
stop_at_detach_cleared = from_kept Rule.StopAtDetach stop_at_detach_kept (λ c sc h legal. refl)

pub write_entry_cleared : IsCleared Rule.WriteEntry
write_entry_cleared = from_kept Rule.WriteEntry write_entry_kept (λ c sc h legal. refl)

pub detach_waits_cleared : IsCleared Rule.DetachWaits
detach_waits_cleared = from_kept Rule.DetachWaits detach_waits_kept (λ c sc h legal. refl)

pub set_moved_cleared : IsCleared Rule.SetMoved
set_moved_cleared = from_kept Rule.SetMoved set_moved_kept (λ c sc h legal. refl)

pub set_right_cleared : IsCleared Rule.SetRight
set_right_cleared = from_kept Rule.SetRight set_right_kept (λ c sc h legal. refl)

pub set_unless_invalidated_cleared : IsCleared Rule.SetUnlessInvalidated
set_unless_invalidated_cleared = from_kept Rule.SetUnlessInvalidated set_unless_invalidated_kept (λ c sc h legal. refl)

pub drop_lost_cleared : IsCleared Rule.DropLost
drop_lost_cleared = from_kept Rule.DropLost drop_lost_kept (λ c sc h legal. refl)

pub take_from_there_cleared : IsCleared Rule.TakeFromThere
take_from_there_cleared = from_kept Rule.TakeFromThere take_from_there_kept (λ c sc h legal. refl)

pub evict_first_cleared : IsCleared Rule.EvictFirst
evict_first_cleared = from_kept Rule.EvictFirst evict_first_kept (λ c sc h legal. refl)

pub withdraw_first_cleared : IsCleared Rule.WithdrawFirst
withdraw_first_cleared = from_kept Rule.WithdrawFirst withdraw_first_kept (λ c sc h legal. refl)

pub wait_for_locked_cleared : IsCleared Rule.WaitForLocked
wait_for_locked_cleared = from_kept Rule.WaitForLocked wait_for_locked_kept (λ c sc h legal. refl)

pub exclusive_waits_cleared : IsCleared Rule.ExclusiveWaits
exclusive_waits_cleared = from_kept Rule.ExclusiveWaits exclusive_waits_kept (λ c sc h legal. refl)

pub look_again_cleared : IsCleared Rule.LookAgain
look_again_cleared = from_kept Rule.LookAgain look_again_kept (λ c sc h legal. refl)
