use Rattle.std.proofs.Common.{◌≡◌, false}
use Rattle.hm_protocol.specs.Laws.{is_blame}
use Rattle.hm_protocol.specs.Projection.{project}
use Rattle.hm_protocol.specs.Verdicts.{verdict}
use Rattle.hm_protocol.specs.declared.rules.Rule.{Rule}
use Rattle.hm_projection.specs.Traces.{all}
use Rattle.hm_projection.proofs.Texts.{unblamed}
use Rattle.hm_projection.proofs.laws.the_trace_is_unblamed.Goals as goal

pub returns : goal.returns
returns c = let e = c.no_verdict_blames_a_legal_history.ensures in λ p h l b k es got. unblamed p h k es b got (λ r. elim r as (λ q. is_blame (verdict all q (project p h)) ≡ false) [
  | Rule.Compare ↦ e.compare p l.script all h l.legal
  | Rule.CompareSequence ↦ e.compare_sequence p l.script all h l.legal
  | Rule.EntryRight ↦ e.entry_right p l.script all h l.legal
  | Rule.MmapLock ↦ e.mmap_lock p l.script all h l.legal
  | Rule.OwnDevice ↦ e.own_device p l.script all h l.legal
  | Rule.BeginWaits ↦ e.begin_waits p l.script all h l.legal
  | Rule.BeginFirst ↦ e.begin_first p l.script all h l.legal
  | Rule.SetSequence ↦ e.set_sequence p l.script all h l.legal
  | Rule.Erase ↦ e.erase p l.script all h l.legal
  | Rule.EraseAll ↦ e.erase_all p l.script all h l.legal
  | Rule.EraseInTime ↦ e.erase_in_time p l.script all h l.legal
  | Rule.OwnEvents ↦ e.own_events p l.script all h l.legal
  | Rule.OwnSequence ↦ e.own_sequence p l.script all h l.legal
  | Rule.OwnEntries ↦ e.own_entries p l.script all h l.legal
  | Rule.StopAtDetach ↦ e.stop_at_detach p l.script all h l.legal
  | Rule.WriteEntry ↦ e.write_entry p l.script all h l.legal
  | Rule.DetachWaits ↦ e.detach_waits p l.script all h l.legal
  | Rule.SetMoved ↦ e.set_moved p l.script all h l.legal
  | Rule.SetRight ↦ e.set_right p l.script all h l.legal
  | Rule.SetUnlessInvalidated ↦ e.set_unless_invalidated p l.script all h l.legal
  | Rule.DropLost ↦ e.drop_lost p l.script all h l.legal
  | Rule.TakeFromThere ↦ e.take_from_there p l.script all h l.legal
  | Rule.EvictFirst ↦ e.evict_first p l.script all h l.legal
  | Rule.WithdrawFirst ↦ e.withdraw_first p l.script all h l.legal
  | Rule.WaitForLocked ↦ e.wait_for_locked p l.script all h l.legal
  | Rule.ExclusiveWaits ↦ e.exclusive_waits p l.script all h l.legal
  | Rule.LookAgain ↦ e.look_again p l.script all h l.legal
])
