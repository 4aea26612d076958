use Rattle.hm_protocol.proofs.Cleared.{mmap_lock_cleared, own_device_cleared, take_from_there_cleared, withdraw_first_cleared}
use Rattle.hm_protocol.proofs.Cleared.{evict_first_cleared, wait_for_locked_cleared, detach_waits_cleared, exclusive_waits_cleared}
use Rattle.hm_protocol.proofs.Cleared.{set_unless_invalidated_cleared, begin_waits_cleared, stop_at_detach_cleared, write_entry_cleared}
use Rattle.hm_protocol.proofs.Cleared.{look_again_cleared, set_sequence_cleared, own_events_cleared, own_sequence_cleared}
use Rattle.hm_protocol.proofs.Cleared.{erase_cleared, erase_all_cleared, erase_in_time_cleared, own_entries_cleared}
use Rattle.hm_protocol.proofs.Cleared.{begin_first_cleared, entry_right_cleared}
use Rattle.hm_protocol.proofs.Cleared.{compare_cleared, compare_sequence_cleared}
use Rattle.hm_protocol.proofs.Cleared.{set_moved_cleared, set_right_cleared, drop_lost_cleared}
use Rattle.hm_protocol.proofs.no_verdict_blames_a_legal_history.Goals as goal

pub returns-clause-compare : goal.returns-clause-compare
returns-clause-compare c = compare_cleared

pub returns-clause-compare_sequence : goal.returns-clause-compare_sequence
returns-clause-compare_sequence c = compare_sequence_cleared

pub returns-clause-entry_right : goal.returns-clause-entry_right
returns-clause-entry_right c = entry_right_cleared

pub returns-clause-mmap_lock : goal.returns-clause-mmap_lock
returns-clause-mmap_lock c = mmap_lock_cleared

pub returns-clause-own_device : goal.returns-clause-own_device
returns-clause-own_device c = own_device_cleared

pub returns-clause-begin_waits : goal.returns-clause-begin_waits
returns-clause-begin_waits c = begin_waits_cleared

pub returns-clause-begin_first : goal.returns-clause-begin_first
returns-clause-begin_first c = begin_first_cleared

pub returns-clause-set_sequence : goal.returns-clause-set_sequence
returns-clause-set_sequence c = set_sequence_cleared

pub returns-clause-erase : goal.returns-clause-erase
returns-clause-erase c = erase_cleared

pub returns-clause-erase_all : goal.returns-clause-erase_all
returns-clause-erase_all c = erase_all_cleared

pub returns-clause-erase_in_time : goal.returns-clause-erase_in_time
returns-clause-erase_in_time c = erase_in_time_cleared

pub returns-clause-own_events : goal.returns-clause-own_events
returns-clause-own_events c = own_events_cleared

pub returns-clause-own_sequence : goal.returns-clause-own_sequence
returns-clause-own_sequence c = own_sequence_cleared

pub returns-clause-own_entries : goal.returns-clause-own_entries
returns-clause-own_entries c = own_entries_cleared

pub returns-clause-stop_at_detach : goal.returns-clause-stop_at_detach
returns-clause-stop_at_detach c = stop_at_detach_cleared

pub returns-clause-write_entry : goal.returns-clause-write_entry
returns-clause-write_entry c = write_entry_cleared

pub returns-clause-detach_waits : goal.returns-clause-detach_waits
returns-clause-detach_waits c = detach_waits_cleared

pub returns-clause-set_moved : goal.returns-clause-set_moved
returns-clause-set_moved c = set_moved_cleared

pub returns-clause-set_right : goal.returns-clause-set_right
returns-clause-set_right c = set_right_cleared

pub returns-clause-set_unless_invalidated : goal.returns-clause-set_unless_invalidated
returns-clause-set_unless_invalidated c = set_unless_invalidated_cleared

pub returns-clause-drop_lost : goal.returns-clause-drop_lost
returns-clause-drop_lost c = drop_lost_cleared

pub returns-clause-take_from_there : goal.returns-clause-take_from_there
returns-clause-take_from_there c = take_from_there_cleared

pub returns-clause-evict_first : goal.returns-clause-evict_first
returns-clause-evict_first c = evict_first_cleared

pub returns-clause-withdraw_first : goal.returns-clause-withdraw_first
returns-clause-withdraw_first c = withdraw_first_cleared

pub returns-clause-wait_for_locked : goal.returns-clause-wait_for_locked
returns-clause-wait_for_locked c = wait_for_locked_cleared

pub returns-clause-exclusive_waits : goal.returns-clause-exclusive_waits
returns-clause-exclusive_waits c = exclusive_waits_cleared

pub returns-clause-look_again : goal.returns-clause-look_again
returns-clause-look_again c = look_again_cleared
