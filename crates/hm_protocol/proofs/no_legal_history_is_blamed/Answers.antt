use Rattle.hm_protocol.proofs.MmapLock.{mmap_lock_kept}
use Rattle.hm_protocol.proofs.Devices.{own_device_kept}
use Rattle.hm_protocol.proofs.Frames.{take_from_there_kept, withdraw_first_kept, evict_first_kept, wait_for_locked_kept}
use Rattle.hm_protocol.proofs.Invalidations.{detach_waits_kept, exclusive_waits_kept, set_unless_invalidated_kept, begin_waits_kept, compare_kept, set_sequence_kept, own_events_kept, own_sequence_kept}
use Rattle.hm_protocol.proofs.StaleCommits.{compare_sequence_kept}
use Rattle.hm_protocol.proofs.Detached.{stop_at_detach_kept}
use Rattle.hm_protocol.proofs.Tables.{write_entry_kept, look_again_kept, erase_kept, erase_all_kept, erase_in_time_kept, own_entries_kept}
use Rattle.hm_protocol.proofs.BeginFirst.{begin_first_kept}
use Rattle.hm_protocol.proofs.EntryRight.{entry_right_kept}
use Rattle.hm_protocol.proofs.SetMoved.{set_moved_kept, drop_lost_kept}
use Rattle.hm_protocol.proofs.SetRight.{set_right_kept}
use Rattle.hm_protocol.proofs.no_legal_history_is_blamed.Goals as goal

pub returns-clause-compare : goal.returns-clause-compare
returns-clause-compare c = compare_kept

pub returns-clause-compare_sequence : goal.returns-clause-compare_sequence
returns-clause-compare_sequence c = compare_sequence_kept

pub returns-clause-entry_right : goal.returns-clause-entry_right
returns-clause-entry_right c = entry_right_kept

pub returns-clause-mmap_lock : goal.returns-clause-mmap_lock
returns-clause-mmap_lock c = mmap_lock_kept

pub returns-clause-own_device : goal.returns-clause-own_device
returns-clause-own_device c = own_device_kept

pub returns-clause-begin_waits : goal.returns-clause-begin_waits
returns-clause-begin_waits c = begin_waits_kept

pub returns-clause-begin_first : goal.returns-clause-begin_first
returns-clause-begin_first c = begin_first_kept

pub returns-clause-set_sequence : goal.returns-clause-set_sequence
returns-clause-set_sequence c = set_sequence_kept

pub returns-clause-erase : goal.returns-clause-erase
returns-clause-erase c = erase_kept

pub returns-clause-erase_all : goal.returns-clause-erase_all
returns-clause-erase_all c = erase_all_kept

pub returns-clause-erase_in_time : goal.returns-clause-erase_in_time
returns-clause-erase_in_time c = erase_in_time_kept

pub returns-clause-own_events : goal.returns-clause-own_events
returns-clause-own_events c = own_events_kept

pub returns-clause-own_sequence : goal.returns-clause-own_sequence
returns-clause-own_sequence c = own_sequence_kept

pub returns-clause-own_entries : goal.returns-clause-own_entries
returns-clause-own_entries c = own_entries_kept

pub returns-clause-stop_at_detach : goal.returns-clause-stop_at_detach
returns-clause-stop_at_detach c = stop_at_detach_kept

pub returns-clause-write_entry : goal.returns-clause-write_entry
returns-clause-write_entry c = write_entry_kept

pub returns-clause-detach_waits : goal.returns-clause-detach_waits
returns-clause-detach_waits c = detach_waits_kept

pub returns-clause-set_moved : goal.returns-clause-set_moved
returns-clause-set_moved c = set_moved_kept

pub returns-clause-set_right : goal.returns-clause-set_right
returns-clause-set_right c = set_right_kept

pub returns-clause-set_unless_invalidated : goal.returns-clause-set_unless_invalidated
returns-clause-set_unless_invalidated c = set_unless_invalidated_kept

pub returns-clause-drop_lost : goal.returns-clause-drop_lost
returns-clause-drop_lost c = drop_lost_kept

pub returns-clause-take_from_there : goal.returns-clause-take_from_there
returns-clause-take_from_there c = take_from_there_kept

pub returns-clause-evict_first : goal.returns-clause-evict_first
returns-clause-evict_first c = evict_first_kept

pub returns-clause-withdraw_first : goal.returns-clause-withdraw_first
returns-clause-withdraw_first c = withdraw_first_kept

pub returns-clause-wait_for_locked : goal.returns-clause-wait_for_locked
returns-clause-wait_for_locked c = wait_for_locked_kept

pub returns-clause-exclusive_waits : goal.returns-clause-exclusive_waits
returns-clause-exclusive_waits c = exclusive_waits_kept

pub returns-clause-look_again : goal.returns-clause-look_again
returns-clause-look_again c = look_again_kept
