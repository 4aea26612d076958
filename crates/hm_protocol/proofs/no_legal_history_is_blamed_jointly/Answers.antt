use Rattle.hm_protocol.proofs.StaleCommits.{stale_commit_kept}
use Rattle.hm_protocol.proofs.Invalidations.{own_sequence_left_kept}
use Rattle.hm_protocol.proofs.Tables.{entries_left_kept}
use Rattle.hm_protocol.proofs.no_legal_history_is_blamed_jointly.Goals as goal

pub returns-clause-stale_commit : goal.returns-clause-stale_commit
returns-clause-stale_commit c = stale_commit_kept

pub returns-clause-entries_left : goal.returns-clause-entries_left
returns-clause-entries_left c = entries_left_kept

pub returns-clause-own_sequence_left : goal.returns-clause-own_sequence_left
returns-clause-own_sequence_left c = own_sequence_left_kept
