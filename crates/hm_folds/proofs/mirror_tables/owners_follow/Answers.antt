use Rattle.hm_folds.proofs.Tables.{owners}
use Rattle.hm_folds.proofs.mirror_tables.owners_follow.Goals as goal

pub returns : goal.returns
returns c = owners
