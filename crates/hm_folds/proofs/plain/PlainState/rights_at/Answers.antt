use Rattle.std.proofs.Common.{sym, arith}
use Rattle.hm_history.specs.Memory.Words.{page_of}
use Rattle.hm_folds.proofs.AreaEnds.{beyond}
use Rattle.hm_folds.proofs.plain.PlainState.rights_at.Goals as goal

pub returns-then-addr-clause-same : goal.returns-then-addr-clause-same
returns-then-addr-clause-same c = sym (beyond _ (page_of c.args.addr) (c.args.self.now.sized.below c.args.proc) (omega arith))
