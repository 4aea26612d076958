use Rattle.std.proofs.Common.{sym, ◌∙◌, arith}
use Rattle.hm_history.specs.Memory.Words.{page_of}
use Rattle.hm_folds.specs.Plain.{plain_of}
use Rattle.hm_folds.proofs.AreaEnds.{none_beyond}
use Rattle.hm_folds.proofs.plain.PlainState.store.Goals as goal

pub returns-else-addr-clause-ok : goal.returns-else-addr-clause-ok
returns-else-addr-clause-ok c =
    let x = c.args.self.now in
    absurd (none_beyond (plain_of x) c.args.who.now c.in-Some.proc (page_of c.args.addr) (sym c.owner.ensures ∙ c.in-Some.is) (x.sized.below c.in-Some.proc) (omega arith) c.requires)
