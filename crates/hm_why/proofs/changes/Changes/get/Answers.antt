use Rattle.std.proofs.Common.{sym}
use Rattle.hm_why.specs.Changes.{change_at}
use Rattle.hm_why.proofs.LastChange.{none_is, last_is}
use Rattle.hm_why.proofs.changes.Changes.get.Goals as goal

pub returns-in-Some : goal.returns-in-Some
returns-in-Some c = sym (last_is (change_at c.args.self.now) c.args.addr _ _ c.in-Some.ensures.0 c.in-Some.ensures.1 c.in-Some.ensures.2)

pub returns-in-None : goal.returns-in-None
returns-in-None c = sym (none_is (change_at c.args.self.now) c.args.addr c.in-None.ensures)
