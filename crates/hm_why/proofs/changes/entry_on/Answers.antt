use Rattle.hm_why.proofs.Ahead.{no_change, none_on}
use Rattle.hm_why.proofs.changes.entry_on.Goals as goal

pub returns-in_default-2-clause-entry : goal.returns-in_default-2-clause-entry
returns-in_default-2-clause-entry c f end h l k = k (no_change f c.args.next.now c.args.points.now c.args.addr end c.in_default.is h l)

pub returns-in_default-2-clause-ahead : goal.returns-in_default-2-clause-ahead
returns-in_default-2-clause-ahead c f end h = none_on f c.args.next.now c.args.points.now c.args.addr end c.in_default.is h
