use Rattle.std.proofs.Common.{rules}
use Rattle.hm_actors.proofs.RisingKept.{one_changes}
use Rattle.hm_actors.proofs.places.put_one.Goals as goal

pub returns-then-eq : goal.returns-then-eq
returns-then-eq c = one_changes c.args.migrating.now c.args.records.now c.place_of-at.result c.index-records-at.result c.requires c.if-at-records.true c.index-records-at.is (search rules)
