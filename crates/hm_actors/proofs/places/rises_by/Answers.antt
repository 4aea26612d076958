use Rattle.hm_actors.proofs.RisingKept.{rises_like}
use Rattle.hm_actors.proofs.places.rises_by.Goals as goal

pub returns-then-rising : goal.returns-then-rising
returns-then-rising c = λ e. rises_like c.args.records.now c.args.page (c.requires c.if-rising.true) (c.is_above_all.ensures e)
