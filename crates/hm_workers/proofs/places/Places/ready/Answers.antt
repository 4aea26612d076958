use Rattle.hm_workers.proofs.Sets.{in_first}
use Rattle.hm_workers.proofs.places.Places.ready.Goals as goal

pub returns : goal.returns
returns c = λ place is. c.free.ensures.wait place (in_first c.free.result c.args.self.looking place is)
