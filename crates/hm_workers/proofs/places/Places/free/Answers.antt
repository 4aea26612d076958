use Rattle.hm_workers.proofs.Sets.{in_first}
use Rattle.hm_workers.proofs.places.Places.free.Goals as goal

pub returns-else-free-eq0-clause-wait : goal.returns-else-free-eq0-clause-wait
returns-else-free-eq0-clause-wait c = λ place is. in_first c.args.self.waiting _ place is
