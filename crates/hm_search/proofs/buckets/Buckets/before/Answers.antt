use Rattle.hm_search.proofs.Chains.{before_at}
use Rattle.hm_search.proofs.buckets.Buckets.before.Goals as goal

pub returns : goal.returns
returns c = before_at c.self.inside.links.items c.self.inside.last.items c.args.self.now c.args.at c.index.result.now c.self.invariant c.self.view_is c.requires c.index.ensures
