use Rattle.std.proofs.Common.{arith}
use Rattle.hm_search.proofs.Chains.{chained_push}
use Rattle.hm_search.proofs.buckets.Buckets.link.Goals as goal

pub invariant_of-self-2 : goal.invariant_of-self-2
invariant_of-self-2 c =
    chained_push c.self.inside.links.items c.push.new.self.items c.self.inside.last.items c.args.self.now (record { number = c.args.number; before = c.index-before.result.now }) c.slot-slot.result c.len-at.result
    c.self.invariant c.self.view_is c.slot-slot.ensures.slot c.slot-slot.ensures.within (omega (arith, c.len-at.ensures, c.self.inside.links.ok)) c.index-before.ensures c.in_ok-push.ensures.items
