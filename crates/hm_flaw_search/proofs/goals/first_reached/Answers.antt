use Rattle.std.proofs.Common.{map, sym, ◌∙◌}
use Rattle.hm_search.specs.Values.{at_goal}
use Rattle.hm_flaw_search.proofs.Reached.{answer_at, none_more}
use Rattle.hm_flaw_search.proofs.goals.first_reached.Goals as goal

pub loop-at-preserved : goal.loop-at-preserved
loop-at-preserved g c =
    let asked = at_goal g.G.Goal.read (g.G.Goal.reached c.args.goal.now) in
    none_more (map asked c.args.known.now) c.loop-at.at c.loop-at.invariant
    (answer_at asked c.args.known.now c.loop-at.at c.index-known-at.result c.loop-at-test.true c.index-known-at.is ∙ (sym c.in_ok-is_at.ensures ∙ c.if-branch.false))
