use Rattle.std.proofs.Common.{ℕ, Some, sym, ap, ◌∙◌, arith}
use Rattle.hm_spaces.proofs.Least.{least_found, least_none}
use Rattle.hm_linux_steps.proofs.first.first_actor.Goals as goal

pub returns-then-passes : goal.returns-then-passes
returns-then-passes g c =
    let t = g.T.Passes.passes c.args.test.now in
    ap (λ (a : ℕ). Some a) c.new-actor.ensures
    ∙ least_found t 16 c.loop-at.at (omega arith) c.loop-at.invariant (ap t (sym c.new-actor.ensures) ∙ (sym c.passes.ensures ∙ c.if-passes.true))

pub returns : goal.returns
returns g c = least_none (g.T.Passes.passes c.args.test.now) 16 (λ k l. c.loop-at.invariant k (omega arith))
