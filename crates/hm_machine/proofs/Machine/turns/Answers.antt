use Rattle.std.proofs.Common.{◌≡◌, ◌-◌, ◌+◌, suc, subst, arith}
use Rattle.std.proofs.lemmas.Result.{err_from_is_err_and}
use Rattle.std.specs.Prelude.{Ok}
use Rattle.hm_machine.specs.Turning.{Adds}
use Rattle.hm_machine.proofs.Turns.{turns_fail, turns_rest, turns_go}
use Rattle.hm_machine.proofs.Machine.turns.Goals as goal

pub returns-in_err-adds : goal.returns-in_err-adds
returns-in_err-adds g c =
    let p = err_from_is_err_and c.from_residual.result c.from_residual.ensures.1 in
    let left = c.args.count - c.loop-made.made in
    let less : left ≡ suc (c.args.count - (c.loop-made.made + 1)) = omega arith in
    rw (p.1, p.2) (turns_fail c.args.self.now c.loop-made.self c.adds.new.self c.args.actor left _ c.in_err-adds.field-0.0 _ _ less c.loop-made.invariant c.in_err-adds.ensures)

pub returns-then-not-branch : goal.returns-then-not-branch
returns-then-not-branch g c =
    let still = subst (λ b. Adds c.loop-made.self c.args.actor (Ok b) c.adds.new.self) c.if-not-branch.true c.in_ok-adds.ensures in
    turns_rest c.args.self.now c.loop-made.self c.adds.new.self c.args.actor (c.args.count - c.loop-made.made) _ _ c.loop-made.invariant still

pub loop-made-preserved : goal.loop-made-preserved
loop-made-preserved g c =
    let left = c.args.count - c.loop-made.made in
    let less : left ≡ suc (c.args.count - (c.loop-made.made + 1)) = omega arith in
    turns_go c.args.self.now c.loop-made.self c.adds.new.self c.args.actor left _ c.in_ok-adds.field-0 _ _ less c.loop-made.invariant c.in_ok-adds.ensures
