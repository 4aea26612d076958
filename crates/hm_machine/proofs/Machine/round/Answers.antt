use Rattle.std.proofs.Common.{◌<◌, ◌≤◌, length, refl, arith}
use Rattle.std.proofs.lemmas.Result.{err_from_is_err_and}
use Rattle.hm_machine.proofs.Draining.{round_fails, round_goes, round_ends}
use Rattle.hm_machine.proofs.Machine.round.Goals as goal

pub returns-in_err-turns_on : goal.returns-in_err-turns_on
returns-in_err-turns_on g c =
    let p = err_from_is_err_and c.from_residual.result c.from_residual.ensures.1 in
    let few : c.loop-number.number < length c.args.self.now.script.actors = omega arith in
    rw (p.1, p.2) (round_fails c.args.self.now c.loop-number.self c.turns_on.new.self c.new.result c.loop-number.number c.in_err-turns_on.field-0.0 _ c.loop-number.invariant few c.new.ensures c.in_err-turns_on.ensures)

pub loop-number-preserved : goal.loop-number-preserved
loop-number-preserved g c =
    let few : c.loop-number.number < length c.args.self.now.script.actors = omega arith in
    round_goes c.args.self.now c.loop-number.self c.turns_on.new.self c.new.result c.loop-number.number c.in_ok-turns_on.field-0 _ c.loop-number.invariant few c.new.ensures c.in_ok-turns_on.ensures

pub returns : goal.returns
returns g c =
    let many : length c.args.self.now.script.actors ≤ c.loop-number.number = omega arith in
    (round_ends c.args.self.now c.loop-number.self c.loop-number.number _ c.loop-number.invariant many, refl)
