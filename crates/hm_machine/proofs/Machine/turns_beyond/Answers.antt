use Rattle.std.proofs.Common.{◌<◌, ◌≤◌, length, arith}
use Rattle.std.proofs.lemmas.Result.{err_from_is_err_and}
use Rattle.hm_machine.proofs.Draining.{beyond_goes, beyond_fails, beyond_ends}
use Rattle.hm_machine.proofs.Machine.turns_beyond.Goals as goal

pub returns-in_err-adds : goal.returns-in_err-adds
returns-in_err-adds g c =
    let p = err_from_is_err_and c.from_residual.result c.from_residual.ensures.1 in
    let few : c.loop-number.number < length c.args.self.now.script.actors = omega arith in
    rw (p.1, p.2) (beyond_fails c.args.self.now c.loop-number.self c.adds.new.self c.new.result c.loop-number.number c.in_err-adds.field-0.0 _ c.loop-number.invariant.0 c.loop-number.invariant.1 few c.new.ensures c.in_err-adds.ensures)

pub loop-number-preserved : goal.loop-number-preserved
loop-number-preserved g c =
    let few : c.loop-number.number < length c.args.self.now.script.actors = omega arith in
    beyond_goes c.args.self.now c.loop-number.self c.adds.new.self c.new.result c.loop-number.number c.in_ok-adds.field-0 _ c.loop-number.invariant.0 c.loop-number.invariant.1 few c.new.ensures c.requires.full c.in_ok-adds.ensures

pub returns : goal.returns
returns g c =
    let many : length c.args.self.now.script.actors ≤ c.loop-number.number = omega arith in
    beyond_ends c.args.self.now c.loop-number.self c.loop-number.number _ c.loop-number.invariant.0 c.loop-number.invariant.1 many
