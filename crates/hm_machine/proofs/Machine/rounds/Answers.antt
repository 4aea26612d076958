use Rattle.std.proofs.Common.{◌≡◌, ◌-◌, ◌∙◌, length, refl, sym}
use Rattle.std.proofs.lemmas.Result.{err_from_is_err_and}
use Rattle.hm_history.specs.Kernel.Run.{enough}
use Rattle.hm_machine.proofs.Draining.{rounds_fail, rounds_go, rounds_rest, rounds_end}
use Rattle.hm_machine.proofs.Machine.rounds.Goals as goal

pub returns-then-entries : goal.returns-then-entries
returns-then-entries g c =
    let as_long : length c.round.new.self.history ≡ length c.loop-round.self.history = sym c.entries.ensures ∙ c.if-entries.true ∙ c.entries-entries.ensures in
    (rounds_rest c.args.self.now c.loop-round.self c.round.new.self (enough - c.loop-round.round) c.in_ok-round.field-0 _ c.loop-round.invariant c.in_ok-round.ensures as_long, refl)

pub returns-in_err-round : goal.returns-in_err-round
returns-in_err-round g c =
    let p = err_from_is_err_and c.from_residual.result c.from_residual.ensures.1 in
    rw (p.1, p.2) (rounds_fail c.args.self.now c.loop-round.self c.round.new.self c.loop-round.round c.in_err-round.field-0.0 _ c.loop-round.invariant c.loop-round-test.true c.in_err-round.ensures)

pub loop-round-preserved : goal.loop-round-preserved
loop-round-preserved g c = rounds_go c.args.self.now c.loop-round.self c.round.new.self c.loop-round.round c.in_ok-round.field-0 _ c.loop-round.invariant c.loop-round-test.true c.in_ok-round.ensures

pub returns : goal.returns
returns g c = (rounds_end c.args.self.now c.loop-round.self c.loop-round.round _ c.loop-round.invariant c.loop-round-test.false, refl)
