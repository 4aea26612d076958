use Rattle.std.proofs.lemmas.Result.{err_from_is_err_and}
use Rattle.hm_machine.proofs.Lines.{lines_fail, lines_go}
use Rattle.hm_machine.proofs.Machine.replay.Goals as goal

pub returns-in_err-run_line : goal.returns-in_err-run_line
returns-in_err-run_line g c =
    let p = err_from_is_err_and c.from_residual.result c.from_residual.ensures.1 in
    rw (p.1, p.2) (lines_fail c.args.turns.now c.args.self.now c.loop-at.self c.run_line.new.self c.loop-at.at c.line_of-line.result c.in_err-run_line.field-0.0 _ _ c.loop-at.invariant c.line_of-line.ensures c.in_err-run_line.ensures)

pub loop-at-preserved : goal.loop-at-preserved
loop-at-preserved g c = lines_go c.args.turns.now c.args.self.now c.loop-at.self c.run_line.new.self c.loop-at.at c.line_of-line.result c.in_ok-run_line.field-0 _ _ c.loop-at.invariant c.line_of-line.ensures c.in_ok-run_line.ensures
