use Rattle.std.proofs.lemmas.Result.{err_from_is_err_and}
use Rattle.hm_machine.proofs.Lines.{lines_fail, lines_go, own_line}
use Rattle.hm_machine.proofs.Machine.run.Goals as goal

pub returns-in_err-run_line : goal.returns-in_err-run_line
returns-in_err-run_line g c =
    let p = err_from_is_err_and c.from_residual.result c.from_residual.ensures.1 in
    let s = c.args.self.now in
    let at = own_line s c.loop-at.self s.script.schedule c.loop-at.at _ _ c.line-line.result c.loop-at.invariant c.line-line.ensures in
    rw (p.1, p.2) (lines_fail s.script.schedule s c.loop-at.self c.run_line.new.self c.loop-at.at c.line-line.result c.in_err-run_line.field-0.0 _ _ c.loop-at.invariant at c.in_err-run_line.ensures)

pub loop-at-preserved : goal.loop-at-preserved
loop-at-preserved g c =
    let s = c.args.self.now in
    let at = own_line s c.loop-at.self s.script.schedule c.loop-at.at _ _ c.line-line.result c.loop-at.invariant c.line-line.ensures in
    lines_go s.script.schedule s c.loop-at.self c.run_line.new.self c.loop-at.at c.line-line.result c.in_ok-run_line.field-0 _ _ c.loop-at.invariant at c.in_ok-run_line.ensures
