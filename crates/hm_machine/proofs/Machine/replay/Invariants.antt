use Rattle.std.specs.Prelude.{fold}
use Rattle.hm_history.specs.Kernel.Overrun.{overruns_lines}
use Rattle.hm_history.specs.Kernel.Run.{line_run}
use Rattle.hm_machine.proofs.Lines.{Left}
use Rattle.hm_machine.proofs.Machine.replay.Given as goal

abbrev pub invariant-loop-at : goal.invariant-loop-at
invariant-loop-at g l =
    let s = l.fn.self in
    Left l.turns s l.self l.at (fold (line_run s.script) s.history l.turns) (overruns_lines s.script s.history l.turns)
