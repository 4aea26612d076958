use Rattle.std.proofs.Common.{◌-◌}
use Rattle.hm_history.specs.Kernel.Run.{turns}
use Rattle.hm_history.specs.Kernel.Overrun.{overruns_turns}
use Rattle.hm_machine.proofs.Turns.{Left}
use Rattle.hm_machine.proofs.Machine.turns.Given as goal

abbrev pub invariant-loop-made : goal.invariant-loop-made
invariant-loop-made g l = Left l.fn.self l.self l.actor (l.count - l.made) (turns l.fn.self.script l.fn.self.history l.actor l.count) (overruns_turns l.fn.self.script l.fn.self.history l.actor l.count)
