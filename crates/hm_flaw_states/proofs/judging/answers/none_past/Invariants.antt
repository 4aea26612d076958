use Rattle.std.proofs.Common.{◌≡◌, ◌-◌, true, drop, length}
use Rattle.hm_folds.specs.Ranges.{end_below}
use Rattle.hm_flaw_states.proofs.judging.answers.none_past.Given as goal

abbrev pub invariant-loop-done : goal.invariant-loop-done
invariant-loop-done l = end_below (drop (length l.areas - l.done) l.areas) ≡ true
