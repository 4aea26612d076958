use Rattle.std.proofs.Common.{◌≡◌, ℕ, ◌<◌, false}
use Rattle.hm_race_lines.specs.Endings.{ends_actor}
use Rattle.hm_race_lines.proofs.endings.may_end_with.Given as goal

-- the line is that of none of the actors so far
abbrev pub invariant-loop-actor : goal.invariant-loop-actor
invariant-loop-actor l = (a : ℕ) → a < l.actor → ends_actor l.script l.line a ≡ false
