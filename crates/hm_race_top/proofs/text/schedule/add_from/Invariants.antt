use Rattle.std.proofs.Common.{◌≡◌, ℕ, ◌≤◌, List, ◌++◌, drop}
use Rattle.hm_race_top.specs.Text.Schedule.{packed_from}
use Rattle.hm_race_top.specs.Text.Text.{lines_text}
use Rattle.hm_race_top.proofs.text.schedule.add_from.Given as goal

-- the lines so far were added, but for the last, which may become longer
pub record SoFar (old now : List ℕ) (first actor count : ℕ) (more rest : List ℕ) : Type 0 where
  pub text : now ++ lines_text (packed_from actor count rest) ≡ old ++ lines_text (packed_from first 1 more)
  pub few : count ≤ 1000000

abbrev pub invariant-loop-next : goal.invariant-loop-next
invariant-loop-next l = SoFar l.fn.text l.text l.fn.first l.actor l.count l.more (drop l.next-index l.more)
