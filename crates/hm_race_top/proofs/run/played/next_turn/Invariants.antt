use Rattle.std.proofs.Common.{◌≡◌, ◌<◌, ℕ, List, false}
use Rattle.hm_race_states.specs.Keyed.{form_in}
use Rattle.hm_race_top.specs.Run.Systems.{race_of}
use Rattle.hm_search.specs.Systems.{form_after, point_at}
use Rattle.hm_race_top.proofs.run.played.next_turn.Given as goal

-- nothing is due to the actor that is preferred, nor to those so far
abbrev pub invariant-loop-number : goal.invariant-loop-number
invariant-loop-number l = (turns : List ℕ) → form_after (race_of l.race.script l.race.set_up) turns ≡ form_in l.key
    → ((race_of l.race.script l.race.set_up).is_due (point_at (race_of l.race.script l.race.set_up) turns) l.fn.first ≡ false)
    × ((a : ℕ) → a < l.number → (race_of l.race.script l.race.set_up).is_due (point_at (race_of l.race.script l.race.set_up) turns) a ≡ false)
