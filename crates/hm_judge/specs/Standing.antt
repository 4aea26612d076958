-- How an actor stands where a line is bad: what is due to it, whom it waits for, or that it has nothing left to do.
use Rattle.std.specs.Prelude.{ℕ, ◌+◌, List, [], ◌∷◌, ◌++◌, codes}
use Rattle.hm_history.specs.declared.Progress.{Progress}
use Rattle.hm_report.specs.Report.{entry_line}
use Rattle.hm_report.specs.Words.{actor_text}
use Rattle.hm_check.specs.Waiting.{why_text}

-- the line of an actor, if the next entry has this position
abbrev pub standing_line : ℕ → ℕ → Progress → List ℕ
standing_line at a (Progress.Did e) = codes "due " ++ (actor_text a ++ (32 ∷ entry_line at e))
standing_line at a (Progress.Waiting why) =
    codes "waits " ++ (actor_text a ++ (32 ∷ (why_text (codes " ") why ++ 10 ∷ [])))
standing_line at a Progress.Idle = codes "idle " ++ (actor_text a ++ 10 ∷ [])

-- the lines of actors in a row, the first of which has this number
abbrev pub standing_lines : ℕ → ℕ → List Progress → List ℕ
standing_lines at a [] = []
standing_lines at a (p ∷ ps) = standing_line at a p ++ standing_lines at (a + 1) ps
