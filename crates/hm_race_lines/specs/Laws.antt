-- The law, as a statement.
use Rattle.std.specs.Prelude.{◌≡◌, ℕ, true, List, ◌∷◌, ◌++◌, []}
use Rattle.hm_base.specs.Program.{Program, IsScript}
use Rattle.hm_history.specs.Kernel.Run.{run}
use Rattle.hm_history.specs.Laws.{DueFrom}
use Rattle.hm_history.specs.declared.Entry.{Entry}
use Rattle.hm_race_laws.specs.Closed.{IsListed}
use Rattle.hm_race_laws.specs.Outcomes.{answers_of, outcome}
use Rattle.hm_script.specs.Automaton.{lines}
use Rattle.hm_race_lines.specs.Answers.{answer_lines}
use Rattle.hm_race_lines.specs.Endings.{may_end_with}

-- each line of an outcome is one that an operation of the script may end with: after every list of entries that are due
-- one after the other from the set-up on
abbrev pub LinesMayEnd : Type 0
LinesMayEnd =
    (c : Program) → IsScript c → (es : List Entry) → DueFrom c (run c) es → (line : List ℕ)
    → IsListed (lines (answer_lines (outcome c (answers_of es)))) (line ++ 10 ∷ []) → may_end_with c line ≡ true
