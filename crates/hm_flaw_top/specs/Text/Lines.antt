-- The text of what was found of one driver.
use Rattle.std.specs.Prelude.{ℕ, ◌+◌, Bool, Option, Some, None, List, [], ◌∷◌, ◌++◌, length, codes}
use Rattle.std.specs.Fmt.{decimal}
use Rattle.hm_flaws.specs.declared.parts.Part.{Part}
use Rattle.hm_history.specs.declared.Entry.{Entry}
use Rattle.hm_history.specs.declared.Progress.{Progress}
use Rattle.hm_race_top.specs.Text.Text.{states_line}
use Rattle.hm_report.specs.Report.{entry_line, entry_lines}
use Rattle.hm_flaw_search.specs.Outcomes.{extent, nothing_word}
use Rattle.hm_flaw_top.specs.Text.Names.{part_text}
use Rattle.hm_flaw_search.specs.declared.answer.Answer.{Answer}
use Rattle.hm_flaw_search.specs.declared.answer.Found.{Found}
use Rattle.hm_flaw_search.specs.declared.answer.Owed.{Owed}

-- the line of the part that is broken
abbrev pub breaks_line : Part → List ℕ
breaks_line part = codes "breaks " ++ (part_text part ++ 10 ∷ [])

-- what was due to an actor at this position: the line of an entry, or that it waits, or is idle
abbrev pub due_line : ℕ → ℕ → Progress → List ℕ
due_line at a (Progress.Did e) = entry_line at e
due_line at a (Progress.Waiting why) = decimal at ++ (codes " a" ++ (decimal a ++ codes " waits\n"))
due_line at a Progress.Idle = decimal at ++ (codes " a" ++ (decimal a ++ codes " idle\n"))

-- the line of what was owed first in a race, if something was
abbrev pub owed_text : Option Owed → List ℕ
owed_text None = []
owed_text (Some w) = codes "owed " ++ due_line w.at w.actor w.due

-- the entries as lines of a report, of which the first has this position; then the one that breaks a part; what was
-- owed; and the part
abbrev pub broken_text : ℕ → List Entry → Entry → Option Owed → Part → List ℕ
broken_text start es e owed part =
    entry_lines start es ++ (entry_line (start + length es) e ++ (owed_text owed ++ breaks_line part))

-- the entries of the race, as lines of a report, what was owed in it, and what they come to
abbrev pub found_text : ℕ → Bool → Option Owed → Found → List ℕ
found_text start unused owed (Found.Broken es e part) = broken_text start es e owed part
found_text start unused owed (Found.Stuck es) = entry_lines start es ++ (owed_text owed ++ codes "stuck\n")
found_text start unused owed Found.Nothing = nothing_word unused ++ 10 ∷ []

-- the same, and how many states are known, after a set-up of this length
unfoldable pub answer_text : ℕ → Answer → List ℕ
answer_text start a = found_text start a.unused a.owed a.found ++ states_line a.states (extent a.found a.end)
