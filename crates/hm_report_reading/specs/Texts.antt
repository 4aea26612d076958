-- The text that tells a script, a history and which operations have not ended, be the history legal or not.
use Rattle.std.specs.Prelude.{ℕ, ◌≤◌, ◌==◌, if◌then◌else◌, List, [], ◌∷◌, ◌++◌, length, All}
use Rattle.std.specs.List.{flat_map}
use Rattle.hm_base.specs.Program.{Program, IsScript}
use Rattle.hm_history.specs.Kernel.Going.{ops_of}
use Rattle.hm_history.specs.Memory.Words.{numbers}
use Rattle.hm_history.specs.declared.Entry.{Entry}
use Rattle.hm_report_reading.specs.Entries.{FitsUnfinished, unfinished_text}
use Rattle.hm_report_reading.specs.Fits.{FitsEntry}
use Rattle.hm_report_reading.specs.declared.reader.Unfinished.{Unfinished}
use Rattle.hm_report.specs.Report.{end_line, entry_lines, first_unended, history_line}
use Rattle.hm_script.specs.Spelling.{text}

-- the lines of operations that have not ended
abbrev pub unfinished_texts : List Unfinished → List ℕ
unfinished_texts us = flat_map (λ u. unfinished_text u.actor u.index) us

-- the script, its entries, the operations that have not ended, and how many entries there are
abbrev pub text_of : Program → List Entry → List Unfinished → List ℕ
text_of c h us = text c ++ (history_line ++ (entry_lines 0 h ++ (unfinished_texts us ++ end_line (length h))))

-- they have a text: the script is one, the numbers are in range, and the history is not too long
pub record HasText (c : Program) (h : List Entry) (us : List Unfinished) : Type 0 where
  pub script : IsScript c
  pub entries : All FitsEntry h
  pub few : length h ≤ 2000000
  pub unfinished : All FitsUnfinished us

-- the actor, unless all of its operations have ended
abbrev pub unended_of : ℕ → ℕ → ℕ → List Unfinished
unended_of a index count = if index == count then [] else record { actor = a; index = index } ∷ []

-- which operations have not ended by the history, as its report says
abbrev pub unended : Program → List Entry → List Unfinished
unended c h = flat_map (λ a. unended_of a (first_unended c h a) (length (ops_of c a))) (numbers 0 (length c.actors))
