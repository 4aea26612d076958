-- The report of a script and a history: the script's text, its entries, what has not ended, and how many entries there
-- are.
use Rattle.std.specs.Prelude.{ℕ, ◌+◌, ◌==◌, if◌then◌else◌, List, [], ◌∷◌, ◌++◌, length, codes}
use Rattle.std.specs.List.{flat_map}
use Rattle.std.specs.Fmt.{decimal}
use Rattle.hm_base.specs.Program.{Program}
use Rattle.hm_history.specs.Memory.Words.{numbers}
use Rattle.hm_history.specs.Kernel.Going.{ops_of, state_of}
use Rattle.hm_history.specs.declared.Entry.{Entry}
use Rattle.hm_script.specs.Spelling.{line, text}
use Rattle.hm_report.specs.Words.{actor_text, kind_words}

-- the line of an entry, with its position from 0
abbrev pub entry_line : ℕ → Entry → List ℕ
entry_line at e = line (decimal at ∷ actor_text e.actor ∷ kind_words e.kind)

-- the lines of entries in a row, the first of which has this position
abbrev pub entry_lines : ℕ → List Entry → List ℕ
entry_lines at [] = []
entry_lines at (e ∷ es) = entry_line at e ++ entry_lines (at + 1) es

-- the line of an actor whose operation `index`, of `count`, is its first that has not ended
abbrev pub unfinished_line : ℕ → ℕ → ℕ → List ℕ
unfinished_line a index count =
    if index == count then [] else line (codes "unfinished" ∷ actor_text a ∷ decimal index ∷ [])

-- the lines of the first actors, from the numbers of their first operations that have not ended
abbrev pub unfinished_among : Program → (ℕ → ℕ) → ℕ → List ℕ
unfinished_among c ended actors = flat_map (λ a. unfinished_line a (ended a) (length (ops_of c a))) (numbers 0 actors)

-- a line for each actor whose operations have not all ended, in the order of the actors
abbrev pub unfinished_lines : Program → (ℕ → ℕ) → List ℕ
unfinished_lines c ended = unfinished_among c ended (length c.actors)

-- the line between the script and its entries
abbrev pub history_line : List ℕ
history_line = line (codes "history" ∷ [])

-- the last line of a report, with the number of entries; a report without it was cut off
abbrev pub end_line : ℕ → List ℕ
end_line count = line (codes "end" ∷ decimal count ∷ [])

-- the report, if this gives how many operations of each actor have ended
abbrev pub report_by : Program → List Entry → (ℕ → ℕ) → List ℕ
report_by c h ended =
    text c ++ (history_line ++ (entry_lines 0 h ++ (unfinished_lines c ended ++ end_line (length h))))

-- the number, from 0, of the actor's first operation that has not ended; all have ended if it is their count
abbrev pub first_unended : Program → List Entry → ℕ → ℕ
first_unended c h a = ((state_of c h).going a).index

-- the one text of a script and a history, byte for byte
abbrev pub report : Program → List Entry → List ℕ
report c h = report_by c h (first_unended c h)
