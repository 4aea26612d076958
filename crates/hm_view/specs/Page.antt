-- The page of a script and a history.
use Rattle.std.specs.Prelude.{ℕ, List, [], ◌∷◌, ◌++◌, length, take, codes}
use Rattle.std.specs.Fmt.{decimal}
use Rattle.hm_base.specs.Program.{Program}
use Rattle.hm_history.specs.declared.Entry.{Entry}
use Rattle.hm_script.specs.Spelling.{text}
use Rattle.hm_check.specs.Parts.{tail_of}
use Rattle.hm_view.specs.Changes.{first_lines}
use Rattle.hm_view.specs.Standing.{standing_line}
use Rattle.hm_view.specs.Rows.{rows, findings}
use Rattle.hm_view.specs.declared.page.TheConstants.{HEAD, TAIL}

-- the line before the rows, with the position of the first that is shown
abbrev pub rows_line : ℕ → List ℕ
rows_line from = codes "rows " ++ (decimal from ++ 10 ∷ [])

-- the constant parts: how the page looks, and the script that shows its lines
unfoldable pub page_head : List ℕ
page_head = HEAD.now

unfoldable pub page_end : List ℕ
page_end = TAIL.now

-- the script and the findings of the whole history
unfoldable pub front : Program → List Entry → List ℕ
front c h = text c ++ (codes "findings\n" ++ findings h (length h))

-- what holds before the first row, the rows before position `to`, of which those from `from` on are shown, and how each
-- actor stands after them
unfoldable pub middle : Program → List Entry → ℕ → ℕ → List ℕ
middle c h from to = rows_line from ++ (first_lines ++ (rows c h from to ++ standing_line c (take to h)))

-- what follows the rows
unfoldable pub ending : Program → List Entry → List ℕ
ending c h = tail_of c h ++ page_end

-- what follows the page's head: its lines, and the script that shows them
unfoldable pub behind_head : Program → List Entry → ℕ → ℕ → List ℕ
behind_head c h from to = front c h ++ (middle c h from to ++ ending c h)

unfoldable pub page_text : Program → List Entry → ℕ → ℕ → List ℕ
page_text c h from to = page_head ++ behind_head c h from to
