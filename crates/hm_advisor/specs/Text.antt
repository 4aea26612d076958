-- The text of an advice.
use Rattle.std.specs.Prelude.{ℕ, if◌then◌else◌, List, [], ◌∷◌, ◌++◌, length, codes}
use Rattle.std.specs.List.{flat_map}
use Rattle.std.specs.Fmt.{decimal}
use Rattle.hm_script.specs.Spelling.{line}
use Rattle.hm_report.specs.Words.{mirror_text}
use Rattle.hm_advisor.specs.declared.counts.Count.{Count}
use Rattle.hm_advisor.specs.declared.advice.Move.{Move}
use Rattle.hm_advisor.specs.declared.advice.Advice.{Advice}

-- the line of a count: its mirror and page, and how often the CPU and the device accessed the page
abbrev pub count_line : Count → List ℕ
count_line c = line (codes "count" ∷ mirror_text c.mirror ∷ decimal c.page ∷ decimal c.cpu ∷ decimal c.dev ∷ [])

-- the line of a move, which is the operation of a script that makes it
abbrev pub move_line : Move → List ℕ
move_line m =
    line ((if m.to_device then codes "todev" else codes "tosys")
    ∷ decimal m.mirror ∷ decimal m.page ∷ codes "1" ∷ [])

-- how many counts and moves there are
abbrev pub end_line : ℕ → ℕ → List ℕ
end_line counts moves = line (codes "end" ∷ decimal counts ∷ decimal moves ∷ [])

-- the text of an advice, byte for byte: its counts, its moves, and how many there are
abbrev pub advice_text : Advice → List ℕ
advice_text a =
    flat_map count_line a.counts ++ (flat_map move_line a.moves ++ end_line (length a.counts) (length a.moves))
