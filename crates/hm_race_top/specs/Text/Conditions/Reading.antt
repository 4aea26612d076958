-- The text of what has been read of a body.
use Rattle.std.specs.Prelude.{ℕ, Bool, true, ◌&&◌, List, [], ◌∷◌, ◌++◌, codes}
use Rattle.std.specs.List.{flat_map}
use Rattle.std.specs.Fmt.{decimal}
use Rattle.hm_script.specs.Splitting.{split}
use Rattle.hm_race_top.specs.declared.text.conditions.condition.Literal.{Literal}
use Rattle.hm_race_top.specs.declared.text.conditions.reading.Reading.{Reading}
use Rattle.hm_race_top.specs.declared.text.conditions.words.Place.{Place}
use Rattle.hm_race_top.specs.Text.Conditions.Grammar.{literal_text, all_text, are_plain, count_text}
use Rattle.hm_race_top.specs.Text.Conditions.Grammar.{is_answer, is_front, is_plain, not_text}

-- the literal that is being read
abbrev pub literal_of : Reading → Literal
literal_of r = record { wanted = r.wanted; count = r.count; line = r.line }

-- its text so far
abbrev pub open_text : Place → Literal → List ℕ
open_text Place.Fresh l = []
open_text Place.Negated l = codes " not"
open_text (Place.Counted n) l = not_text l.wanted ++ 32 ∷ decimal n
open_text Place.Times l = not_text l.wanted ++ count_text l.count
open_text Place.Opened l = literal_text l
open_text Place.Inside l = literal_text l

-- the text of alternatives, each with the word after it
abbrev pub ended_text : List (List Literal) → List ℕ
ended_text body = flat_map (λ ls. all_text ls ++ codes " or") body

-- the text of literals, each with the word after it
abbrev pub held_text : List Literal → List ℕ
held_text ls = flat_map (λ l. literal_text l ++ codes " and") ls

-- the text so far
abbrev pub so_far : Reading → List ℕ
so_far r = ended_text r.body ++ (held_text r.literals ++ open_text r.place (literal_of r))

-- the words of the literal that is being read are those of an answer so far
abbrev pub line_stands : Place → List ℕ → Bool
line_stands Place.Fresh line = true
line_stands Place.Negated line = true
line_stands (Place.Counted n) line = true
line_stands Place.Times line = true
line_stands Place.Opened line = is_front (split line)
line_stands Place.Inside line = is_answer (split line)

-- and those of all others are those of answers
abbrev pub stands : Reading → Bool
stands r = is_plain r.body && (are_plain r.literals && line_stands r.place r.line)
