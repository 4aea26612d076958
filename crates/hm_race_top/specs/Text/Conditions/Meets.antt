-- Whether an outcome meets the body of a condition. An outcome is here the text of its answers' lines.
use Rattle.std.specs.Prelude.{ℕ, ◌==◌, Bool, not, if◌then◌else◌, Some, None, List, [], ◌∷◌, ◌++◌, filter, length}
use Rattle.std.specs.List.{list_any, list_all}
use Rattle.std.specs.Str.{bytes_eq}
use Rattle.hm_script.specs.Automaton.{lines}
use Rattle.hm_race_top.specs.declared.text.conditions.condition.Literal.{Literal}

-- the line is this text and a line feed
abbrev pub is_ended : List ℕ → List ℕ → Bool
is_ended text line = bytes_eq line (text ++ 10 ∷ [])

-- one of the lines is this one
abbrev pub has_line : List ℕ → List ℕ → Bool
has_line all text = list_any (is_ended text) (lines all)

-- how many of the lines are this one
abbrev pub line_count : List ℕ → List ℕ → ℕ
line_count all text = length (filter (is_ended text) (lines all))

-- one of the lines is that of the literal; or as many as the literal asks for
abbrev pub is_there : List ℕ → Literal → Bool
is_there all l = elim l.count as (λ z. Bool) [
  | None ↦ has_line all l.line
  | Some n ↦ line_count all l.line == n
]

-- the outcome has the answer that is wanted, or has not that which is not
abbrev pub holds_in : List ℕ → Literal → Bool
holds_in all l = if l.wanted then is_there all l else not (is_there all l)

-- each of the literals holds
abbrev pub all_hold : List ℕ → List Literal → Bool
all_hold all ls = list_all (holds_in all) ls

-- one of the alternatives holds
abbrev pub meets : List (List Literal) → List ℕ → Bool
meets body all = list_any (all_hold all) body
