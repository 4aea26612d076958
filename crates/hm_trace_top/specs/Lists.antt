-- Lists of traces: each begins after a line that names it.
use Rattle.std.specs.Prelude.{ℕ, eqb, Bool, true, false, ◌&&◌, if◌then◌else◌, List, [], ◌∷◌, codes}
use Rattle.std.specs.List.{ends_with, starts_with}

-- the line names the trace that begins after it: `trace NAME`
unfoldable pub is_header : List ℕ → Bool
is_header l = starts_with eqb l (codes "trace ") && ends_with eqb l (codes "\n")

-- the lines before the first that names a trace
abbrev pub body : List (List ℕ) → List (List ℕ)
body [] = []
body (l ∷ ls) = if is_header l then [] else l ∷ body ls

-- those from it on
abbrev pub after_body : List (List ℕ) → List (List ℕ)
after_body [] = []
after_body (l ∷ ls) = if is_header l then l ∷ ls else after_body ls

-- a trace of a list: the line that names it, and its own lines
pub record Named : Type 0 where
  pub header : List ℕ
  pub lines : List (List ℕ)

-- the traces of some lines
abbrev pub traces_in : List (List ℕ) → List Named
traces_in [] = []
traces_in (l ∷ ls) =
    if is_header l then record { header = l; lines = body ls } ∷ traces_in ls else traces_in ls

-- what is left of a list: the next trace comes first, if there is one
abbrev pub is_rest : List (List ℕ) → Bool
is_rest [] = true
is_rest (l ∷ ls) = is_header l

-- the first line names a trace
abbrev pub is_list : List (List ℕ) → Bool
is_list [] = false
is_list (l ∷ ls) = is_header l
