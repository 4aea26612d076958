-- Which rows are asked for.
use Rattle.std.specs.Prelude.{ℕ, ◌-◌, List, [], ◌∷◌, Bool, nat_le, if◌then◌else◌, Option, Some, None, Result, Ok, Err}
use Rattle.hm_script.specs.Numerals.{number}
use Rattle.hm_script.specs.declared.reason.Reason.{Reason}
use Rattle.hm_view.specs.declared.asked.Asked.{Asked}

-- the rows from one number up to another, if both words spell one
abbrev pub part_of : Result ℕ Reason → Result ℕ Reason → Option Asked
part_of (Ok from) (Ok to) = Some (Asked.Part from to)
part_of (Ok from) (Err why) = None
part_of (Err why) to = None

-- the rows that two words ask for
abbrev pub part : List ℕ → List ℕ → Option Asked
part from to = part_of (number from) (number to)

-- what the words ask for; none if they are none of the forms
abbrev pub asked_of : List (List ℕ) → Option Asked
asked_of [] = Some Asked.All
asked_of (from ∷ to ∷ []) = part from to
asked_of _ = None

-- the position of the first row
abbrev pub first : Asked → ℕ
first Asked.All = 0
first (Asked.Part from to) = from

-- the position after the last, of n
abbrev pub behind : Asked → ℕ → ℕ
behind Asked.All n = n
behind (Asked.Part from to) n = if nat_le to n then to else n

-- the rows are there, of n
abbrev pub is_there : Asked → ℕ → Bool
is_there x n = nat_le (first x) (behind x n)

-- they are few enough for a page
abbrev pub fits : Asked → ℕ → Bool
fits x n = nat_le (behind x n - first x) 20000
