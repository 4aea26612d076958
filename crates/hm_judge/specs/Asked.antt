-- What is asked for.
use Rattle.std.specs.Prelude.{ℕ, List, [], ◌∷◌, if◌then◌else◌, Option, Some, None, codes}
use Rattle.std.specs.Str.{bytes_eq}
use Rattle.hm_judge.specs.declared.asked.Asked.{Asked}

-- what one word asks for
abbrev pub asked_by : List ℕ → Option Asked
asked_by word =
    if bytes_eq word (codes "--standing") then Some Asked.Standing
    else if bytes_eq word (codes "--all") then Some Asked.All else None

-- what the words ask for; none if they are none of the forms
abbrev pub asked_of : List (List ℕ) → Option Asked
asked_of [] = Some Asked.Verdict
asked_of (word ∷ []) = asked_by word
asked_of _ = None
