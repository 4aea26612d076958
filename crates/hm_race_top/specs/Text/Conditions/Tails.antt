-- What is left of a text after a word.
use Rattle.std.specs.Borrow.{Bor}
use Rattle.std.specs.Prelude.{ℕ, ◌+◌, Option, Some, None, List, [], ◌∷◌, length}
use Rattle.hm_script.specs.Splitting.{split}

-- its bytes, with the space before them
abbrev pub tail_of : Option (Bor (List ℕ)) → List ℕ
tail_of None = []
tail_of (Some text) = 32 ∷ text.now

-- its words
abbrev pub words_in : Option (Bor (List ℕ)) → List (List ℕ)
words_in None = []
words_in (Some text) = split text.now

-- how many bytes it has
abbrev pub size_of : Option (Bor (List ℕ)) → ℕ
size_of None = 0
size_of (Some text) = length text.now + 1
