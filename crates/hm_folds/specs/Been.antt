-- By number, which processes were there at some time.
use Rattle.std.specs.Prelude.{ℕ, Bool, false, List, slice_index_or}
use Rattle.hm_history.specs.Memory.Plain.{plain_start, plain_next}
use Rattle.hm_history.specs.declared.Kind.{Kind}

-- a process was there at some time; a number past the list was not
abbrev pub been_of : List Bool → ℕ → Bool
been_of xs p = slice_index_or xs p false

-- after an entry, for which the other parts of the state do not count
abbrev pub been_next : (ℕ → Bool) → Kind → ℕ → Bool
been_next f k = (plain_next (record plain_start { been = f }) k).been
