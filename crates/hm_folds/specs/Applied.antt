-- What a fold answers to an entry.
use Rattle.std.specs.Prelude.{Bool, true, false, Result, Ok, Err}
use Rattle.hm_history.specs.declared.Kind.{Kind}
use Rattle.hm_history.specs.declared.FoldError.{FoldError}
use Rattle.hm_history.specs.declared.FoldError.TheVariants.{NotLegal, NoMemory}

-- the entry may not follow
abbrev pub is_not_legal : {X : Type 0} → Result X FoldError → Bool
is_not_legal (Ok x) = false
is_not_legal (Err NotLegal) = true
is_not_legal (Err NoMemory) = false

-- memory ran out
abbrev pub is_no_memory : {X : Type 0} → Result X FoldError → Bool
is_no_memory (Ok x) = false
is_no_memory (Err NotLegal) = false
is_no_memory (Err NoMemory) = true

-- an entry for which the plain state may take memory: it writes bytes, or gives a child those of its parent
abbrev pub writes_bytes : Kind → Bool
writes_bytes (Kind.Stored x at bs) = true
writes_bytes (Kind.Added m at was now) = true
writes_bytes (Kind.Forked p child) = true
writes_bytes k = false

-- an entry for which the places may take memory: a page, a frame or a table entry may be new
abbrev pub takes_room : Kind → Bool
takes_room (Kind.Place p v x) = true
takes_room (Kind.Take f) = true
takes_room (Kind.Drop f) = true
takes_room (Kind.Committed f g) = true
takes_room (Kind.Set m v f w from) = true
takes_room k = false
