-- The bytes that the processes have written.
use Rattle.std.specs.Prelude.{ℕ, Option, Some, None, List, slice_get}
use Rattle.hm_folds.specs.Stored.{byte_in}
use Rattle.hm_folds.specs.declared.stored.Stored.{Stored}

-- a byte of a process that may not be kept; what was never written is 0
abbrev pub byte_of : ℕ → Option Stored → ℕ
byte_of a None = 0
byte_of a (Some x) = byte_in x a

-- the byte of a process at an address; zero for one that is not kept
abbrev pub bytes_of : List Stored → ℕ → ℕ → ℕ
bytes_of xs p a = byte_of a (slice_get xs p)
