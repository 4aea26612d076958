-- Callbacks that lose entries of their spans.
use Rattle.std.proofs.Common.{refl, arith, length}
use Rattle.std.proofs.lemmas.Bool.{lt-ltb}
use Rattle.std.specs.Prelude.{◌≡◌, ℕ, ◌+◌, Bool, true, ◌||◌, nat_lt, Option, Some, None, is_none, List}
use Rattle.std.specs.List.{list_any}
use Rattle.hm_protocol.specs.Words.{drop_if}
use Rattle.hm_protocol.specs.Known.{Slot}
use Rattle.hm_verdicts.specs.Changes.{Adds}
use Rattle.hm_verdicts.proofs.Fewer.{fewer, some_fewer}

-- some go
pub adds_dropped : (after : Option ℕ) (late copied : ℕ) (p : Slot → Bool) (here left : List Slot)
    → Adds after late copied here left
    → Adds after late copied (drop_if p here) left
adds_dropped None late copied p here left h = h
adds_dropped (Some q) late copied p here left h = omega (arith, h, fewer p here)

-- one more may then have been erased
pub adds_more : (after : Option ℕ) (late copied : ℕ) (p : Slot → Bool) (here left : List Slot)
    → Adds after late copied here left → list_any p here ≡ true
    → (is_none after || nat_lt (late + copied + length (drop_if p here)) (length left)) ≡ true
adds_more None late copied p here left h e = refl
adds_more (Some q) late copied p here left h e = lt-ltb (late + copied + length (drop_if p here)) (length left)
    (omega (arith, h, some_fewer p here e))
