use Rattle.std.proofs.Common.{◌≡◌, ℕ, None, length}
use Rattle.hm_parts.specs.Lookups.{told_in}
use Rattle.hm_parts.proofs.pasts.none_told.Given as goal

-- none of those so far has any
abbrev pub invariant-loop : goal.invariant-loop
invariant-loop l = record {
  len : length l.told.items ≡ l.counter;
  empty : (m v : ℕ) → told_in l.told.items m v ≡ None;
}
