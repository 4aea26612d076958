use Rattle.std.proofs.Common.{◌≡◌, ℕ, None, length}
use Rattle.hm_parts.specs.Lookups.{set_in}
use Rattle.hm_parts.proofs.pasts.none_set.Given as goal

-- none of those so far has any
abbrev pub invariant-loop : goal.invariant-loop
invariant-loop l = record {
  len : length l.sets.items ≡ l.counter;
  empty : (m v : ℕ) → set_in l.sets.items m v ≡ None;
}
