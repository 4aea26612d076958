use Rattle.std.proofs.Common.{◌≡◌, ℕ, None, length}
use Rattle.hm_parts.specs.Lookups.{begun_in}
use Rattle.hm_parts.proofs.pasts.none_begun.Given as goal

-- none of those so far has any
abbrev pub invariant-loop : goal.invariant-loop
invariant-loop l = record {
  len : length l.begun.items ≡ l.counter;
  empty : (m v : ℕ) → begun_in l.begun.items m v ≡ None;
}
