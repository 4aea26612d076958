use Rattle.std.proofs.Common.{◌≡◌, ℕ, List, length}
use Rattle.std.specs.Prelude.{slice_get}
use Rattle.hm_advisor.specs.Tallies.{count_of}
use Rattle.hm_advisor.specs.declared.tally.Tally.{Tally}
use Rattle.hm_advisor.proofs.tallies.Tallies.new.Given as goal

-- as many tallies as turns, none with a count
pub record SoFar (tallies : List Tally) (count : ℕ) : Type 0 where
  pub len : length tallies ≡ count
  pub none : (k v : ℕ) → count_of v (slice_get tallies k) ≡ 0

abbrev pub invariant-loop : goal.invariant-loop
invariant-loop l = SoFar l.items.items l.counter
