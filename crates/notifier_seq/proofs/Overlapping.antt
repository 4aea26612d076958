-- The intervals that the tree finds are those in it that overlap.
use Rattle.std.proofs.Common.{◌≡◌, ℕ, ltb, Option, Some, None, List, [], ◌∷◌, length, find, is_some, refl, sym, arith, rules}
use Rattle.std.proofs.lemmas.Bool.{lt-ltb}
use Rattle.std.specs.Prelude.{IsSome, option_map}
use Rattle.notifier_seq.specs.declared.interval.Interval.{Interval}
use Rattle.interval_tree.specs.Intervals.{is_above}

pub some_found : (xs : List ℕ) → is_some (find (is_above None) xs) ≡ ltb 0 (length xs)
some_found [] = refl
some_found (x ∷ xs) = sym (lt-ltb 0 (length (x ∷ xs)) (omega arith))

-- a number has an interval exactly where it has a sequence
pub no_interval : (o : Option Interval) → None ≡ option_map (λ (x : Interval). x.seq) o → o ≡ None
no_interval None e = refl
no_interval (Some x) e = cc

pub some_interval : (o : Option Interval) (q : ℕ) → Some q ≡ option_map (λ (x : Interval). x.seq) o → IsSome o
some_interval None q e = cc
some_interval (Some x) q e = search rules
