-- What lists show after a write.
use Rattle.std.proofs.Common.{◌≡◌, ℕ, ◌<◌, Option, None, List, length, slice_set, slice_index_or, get_or, ap, ◌∙◌, arith}
use Rattle.std.proofs.lemmas.Bool.Decides.{nat_tests}
use Rattle.std.proofs.lemmas.Grind.{elements}
use Rattle.std.proofs.Math.Path.{fun_ext}
use Rattle.std.proofs.lemmas.List.{get_or_default}
use Rattle.hm_history.specs.Memory.Words.{with_at}

pub set_at : {X : Type 0} (xs : List X) (p : ℕ) (x d : X) (k : ℕ) → p < length xs → slice_index_or (slice_set xs p x) k d ≡ with_at (λ j. slice_index_or xs j d) p x k
set_at xs p x d k l = grind (arith, nat_tests, elements)

-- a reading of a list after a write
pub shown_set : {X Y : Type 0} (g : X → Y) (xs : List X) (p : ℕ) (x d : X) (k : ℕ) → p < length xs → g (slice_index_or (slice_set xs p x) k d) ≡ with_at (λ j. g (slice_index_or xs j d)) p (g x) k
shown_set g xs p x d k l = ap g (set_at xs p x d k l) ∙ grind (arith, nat_tests)

-- as functions
pub shown : {X Y : Type 0} (g : X → Y) (xs : List X) (p : ℕ) (x d : X) → p < length xs → (λ k. g (slice_index_or (slice_set xs p x) k d)) ≡ with_at (λ j. g (slice_index_or xs j d)) p (g x)
shown g xs p x d l = fun_ext (λ k. shown_set g xs p x d k l)

-- a read through an index
pub read_at : {X Y : Type 0} (g : Option X → Y) (xs : List (Option X)) (i m : ℕ) (d : Option X) → i ≡ m → i < length xs → g (get_or xs i d) ≡ g (slice_index_or xs m None)
read_at g xs i m d e l = let none : Option _ = None in ap g (get_or_default xs i d none l) ∙ ap (λ k. g (slice_index_or xs k None)) e

-- a write through an index
pub written_at : {X Y : Type 0} (g : X → Y) (xs : List X) (i p : ℕ) (x d : X) (y : Y) → i ≡ p → p < length xs → g x ≡ y → (λ k. g (slice_index_or (slice_set xs i x) k d)) ≡ with_at (λ j. g (slice_index_or xs j d)) p y
written_at g xs i p x d y e l h = rw e (shown g xs p x d l ∙ ap (with_at (λ j. g (slice_index_or xs j d)) p) h)
