-- How many guards are of a process, after a write.
use Rattle.std.proofs.Common.{◌≡◌, ℕ, ◌+◌, ◌-◌, ◌<◌, Bool, true, false, cond, ◌==◌, ◌&&◌, Option, Some, None, is_none, List, length, slice_set, slice_index_or, refl, sym, ap, ◌∙◌, arith}
use Rattle.std.specs.Prelude.{count_by}
use Rattle.std.proofs.lemmas.Bool.Decides.{nat_tests}
use Rattle.std.proofs.lemmas.List.Sums.{sum_by-set}
use Rattle.hm_history.specs.Memory.Words.{with_at}
use Rattle.hm_history.specs.Memory.Sequences.{Guarded, guard_passes}
use Rattle.hm_history.proofs.Updates.{with_case}
use Rattle.hm_folds.specs.declared.guards.KeptGuard.{KeptGuard}
use Rattle.hm_folds.specs.Kept.{guard_of, guards_proc}

abbrev pub one_if : Bool → ℕ
one_if b = cond b 1 0

pub count_set : {X : Type 0} (p : X → Bool) (xs : List X) (i : ℕ) (y d : X) → i < length xs → count_by p (slice_set xs i y) + one_if (p (slice_index_or xs i d)) ≡ count_by p xs + one_if (p y)
count_set p xs i y d l = sum_by-set (λ x. one_if (p x)) xs i y d l

-- an actor without a guard begins one
pub count_begun : (gs : List (Option KeptGuard)) (a p : ℕ) (g : KeptGuard) → a < length gs → is_none (guard_of (slice_index_or gs a None)) ≡ true → g.proc ≡ p → (k : ℕ)
    → count_by (guards_proc k) (slice_set gs a (Some g)) ≡ with_at (λ j. count_by (guards_proc j) gs) p (count_by (guards_proc p) gs + 1) k
count_begun gs a p g l n e k = by (slice_index_or gs a None) refl
  where
    by : (o : Option KeptGuard) → slice_index_or gs a None ≡ o → count_by (guards_proc k) (slice_set gs a (Some g)) ≡ with_at (λ j. count_by (guards_proc j) gs) p (count_by (guards_proc p) gs + 1) k
    by (Some h) i = absurd (let no : false ≡ true = sym (ap (λ o. is_none (guard_of o)) i) ∙ n in let b : ⊥ = cc in b)
    by None i =
        let c = count_set (guards_proc k) gs a (Some g) None l in
        let z : guards_proc k (slice_index_or gs a None) ≡ false = ap (guards_proc k) i in
        with_case (λ j y. k ≡ j → count_by (guards_proc k) (slice_set gs a (Some g)) ≡ y) (λ j. count_by (guards_proc j) gs) p (count_by (guards_proc p) gs + 1) k
        (λ f h. grind (arith, nat_tests)) (λ ne h. grind (arith, nat_tests)) refl

-- an actor ends its guard
pub count_ended : (gs : List (Option KeptGuard)) (a p : ℕ) → a < length gs → ((k : ℕ) → guards_proc k (slice_index_or gs a None) ≡ (p == k)) → (k : ℕ)
    → count_by (guards_proc k) (slice_set gs a None) ≡ with_at (λ j. count_by (guards_proc j) gs) p (count_by (guards_proc p) gs - 1) k
count_ended gs a p l e k =
    let c = count_set (guards_proc k) gs a None None l in
    let z = e k in
    with_case (λ j y. k ≡ j → count_by (guards_proc k) (slice_set gs a None) ≡ y) (λ j. count_by (guards_proc j) gs) p (count_by (guards_proc p) gs - 1) k
    (λ f h. grind (arith, nat_tests)) (λ ne h. grind (arith, nat_tests)) refl

-- a guard is replaced by one of its process
pub count_same : (gs : List (Option KeptGuard)) (a : ℕ) (y : Option KeptGuard) → a < length gs → ((k : ℕ) → guards_proc k y ≡ guards_proc k (slice_index_or gs a None)) → (k : ℕ)
    → count_by (guards_proc k) (slice_set gs a y) ≡ count_by (guards_proc k) gs
count_same gs a y l e k =
    let c = count_set (guards_proc k) gs a y None l in
    let z = ap one_if (e k) in
    omega (arith, c, z)

-- an ended guard was of the process
pub guard_was : (o : Option KeptGuard) (test : Guarded → Bool) (p : ℕ) → guard_passes (λ g. (g.proc == p) && test g) (guard_of o) ≡ true → (k : ℕ) → guards_proc k o ≡ (p == k)
guard_was None test p h k = absurd (let b : ⊥ = cc in b)
guard_was (Some g) test p h k = grind (arith, nat_tests)
