-- The inner migration of a thread, of migrations that are kept the oldest first.
use Rattle.std.proofs.Common.{refl, ap, sym, ◌∙◌, arith}
use Rattle.std.specs.Prelude.{◌≡◌, ℕ, ◌-◌, Bool, List, [], ◌∷◌, ◌++◌, reverse, length}
use Rattle.std.specs.List.{slice_get}
use Rattle.hm_history.specs.declared.TableRight.{TableRight}
use Rattle.hm_protocol.specs.Known.{Move, is_migrated}
use Rattle.hm_protocol.specs.Tests.{is_migrated_set, keeps_lost}
use Rattle.hm_protocol.specs.Verdicts.{of_inner}
use Rattle.hm_verdicts.proofs.Reversed.{reverse_cons}
use Rattle.hm_verdicts.specs.Inner.{first, migrated_in, migrated_set_in, lost_in, counted_in}

-- the first of a list is not one of those after it
first_kept : {X : Type 0} → (xs : List X) (y : X) (zs : List X)
    → first ((xs ++ y ∷ []) ++ zs) ≡ first (xs ++ y ∷ [])
first_kept [] y zs = refl
first_kept (x ∷ xs) y zs = refl

last_at : {X : Type 0} → (x : X) (xs : List X) → slice_get (x ∷ xs) (length xs) ≡ first (reverse (x ∷ xs))
last_at x [] = refl
last_at x (y ∷ ys) = last_at y ys ∙ (ap first (reverse_cons y ys) ∙ (sym (first_kept (reverse ys) y (x ∷ []))
    ∙ sym (ap first (reverse_cons x (y ∷ ys) ∙ ap (λ zs. zs ++ x ∷ []) (reverse_cons y ys)))))

before_it : {X : Type 0} → (x : X) (xs : List X) → length (x ∷ xs) - 1 ≡ length xs
before_it x xs = omega arith

-- the last of a list is the first of its reverse
pub last_is_first : {X : Type 0} → (xs : List X) → slice_get xs (length xs - 1) ≡ first (reverse xs)
last_is_first [] = refl
last_is_first (x ∷ xs) = ap (slice_get (x ∷ xs)) (before_it x xs) ∙ last_at x xs

-- what is asked of the inner migration
pub inner_migrated : (ys : List Move) (v : ℕ) → is_migrated ys v ≡ migrated_in (first ys) v
inner_migrated [] v = refl
inner_migrated (y ∷ ys) v = refl

pub inner_set : (ys : List Move) (test : Move → Bool) (v : ℕ) (w : TableRight)
    → is_migrated_set ys test v w ≡ migrated_set_in (first ys) test v w
inner_set [] test v w = refl
inner_set (y ∷ ys) test v w = refl

pub inner_lost : (ys : List Move) → keeps_lost ys ≡ lost_in (first ys)
inner_lost [] = refl
inner_lost (y ∷ ys) = refl

pub inner_counted : (count : Move → ℕ) (ys : List Move) → of_inner count ys ≡ counted_in count (first ys)
inner_counted count [] = refl
inner_counted count (y ∷ ys) = refl
