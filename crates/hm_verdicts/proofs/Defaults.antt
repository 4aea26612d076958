-- Functions that have a default where another has nothing.
use Rattle.std.proofs.Common.{refl, ap, ◌∙◌}
use Rattle.std.proofs.Math.Path.{fun_ext}
use Rattle.std.specs.Prelude.{◌≡◌, ℕ, Bool, ◌==◌, true, false, if◌then◌else◌, Option, Some, None, unwrap_or}
use Rattle.hm_history.specs.Memory.Words.{with_at}

-- with a default
abbrev pub or_else : {X : Type 0} → X → (ℕ → Option X) → ℕ → X
or_else d f q = unwrap_or (f q) d

-- none has a value
pub default_all : {X : Type 0} → (d : X) (g : ℕ → Option X) → g ≡ (λ k. None) → or_else d g ≡ (λ k. d)
default_all d g e = ap (or_else d) e

-- a number has a value
pub default_set : {X : Type 0} → (d : X) (g f : ℕ → Option X) (k : ℕ) (v : X) → g ≡ with_at f k (Some v)
    → or_else d g ≡ with_at (or_else d f) k v
default_set {X} d g f k v e = ap (or_else d) e ∙ fun_ext (λ q. by_bool (q == k) q)
  where
    by_bool : (b : Bool) (q : ℕ) → unwrap_or (if b then Some v else f q) d ≡ (if b then v else unwrap_or (f q) d)
    by_bool true q = refl
    by_bool false q = refl

-- it has none
pub default_gone : {X : Type 0} → (d : X) (g f : ℕ → Option X) (k : ℕ) → g ≡ with_at f k None
    → or_else d g ≡ with_at (or_else d f) k d
default_gone {X} d g f k e = ap (or_else d) e ∙ fun_ext (λ q. by_bool (q == k) q)
  where
    by_bool : (b : Bool) (q : ℕ) → unwrap_or (if b then None else f q) d ≡ (if b then d else unwrap_or (f q) d)
    by_bool true q = refl
    by_bool false q = refl

-- to set twice is to set once
pub set_twice : {X : Type 0} → (f : ℕ → X) (k : ℕ) (v w : X) → with_at (with_at f k v) k w ≡ with_at f k w
set_twice {X} f k v w = fun_ext (λ q. by_bool (q == k) q)
  where
    by_bool : (b : Bool) (q : ℕ) → (if b then w else if b then v else f q) ≡ (if b then w else f q)
    by_bool true q = refl
    by_bool false q = refl

-- what is taken away, changed and put back
pub put_back : {X : Type 0} → (f g h : ℕ → X) (k : ℕ) (d v w : X) → g ≡ with_at f k d → h ≡ with_at g k v → v ≡ w → h ≡ with_at f k w
put_back f g h k d v w a b c = b ∙ (ap (λ g. with_at g k v) a ∙ (set_twice f k d v ∙ ap (with_at f k) c))
