-- The nearest of some lines, one line more at a time.
use Rattle.std.proofs.Common.{◌≡◌, ℕ, zero, suc, ◌+◌, ◌<◌, ◌≤◌, ◌⊎◌, inl, inr, Bool, true, false, ◌==◌, if◌then◌else◌, Option, Some, None, List, [], ◌∷◌, ◌++◌, length, get_or, drop, take, refl, sym, ap, ◌∙◌, subst, arith, append_assoc, append-nil}
use Rattle.std.specs.Prelude.{All}
use Rattle.std.specs.List.{flat_map}
use Rattle.std.proofs.lemmas.Bool.{cases_lt}
use Rattle.std.proofs.lemmas.List.Elements.{All-append, All-cons, All-nil, All-push, All-weaker}
use Rattle.std.proofs.lemmas.Bool.Decides.{nat_tests}
use Rattle.std.proofs.lemmas.Grind.{flat_map-append}
use Rattle.std.proofs.lemmas.List.{take_more}
use Rattle.hm_history.specs.declared.Progress.{Progress}
use Rattle.hm_judge.specs.Nearest.{IsNearest, IsNearestSo, due_line, shared}

-- ---- what two texts share

-- one byte more
pub shared_more : (at : ℕ) (xs ys : List ℕ) (d e : ℕ) → at < length xs → at < length ys → get_or xs at d ≡ get_or ys at e → shared (drop at xs) (drop at ys) ≡ suc (shared (drop (suc at) xs) (drop (suc at) ys))
shared_more zero [] ys d e l m is = absurd (omega (arith, l))
shared_more zero (x ∷ xs) [] d e l m is = absurd (omega (arith, m))
shared_more zero (x ∷ xs) (y ∷ ys) d e l m is = ap (λ (b : Bool). if b then suc (shared xs ys) else 0) same
  where
    same : (x == y) ≡ true
    same = grind (arith, nat_tests, is)
shared_more (suc at) [] ys d e l m is = absurd (omega (arith, l))
shared_more (suc at) (x ∷ xs) [] d e l m is = absurd (omega (arith, m))
shared_more (suc at) (x ∷ xs) (y ∷ ys) d e l m is = shared_more at xs ys d e (omega (arith, l)) (omega (arith, m)) is

-- bytes that differ
pub shared_not : (at : ℕ) (xs ys : List ℕ) (d e : ℕ) → at < length xs → at < length ys → (get_or xs at d ≡ get_or ys at e → ⊥) → shared (drop at xs) (drop at ys) ≡ 0
shared_not zero [] ys d e l m differ = absurd (omega (arith, l))
shared_not zero (x ∷ xs) [] d e l m differ = absurd (omega (arith, m))
shared_not zero (x ∷ xs) (y ∷ ys) d e l m differ = ap (λ (b : Bool). if b then suc (shared xs ys) else 0) other
  where
    other : (x == y) ≡ false
    other = grind (arith, nat_tests, differ)
shared_not (suc at) [] ys d e l m differ = absurd (omega (arith, l))
shared_not (suc at) (x ∷ xs) [] d e l m differ = absurd (omega (arith, m))
shared_not (suc at) (x ∷ xs) (y ∷ ys) d e l m differ = shared_not at xs ys d e (omega (arith, l)) (omega (arith, m)) differ

-- nothing is left of one of them
pub shared_end : (at : ℕ) (xs ys : List ℕ) → (length xs ≤ at) ⊎ (length ys ≤ at) → shared (drop at xs) (drop at ys) ≡ 0
shared_end zero [] ys le = refl
shared_end zero (x ∷ xs) [] le = refl
shared_end zero (x ∷ xs) (y ∷ ys) (inl le) = absurd (omega (arith, le))
shared_end zero (x ∷ xs) (y ∷ ys) (inr le) = absurd (omega (arith, le))
shared_end (suc at) [] ys le = refl
shared_end (suc at) (x ∷ xs) [] le = none (drop at xs)
  where
    none : (zs : List ℕ) → shared zs [] ≡ 0
    none [] = refl
    none (z ∷ zs) = refl
shared_end (suc at) (x ∷ xs) (y ∷ ys) (inl le) = shared_end at xs ys (inl (omega (arith, le)))
shared_end (suc at) (x ∷ xs) (y ∷ ys) (inr le) = shared_end at xs ys (inr (omega (arith, le)))

-- ---- one line more

module _ (l : List ℕ) (ks : List (List ℕ)) (k : List ℕ) where
  -- the first one
  pub nearest_first : ks ≡ [] → IsNearest l (ks ++ k ∷ []) k
  nearest_first none = record { before = []; behind = []; parts = ap (λ (zs : List (List ℕ)). zs ++ k ∷ []) none; less = All-nil _; most = All-nil _ }

  abbrev below : List ℕ → Type 0
  below z = shared l z < shared l k

  -- one that shares more
  pub nearest_new : (t : List ℕ) → IsNearest l ks t → shared l t < shared l k → IsNearest l (ks ++ k ∷ []) k
  nearest_new t n lt = record {
    before = ks;
    behind = [];
    parts = refl;
    less = subst (All below) (sym n.parts) (All-append below n.before (t ∷ n.behind) (All-weaker (λ z. shared l z < shared l t) below (λ z h. omega (arith, h, lt)) n.before n.less) (All-cons below t n.behind lt (All-weaker (λ z. shared l z ≤ shared l t) below (λ z h. omega (arith, h, lt)) n.behind n.most)));
    most = All-nil _;
  }

  -- one that does not
  pub nearest_old : (t : List ℕ) → IsNearest l ks t → (shared l t < shared l k → ⊥) → IsNearest l (ks ++ k ∷ []) t
  nearest_old t n less = record {
    before = n.before;
    behind = n.behind ++ k ∷ [];
    parts = ap (λ (zs : List (List ℕ)). zs ++ k ∷ []) n.parts ∙ append_assoc n.before (t ∷ n.behind) (k ∷ []);
    less = n.less;
    most = All-push (λ z. shared l z ≤ shared l t) n.behind k n.most (not_less (cases_lt (shared l t) (shared l k)));
  }
    where
      not_less : (shared l t < shared l k) ⊎ (shared l k ≤ shared l t) → shared l k ≤ shared l t
      not_less (inl lt) = absurd (less lt)
      not_less (inr le) = le

-- ---- the lines that are due

-- those of one actor more
pub due_more : (at i : ℕ) (ps : List Progress) (p : Progress) → i < length ps → p ≡ get_or ps i p → flat_map (due_line at) (take i ps) ++ due_line at p ≡ flat_map (due_line at) (take (i + 1) ps)
due_more at i ps p below is =
    let f = due_line at in
    sym (ap (flat_map f) (take_more ps i p below ∙ ap (λ (q : Progress). take i ps ++ q ∷ []) (sym is)) ∙ flat_map-append f (take i ps) (p ∷ []) ∙ ap (λ (z : List (List ℕ)). flat_map f (take i ps) ++ z) (append-nil (f p)))
