-- The intervals of a tree beside the list of spans by number: what an insert and a remove keep.
use Rattle.std.proofs.Common.{◌≡◌, ◌≢◌, ℕ, zero, suc, ◌+◌, ◌*◌, ◌<◌, ◌≤◌, Bool, true, false, not, ◌||◌, ◌&&◌, cond, eqb, ltb, Option, Some, None, List, [], ◌∷◌, length, replicate, is_some, refl, sym, ap, ◌∙◌, arith, get_or-set_other, get_or-set_same}
use Rattle.std.specs.Prelude.{slice_set}
use Rattle.std.proofs.lemmas.Bool.{eq-eqb}
use Rattle.std.proofs.lemmas.Bool.Decides.{nat_tests}
use Rattle.std.proofs.lemmas.Grind.{common_steps, elements}
use Rattle.std.proofs.lemmas.List.Sums.{sum_by-set}
use Rattle.hm_base.specs.Pages.{Pages}
use Rattle.interval_tree.specs.declared.node.Interval.{Interval}
use Rattle.interval_tree.specs.Items.{key, LacksKey, with_interval, without_key}
use Rattle.interval_tree.proofs.Order.{length-with, length-without}
use Rattle.interval_tree.specs.Intervals.{span_at, Agrees, has_id, IsIndex}

pub lacks_key : (spans : List (Option Pages)) (s : Pages) (m : ℕ) (xs : List Interval) → Agrees spans xs → m < 32 → span_at spans m ≡ None → LacksKey (32 * s.first + m) xs
lacks_key spans s m [] a l e = tt
lacks_key spans s m (x ∷ xs) a l e = (λ q. let same : x.id ≡ m = omega (arith, a.0) in let h : Some x.span ≡ None = sym a.1 ∙ ap (span_at spans) same ∙ e in cc, lacks_key spans s m xs a.2 l e)

agrees_beside : (spans : List (Option Pages)) (m : ℕ) (v : Option Pages) (xs : List Interval) → Agrees spans xs → ((x : Interval) → span_at spans x.id ≡ Some x.span → x.id ≢ m) → Agrees (slice_set spans m v) xs
agrees_beside spans m v [] a d = tt
agrees_beside spans m v (x ∷ xs) a d = let ne : x.id ≢ m = d x a.1 in (a.0, rw get_or-set_other a.1, agrees_beside spans m v xs a.2 d)

agrees_with : (spans : List (Option Pages)) (x : Interval) (xs : List Interval) → x.id < 32 → span_at spans x.id ≡ Some x.span → Agrees spans xs → Agrees spans (with_interval x xs)
agrees_with spans x [] l e a = (l, e, tt)
agrees_with spans x (y ∷ ys) l e a =
    let u = agrees_with spans x ys l e a.2 in
    elim (ltb (key x) (key y)) as (λ b. Agrees spans (cond b (x ∷ y ∷ ys) (y ∷ with_interval x ys))) [ true ↦ (l, e, a) | false ↦ (a.0, a.1, u) ]

or_swap : (a b c : Bool) → (a || (b || c)) ≡ (b || (a || c))
or_swap true true c = refl
or_swap true false c = refl
or_swap false true c = refl
or_swap false false c = refl

has_id-with : (m : ℕ) (x : Interval) (xs : List Interval) → has_id m (with_interval x xs) ≡ (eqb x.id m || has_id m xs)
has_id-with m x [] = refl
has_id-with m x (y ∷ ys) =
    let u = ap (λ b. eqb y.id m || b) (has_id-with m x ys) ∙ or_swap (eqb y.id m) (eqb x.id m) (has_id m ys) in
    elim (ltb (key x) (key y)) as (λ b. has_id m (cond b (x ∷ y ∷ ys) (y ∷ with_interval x ys)) ≡ (eqb x.id m || (eqb y.id m || has_id m ys))) [ true ↦ refl | false ↦ u ]

some_set : (spans : List (Option Pages)) (i : ℕ) (v : Option Pages) (m : ℕ) → i < length spans → is_some (span_at (slice_set spans i v) m) ≡ cond (eqb i m) (is_some v) (is_some (span_at spans m))
some_set spans i v m l = grind (arith, nat_tests, elements)

or_cond : (b c : Bool) → cond b true c ≡ (b || c)
or_cond true c = refl
or_cond false c = refl

pub index_with : (spans : List (Option Pages)) (xs : List Interval) (x : Interval) → IsIndex spans xs → x.id < 32 → span_at spans x.id ≡ None → IsIndex (slice_set spans x.id (Some x.span)) (with_interval x xs)
index_with spans xs x h l e =
    let in_list : x.id < length spans = omega (arith, h.len) in
    let here : span_at (slice_set spans x.id (Some x.span)) x.id ≡ Some x.span = rw get_or-set_same in
    let apart = λ (y : Interval) (f : span_at spans y.id ≡ Some y.span) (q : y.id ≡ x.id). let g : Some y.span ≡ None = sym f ∙ ap (span_at spans) q ∙ e in let z : ⊥ = cc in z in
    let counted = sum_by-set (λ (v : Option Pages). cond (is_some v) 1 0) spans x.id (Some x.span) None in_list in
    record {
      len = grind (arith, common_steps, h.len);
      agrees = agrees_with (slice_set spans x.id (Some x.span)) x xs l here (agrees_beside spans x.id (Some x.span) xs h.agrees apart);
      complete = λ m. some_set spans x.id (Some x.span) m in_list ∙ ap (cond (eqb x.id m) true) (h.complete m) ∙ or_cond (eqb x.id m) (has_id m xs) ∙ sym (has_id-with m x xs);
      few = let c = rw e at counted in omega (arith, h.few, length-with x xs, c);
    }

-- one less
keys_apart : (spans : List (Option Pages)) (i : ℕ) (s : Pages) (x : Interval) → i < 32 → span_at spans i ≡ Some s → x.id < 32 → span_at spans x.id ≡ Some x.span → (key x ≡ 32 * s.first + i → x.id ≡ i) × (x.id ≡ i → key x ≡ 32 * s.first + i)
keys_apart spans i s x l e lx ex = (
  λ q. omega arith,
  λ q. let h : Some x.span ≡ Some s = sym ex ∙ ap (span_at spans) q ∙ e in let f : x.span ≡ s = cc in let g = ap (λ (r : Pages). r.first) f in omega arith,
)

agrees_without : (spans : List (Option Pages)) (i : ℕ) (s : Pages) (xs : List Interval) → i < 32 → span_at spans i ≡ Some s → Agrees spans xs → Agrees (slice_set spans i None) (without_key (32 * s.first + i) xs)
agrees_without spans i s [] l e a = tt
agrees_without spans i s (x ∷ xs) l e a =
    let u = agrees_without spans i s xs l e a.2 in
    let apart = keys_apart spans i s x l e a.0 a.1 in
    elim (eqb (key x) (32 * s.first + i)) as (λ b. eqb (key x) (32 * s.first + i) ≡ b → Agrees (slice_set spans i None) (cond b (without_key (32 * s.first + i) xs) (x ∷ without_key (32 * s.first + i) xs))) [
      | true ↦ λ q. u
      | false ↦ λ q. let ne : x.id ≢ i = (λ f. let g = apart.1 f in let h : eqb (key x) (32 * s.first + i) ≡ true = eq-eqb (key x) (32 * s.first + i) g in let k : true ≡ false = sym h ∙ q in cc) in (a.0, rw get_or-set_other a.1, u)
    ] refl

has_id-without : (spans : List (Option Pages)) (i : ℕ) (s : Pages) (m : ℕ) (xs : List Interval) → i < 32 → span_at spans i ≡ Some s → Agrees spans xs → has_id m (without_key (32 * s.first + i) xs) ≡ (not (eqb i m) && has_id m xs)
has_id-without spans i s m [] l e a = grind (arith, nat_tests)
has_id-without spans i s m (x ∷ xs) l e a =
    let u = has_id-without spans i s m xs l e a.2 in
    let apart = keys_apart spans i s x l e a.0 a.1 in
    grind (arith, nat_tests, apart.0, apart.1)

shorter : (spans : List (Option Pages)) (i : ℕ) (s : Pages) (xs : List Interval) → i < 32 → span_at spans i ≡ Some s → Agrees spans xs → has_id i xs ≡ true → length (without_key (32 * s.first + i) xs) + 1 ≤ length xs
shorter spans i s [] l e a h = cc
shorter spans i s (x ∷ xs) l e a h =
    let apart = keys_apart spans i s x l e a.0 a.1 in
    let less = length-without (32 * s.first + i) xs in
    elim (eqb (key x) (32 * s.first + i)) as (λ b. eqb (key x) (32 * s.first + i) ≡ b → length (cond b (without_key (32 * s.first + i) xs) (x ∷ without_key (32 * s.first + i) xs)) + 1 ≤ length (x ∷ xs)) [
      | true ↦ λ q. omega arith
      | false ↦ λ q. let ne : eqb x.id i ≡ false = grind (arith, nat_tests, apart.1) in omega (arith, shorter spans i s xs l e a.2 (rw ne at h))
    ] refl

either : (b c : Bool) → cond b false c ≡ (not b && c)
either true c = refl
either false c = refl

pub index_without : (spans : List (Option Pages)) (xs : List Interval) (i : ℕ) (s : Pages) → IsIndex spans xs → i < 32 → span_at spans i ≡ Some s → IsIndex (slice_set spans i None) (without_key (32 * s.first + i) xs)
index_without spans xs i s h l e =
    let in_list : i < length spans = omega (arith, h.len) in
    let counted = sum_by-set (λ (v : Option Pages). cond (is_some v) 1 0) spans i None None in_list in
    let has : has_id i xs ≡ true = sym (h.complete i) ∙ ap (λ v. is_some v) e in
    record {
      len = grind (arith, common_steps, h.len);
      agrees = agrees_without spans i s xs l e h.agrees;
      complete = λ m. some_set spans i None m in_list ∙ either (eqb i m) (is_some (span_at spans m)) ∙ ap (λ b. not (eqb i m) && b) (h.complete m) ∙ sym (has_id-without spans i s m xs l e h.agrees);
      few = let c = rw e at counted in omega (arith, h.few, shorter spans i s xs l e h.agrees has, c);
    }

nothing_at : (n m : ℕ) → span_at (replicate n None) m ≡ None
nothing_at zero m = refl
nothing_at (suc n) zero = refl
nothing_at (suc n) (suc m) = nothing_at n m

pub no_index : IsIndex (replicate 32 None) []
no_index = record {
  len = refl;
  agrees = tt;
  complete = λ m. ap (λ v. is_some v) (nothing_at 32 m);
  few = omega arith;
}
