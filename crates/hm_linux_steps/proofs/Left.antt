-- What is left of areas, and the state that is shown with it.
use Rattle.std.proofs.Common.{◌≡◌, ℕ, zero, suc, ◌+◌, ◌<◌, ◌≤◌, Bool, true, false, ◌&&◌, ◌==◌, if◌then◌else◌, Option, Some, None, List, [], ◌∷◌, ◌++◌, map, refl, sym, ap, ◌∙◌, arith}
use Rattle.std.proofs.lemmas.List.{map-append}
use Rattle.std.proofs.lemmas.List.Sums.{fold-append}
use Rattle.std.proofs.Math.Path.{fun_ext}
use Rattle.std.specs.Prelude.{fold, is_some, slice_index_or}
use Rattle.hm_base.specs.Areas.{without}
use Rattle.hm_base.specs.Pages.{Pages}
use Rattle.hm_base.specs.Program.{Program}
use Rattle.hm_base.specs.declared.area.Area.{Area}
use Rattle.hm_history.specs.Memory.Words.{numbers, least}
use Rattle.hm_history.specs.Kernel.Going.{State}
use Rattle.hm_history.proofs.Numbers.{numbers_append}
use Rattle.hm_laws.proofs.State.Search.{least_none}
use Rattle.hm_linux.specs.declared.variant.Variant.{Variant}
use Rattle.hm_linux.specs.Noted.{varied_from}
use Rattle.hm_linux.specs.UnmapLetsIn.{gone_by, without_gone, areas_left}
use Rattle.hm_linux.specs.Instead.{plain_found, locks_found}
use Rattle.hm_linux.specs.Variants.{state_found}
use Rattle.hm_linux_steps.specs.Found.{areas_shown, shown}
use Rattle.hm_linux_steps.specs.Left.{span_of, left_so_far}
use Rattle.hm_linux_steps.specs.declared.area_lists.AreaLists.{AreaLists}

-- ---- one actor more

pub left_next : (c : Program) (u : State) (p n : ℕ) → left_so_far c u p (n + 1) ≡ without_gone p (left_so_far c u p n) (gone_by c u n)
left_next c u p n =
    let f : List Area → ℕ → List Area = λ xs a. without_gone p xs (gone_by c u a) in
    let z : 0 + n ≡ n = omega arith in
    ap (fold f (u.after.plain.areas p)) (numbers_append 0 n 1)
    ∙ (fold-append f (u.after.plain.areas p) (numbers 0 n) (numbers (0 + n) 1) ∙ ap (λ k. f (left_so_far c u p n) k) z)

pub gone_none : (p : ℕ) (xs : List Area) (x : Option (ℕ × Pages)) → None ≡ span_of p x → xs ≡ without_gone p xs x
gone_none p xs None e = refl
gone_none p xs (Some x) e = by (x.0 == p) e
  where
    by : (b : Bool) → ◌≡◌ {A = Option Pages} None (if b then Some x.1 else None) → xs ≡ (if b then without x.1 xs else xs)
    by true e = cc
    by false e = refl

pub gone_some : (p : ℕ) (xs : List Area) (x : Option (ℕ × Pages)) (r : Pages) → Some r ≡ span_of p x → without r xs ≡ without_gone p xs x
gone_some p xs None r e = cc
gone_some p xs (Some x) r e = by (x.0 == p) e
  where
    by : (b : Bool) → ◌≡◌ {A = Option Pages} (Some r) (if b then Some x.1 else None) → without r xs ≡ (if b then without x.1 xs else xs)
    by true e = cc
    by false e = cc

-- ---- lists

pub number_read : {X : Type 0} (f : ℕ → X) (d : X) (from n k : ℕ) → k < n → slice_index_or (map f (numbers from n)) k d ≡ f (from + k)
number_read f d from zero k l = absurd (omega (arith, l))
number_read f d from (suc n) zero l = ap f (omega arith)
number_read f d from (suc n) (suc k) l = number_read f d (from + 1) n k (omega (arith, l)) ∙ ap f (omega arith)

pub numbered_next : {X : Type 0} (f : ℕ → X) (n : ℕ) → map f (numbers 0 (n + 1)) ≡ map f (numbers 0 n) ++ f n ∷ []
numbered_next f n =
    let z : 0 + n ≡ n = omega arith in
    ap (map f) (numbers_append 0 n 1) ∙ (map-append f (numbers 0 n) (numbers (0 + n) 1) ∙ ap (λ k. map f (numbers 0 n) ++ f k ∷ []) z)

-- ---- nothing is gone

fold_none : (g : ℕ → Option (ℕ × Pages)) (p : ℕ) (xs : List Area) (from n : ℕ) → ((a : ℕ) → from ≤ a → a < from + n → g a ≡ None) → fold (λ ys a. without_gone p ys (g a)) xs (numbers from n) ≡ xs
fold_none g p xs from zero h = refl
fold_none g p xs from (suc n) h =
    ap (λ x. fold (λ ys a. without_gone p ys (g a)) (without_gone p xs x) (numbers (from + 1) n)) (h from (omega arith) (omega arith))
    ∙ fold_none g p xs (from + 1) n (λ a l m. h a (omega (arith, l)) (omega (arith, m)))

none_of : {X : Type 0} (x : Option X) → is_some x ≡ false → x ≡ None
none_of None e = refl
none_of (Some x) e = cc

none_left : (c : Program) (u : State) (p : ℕ) → least (λ a. is_some (gone_by c u a)) 0 16 ≡ None → areas_left c u p ≡ u.after.plain.areas p
none_left c u p e =
    fold_none (gone_by c u) p (u.after.plain.areas p) 0 16 (λ a l m. none_of (gone_by c u a) (least_none (λ b. is_some (gone_by c u b)) 0 16 a e l m))

-- ---- the state that is shown

abbrev with_areas : Variant → Program → State → (ℕ → List Area) → State
with_areas l c u f = record {
  after = record u.after { plain = record u.after.plain { areas = f }; locks = locks_found l c u };
  going = u.going;
}

shown_is : (l : Variant) (c : Program) (x : Option AreaLists) (u : State) → areas_shown x u.after.plain.areas (plain_found l c u).areas ≡ (plain_found l c u).areas → shown l c x u ≡ state_found l c (varied_from u)
shown_is l c x u e = ap (with_areas l c u) e

pub shown_alike : (l : Variant) (c : Program) (u : State) → (l.unmap_lets_in && is_some (least (λ a. is_some (gone_by c u a)) 0 16)) ≡ false → shown l c None u ≡ state_found l c (varied_from u)
shown_alike l c u e = shown_is l c None u (by l.unmap_lets_in e)
  where
    by : (b : Bool) → (b && is_some (least (λ a. is_some (gone_by c u a)) 0 16)) ≡ false → u.after.plain.areas ≡ (if b then areas_left c u else u.after.plain.areas)
    by true e = sym (fun_ext (λ p. none_left c u p (none_of (least (λ a. is_some (gone_by c u a)) 0 16) e)))
    by false e = refl
