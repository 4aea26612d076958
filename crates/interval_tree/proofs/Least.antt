-- The least number of the intervals that overlap a span, on both sides of one of them.
use Rattle.std.proofs.Common.{◌≡◌, ℕ, ◌+◌, ◌*◌, ◌≤◌, Bool, false, Option, Some, None, List, [], ◌∷◌, ◌++◌, refl, sym, ap, ◌∙◌, arith}
use Rattle.std.proofs.lemmas.Bool.Decides.{nat_tests}
use Rattle.hm_base.specs.Pages.{Pages}
use Rattle.interval_tree.specs.declared.node.Interval.{Interval}
use Rattle.interval_tree.specs.Items.{AllAbove, IsSorted, top_of, lesser, id_if, is_wanted, least_id}

lesser_assoc : (a b c : Option ℕ) → lesser a (lesser b c) ≡ lesser (lesser a b) c
lesser_assoc None b c = refl
lesser_assoc (Some a) None c = refl
lesser_assoc (Some a) (Some b) None = refl
lesser_assoc (Some a) (Some b) (Some c) = ap (λ (n : ℕ). Some n) (omega arith)

lesser_none : (a : Option ℕ) → lesser a None ≡ a
lesser_none None = refl
lesser_none (Some a) = refl

pub least_id-append : (test : Interval → Bool) (xs : List Interval) (y : Interval) (ys : List Interval) → least_id test (xs ++ y ∷ ys) ≡ lesser (lesser (least_id test xs) (id_if (test y) y.id)) (least_id test ys)
least_id-append test [] y ys = refl
least_id-append test (x ∷ xs) y ys =
    ap (lesser (id_if (test x) x.id)) (least_id-append test xs y ys)
    ∙ lesser_assoc (id_if (test x) x.id) (lesser (least_id test xs) (id_if (test y) y.id)) (least_id test ys)
    ∙ ap (λ a. lesser a (least_id test ys)) (lesser_assoc (id_if (test x) x.id) (least_id test xs) (id_if (test y) y.id))

-- none ends above the span's first page
pub least_id-below : (s : Pages) (from : ℕ) (xs : List Interval) → top_of xs ≤ s.first → least_id (is_wanted s from) xs ≡ None
least_id-below s from [] l = refl
least_id-below s from (x ∷ xs) l =
    let t : is_wanted s from x ≡ false = grind (arith, nat_tests) in
    rw t (least_id-below s from xs (omega arith))

above_first : (a : ℕ) (xs : List Interval) (m : ℕ) (s : Pages) (from : ℕ) → AllAbove (32 * a + m) xs → IsSorted xs → s.first + s.count ≤ a → least_id (is_wanted s from) xs ≡ None
above_first a [] m s from l o e = refl
above_first a (x ∷ xs) m s from l o e =
    let first : a ≤ x.span.first = omega (arith, l.0, o.0) in
    let t : is_wanted s from x ≡ false = grind (arith, nat_tests) in
    rw t (above_first a xs m s from l.1 o.2 e)

-- none begins below the span's end
pub least_id-above : (s : Pages) (from : ℕ) (y : Interval) (ys : List Interval) → IsSorted (y ∷ ys) → s.first + s.count ≤ y.span.first → least_id (is_wanted s from) (y ∷ ys) ≡ None
least_id-above s from y ys o e =
    let t : is_wanted s from y ≡ false = grind (arith, nat_tests) in
    rw t (above_first y.span.first ys y.id s from o.1 o.2 e)

pub least_id-left : (s : Pages) (from : ℕ) (xs : List Interval) (y : Interval) (ys : List Interval) → IsSorted (y ∷ ys) → s.first + s.count ≤ y.span.first → least_id (is_wanted s from) (xs ++ y ∷ ys) ≡ least_id (is_wanted s from) xs
least_id-left s from xs y ys o e =
    let none = least_id-above s from y ys o e in
    least_id-append (is_wanted s from) xs y ys ∙ sym (lesser_assoc (least_id (is_wanted s from) xs) (id_if (is_wanted s from y) y.id) (least_id (is_wanted s from) ys)) ∙ ap (lesser (least_id (is_wanted s from) xs)) none ∙ lesser_none (least_id (is_wanted s from) xs)
