-- No area goes beyond the last page.
use Rattle.std.proofs.Common.{◌≡◌, ℕ, ◌<◌, ◌≤◌, ◌^◌, Bool, true, false, not, ◌||◌, is_none, ◌&&◌, nat_le, if◌then◌else◌, Option, Some, None, List, [], ◌∷◌, ◌++◌, length, slice_set, slice_index_or, min, max, refl, sym, ap, subst, ◌∙◌, arith}
use Rattle.std.specs.Prelude.{flat_map, find, option_map}
use Rattle.std.proofs.lemmas.Bool.{and_parts}
use Rattle.std.proofs.lemmas.Bool.Decides.{nat_tests}
use Rattle.hm_base.specs.Pages.{Pages, covers}
use Rattle.hm_base.specs.Areas.{last_of, part, before, inside, behind, without, with_rights, with_area, rights_at}
use Rattle.hm_base.specs.declared.area.Area.{Area}
use Rattle.hm_base.specs.declared.ops.Rights.{Rights}
use Rattle.hm_base.specs.declared.cause.Cause.{Cause}
use Rattle.hm_history.proofs.Updates.{with_case, len_set}
use Rattle.hm_history.specs.Memory.Plain.{Plain, MirrorState, cause_at, outside_cause, is_read_only, owner, rights_of, proc_of}
use Rattle.hm_history.specs.declared.Kind.{Kind}
use Rattle.hm_history.specs.declared.Who.{Who}
use Rattle.hm_spaces.specs.Spaces.{SpacesValue, spaces_next, there_next, named_next, areas_next}
use Rattle.hm_folds.specs.Ranges.{IsSized, InRange, end_below}
use Rattle.hm_folds.proofs.Writes.{set_at}

-- a page beyond has no right
pub beyond : (as_ : List Area) (v : ℕ) → end_below as_ ≡ true → 2 ^ 36 ≤ v → rights_at as_ v ≡ None
beyond [] v h l = refl
beyond (a ∷ as_) v h l =
    let p = and_parts (nat_le (last_of a.span) (2 ^ 36)) (end_below as_) h in
    let no : covers a.span v ≡ false = grind (arith, nat_tests, p.0) in
    rw (find, no) (beyond as_ v p.1 l)

all_append : (xs ys : List Area) → end_below xs ≡ true → end_below ys ≡ true → end_below (xs ++ ys) ≡ true
all_append [] ys h g = g
all_append (x ∷ xs) ys h g =
    let p = and_parts (nat_le (last_of x.span) (2 ^ 36)) (end_below xs) h in
    ap (λ b. b && end_below (xs ++ ys)) p.0 ∙ all_append xs ys p.1 g

part_below : (from upto : ℕ) (w : Rights) → upto ≤ 2 ^ 36 → end_below (part from upto w) ≡ true
part_below from upto w l = grind (arith, nat_tests)

le_of : (n m : ℕ) → nat_le n m ≡ true → n ≤ m
le_of n m h = grind (arith, nat_tests)

cut_below : (f : Area → List Area) (as_ : List Area) → ((a : Area) → last_of a.span ≤ 2 ^ 36 → end_below (f a) ≡ true) → end_below as_ ≡ true → end_below (flat_map f as_) ≡ true
cut_below f [] g h = refl
cut_below f (a ∷ as_) g h =
    let p = and_parts (nat_le (last_of a.span) (2 ^ 36)) (end_below as_) h in
    all_append (f a) (flat_map f as_) (g a (le_of _ _ p.0)) (cut_below f as_ g p.1)

before_below : (r : Pages) (a : Area) → last_of a.span ≤ 2 ^ 36 → end_below (before r a) ≡ true
before_below r a l = part_below a.span.first (min (last_of a.span) r.first) a.rights (omega (arith, l))

inside_below : (r : Pages) (w : Rights) (a : Area) → last_of a.span ≤ 2 ^ 36 → end_below (inside r w a) ≡ true
inside_below r w a l = part_below (max a.span.first r.first) (min (last_of a.span) (last_of r)) w (omega (arith, l))

behind_below : (r : Pages) (a : Area) → last_of a.span ≤ 2 ^ 36 → end_below (behind r a) ≡ true
behind_below r a l = part_below (max a.span.first (last_of r)) (last_of a.span) a.rights l

without_below : (r : Pages) (as_ : List Area) → end_below as_ ≡ true → end_below (without r as_) ≡ true
without_below r as_ h = cut_below (λ a. before r a ++ behind r a) as_ (λ a l. all_append (before r a) (behind r a) (before_below r a l) (behind_below r a l)) h

rights_below : (r : Pages) (w : Rights) (as_ : List Area) → end_below as_ ≡ true → end_below (with_rights r w as_) ≡ true
rights_below r w as_ h = cut_below (λ a. before r a ++ (inside r w a ++ behind r a)) as_
    (λ a l. all_append (before r a) (inside r w a ++ behind r a) (before_below r a l) (all_append (inside r w a) (behind r a) (inside_below r w a l) (behind_below r a l))) h

area_below : (n : Area) (as_ : List Area) → last_of n.span ≤ 2 ^ 36 → end_below as_ ≡ true → end_below (with_area n as_) ≡ true
area_below n [] l h = grind (arith, nat_tests)
area_below n (a ∷ as_) l h =
    let p = and_parts (nat_le (last_of a.span) (2 ^ 36)) (end_below as_) h in
    grind (arith, nat_tests, p.0, p.1, area_below n as_ l p.1)

-- the areas of each process after an entry
below_set : (xs : List (List Area)) (p : ℕ) (y : List Area) → p < length xs → ((q : ℕ) → end_below (slice_index_or xs q []) ≡ true) → end_below y ≡ true → (q : ℕ) → end_below (slice_index_or (slice_set xs p y) q []) ≡ true
below_set xs p y l h g q =
    subst (λ (z : List Area). end_below z ≡ true) (sym (set_at xs p y [] q l))
    (with_case (λ j (z : List Area). end_below z ≡ true) (λ j. slice_index_or xs j []) p y q (λ _. g) (λ _. h q))

areas_below : (k : Kind) (xs : List (List Area)) → InRange k → length xs ≡ 32 → ((q : ℕ) → end_below (slice_index_or xs q []) ≡ true) → (q : ℕ) → end_below (slice_index_or (areas_next k xs) q []) ≡ true
areas_below (Kind.Mapped p r w) xs i l h = below_set xs p _ (omega (arith, i.0, l)) h (area_below _ _ i.1.ends (h p))
areas_below (Kind.Unmapped p r) xs i l h = below_set xs p _ (omega (arith, i, l)) h (without_below r _ (h p))
areas_below (Kind.Protected p r w) xs i l h = below_set xs p _ (omega (arith, i.0, l)) h (rights_below r w _ (h p))
areas_below (Kind.Forked p child) xs i l h = below_set xs child _ (omega (arith, i.1, l)) h (h p)
areas_below (Kind.Exited p) xs i l h = below_set xs p [] (omega (arith, i, l)) h refl
areas_below k xs i l h = h

there_len : (k : Kind) (xs : List Bool) → length xs ≡ 32 → length (there_next k xs) ≡ 32
there_len (Kind.Forked p child) xs l = len_set xs child true 32 l
there_len (Kind.Exited p) xs l = len_set xs p false 32 l
there_len k xs l = l

named_len : (k : Kind) (xs : List Bool) → length xs ≡ 32 → length (named_next k xs) ≡ 32
named_len (Kind.Named p child) xs l = len_set xs child true 32 l
named_len k xs l = l

areas_len : (k : Kind) (xs : List (List Area)) → length xs ≡ 32 → length (areas_next k xs) ≡ 32
areas_len (Kind.Mapped p r w) xs l = len_set xs p _ 32 l
areas_len (Kind.Unmapped p r) xs l = len_set xs p _ 32 l
areas_len (Kind.Protected p r w) xs l = len_set xs p _ 32 l
areas_len (Kind.Forked p child) xs l = len_set xs child _ 32 l
areas_len (Kind.Exited p) xs l = len_set xs p [] 32 l
areas_len k xs l = l

pub sized_step : (x : SpacesValue) (a : ℕ) (k : Kind) → IsSized x → InRange k → IsSized (spaces_next a k x)
sized_step x a k h i = record {
  there = there_len k x.there h.there;
  named = named_len k x.named h.named;
  areas = areas_len k x.areas h.areas;
  below = areas_below k x.areas i h.areas h.below;
}

-- an access with nothing against it is of a page with an area
proc_is : (s : Plain) (x : Who) (p : ℕ) → owner s x ≡ Some p → proc_of s x ≡ p
proc_is s (Who.Cpu q) p e = cc
proc_is s (Who.Mirror m) p e = by (s.mirrors m) e
  where
    by : (o : Option MirrorState) → option_map (λ y. y.proc) o ≡ Some p → elim o as (λ y. ℕ) [ None ↦ 0 | Some y ↦ y.proc ] ≡ p
    by None h = absurd (let b : ⊥ = cc in b)
    by (Some y) h = cc

unmapped : (o t w : Bool) (r : Option Rights) → r ≡ None → (if o then Some Cause.Outside else if not t || is_none r then Some Cause.Unmapped else if w && is_read_only r then Some Cause.Forbidden else None) ≡ None → ⊥
unmapped true t w r e h = let b : ⊥ = cc in b
unmapped false true w None e h = let b : ⊥ = cc in b
unmapped false false w None e h = let b : ⊥ = cc in b
unmapped false t w (Some x) e h = let b : ⊥ = cc in b

pub none_beyond : (s : Plain) (x : Who) (p v : ℕ) → owner s x ≡ Some p → end_below (s.areas p) ≡ true → 2 ^ 36 ≤ v → cause_at s x v true ≡ None → ⊥
none_beyond s x p v e h l c =
    let q = proc_is s x p e in
    let none : rights_of s (proc_of s x) v ≡ None = ap (λ j. rights_of s j v) q ∙ beyond (s.areas p) v h l in
    unmapped (outside_cause s x v) (s.there (proc_of s x)) true (rights_of s (proc_of s x) v) none c
