-- Callbacks that are over for good: what leaves them as they are, and what is not so of them.
use Rattle.std.proofs.Common.{refl, ap, sym, subst, ◌∙◌, arith, ◌≤◌, inl, inr, true≢false, le_trans}
use Rattle.std.proofs.lemmas.List.Elements.{All-cons, All-nil}
use Rattle.std.proofs.lemmas.Bool.{and_parts, not-true, eqb-true, ltb-true, ltb-false, le-ltb}
use Rattle.std.specs.Prelude.{◌≡◌, ℕ, Bool, true, false, not, ◌&&◌, ◌==◌, nat_lt, if◌then◌else◌, Option, Some, None}
use Rattle.std.specs.Prelude.{is_some, is_none, List, [], ◌∷◌, ◌++◌, ◌⊎◌, map, filter, drop, count_by, slice_index_or}
use Rattle.std.specs.List.{All, list_any, list_all}
use Rattle.hm_protocol.specs.Words.{is_it, is_after, is_before, is_other, is_empty, drop_if}
use Rattle.hm_protocol.specs.Known.{Call, Look, Move, is_slot, is_current, is_telling, goes_on, meets}
use Rattle.hm_protocol.specs.Noted.{after_end, after_set}
use Rattle.hm_verdicts.specs.Changes.{erased_by, lost_by, returned_in, returned_by, is_placing, paged_by, paged_in}
use Rattle.hm_verdicts.specs.Settled.{First, IsMark, IsOver, is_settled}
use Rattle.hm_verdicts.specs.declared.over.Over.{Over}
use Rattle.hm_verdicts.proofs.Settled.{first_weaker, first_mapped, first_pushed, first_filtered, first_any, first_all}

-- ---- words

pub and_false : (a : Bool) → (a && false) ≡ false
and_false true = refl
and_false false = refl

pub none_false : (o : Option ℕ) → is_some o ≡ true → is_none o ≡ false
none_false None e = absurd (true≢false (sym e))
none_false (Some k) e = refl

empty : {X : Type 0} → (xs : List X) → is_empty xs ≡ true → xs ≡ []
empty [] e = refl
empty (x ∷ xs) e = absurd (true≢false (sym e))

-- it has returned
returned : (x : Call) → is_settled x ≡ true → is_none x.after ≡ false
returned x s = none_false x.after (and_parts (is_some x.after) (not (goes_on x) && is_empty x.here) s).0

-- its invalidation is not under way
quiet : (x : Call) → is_settled x ≡ true → goes_on x ≡ false
quiet x s = not-true (goes_on x) (and_parts (not (goes_on x)) (is_empty x.here)
    (and_parts (is_some x.after) (not (goes_on x) && is_empty x.here) s).1).0

-- none of the entries of its span is there
none_here : (x : Call) → is_settled x ≡ true → x.here ≡ []
none_here x s = empty x.here (and_parts (not (goes_on x)) (is_empty x.here)
    (and_parts (is_some x.after) (not (goes_on x) && is_empty x.here) s).1).1

-- ---- numbers

not_it : (a : Option ℕ) (n i : ℕ) → nat_lt n i ≡ true → is_after a n ≡ false → is_it a i ≡ false
not_it None n i l h = refl
not_it (Some k) n i l h = by_bool (k == i) refl
  where
    by_bool : (b : Bool) → (k == i) ≡ b → b ≡ false
    by_bool true e = absurd (true≢false (sym (ap (nat_lt n) (eqb-true k i e) ∙ l) ∙ h))
    by_bool false e = refl

not_after : (a : Option ℕ) (n i : ℕ) → nat_lt i n ≡ false → is_after a n ≡ false → is_after a i ≡ false
not_after None n i l h = refl
not_after (Some k) n i l h = le-ltb i k (le_trans (ltb-false n k h) (ltb-false i n l))

not_before : (a : Option ℕ) (n i : ℕ) → is_before a n ≡ false → i ≤ n → is_before a i ≡ false
not_before None n i l h = refl
not_before (Some k) n i l h = le-ltb k i (le_trans h (ltb-false k n l))

pub not_equal : (a n q : ℕ) → nat_lt n q ≡ true → a ≤ n → (a == q) ≡ false
not_equal a n q l h = by_bool (a == q) refl
  where
    by_bool : (b : Bool) → (a == q) ≡ b → b ≡ false
    by_bool true e = let same : a ≡ q = eqb-true a q e in let less = ltb-true n q l in
        absurd (omega (arith, same, less, h))
    by_bool false e = refl

-- ---- what leaves it as it is

pub set_same : (m v : ℕ) (o : Over) (x : Call) → IsOver o x → after_set m v x ≡ x
set_same m v o x s = ap (λ hs. record x { here = drop_if (is_slot m v) hs }) (none_here x s.settled)
    ∙ sym (ap (λ hs. record x { here = hs }) (none_here x s.settled))

pub erase_same : (device : ℕ → Option ℕ) (within : Bool) (ys : List Move) (t m v : ℕ) (o : Over) (x : Call) → IsOver o x
    → erased_by device within ys t m v x ≡ x
erase_same device within ys t m v o x s = ap (λ hs. if list_any (is_slot m v) hs
    then lost_by device within ys t (record x { here = drop_if (is_slot m v) hs }) else x) (none_here x s.settled)

pub current_not : (t m : ℕ) (o : Over) (x : Call) → IsOver o x → is_current t m x ≡ false
current_not t m o x s = ap (λ b. (x.thread == t) && ((x.mirror == m) && b)) (returned x s.settled)
    ∙ (ap (λ b. (x.thread == t) && b) (and_false (x.mirror == m)) ∙ and_false (x.thread == t))

pub return_same : (i q : ℕ) (cs : List Call) (ys : List Move) (t m : ℕ) (o : Over) (x : Call) → IsOver o x
    → returned_in i q cs ys t m x ≡ x
return_same i q cs ys t m o x s = ap (λ b. if b
    then returned_by i q (count_by (λ y. (y.mirror == m) && (y.seq == x.seq)) cs == 1)
    (list_any (is_placing x.span) ys) x
    else x) (current_not t m o x s)

end_same : (i j : ℕ) (o : Over) (x : Call) → nat_lt o.of i ≡ true → IsOver o x → after_end i j x ≡ x
end_same i j o x l s = ap (λ b. if b then record x { ended = Some j } else x) (not_it x.of o.of i l s.of)

-- those that are over when an invalidation ends
abbrev pub before_end : Bool → Over → Over
before_end b o = if b then o else record o { count = 0 }

pub end_fixed : (i j : ℕ) (b : Bool) (o : Over) (cs : List Call) → nat_lt o.of i ≡ b → First (IsOver o) o.count cs
    → First (λ x. after_end i j x ≡ x) (before_end b o).count cs
end_fixed i j true o cs e s = first_weaker (IsOver o) (λ x. after_end i j x ≡ x)
    (λ x h. end_same i j o x e h) o.count cs s
end_fixed i j false o cs e s = tt

-- it is over after a migration knows what moved
paged_over : (device : ℕ → Option ℕ) (t : ℕ) (y : Move) (o : Over) (x : Call) → IsOver o x
    → IsOver o (paged_by device t y x)
paged_over device t y o x s = by_bool _ _
  where
    by_bool : (b : Bool) (z : Option (List _ × Bool)) → IsOver o (if b then record x { stale = z } else x)
    by_bool true z = record { settled = s.settled; of = s.of; at = s.at; seq = s.seq; ended = s.ended }
    by_bool false z = s

pub paged_held : (device : ℕ → Option ℕ) (t : ℕ) (ys : List Move) (o : Over) (n : ℕ) (cs : List Call)
    → First (IsOver o) n cs
    → First (IsOver o) n (paged_in device t ys cs)
paged_held device t [] o n cs s = s
paged_held device t (y ∷ ys) o n cs s = first_mapped (IsOver o) (paged_by device t y) (paged_over device t y o) n cs s

-- ---- what is not so of it

pub in_not : (t : ℕ) (o : Over) (x : Call) → IsOver o x → ((x.thread == t) && is_none x.after) ≡ false
in_not t o x s = ap (λ b. (x.thread == t) && b) (returned x s.settled) ∙ and_false (x.thread == t)

pub telling_not : (m : ℕ) (o : Over) (x : Call) → IsOver o x → is_telling m x ≡ false
telling_not m o x s = ap (λ b. (x.mirror == m) && (b && is_some x.after)) (quiet x s.settled)
    ∙ and_false (x.mirror == m)

pub over_not : (m i : ℕ) (o : Over) (x : Call) → nat_lt i o.ended ≡ false → IsOver o x
    → ((x.mirror == m) && (is_some x.after && is_after x.ended i)) ≡ false
over_not m i o x l s = ap (λ b. (x.mirror == m) && (is_some x.after && b)) (not_after x.ended o.ended i l s.ended)
    ∙ (ap (λ b. (x.mirror == m) && b) (and_false (is_some x.after)) ∙ and_false (x.mirror == m))

pub given_not : (m q : ℕ) (o : Over) (x : Call) → nat_lt o.seq q ≡ true → IsOver o x
    → ((x.mirror == m) && (x.seq == q)) ≡ false
given_not m q o x l s = ap (λ b. (x.mirror == m) && b) (not_equal x.seq o.seq q l s.seq) ∙ and_false (x.mirror == m)

pub meets_not : (l : Look) (m : ℕ) (o : Over) (x : Call) → is_before l.begun o.at ≡ false → IsOver o x
    → meets l m x ≡ false
meets_not l m o x h s = ap (λ b. (x.mirror == m) && (is_other x.after l.seq && b)) (not_before l.begun o.at x.at h s.at)
    ∙ (ap (λ b. (x.mirror == m) && b) (and_false (is_other x.after l.seq)) ∙ and_false (x.mirror == m))

-- ---- what is asked of all of them, or of the others alone

-- callbacks by bounds that pass, or none
pub first_passed : {X : Type 0} → (P : X → Type 0) (q : X → Bool) (b : Bool) (n : ℕ) (xs : List X)
    → (b ≡ true) ⊎ (n ≡ 0)
    → (b ≡ true → (x : X) → P x → q x ≡ false) → First P n xs → First (λ x. q x ≡ false) n xs
first_passed P q b n xs (inl e) h s = first_weaker P (λ x. q x ≡ false) (h e) n xs s
first_passed P q b n xs (inr e) h s = subst (λ k. First (λ x. q x ≡ false) k xs) (sym e) tt

pub any_passed : (q : Call → Bool) (b : Bool) (o : Over) (xs : List Call) → (b ≡ true) ⊎ (o.count ≡ 0)
    → (b ≡ true → (x : Call) → IsOver o x → q x ≡ false) → First (IsOver o) o.count xs
    → list_any q (drop o.count xs) ≡ list_any q xs
any_passed q b o xs p h s = first_any (λ x. q x ≡ false) q (λ x e. e) o.count xs
    (first_passed (IsOver o) q b o.count xs p h s)

pub all_passed : (q r : Call → Bool) → ((x : Call) → q x ≡ false → r x ≡ true) → (b : Bool) (o : Over) (xs : List Call)
    → (b ≡ true) ⊎ (o.count ≡ 0)
    → (b ≡ true → (x : Call) → IsOver o x → q x ≡ false) → First (IsOver o) o.count xs
    → list_all r (drop o.count xs) ≡ list_all r xs
all_passed q r e b o xs p h s = first_all (λ x. q x ≡ false) r e o.count xs
    (first_passed (IsOver o) q b o.count xs p h s)

-- ---- bounds of fewer

-- a change leaves what is over as it is
pub marks_changed : (top : ℕ) (f : Call → Call) → ((o : Over) (x : Call) → IsOver o x → f x ≡ x) → (xs : List Call)
    (os : List Over)
    → All (IsMark top xs) os → All (IsMark top (map f xs)) os
marks_changed top f e xs os s k d l = let g = s k d l in let o = slice_index_or os k d in
    (first_mapped (IsOver o) f (λ x h. subst (IsOver o) (sym (e o x h)) h) o.count xs g.0, g.1)

-- a migration knows what moved
pub paged_marks : (device : ℕ → Option ℕ) (t : ℕ) (ys : List Move) (top : ℕ) (xs : List Call) (os : List Over)
    → All (IsMark top xs) os → All (IsMark top (paged_in device t ys xs)) os
paged_marks device t ys top xs os s k d l = let g = s k d l in let o = slice_index_or os k d in
    (paged_held device t ys o o.count xs g.0, g.1)

-- one more callback
pub marks_pushed : (top : ℕ) (xs ys : List Call) (os : List Over) → All (IsMark top xs) os
    → All (IsMark top (xs ++ ys)) os
marks_pushed top xs ys os s k d l = let g = s k d l in let o = slice_index_or os k d in
    (first_pushed (IsOver o) o.count xs ys g.0, g.1)

-- without some that are not over
pub marks_filtered : (top : ℕ) (p : Call → Bool) → ((o : Over) (x : Call) → IsOver o x → p x ≡ true) → (xs : List Call)
    (os : List Over)
    → All (IsMark top xs) os → All (IsMark top (filter p xs)) os
marks_filtered top p e xs os s k d l = let g = s k d l in let o = slice_index_or os k d in
    (first_filtered (IsOver o) p (e o) o.count xs g.0, g.1)

-- an invalidation ends that began later than theirs
pub marks_ended : (top i j : ℕ) (xs : List Call) (os : List Over) → All (λ o. nat_lt o.of i ≡ true) os
    → All (IsMark top xs) os → All (IsMark top (map (after_end i j) xs)) os
marks_ended top i j xs os e s k d l = let g = s k d l in let o = slice_index_or os k d in (
  first_mapped (IsOver o) (after_end i j) (λ x h. subst (IsOver o) (sym (end_same i j o x (e k d l) h)) h)
      o.count xs g.0,
  g.1,
)

-- those of which an invalidation may have begun later are gone
pub all_passing : {X : Type 0} → (p : X → Bool) (xs : List X) → All (λ x. p x ≡ true) (filter p xs)
all_passing p [] = All-nil (λ x. p x ≡ true)
all_passing {X} p (x ∷ xs) = by_bool (p x) refl (all_passing p xs)
  where
    by_bool : (b : Bool) → p x ≡ b → All (λ x. p x ≡ true) (filter p xs)
        → All (λ x. p x ≡ true) (if b then x ∷ filter p xs else filter p xs)
    by_bool true e h = All-cons (λ x. p x ≡ true) x (filter p xs) e h
    by_bool false e h = h
