-- The records of a migration: what is known of each, and what changes of one leave of the others.
use Rattle.std.proofs.Common.{◌≡◌, ℕ, ◌+◌, ◌<◌, ◌≤◌, ◌⊎◌, inl, inr, Bool, true, false, not, ◌==◌, ◌&&◌, ◌||◌, nat_lt, if◌then◌else◌, is_none, Option, Some, None, List, [], ◌∷◌, ◌++◌, refl, sym, ap, ◌∙◌, subst, append_assoc, arith}
use Rattle.std.specs.List.{list_any, list_all}
use Rattle.std.proofs.lemmas.Bool.Decides.{nat_tests}
use Rattle.std.proofs.lemmas.Bool.{cases_eq, and_parts, and_from, not-true, eqb-true, or_right, or_left, ltb-true}
use Rattle.std.proofs.lemmas.List.Folds.{list_any-append}
use Rattle.hm_base.specs.declared.Frame.{Frame}
use Rattle.hm_base.specs.declared.ops.Op.{Op}
use Rattle.hm_history.specs.Memory.Words.{same_frame, is_frame}
use Rattle.hm_history.specs.Memory.After.{After}
use Rattle.hm_history.specs.Kernel.Going.{with_record}
use Rattle.hm_history.specs.Kernel.Legal.{was_fresh}
use Rattle.hm_history.specs.Kernel.Operation.{op_mirror}
use Rattle.hm_history.specs.declared.Who.{Who}
use Rattle.hm_history.specs.declared.phases.Migrating.{Migrating}
use Rattle.hm_history.specs.declared.phases.MoveStep.{MoveStep}
use Rattle.hm_history.specs.declared.phases.MoveStep.TheVariants.{FreezeOthers, TakeAndCopy, Commit, SetOwnTable, Finish}
use Rattle.hm_laws.specs.Past.{Past}
use Rattle.hm_laws.specs.Records.{same_step, comes_before, is_past, Among, pages_below, rising_pages, is_of, WellListed, staged, parts_of, has_source, has_pair, has_fresh}
use Rattle.hm_laws.specs.Facts.{Fact, Is, Windowed, Copying, Frozen_at, Lands_on, HoldsAll, fact_frames, frames_of, known_of, facts_past, record_facts, records}
use Rattle.hm_laws.proofs.Due.Guards.{number_is}
use Rattle.hm_history.proofs.Frames.{frame_tells, is_frame_from, is_frame_of}
use Rattle.hm_history.proofs.Records.{page_stays}

-- facts of two lists
pub holds_append : (s : After) (t : Past) (a : ℕ) (l m : List Fact) → HoldsAll s t a l → HoldsAll s t a m → HoldsAll s t a (l ++ m)
holds_append s t a [] m h k = k
holds_append s t a (x ∷ l) m h k = (h.0, holds_append s t a l m h.1 k)

pub holds_left : (s : After) (t : Past) (a : ℕ) (l m : List Fact) → HoldsAll s t a (l ++ m) → HoldsAll s t a l
holds_left s t a [] m h = tt
holds_left s t a (x ∷ l) m h = (h.0, holds_left s t a l m h.1)

pub holds_right : (s : After) (t : Past) (a : ℕ) (l m : List Fact) → HoldsAll s t a (l ++ m) → HoldsAll s t a m
holds_right s t a [] m h = h
holds_right s t a (x ∷ l) m h = holds_right s t a l m h.1

pub records_each : (s : After) (t : Past) (a : ℕ) (o : Op) (step : MoveStep) (next : ℕ) (hand : Option (Frame × ℕ)) (xs : List Migrating) → HoldsAll s t a (records o step next hand xs) → (y : Migrating) → Among xs y → HoldsAll s t a (record_facts o step next hand y)
records_each s t a o step next hand [] h y i = absurd i
records_each s t a o step next hand (x ∷ xs) h y (inl e) = subst (λ z. HoldsAll s t a (record_facts o step next hand z)) e (holds_left s t a (record_facts o step next hand x) (records o step next hand xs) h)
records_each s t a o step next hand (x ∷ xs) h y (inr i) = records_each s t a o step next hand xs (holds_right s t a (record_facts o step next hand x) (records o step next hand xs) h) y i

pub records_all : (s : After) (t : Past) (a : ℕ) (o : Op) (step : MoveStep) (next : ℕ) (hand : Option (Frame × ℕ)) (xs : List Migrating) → ((y : Migrating) → Among xs y → HoldsAll s t a (record_facts o step next hand y)) → HoldsAll s t a (records o step next hand xs)
records_all s t a o step next hand [] h = tt
records_all s t a o step next hand (x ∷ xs) h = holds_append s t a (record_facts o step next hand x) (records o step next hand xs) (h x (inl refl)) (records_all s t a o step next hand xs (λ y i. h y (inr i)))

-- their frames
pub frames_join : (l m : List Fact) → frames_of (l ++ m) ≡ frames_of l ++ frames_of m
frames_join [] m = refl
frames_join (x ∷ l) m = ap (λ z. fact_frames x ++ z) (frames_join l m) ∙ sym (append_assoc (fact_frames x) (frames_of l) (frames_of m))

pub frames_append : (l m : List Fact) (f : Frame) → list_any (same_frame f) (frames_of (l ++ m)) ≡ (list_any (same_frame f) (frames_of l) || list_any (same_frame f) (frames_of m))
frames_append l m f = ap (list_any (same_frame f)) (frames_join l m) ∙ list_any-append (same_frame f) (frames_of l) (frames_of m)

either_true : (b d : Bool) → (b || d) ≡ true → (b ≡ true) ⊎ (d ≡ true)
either_true true d h = inl refl
either_true false d h = inr h

pub held_some : (o : Op) (step : MoveStep) (next : ℕ) (hand : Option (Frame × ℕ)) (xs : List Migrating) (f : Frame) → list_any (same_frame f) (frames_of (records o step next hand xs)) ≡ true → (y : Migrating) × Among xs y × (list_any (same_frame f) (frames_of (record_facts o step next hand y)) ≡ true)
held_some o step next hand [] f h = cc
held_some o step next hand (x ∷ xs) f h = by (either_true (list_any (same_frame f) (frames_of (record_facts o step next hand x))) (list_any (same_frame f) (frames_of (records o step next hand xs))) (sym (frames_append (record_facts o step next hand x) (records o step next hand xs) f) ∙ h)) (held_some o step next hand xs f)
  where
    by : (list_any (same_frame f) (frames_of (record_facts o step next hand x)) ≡ true) ⊎ (list_any (same_frame f) (frames_of (records o step next hand xs)) ≡ true) →
        (list_any (same_frame f) (frames_of (records o step next hand xs)) ≡ true → (y : Migrating) × Among xs y × (list_any (same_frame f) (frames_of (record_facts o step next hand y)) ≡ true)) → (y : Migrating) × ((x ≡ y) ⊎ Among xs y) × (list_any (same_frame f) (frames_of (record_facts o step next hand y)) ≡ true)
    by (inl e) ih = (x, inl refl, e)
    by (inr e) ih = let z : (y : Migrating) × Among xs y × (list_any (same_frame f) (frames_of (record_facts o step next hand y)) ≡ true) = ih e in (z.0, inr z.1, z.2)

pub held_of : (o : Op) (step : MoveStep) (next : ℕ) (hand : Option (Frame × ℕ)) (xs : List Migrating) (f : Frame) (y : Migrating) → Among xs y → list_any (same_frame f) (frames_of (record_facts o step next hand y)) ≡ true → list_any (same_frame f) (frames_of (records o step next hand xs)) ≡ true
held_of o step next hand [] f y i h = absurd i
held_of o step next hand (x ∷ xs) f y (inl e) h = frames_append (record_facts o step next hand x) (records o step next hand xs) f ∙ or_left (list_any (same_frame f) (frames_of (record_facts o step next hand x))) (list_any (same_frame f) (frames_of (records o step next hand xs))) (subst (λ z. list_any (same_frame f) (frames_of (record_facts o step next hand z)) ≡ true) (sym e) h)
held_of o step next hand (x ∷ xs) f y (inr i) h = frames_append (record_facts o step next hand x) (records o step next hand xs) f ∙ or_right (list_any (same_frame f) (frames_of (record_facts o step next hand x))) (list_any (same_frame f) (frames_of (records o step next hand xs))) (held_of o step next hand xs f y i h)

frame_turned : (f g : Frame) → same_frame f g ≡ true → same_frame g f ≡ true
frame_turned f g h = grind (arith, frame_tells f g, frame_tells g f)

frame_alone : (f g : Frame) → (same_frame f g || false) ≡ true → same_frame g f ≡ true
frame_alone f g h = frame_turned f g (by (same_frame f g) h)
  where
    by : (b : Bool) → (b || false) ≡ true → b ≡ true
    by true h = refl
    by false h = h

frame_of_two : (i f g : Frame) → (same_frame i f || (same_frame i g || false)) ≡ true → (same_frame f i || same_frame g i) ≡ true
frame_of_two i f g h = by (either_true (same_frame i f) (same_frame i g || false) h)
  where
    by : (same_frame i f ≡ true) ⊎ ((same_frame i g || false) ≡ true) → (same_frame f i || same_frame g i) ≡ true
    by (inl e) = or_left (same_frame f i) (same_frame g i) (frame_turned i f e)
    by (inr e) = or_right (same_frame f i) (same_frame g i) (frame_alone i g e)

known_frames : (o : Op) (v : ℕ) (x y : Option Frame) (moved past_freezing past_commit past_finish : Bool) (hand : Option (Frame × ℕ)) (f : Frame) → list_any (same_frame f) (frames_of (known_of o v x y moved past_freezing past_commit past_finish hand)) ≡ true → (is_frame x f || is_frame y f) ≡ true
known_frames o v None None moved past_freezing past_commit past_finish hand f h = cc
known_frames o v None (Some g) false past_freezing true past_finish hand f h = cc
known_frames o v None (Some g) false past_freezing false past_finish hand f h = frame_alone f g h
known_frames o v None (Some g) true past_freezing past_commit true hand f h = cc
known_frames o v None (Some g) true past_freezing past_commit false hand f h = frame_alone f g h
known_frames o v (Some i) None moved past_freezing past_commit true hand f h = cc
known_frames o v (Some i) None moved true past_commit false hand f h = or_left (same_frame i f) false (frame_alone f i h)
known_frames o v (Some i) None moved false past_commit false hand f h = or_left (same_frame i f) false (frame_alone f i h)
known_frames o v (Some i) (Some g) false past_freezing past_commit true hand f h = cc
known_frames o v (Some i) (Some g) false past_freezing past_commit false hand f h = frame_of_two f i g h
known_frames o v (Some i) (Some g) true past_freezing past_commit true hand f h = cc
known_frames o v (Some i) (Some g) true past_freezing past_commit false hand f h = frame_of_two f i g h

pub frames_are : (o : Op) (step : MoveStep) (next : ℕ) (hand : Option (Frame × ℕ)) (y : Migrating) (f : Frame) → list_any (same_frame f) (frames_of (record_facts o step next hand y)) ≡ true → is_of y f ≡ true
frames_are o step next hand y f h = known_frames o y.page y.source y.dest y.moved (is_past step next FreezeOthers y.page) (is_past step next Commit y.page) (is_past step next Finish y.page) hand f h

-- what is known of a record depends on how far its page has come alone
facts_same : (o : Op) (past_freezing past_taking past_commit past_finish freezing taking commit finish : Bool) (hand : Option (Frame × ℕ)) (x : Migrating) → past_freezing ≡ freezing → past_taking ≡ taking → past_commit ≡ commit → past_finish ≡ finish → facts_past o past_freezing past_taking past_commit past_finish hand x ≡ facts_past o freezing taking commit finish hand x
facts_same o past_freezing past_taking past_commit past_finish freezing taking commit finish hand x e3 e4 e5 e7 = ap (λ b. facts_past o b past_taking past_commit past_finish hand x) e3 ∙ (ap (λ b. facts_past o freezing b past_commit past_finish hand x) e4 ∙ (ap (λ b. facts_past o freezing taking b past_finish hand x) e5 ∙ ap (λ b. facts_past o freezing taking commit b hand x) e7))

pub record_same : (o : Op) (step : MoveStep) (v : ℕ) (hand : Option (Frame × ℕ)) (y : Migrating) → (y.page ≡ v → ⊥) → record_facts o step (v + 1) hand y ≡ record_facts o step v hand y
record_same o step v hand y ne = facts_same o _ _ _ _ _ _ _ _ hand y (same FreezeOthers) (same TakeAndCopy) (same Commit) (same Finish)
  where
    before : (u v : ℕ) → (u ≡ v → ⊥) → nat_lt u (v + 1) ≡ nat_lt u v
    before u v ne = grind (arith, nat_tests)

    same : (other : MoveStep) → is_past step (v + 1) other y.page ≡ is_past step v other y.page
    same other = ap (λ b. comes_before other step || (same_step other step && b)) (before y.page v ne)

-- a frame in hand is of its record alone
parts_same : (g i : Frame) (k : ℕ) → same_frame i g ≡ false → parts_of (Some (g, k)) i ≡ 8
parts_same g i k h = grind (arith, frame_tells g i, frame_tells i g)

known_same : (o : Op) (v : ℕ) (x y : Option Frame) (moved past_freezing past_commit past_finish : Bool) (g : Frame) (k : ℕ) → is_frame y g ≡ false → known_of o v x y moved past_freezing past_commit past_finish (Some (g, k)) ≡ known_of o v x y moved past_freezing past_commit past_finish None
known_same o v None None moved past_freezing past_commit past_finish g k h = refl
known_same o v None (Some i) false past_freezing past_commit past_finish g k h = refl
known_same o v None (Some i) true past_freezing past_commit past_finish g k h = refl
known_same o v (Some f) None moved past_freezing past_commit past_finish g k h = refl
known_same o v (Some f) (Some i) false past_freezing past_commit true g k h = refl
known_same o v (Some f) (Some i) false past_freezing past_commit false g k h = ap (λ n. Copying f i n ∷ Frozen_at (Who.Mirror (op_mirror o)) v f ∷ Lands_on o i ∷ []) (parts_same g i k h)
known_same o v (Some f) (Some i) true past_freezing past_commit past_finish g k h = refl

pub hand_same : (o : Op) (step : MoveStep) (next : ℕ) (g : Frame) (k : ℕ) (y : Migrating) → is_frame y.dest g ≡ false → record_facts o step next (Some (g, k)) y ≡ record_facts o step next None y
hand_same o step next g k y h = ap (λ l. Is (staged o (is_past step next TakeAndCopy y.page) (is_past step next Commit y.page) y) ∷ Windowed (op_mirror o) y.page ∷ l) (known_same o y.page y.source y.dest y.moved (is_past step next FreezeOthers y.page) (is_past step next Commit y.page) (is_past step next Finish y.page) g k h)

pub hands_same : (o : Op) (step : MoveStep) (next : ℕ) (g : Frame) (k j : ℕ) (y : Migrating) → is_frame y.dest g ≡ false → record_facts o step next (Some (g, k)) y ≡ record_facts o step next (Some (g, j)) y
hands_same o step next g k j y h = hand_same o step next g k y h ∙ sym (hand_same o step next g j y h)

-- the step that a test names
pub step_says : (j k : MoveStep) → same_step j k ≡ true → j ≡ k
step_says FreezeOthers FreezeOthers h = refl
step_says TakeAndCopy TakeAndCopy h = refl
step_says Commit Commit h = refl
step_says SetOwnTable SetOwnTable h = refl
step_says Finish Finish h = refl
step_says j k h = cc

-- tests of records
pub any_among : (t : Migrating → Bool) (xs : List Migrating) → list_any t xs ≡ true → (y : Migrating) × Among xs y × (t y ≡ true)
any_among t [] h = cc
any_among t (x ∷ xs) h = by (either_true (t x) (list_any t xs) h) (any_among t xs)
  where
    by : (t x ≡ true) ⊎ (list_any t xs ≡ true) → (list_any t xs ≡ true → (y : Migrating) × Among xs y × (t y ≡ true)) → (y : Migrating) × ((x ≡ y) ⊎ Among xs y) × (t y ≡ true)
    by (inl e) ih = (x, inl refl, e)
    by (inr e) ih = let z : (y : Migrating) × Among xs y × (t y ≡ true) = ih e in (z.0, inr z.1, z.2)

pub among_any : (t : Migrating → Bool) (xs : List Migrating) (y : Migrating) → Among xs y → t y ≡ true → list_any t xs ≡ true
among_any t [] y i h = absurd i
among_any t (x ∷ xs) y (inl e) h = or_left (t x) (list_any t xs) (ap t e ∙ h)
among_any t (x ∷ xs) y (inr i) h = or_right (t x) (list_any t xs) (among_any t xs y i h)

pub all_among : (t : Migrating → Bool) (xs : List Migrating) (y : Migrating) → list_all t xs ≡ true → Among xs y → t y ≡ true
all_among t [] y h i = absurd i
all_among t (x ∷ xs) y h (inl e) = sym (ap t e) ∙ (and_parts (t x) (list_all t xs) h).0
all_among t (x ∷ xs) y h (inr i) = all_among t xs y (and_parts (t x) (list_all t xs) h).1 i

pub among_all : (t : Migrating → Bool) (xs : List Migrating) → ((y : Migrating) → Among xs y → t y ≡ true) → list_all t xs ≡ true
among_all t [] h = refl
among_all t (x ∷ xs) h = and_from (t x) (list_all t xs) (h x (inl refl)) (among_all t xs (λ y i. h y (inr i)))

-- a record in place of that of its page
with_there : (x : Migrating) (xs : List Migrating) (y z : Migrating) → Among xs z → (if z.page == x.page then x else z) ≡ y → Among (with_record x xs) y
with_there x [] y z i h = absurd i
with_there x (w ∷ xs) y z (inl e) h = inl (subst (λ u. (if u.page == x.page then x else u) ≡ y) (sym e) h)
with_there x (w ∷ xs) y z (inr i) h = inr (with_there x xs y z i h)

replaced : (x z : Migrating) → z.page ≡ x.page → (if z.page == x.page then x else z) ≡ x
replaced x z e = ap (λ b. if b then x else z) (number_is z.page x.page e)

untouched : (x z : Migrating) → (z.page ≡ x.page → ⊥) → (if z.page == x.page then x else z) ≡ z
untouched x z ne = by (z.page == x.page) refl
  where
    by : (b : Bool) → (z.page == x.page) ≡ b → (if b then x else z) ≡ z
    by true e = absurd (ne (eqb-true z.page x.page e))
    by false e = refl

pub among_with : (x : Migrating) (xs : List Migrating) (z : Migrating) → Among xs z → z.page ≡ x.page → Among (with_record x xs) x
among_with x xs z i e = with_there x xs x z i (replaced x z e)

pub among_still : (x : Migrating) (xs : List Migrating) (y : Migrating) → Among xs y → (y.page ≡ x.page → ⊥) → Among (with_record x xs) y
among_still x xs y i ne = with_there x xs y y i (untouched x y ne)

with_from : (x : Migrating) (xs : List Migrating) (y : Migrating) → Among (with_record x xs) y → (z : Migrating) × Among xs z × ((if z.page == x.page then x else z) ≡ y)
with_from x [] y i = absurd i
with_from x (w ∷ xs) y (inl e) = (w, inl refl, e)
with_from x (w ∷ xs) y (inr i) = let z : (z : Migrating) × Among xs z × ((if z.page == x.page then x else z) ≡ y) = with_from x xs y i in (z.0, inr z.1, z.2)

pub with_among : (x : Migrating) (xs : List Migrating) (y : Migrating) → Among (with_record x xs) y → ((y ≡ x) × ((z : Migrating) × Among xs z × (z.page ≡ x.page))) ⊎ (Among xs y × (y.page ≡ x.page → ⊥))
with_among x xs y i = at (with_from x xs y i)
  where
    at : (z : Migrating) × Among xs z × ((if z.page == x.page then x else z) ≡ y) → ((y ≡ x) × ((z : Migrating) × Among xs z × (z.page ≡ x.page))) ⊎ (Among xs y × (y.page ≡ x.page → ⊥))
    at z = by (cases_eq z.0.page x.page)
      where
        by : (z.0.page ≡ x.page) ⊎ (z.0.page ≡ x.page → ⊥) → ((y ≡ x) × ((z : Migrating) × Among xs z × (z.page ≡ x.page))) ⊎ (Among xs y × (y.page ≡ x.page → ⊥))
        by (inl e) = inl (sym z.2 ∙ replaced x z.0 e, (z.0, z.1, e))
        by (inr ne) = let e : z.0 ≡ y = sym (untouched x z.0 ne) ∙ z.2 in inr (subst (Among xs) e z.1, λ p. ne (ap (λ (u : Migrating). u.page) e ∙ p))

pages_same : (t : ℕ → Bool) (x : Migrating) (xs : List Migrating) → list_all (λ y. t y.page) (with_record x xs) ≡ list_all (λ y. t y.page) xs
pages_same t x [] = refl
pages_same t x (w ∷ xs) = ap (λ n. t n && list_all (λ y. t y.page) (with_record x xs)) (page_stays x w) ∙ ap (λ b. t w.page && b) (pages_same t x xs)

rising_with : (x : Migrating) (xs : List Migrating) → rising_pages (with_record x xs) ≡ rising_pages xs
rising_with x [] = refl
rising_with x (w ∷ xs) = ap (λ n. list_all (λ y. nat_lt n y.page) (with_record x xs) && rising_pages (with_record x xs)) (page_stays x w) ∙ (ap (λ b. b && rising_pages (with_record x xs)) (pages_same (nat_lt w.page) x xs) ∙ ap (λ b. list_all (λ y. nat_lt w.page y.page) xs && b) (rising_with x xs))

less_of : (m n : ℕ) → m < n → nat_lt m n ≡ true
less_of m n h = grind (arith, nat_tests)

-- of each page there is one record
one_page_of : (xs : List Migrating) (y z : Migrating) → rising_pages xs ≡ true → Among xs y → Among xs z → y.page ≡ z.page → y ≡ z
one_page_of [] y z r i j e = absurd i
one_page_of (x ∷ xs) y z r (inl i) (inl j) e = sym i ∙ j
one_page_of (x ∷ xs) y z r (inl i) (inr j) e = absurd (omega (arith, ltb-true x.page z.page (all_among (λ y. nat_lt x.page y.page) xs z (and_parts (list_all (λ y. nat_lt x.page y.page) xs) (rising_pages xs) r).0 j), ap (λ (u : Migrating). u.page) i, e))
one_page_of (x ∷ xs) y z r (inr i) (inl j) e = absurd (omega (arith, ltb-true x.page y.page (all_among (λ y. nat_lt x.page y.page) xs y (and_parts (list_all (λ y. nat_lt x.page y.page) xs) (rising_pages xs) r).0 i), ap (λ (u : Migrating). u.page) j, e))
one_page_of (x ∷ xs) y z r (inr i) (inr j) e = one_page_of xs y z (and_parts (list_all (λ y. nat_lt x.page y.page) xs) (rising_pages xs) r).1 i j e

pub one_of_page : (xs : List Migrating) (y z : Migrating) → WellListed xs → Among xs y → Among xs z → y.page ≡ z.page → y ≡ z
one_of_page xs y z h i j e = one_page_of xs y z h.rising i j e

pub listed_with : (xs : List Migrating) (x z : Migrating) → WellListed xs → Among xs z → x.page ≡ z.page → ((f : Frame) → is_of x f ≡ true → (is_of z f ≡ true) ⊎ ((y : Migrating) → Among xs y → is_of y f ≡ true → ⊥)) → ((f : Frame) → x.source ≡ Some f → x.dest ≡ Some f → ⊥) → WellListed (with_record x xs)
listed_with xs x z h i e has own = record {
  rising = rising_with x xs ∙ h.rising;
  apart = λ y w f j k oy ow. apart y w f (with_among x xs y j) (with_among x xs w k) oy ow;
  own = λ y f j s d. owned y f (with_among x xs y j) s d;
}
  where
    other : (y : Migrating) (f : Frame) → Among xs y → (y.page ≡ x.page → ⊥) → is_of x f ≡ true → is_of y f ≡ true → ⊥
    other y f j ne ox oy = by (has f ox)
      where
        by : (is_of z f ≡ true) ⊎ ((y : Migrating) → Among xs y → is_of y f ≡ true → ⊥) → ⊥
        by (inl oz) = ne (ap (λ (u : Migrating). u.page) (h.apart y z f j i oy oz) ∙ sym e)
        by (inr none) = none y j oy

    apart : (y w : Migrating) (f : Frame) → ((y ≡ x) × ((z : Migrating) × Among xs z × (z.page ≡ x.page))) ⊎ (Among xs y × (y.page ≡ x.page → ⊥)) → ((w ≡ x) × ((z : Migrating) × Among xs z × (z.page ≡ x.page))) ⊎ (Among xs w × (w.page ≡ x.page → ⊥)) → is_of y f ≡ true → is_of w f ≡ true → y ≡ w
    apart y w f (inl j) (inl k) oy ow = j.0 ∙ sym k.0
    apart y w f (inl j) (inr k) oy ow = absurd (other w f k.0 k.1 (sym (ap (λ u. is_of u f) j.0) ∙ oy) ow)
    apart y w f (inr j) (inl k) oy ow = absurd (other y f j.0 j.1 (sym (ap (λ u. is_of u f) k.0) ∙ ow) oy)
    apart y w f (inr j) (inr k) oy ow = h.apart y w f j.0 k.0 oy ow

    owned : (y : Migrating) (f : Frame) → ((y ≡ x) × ((z : Migrating) × Among xs z × (z.page ≡ x.page))) ⊎ (Among xs y × (y.page ≡ x.page → ⊥)) → y.source ≡ Some f → y.dest ≡ Some f → ⊥
    owned y f (inl j) s d = own f (sym (ap (λ (u : Migrating). u.source) j.0) ∙ s) (sym (ap (λ (u : Migrating). u.dest) j.0) ∙ d)
    owned y f (inr j) s d = h.own y f j.0 s d

-- a record at the end
pub among_on : (xs : List Migrating) (x y : Migrating) → Among (xs ++ x ∷ []) y → Among xs y ⊎ (y ≡ x)
among_on [] x y (inl e) = inr (sym e)
among_on [] x y (inr i) = absurd i
among_on (w ∷ xs) x y (inl e) = inl (inl e)
among_on (w ∷ xs) x y (inr i) = by (among_on xs x y i)
  where
    by : Among xs y ⊎ (y ≡ x) → ((w ≡ y) ⊎ Among xs y) ⊎ (y ≡ x)
    by (inl j) = inl (inr j)
    by (inr e) = inr e

pub on_among : (xs : List Migrating) (x y : Migrating) → Among xs y ⊎ (y ≡ x) → Among (xs ++ x ∷ []) y
on_among [] x y (inl i) = absurd i
on_among [] x y (inr e) = inl (sym e)
on_among (w ∷ xs) x y (inl (inl e)) = inl e
on_among (w ∷ xs) x y (inl (inr i)) = inr (on_among xs x y (inl i))
on_among (w ∷ xs) x y (inr e) = inr (on_among xs x y (inr e))

pub below_page : (n : ℕ) (xs : List Migrating) (y : Migrating) → pages_below n xs ≡ true → Among xs y → y.page < n
below_page n xs y h i = ltb-true y.page n (all_among (λ x. nat_lt x.page n) xs y h i)

pub below_more : (n m : ℕ) (xs : List Migrating) → n ≤ m → pages_below n xs ≡ true → pages_below m xs ≡ true
below_more n m xs l h = among_all (λ x. nat_lt x.page m) xs (λ y i. less_of y.page m (omega (arith, l, below_page n xs y h i)))

pub below_on : (v : ℕ) (xs : List Migrating) (x : Migrating) → x.page ≡ v → pages_below v xs ≡ true → pages_below (v + 1) (xs ++ x ∷ []) ≡ true
below_on v xs x e h = among_all (λ x. nat_lt x.page (v + 1)) (xs ++ x ∷ []) (λ y i. at y (among_on xs x y i))
  where
    at : (y : Migrating) → Among xs y ⊎ (y ≡ x) → nat_lt y.page (v + 1) ≡ true
    at y (inl i) = less_of y.page (v + 1) (omega (arith, below_page v xs y h i))
    at y (inr i) = less_of y.page (v + 1) (omega (arith, ap (λ (u : Migrating). u.page) i, e))

rising_on : (xs : List Migrating) (x : Migrating) → rising_pages xs ≡ true → pages_below x.page xs ≡ true → rising_pages (xs ++ x ∷ []) ≡ true
rising_on [] x r b = refl
rising_on (w ∷ xs) x r b = and_from (list_all (λ y. nat_lt w.page y.page) (xs ++ x ∷ [])) (rising_pages (xs ++ x ∷ [])) (among_all (λ y. nat_lt w.page y.page) (xs ++ x ∷ []) (λ y i. at y (among_on xs x y i))) (rising_on xs x (and_parts (list_all (λ y. nat_lt w.page y.page) xs) (rising_pages xs) r).1 (and_parts (nat_lt w.page x.page) (pages_below x.page xs) b).1)
  where
    at : (y : Migrating) → Among xs y ⊎ (y ≡ x) → nat_lt w.page y.page ≡ true
    at y (inl i) = all_among (λ y. nat_lt w.page y.page) xs y (and_parts (list_all (λ y. nat_lt w.page y.page) xs) (rising_pages xs) r).0 i
    at y (inr e) = ap (λ (u : Migrating). nat_lt w.page u.page) e ∙ (and_parts (nat_lt w.page x.page) (pages_below x.page xs) b).0

pub listed_on : (xs : List Migrating) (x : Migrating) → WellListed xs → pages_below x.page xs ≡ true → ((f : Frame) (y : Migrating) → is_of x f ≡ true → Among xs y → is_of y f ≡ true → ⊥) → ((f : Frame) → x.source ≡ Some f → x.dest ≡ Some f → ⊥) → WellListed (xs ++ x ∷ [])
listed_on xs x h b off own = record {
  rising = rising_on xs x h.rising b;
  apart = λ y w f j k oy ow. apart y w f (among_on xs x y j) (among_on xs x w k) oy ow;
  own = λ y f j s d. owned y f (among_on xs x y j) s d;
}
  where
    apart : (y w : Migrating) (f : Frame) → Among xs y ⊎ (y ≡ x) → Among xs w ⊎ (w ≡ x) → is_of y f ≡ true → is_of w f ≡ true → y ≡ w
    apart y w f (inl j) (inl k) oy ow = h.apart y w f j k oy ow
    apart y w f (inl j) (inr k) oy ow = absurd (off f y (sym (ap (λ u. is_of u f) k) ∙ ow) j oy)
    apart y w f (inr j) (inl k) oy ow = absurd (off f w (sym (ap (λ u. is_of u f) j) ∙ oy) k ow)
    apart y w f (inr j) (inr k) oy ow = j ∙ sym k

    owned : (y : Migrating) (f : Frame) → Among xs y ⊎ (y ≡ x) → y.source ≡ Some f → y.dest ≡ Some f → ⊥
    owned y f (inl j) s d = h.own y f j s d
    owned y f (inr j) s d = own f (sym (ap (λ (u : Migrating). u.source) j) ∙ s) (sym (ap (λ (u : Migrating). u.dest) j) ∙ d)

-- the record that a phase is about
pub none_says : (x : Option Frame) → is_none x ≡ true → x ≡ None
none_says None h = refl
none_says (Some f) h = cc

pub source_found : (f : Frame) (v : ℕ) (xs : List Migrating) → has_source f v xs ≡ true → (y : Migrating) × Among xs y × (y.page ≡ v) × (y.source ≡ Some f)
source_found f v xs h = at (any_among (λ x. (x.page == v) && is_frame x.source f) xs h)
  where
    at : (y : Migrating) × Among xs y × (((y.page == v) && is_frame y.source f) ≡ true) → (y : Migrating) × Among xs y × (y.page ≡ v) × (y.source ≡ Some f)
    at z = let k = and_parts (z.0.page == v) (is_frame z.0.source f) z.2 in (z.0, z.1, eqb-true z.0.page v k.0, is_frame_from z.0.source f k.1)

pub source_has : (f : Frame) (v : ℕ) (xs : List Migrating) (y : Migrating) → Among xs y → y.page ≡ v → y.source ≡ Some f → has_source f v xs ≡ true
source_has f v xs y i p e = among_any (λ x. (x.page == v) && is_frame x.source f) xs y i (and_from (y.page == v) (is_frame y.source f) (number_is y.page v p) (is_frame_of y.source f e))

pub pair_found : (f g : Frame) (xs : List Migrating) → has_pair f g xs ≡ true → (y : Migrating) × Among xs y × (y.source ≡ Some f) × (y.dest ≡ Some g) × (y.moved ≡ false)
pair_found f g xs h = at (any_among (λ x. is_frame x.source f && (is_frame x.dest g && not x.moved)) xs h)
  where
    at : (y : Migrating) × Among xs y × ((is_frame y.source f && (is_frame y.dest g && not y.moved)) ≡ true) → (y : Migrating) × Among xs y × (y.source ≡ Some f) × (y.dest ≡ Some g) × (y.moved ≡ false)
    at z = let k = and_parts (is_frame z.0.source f) (is_frame z.0.dest g && not z.0.moved) z.2 in let l = and_parts (is_frame z.0.dest g) (not z.0.moved) k.1 in (z.0, z.1, is_frame_from z.0.source f k.0, is_frame_from z.0.dest g l.0, not-true z.0.moved l.1)

pub pair_has : (f g : Frame) (xs : List Migrating) (y : Migrating) → Among xs y → y.source ≡ Some f → y.dest ≡ Some g → y.moved ≡ false → has_pair f g xs ≡ true
pair_has f g xs y i s d m = among_any (λ x. is_frame x.source f && (is_frame x.dest g && not x.moved)) xs y i (and_from (is_frame y.source f) (is_frame y.dest g && not y.moved) (is_frame_of y.source f s) (and_from (is_frame y.dest g) (not y.moved) (is_frame_of y.dest g d) (ap not m)))

pub fresh_found : (v : ℕ) (g : Frame) (xs : List Migrating) → has_fresh v g xs ≡ true → (y : Migrating) × Among xs y × (y.page ≡ v) × (y.source ≡ None) × (y.dest ≡ Some g) × (y.moved ≡ false)
fresh_found v g xs h = at (any_among (λ x. (x.page == v) && (is_none x.source && (is_frame x.dest g && not x.moved))) xs h)
  where
    at : (y : Migrating) × Among xs y × (((y.page == v) && (is_none y.source && (is_frame y.dest g && not y.moved))) ≡ true) → (y : Migrating) × Among xs y × (y.page ≡ v) × (y.source ≡ None) × (y.dest ≡ Some g) × (y.moved ≡ false)
    at z = let k = and_parts (z.0.page == v) (is_none z.0.source && (is_frame z.0.dest g && not z.0.moved)) z.2 in let l = and_parts (is_none z.0.source) (is_frame z.0.dest g && not z.0.moved) k.1 in let m = and_parts (is_frame z.0.dest g) (not z.0.moved) l.1 in
        (z.0, z.1, eqb-true z.0.page v k.0, none_says z.0.source l.0, is_frame_from z.0.dest g m.0, not-true z.0.moved m.1)

pub fresh_has : (v : ℕ) (g : Frame) (xs : List Migrating) (y : Migrating) → Among xs y → y.page ≡ v → y.source ≡ None → y.dest ≡ Some g → y.moved ≡ false → has_fresh v g xs ≡ true
fresh_has v g xs y i p s d m = among_any (λ x. (x.page == v) && (is_none x.source && (is_frame x.dest g && not x.moved))) xs y i (and_from (y.page == v) (is_none y.source && (is_frame y.dest g && not y.moved)) (number_is y.page v p) (and_from (is_none y.source) (is_frame y.dest g && not y.moved) (ap is_none s) (and_from (is_frame y.dest g) (not y.moved) (is_frame_of y.dest g d) (ap not m))))

pub fresh_was : (v : ℕ) (xs : List Migrating) (y : Migrating) → Among xs y → y.page ≡ v → y.source ≡ None → was_fresh v xs ≡ true
fresh_was v xs y i p s = among_any (λ x. (x.page == v) && is_none x.source) xs y i (and_from (y.page == v) (is_none y.source) (number_is y.page v p) (ap is_none s))
