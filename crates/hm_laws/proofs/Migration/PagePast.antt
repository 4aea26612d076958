-- A migration comes past a page, or makes a new record of one: what is known of the other records stays.
use Rattle.std.proofs.Common.{◌≡◌, ℕ, ◌+◌, ◌⊎◌, inl, inr, Bool, true, false, ◌&&◌, ◌||◌, nat_lt, Option, None, List, ◌++◌, refl, sym, ap, ◌∙◌, subst, arith}
use Rattle.std.specs.List.{list_any}
use Rattle.std.proofs.lemmas.List.Folds.{list_any-append}
use Rattle.std.proofs.lemmas.Bool.{cases_eq, and_parts, and_from}
use Rattle.hm_base.specs.Program.{Program}
use Rattle.hm_base.specs.declared.Frame.{Frame}
use Rattle.hm_base.specs.declared.ops.Op.{Op}
use Rattle.std.proofs.lemmas.Bool.Decides.{nat_tests}
use Rattle.hm_history.specs.Memory.Words.{same_frame}
use Rattle.hm_history.specs.Memory.After.{After}
use Rattle.hm_history.specs.Kernel.Going.{with_record}
use Rattle.hm_history.specs.declared.Kind.{Kind}
use Rattle.hm_history.specs.declared.phases.Migrating.{Migrating}
use Rattle.hm_history.specs.declared.phases.MoveStep.{MoveStep}
use Rattle.hm_laws.specs.Past.{Past, past_next}
use Rattle.hm_laws.specs.Sound.{Sound}
use Rattle.hm_laws.specs.Allowed.{next, Allowed}
use Rattle.hm_laws.specs.Records.{is_of, Among, WellListed, staged, has_ground, is_taken_in_time, is_moved_in_time, is_moved_at_last}
use Rattle.hm_laws.specs.Facts.{Locks_only, Holds, frames_of, record_facts, records, held, HoldsAll}
use Rattle.hm_laws.proofs.Own.Facts.{Keeping}
use Rattle.hm_laws.proofs.Own.Records.{ApartAll, record_on}
use Rattle.hm_laws.proofs.Migration.Records.{records_each, records_all, held_some, held_of, frames_are, among_with, among_still, with_among, one_of_page}

-- ys is xs with z in place of x, which may be the same
pub record Renewed (xs ys : List Migrating) (x z : Migrating) : Type 0 where
  pub was : (y : Migrating) → Among xs y → y.page ≡ x.page → y ≡ x
  pub now : Among ys z
  pub kept : (y : Migrating) → Among xs y → (y.page ≡ x.page → ⊥) → Among ys y
  pub from : (y : Migrating) → Among ys y → (y ≡ z) ⊎ (Among xs y × (y.page ≡ x.page → ⊥))

pub unchanged : (xs : List Migrating) (x : Migrating) → WellListed xs → Among xs x → Renewed xs xs x x
unchanged xs x w i = record { was = λ y j e. one_of_page xs y x w j i e; now = i; kept = λ y j ne. j; from = λ y j. by y j (cases_eq y.page x.page) }
  where
    by : (y : Migrating) → Among xs y → (y.page ≡ x.page) ⊎ (y.page ≡ x.page → ⊥) → (y ≡ x) ⊎ (Among xs y × (y.page ≡ x.page → ⊥))
    by y j (inl e) = inl (one_of_page xs y x w j i e)
    by y j (inr ne) = inr (j, ne)

pub renewed : (xs : List Migrating) (x z : Migrating) → WellListed xs → Among xs x → z.page ≡ x.page → Renewed xs (with_record z xs) x z
renewed xs x z w i e = record { was = λ y j d. one_of_page xs y x w j i d; now = among_with z xs x i (sym e); kept = λ y j ne. among_still z xs y j (λ d. ne (d ∙ e)); from = λ y j. by y (with_among z xs y j) }
  where
    by : (y : Migrating) → ((y ≡ z) × ((u : Migrating) × Among xs u × (u.page ≡ z.page))) ⊎ (Among xs y × (y.page ≡ z.page → ⊥)) → (y ≡ z) ⊎ (Among xs y × (y.page ≡ x.page → ⊥))
    by y (inl j) = inl j.0
    by y (inr j) = inr (j.0, λ d. j.1 (d ∙ sym e))

-- a frame of one record is none of another's
pub apart_others : (o : Op) (step : MoveStep) (v : ℕ) (hand : Option (Frame × ℕ)) (xs : List Migrating) (x y : Migrating) (f g : Frame) → WellListed xs → Among xs x → Among xs y → (y.page ≡ x.page → ⊥) → is_of x g ≡ true → list_any (same_frame f) (frames_of (record_facts o step v hand y)) ≡ true → f ≡ g → ⊥
apart_others o step v hand xs x y f g w i j ne og m e = ne (ap (λ (u : Migrating). u.page) (w.apart y x g j i (ap (is_of y) (sym e) ∙ frames_are o step v hand y f m) og))

-- the facts of the other records are the same for both positions
abbrev pub SameFor : Op → MoveStep → ℕ → MoveStep → ℕ → ℕ → Type 0
SameFor o step v later w page = (y : Migrating) → (y.page ≡ page → ⊥) → record_facts o later w None y ≡ record_facts o step v None y

pub records_past : (c : Program) (s : After) (t : Past) (a : ℕ) (k : Kind) → Sound c s t → Allowed c s t a k → Keeping s a k → (o : Op) (step : MoveStep) (v : ℕ) (later : MoveStep) (w : ℕ) (xs ys : List Migrating) (x z : Migrating) → Renewed xs ys x z → SameFor o step v later w x.page →
    ((y : Migrating) → Among xs y → (y.page ≡ x.page → ⊥) → ApartAll s k (frames_of (record_facts o step v None y))) → HoldsAll s t a (records o step v None xs) → HoldsAll (next s a k) (past_next t s.length a k) a (record_facts o later w None z) →
    HoldsAll (next s a k) (past_next t s.length a k) a (records o later w None ys)
records_past c s t a k so ok st o step v later w xs ys x z r same apart h new = records_all (next s a k) (past_next t s.length a k) a o later w None ys (λ y i. by y (r.from y i))
  where
    by : (y : Migrating) → (y ≡ z) ⊎ (Among xs y × (y.page ≡ x.page → ⊥)) → HoldsAll (next s a k) (past_next t s.length a k) a (record_facts o later w None y)
    by y (inl e) = subst (λ u. HoldsAll (next s a k) (past_next t s.length a k) a (record_facts o later w None u)) (sym e) new
    by y (inr j) = subst (HoldsAll (next s a k) (past_next t s.length a k) a) (sym (same y j.1)) (record_on c s t a k so ok st o step v None y (apart y j.0 j.1) (records_each s t a o step v None xs h y j.0))

-- so in the same state
pub records_there : (s : After) (t : Past) (a : ℕ) (o : Op) (step : MoveStep) (v : ℕ) (later : MoveStep) (w : ℕ) (xs ys : List Migrating) (x z : Migrating) → Renewed xs ys x z → SameFor o step v later w x.page → HoldsAll s t a (records o step v None xs) → HoldsAll s t a (record_facts o later w None z) → HoldsAll s t a (records o later w None ys)
records_there s t a o step v later w xs ys x z r same h new = records_all s t a o later w None ys (λ y i. by y (r.from y i))
  where
    by : (y : Migrating) → (y ≡ z) ⊎ (Among xs y × (y.page ≡ x.page → ⊥)) → HoldsAll s t a (record_facts o later w None y)
    by y (inl e) = subst (λ u. HoldsAll s t a (record_facts o later w None u)) (sym e) new
    by y (inr j) = subst (HoldsAll s t a) (sym (same y j.1)) (records_each s t a o step v None xs h y j.0)

-- and their frames are among those that are locked
pub held_past : (o : Op) (step : MoveStep) (v : ℕ) (later : MoveStep) (w : ℕ) (xs ys : List Migrating) (x z : Migrating) (f : Frame) → Renewed xs ys x z → SameFor o step v later w x.page → list_any (same_frame f) (held o xs step v None) ≡ true →
    (list_any (same_frame f) (frames_of (record_facts o step v None x)) ≡ true) ⊎ (list_any (same_frame f) (held o ys later w None) ≡ true)
held_past o step v later w xs ys x z f r same h = at (held_some o step v None xs f h)
  where
    at : (y : Migrating) × Among xs y × (list_any (same_frame f) (frames_of (record_facts o step v None y)) ≡ true) → (list_any (same_frame f) (frames_of (record_facts o step v None x)) ≡ true) ⊎ (list_any (same_frame f) (held o ys later w None) ≡ true)
    at y = by (cases_eq y.0.page x.page)
      where
        by : (y.0.page ≡ x.page) ⊎ (y.0.page ≡ x.page → ⊥) → (list_any (same_frame f) (frames_of (record_facts o step v None x)) ≡ true) ⊎ (list_any (same_frame f) (held o ys later w None) ≡ true)
        by (inl e) = inl (subst (λ u. list_any (same_frame f) (frames_of (record_facts o step v None u)) ≡ true) (r.was y.0 y.1 e) y.2)
        by (inr ne) = inr (held_of o later w None ys f y.0 (r.kept y.0 y.1 ne) (ap (λ l. list_any (same_frame f) (frames_of l)) (same y.0 ne) ∙ y.2))

-- a frame of a record with nothing left to be held is not held
pub not_held : (o : Op) (step : MoveStep) (v : ℕ) (xs : List Migrating) (x : Migrating) (f : Frame) → WellListed xs → Among xs x → is_of x f ≡ true → (list_any (same_frame f) (frames_of (record_facts o step v None x)) ≡ true → ⊥) → list_any (same_frame f) (held o xs step v None) ≡ false
not_held o step v xs x f w i of none = by (list_any (same_frame f) (held o xs step v None)) refl
  where
    at : (y : Migrating) × Among xs y × (list_any (same_frame f) (frames_of (record_facts o step v None y)) ≡ true) → ⊥
    at y = none (subst (λ u. list_any (same_frame f) (frames_of (record_facts o step v None u)) ≡ true) (w.apart y.0 x f y.1 i (frames_are o step v None y.0 f y.2) of) y.2)

    by : (b : Bool) → list_any (same_frame f) (held o xs step v None) ≡ b → b ≡ false
    by true h = absurd (at (held_some o step v None xs f h))
    by false h = refl

-- what a record's stage says of it
pub record Stage (o : Op) (past_taking past_commit : Bool) (x : Migrating) : Type 0 where
  pub device : has_ground o x ≡ true
  pub taken : is_taken_in_time past_taking x ≡ true
  pub committed : is_moved_in_time past_commit x ≡ true
  pub passed : is_moved_at_last past_commit x ≡ true

pub stage_says : (o : Op) (past_taking past_commit : Bool) (x : Migrating) → staged o past_taking past_commit x ≡ true →
    Stage o past_taking past_commit x
stage_says o past_taking past_commit x h = record { device = a.0; taken = b.0; committed = d.0; passed = d.1 }
  where
    moves : Bool
    moves = is_moved_in_time past_commit x && is_moved_at_last past_commit x

    a : (has_ground o x ≡ true) × ((is_taken_in_time past_taking x && moves) ≡ true)
    a = and_parts (has_ground o x) (is_taken_in_time past_taking x && moves) h

    b : (is_taken_in_time past_taking x ≡ true) × (moves ≡ true)
    b = and_parts (is_taken_in_time past_taking x) moves a.1

    d : (is_moved_in_time past_commit x ≡ true) × (is_moved_at_last past_commit x ≡ true)
    d = and_parts (is_moved_in_time past_commit x) (is_moved_at_last past_commit x) b.1

pub stage_of : (o : Op) (past_taking past_commit : Bool) (x : Migrating) → Stage o past_taking past_commit x →
    staged o past_taking past_commit x ≡ true
stage_of o past_taking past_commit x h =
    and_from (has_ground o x) _ h.device (and_from (is_taken_in_time past_taking x) _ h.taken
    (and_from (is_moved_in_time past_commit x) (is_moved_at_last past_commit x) h.committed h.passed))

-- positions
pub not_before : (v : ℕ) → nat_lt v v ≡ false
not_before v = grind (arith, nat_tests)

pub now_before : (v : ℕ) → nat_lt v (v + 1) ≡ true
now_before v = grind (arith, nat_tests)

-- the locked frames are those in hand, and those of the records
in_both : (f : Frame) (l m : List Frame) → (list_any (same_frame f) l ≡ true) ⊎ (list_any (same_frame f) m ≡ true) → list_any (same_frame f) (l ++ m) ≡ true
in_both f l m h = list_any-append (same_frame f) l m ∙ by (list_any (same_frame f) l) (list_any (same_frame f) m) h
  where
    by : (b d : Bool) → (b ≡ true) ⊎ (d ≡ true) → (b || d) ≡ true
    by b d e = grind arith

pub locked_past : (s : After) (t : Past) (a : ℕ) (o : Op) (step : MoveStep) (v : ℕ) (later : MoveStep) (w : ℕ) (xs ys : List Migrating) (x z : Migrating) (l : List Frame) → Renewed xs ys x z → SameFor o step v later w x.page → Holds s t a (Locks_only (held o xs step v None)) →
    ((f : Frame) → list_any (same_frame f) (frames_of (record_facts o step v None x)) ≡ true → (list_any (same_frame f) l ≡ true) ⊎ (list_any (same_frame f) (held o ys later w None) ≡ true)) → Holds s t a (Locks_only (l ++ held o ys later w None))
locked_past s t a o step v later w xs ys x z l r same h mine f k = in_both f l (held o ys later w None) (by (held_past o step v later w xs ys x z f r same (h f k)))
  where
    by : (list_any (same_frame f) (frames_of (record_facts o step v None x)) ≡ true) ⊎ (list_any (same_frame f) (held o ys later w None) ≡ true) → (list_any (same_frame f) l ≡ true) ⊎ (list_any (same_frame f) (held o ys later w None) ≡ true)
    by (inl e) = mine f e
    by (inr e) = inr e
