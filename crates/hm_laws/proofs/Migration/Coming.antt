-- To which page a migration comes, no entry being added: what its steps passed on the way had nothing to do.
use Rattle.std.proofs.Common.{◌≡◌, ℕ, ◌<◌, ◌≤◌, ◌⊎◌, inl, inr, Bool, true, false, not, ◌&&◌, ◌||◌, nat_lt, nat_le, is_none, is_some, Option, Some, None, List, [], ◌∷◌, ◌++◌, find, cond, refl, sym, ap, ◌∙◌, subst, arith}
use Rattle.std.specs.List.{list_any, list_all}
use Rattle.std.proofs.lemmas.Bool.Decides.{nat_tests}
use Rattle.std.proofs.lemmas.Bool.{and_parts, ltb-true, ltb-false}
use Rattle.hm_base.specs.Program.{Program}
use Rattle.hm_base.specs.declared.Frame.{Frame}
use Rattle.hm_base.specs.declared.ops.Op.{Op}
use Rattle.hm_history.specs.Memory.Words.{same_frame}
use Rattle.hm_history.specs.Memory.Places.{lowest_direct}
use Rattle.hm_history.specs.Memory.After.{After}
use Rattle.hm_history.specs.Kernel.Operation.{op_mirror, is_to_device}
use Rattle.hm_history.specs.Kernel.Going.{is_direct, concerns, steps_from, come_to, coming}
use Rattle.hm_history.specs.declared.Who.{Who}
use Rattle.hm_history.specs.declared.phases.Migrating.{Migrating}
use Rattle.hm_history.specs.declared.phases.MoveStep.{MoveStep}
use Rattle.hm_history.specs.declared.phases.MoveStep.TheVariants.{FreezeOthers, TakeAndCopy, Commit, SetOwnTable, Finish}
use Rattle.hm_history.specs.declared.phases.Phase.{Phase}
use Rattle.hm_laws.specs.Past.{Past}
use Rattle.hm_laws.specs.Sound.{Sound}
use Rattle.hm_laws.specs.Records.{Among, rising_pages, staged}
use Rattle.hm_laws.specs.Facts.{Fact, Is, Read_locked, Windowed, Locks_only, Holds, HoldsAll, frames_of, known_of, facts_past, record_facts, records, migrating, held}
use Rattle.hm_laws.proofs.Due.Empties.{all_moving}
use Rattle.hm_laws.proofs.Migration.Records.{frames_join, records_each, records_all, all_among}
use Rattle.hm_history.proofs.Tests.{true_false}

-- what a search finds: before it in the order of pages nothing passes
pub find_none : (test : Migrating → Bool) (xs : List Migrating) (y : Migrating) → find test xs ≡ None → Among xs y → test y ≡ false
find_none test [] y h i = absurd i
find_none test (x ∷ xs) y h i = by (test x) refl h i (find_none test xs y)
  where
    by : (b : Bool) → test x ≡ b → cond b (Some x) (find test xs) ≡ None → (x ≡ y) ⊎ Among xs y → (find test xs ≡ None → Among xs y → test y ≡ false) → test y ≡ false
    by true e h i ih = cc
    by false e h (inl j) ih = sym (ap test j) ∙ e
    by false e h (inr j) ih = ih h j

-- what a search finds
pub find_some : (test : Migrating → Bool) (xs : List Migrating) (x : Migrating) → find test xs ≡ Some x → Among xs x × (test x ≡ true)
find_some test [] x h = cc
find_some test (w ∷ xs) x h = by (test w) refl h (find_some test xs x)
  where
    same : (w x : Migrating) → ◌≡◌ {A = Option Migrating} (Some w) (Some x) → w ≡ x
    same w x e = cc

    by : (b : Bool) → test w ≡ b → cond b (Some w) (find test xs) ≡ Some x → (find test xs ≡ Some x → Among xs x × (test x ≡ true)) → ((w ≡ x) ⊎ Among xs x) × (test x ≡ true)
    by true e h ih = (inl (same w x h), sym (ap test (same w x h)) ∙ e)
    by false e h ih = let z : Among xs x × (test x ≡ true) = ih h in (inr z.0, z.1)

pub find_before : (test : Migrating → Bool) (xs : List Migrating) (x y : Migrating) → rising_pages xs ≡ true → find test xs ≡ Some x → Among xs y → y.page < x.page → test y ≡ false
find_before test [] x y r h i l = absurd i
find_before test (w ∷ xs) x y r h i l = by (test w) refl h i (find_before test xs x y)
  where
    rest : (list_all (λ z. nat_lt w.page z.page) xs ≡ true) × (rising_pages xs ≡ true)
    rest = and_parts (list_all (λ z. nat_lt w.page z.page) xs) (rising_pages xs) r

    same : (w x : Migrating) → ◌≡◌ {A = Option Migrating} (Some w) (Some x) → w.page ≡ x.page
    same w x e = cc

    by : (b : Bool) → test w ≡ b → cond b (Some w) (find test xs) ≡ Some x → (w ≡ y) ⊎ Among xs y → (rising_pages xs ≡ true → find test xs ≡ Some x → Among xs y → y.page < x.page → test y ≡ false) → test y ≡ false
    by true e h (inl j) ih = absurd (omega (arith, same w x h, ap (λ (z : Migrating). z.page) j, l))
    by true e h (inr j) ih = absurd (omega (arith, same w x h, ltb-true w.page y.page (all_among (λ z. nat_lt w.page z.page) xs y rest.0 j), l))
    by false e h (inl j) ih = sym (ap test j) ∙ e
    by false e h (inr j) ih = ih rest.1 h j l

-- facts after which others hold, of the same frames
pub record Passed (s : After) (t : Past) (a : ℕ) (l m : List Fact) : Type 0 where
  pub holds : HoldsAll s t a l → HoldsAll s t a m
  pub frames : frames_of m ≡ frames_of l

passed_same : (s : After) (t : Past) (a : ℕ) (l m : List Fact) → m ≡ l → Passed s t a l m
passed_same s t a l m e = record {
  holds = λ h. subst (λ x. HoldsAll s t a x) (sym e) h;
  frames = ap frames_of e;
}

passed_by : (s : After) (t : Past) (a : ℕ) (l m i j : List Fact) → i ≡ l → j ≡ m → Passed s t a l m → Passed s t a i j
passed_by s t a l m i j e d h = subst (λ x. Passed s t a x j) (sym e) (subst (λ x. Passed s t a l x) (sym d) h)

-- FreezeOthers: all pages of the frame are frozen
known_frozen : (c : Program) (s : After) (t : Past) (a : ℕ) (o : Op) (v : ℕ) (x y : Option Frame) (moved past_commit past_finish : Bool) (hand : Option (Frame × ℕ)) → Sound c s t → is_direct s x ≡ false → Passed s t a (known_of o v x y moved false past_commit past_finish hand) (known_of o v x y moved true past_commit past_finish hand)
known_frozen c s t a o v None None moved past_commit past_finish hand so e = passed_same s t a _ _ refl
known_frozen c s t a o v None (Some g) false past_commit past_finish hand so e = passed_same s t a _ _ refl
known_frozen c s t a o v None (Some g) true past_commit past_finish hand so e = passed_same s t a _ _ refl
known_frozen c s t a o v (Some f) None moved past_commit true hand so e = passed_same s t a _ _ refl
known_frozen c s t a o v (Some f) None moved past_commit false hand so e = record {
  holds = λ h. ((h.0, all_moving c s t f so (none (lowest_direct s.places f) e)), h.1);
  frames = refl;
}
  where
    none : {X : Type 0} (x : Option X) → is_some x ≡ false → x ≡ None
    none None e = refl
    none (Some x) e = cc
known_frozen c s t a o v (Some f) (Some g) false past_commit past_finish hand so e = passed_same s t a _ _ refl
known_frozen c s t a o v (Some f) (Some g) true past_commit past_finish hand so e = passed_same s t a _ _ refl

record_frozen : (c : Program) (s : After) (t : Past) (a : ℕ) (o : Op) (past_taking past_commit past_finish : Bool) (hand : Option (Frame × ℕ)) (y : Migrating) → Sound c s t → is_direct s y.source ≡ false → Passed s t a (facts_past o false past_taking past_commit past_finish hand y) (facts_past o true past_taking past_commit past_finish hand y)
record_frozen c s t a o past_taking past_commit past_finish hand y so e = let k : Passed s t a (known_of o y.page y.source y.dest y.moved false past_commit past_finish hand) (known_of o y.page y.source y.dest y.moved true past_commit past_finish hand) = known_frozen c s t a o y.page y.source y.dest y.moved past_commit past_finish hand so e in record {
  holds = λ h. (h.0, (h.1.0, k.holds h.1.1));
  frames = k.frames;
}

-- Commit: with no frame to come nothing is committed
known_kept : (o : Op) (v : ℕ) (x y : Option Frame) (moved past_freezing past_finish : Bool) (hand : Option (Frame × ℕ)) → is_some y ≡ false → known_of o v x y moved past_freezing true past_finish hand ≡ known_of o v x y moved past_freezing false past_finish hand
known_kept o v None None moved past_freezing past_finish hand e = refl
known_kept o v (Some f) None moved past_freezing past_finish hand e = refl
known_kept o v None (Some g) moved past_freezing past_finish hand e = cc
known_kept o v (Some f) (Some g) moved past_freezing past_finish hand e = cc

staged_kept : (o : Op) (past_taking : Bool) (y : Migrating) → is_some y.dest ≡ false → staged o past_taking false y ≡ true → staged o past_taking true y ≡ true
staged_kept o past_taking y e h = by y.dest (is_some y.source || is_to_device o) y.moved (is_none y.source) e h
  where
    by : (z : Option Frame) (d m n : Bool) → is_some z ≡ false → (d && ((is_none z || past_taking) && ((not m || (false && is_some z)) && (not false || (is_none z || (m || n)))))) ≡ true → (d && ((is_none z || past_taking) && ((not m || (true && is_some z)) && (not true || (is_none z || (m || n)))))) ≡ true
    by None d m n e h = h
    by (Some g) d m n e h = cc

record_kept : (s : After) (t : Past) (a : ℕ) (o : Op) (past_freezing past_taking past_finish : Bool) (hand : Option (Frame × ℕ)) (y : Migrating) → is_some y.dest ≡ false → Passed s t a (facts_past o past_freezing past_taking false past_finish hand y) (facts_past o past_freezing past_taking true past_finish hand y)
record_kept s t a o past_freezing past_taking past_finish hand y e = let k : Passed s t a (known_of o y.page y.source y.dest y.moved past_freezing false past_finish hand) (known_of o y.page y.source y.dest y.moved past_freezing true past_finish hand) = passed_same s t a _ _ (known_kept o y.page y.source y.dest y.moved past_freezing past_finish hand e) in record {
  holds = λ h. (staged_kept o past_taking y e h.0, (h.1.0, k.holds h.1.1));
  frames = k.frames;
}

-- Finish: nothing returns where nothing was frozen or moved
known_settled : (o : Op) (v : ℕ) (x y : Option Frame) (moved past_freezing past_commit : Bool) (hand : Option (Frame × ℕ)) → (is_some x || moved) ≡ false → known_of o v x y moved past_freezing past_commit true hand ≡ known_of o v x y moved past_freezing past_commit false hand
known_settled o v None None false past_freezing past_commit hand e = refl
known_settled o v None (Some g) false past_freezing past_commit hand e = refl
known_settled o v None y true past_freezing past_commit hand e = cc
known_settled o v (Some f) y moved past_freezing past_commit hand e = cc

record_settled : (o : Op) (past_freezing past_taking past_commit : Bool) (hand : Option (Frame × ℕ)) (y : Migrating) → (is_some y.source || y.moved) ≡ false → facts_past o past_freezing past_taking past_commit true hand y ≡ facts_past o past_freezing past_taking past_commit false hand y
record_settled o past_freezing past_taking past_commit hand y e = ap (λ l. Is (staged o past_taking past_commit y) ∷ Windowed (op_mirror o) y.page ∷ l) (known_settled o y.page y.source y.dest y.moved past_freezing past_commit hand e)

-- the facts of a record in a step, which is past for its page, or is not yet
abbrev pub step_facts : Op → MoveStep → Bool → Option (Frame × ℕ) → Migrating → List Fact
step_facts o FreezeOthers b hand y = facts_past o b false false false hand y
step_facts o TakeAndCopy b hand y = facts_past o true b false false hand y
step_facts o Commit b hand y = facts_past o true true b false hand y
step_facts o SetOwnTable b hand y = facts_past o true true true false hand y
step_facts o Finish b hand y = facts_past o true true true b hand y

step_is : (o : Op) (step : MoveStep) (next : ℕ) (hand : Option (Frame × ℕ)) (y : Migrating) → record_facts o step next hand y ≡ step_facts o step (nat_lt y.page next) hand y
step_is o FreezeOthers next hand y = refl
step_is o TakeAndCopy next hand y = refl
step_is o Commit next hand y = refl
step_is o SetOwnTable next hand y = refl
step_is o Finish next hand y = refl

-- a step that has nothing to do for a page is past for it
passed_step : (c : Program) (s : After) (t : Past) (a : ℕ) (o : Op) (step : MoveStep) (y : Migrating) → Sound c s t → concerns s o step y ≡ false → Passed s t a (step_facts o step false None y) (step_facts o step true None y)
passed_step c s t a o FreezeOthers y so idle = record_frozen c s t a o false false false None y so idle
passed_step c s t a o TakeAndCopy y so idle = cc
passed_step c s t a o Commit y so idle = record_kept s t a o true true false None y idle
passed_step c s t a o SetOwnTable y so idle = passed_same s t a _ _ refl
passed_step c s t a o Finish y so idle = passed_same s t a _ _ (record_settled o true true true None y idle)

-- so where it is past for some pages, it may be past for more that it has nothing to do for
passed_more : (c : Program) (s : After) (t : Past) (a : ℕ) (o : Op) (step : MoveStep) (y : Migrating) (b d : Bool) → Sound c s t → (b ≡ true → d ≡ true) → (b ≡ false → d ≡ true → concerns s o step y ≡ false) → Passed s t a (step_facts o step b None y) (step_facts o step d None y)
passed_more c s t a o step y true true so more idle = passed_same s t a _ _ refl
passed_more c s t a o step y true false so more idle = absurd (true_false false (more refl) refl)
passed_more c s t a o step y false false so more idle = passed_same s t a _ _ refl
passed_more c s t a o step y false true so more idle = passed_step c s t a o step y so (idle refl refl)

later : (m n i : ℕ) → n ≤ i → nat_lt m n ≡ true → nat_lt m i ≡ true
later m n i l h = grind (arith, nat_tests)

none_less : (n : ℕ) → nat_lt n 0 ≡ false
none_less n = grind (arith, nat_tests)

record_within : (c : Program) (s : After) (t : Past) (a : ℕ) (o : Op) (step : MoveStep) (next from : ℕ) (y : Migrating) → Sound c s t → next ≤ from → (next ≤ y.page → y.page < from → concerns s o step y ≡ false) → Passed s t a (record_facts o step next None y) (record_facts o step from None y)
record_within c s t a o step next from y so l idle = passed_by s t a _ _ _ _ (step_is o step next None y) (step_is o step from None y)
    (passed_more c s t a o step y (nat_lt y.page next) (nat_lt y.page from) so (later y.page next from l) (λ e i. idle (ltb-false y.page next e) (ltb-true y.page from i)))

-- the end of a step is the start of the next one
abbrev Follows : MoveStep → MoveStep → Type 0
Follows step after = (o : Op) (y : Migrating) → step_facts o after false None y ≡ step_facts o step true None y

record_over : (c : Program) (s : After) (t : Past) (a : ℕ) (o : Op) (step : MoveStep) (next : ℕ) (y : Migrating) → Sound c s t → (next ≤ y.page → concerns s o step y ≡ false) → Passed s t a (record_facts o step next None y) (step_facts o step true None y)
record_over c s t a o step next y so idle = passed_by s t a _ _ _ _ (step_is o step next None y) refl (passed_more c s t a o step y (nat_lt y.page next) true so (λ e. refl) (λ e i. idle (ltb-false y.page next e)))

start_is : (o : Op) (step after : MoveStep) (y : Migrating) → Follows step after → record_facts o after 0 None y ≡ step_facts o step true None y
start_is o step after y f = step_is o after 0 None y ∙ (ap (λ b. step_facts o after b None y) (none_less y.page) ∙ f o y)

-- and all of them
passed_frames : (s : After) (t : Past) (a : ℕ) (o : Op) (step : MoveStep) (next : ℕ) (after : MoveStep) (from : ℕ) (xs : List Migrating) → ((y : Migrating) → Among xs y → Passed s t a (record_facts o step next None y) (record_facts o after from None y)) → held o xs after from None ≡ held o xs step next None
passed_frames s t a o step next after from [] h = refl
passed_frames s t a o step next after from (x ∷ xs) h = frames_join (record_facts o after from None x) (records o after from None xs) ∙ (ap (λ l. l ++ held o xs after from None) (h x (inl refl)).frames ∙ (ap (λ l. frames_of (record_facts o step next None x) ++ l) (passed_frames s t a o step next after from xs (λ y i. h y (inr i))) ∙ sym (frames_join (record_facts o step next None x) (records o step next None xs))))

-- what a migration knows at the page to which it has come
pub record Come (s : After) (t : Past) (a : ℕ) (o : Op) (xs : List Migrating) (step : MoveStep) (next : ℕ) : Type 0 where
  pub knows : HoldsAll s t a (migrating o xs step next None)
  pub locks : Holds s t a (Locks_only (held o xs step next None))

come_on : (s : After) (t : Past) (a : ℕ) (o : Op) (xs : List Migrating) (step : MoveStep) (next : ℕ) (after : MoveStep) (from : ℕ) → ((y : Migrating) → Among xs y → Passed s t a (record_facts o step next None y) (record_facts o after from None y)) → Come s t a o xs step next → Come s t a o xs after from
come_on s t a o xs step next after from h k = record {
  knows = (k.knows.0, (k.knows.1.0, (k.knows.1.1.0, records_all s t a o after from None xs (λ y i. (h y i).holds (records_each s t a o step next None xs k.knows.1.1.1 y i)))));
  locks = λ f m. subst (λ l. list_any (same_frame f) l ≡ true) (sym (passed_frames s t a o step next after from xs h)) (k.locks f m);
}

-- to a page that the step is about, or to the end
pub record Came (s : After) (t : Past) (a : ℕ) (o : Op) (xs : List Migrating) (step : MoveStep) (x : Migrating) : Type 0 where
  pub among : Among xs x
  pub concerned : concerns s o step x ≡ true
  pub knows : HoldsAll s t a (migrating o xs step x.page None)
  pub locks : Holds s t a (Locks_only (held o xs step x.page None))

pub record Past_all (s : After) (t : Past) (a : ℕ) (o : Op) (xs : List Migrating) : Type 0 where
  pub reads : Holds s t a (Read_locked (Who.Mirror (op_mirror o)))
  pub locks : Holds s t a (Locks_only [])

-- past all steps no record holds a frame
known_ended : (o : Op) (v : ℕ) (x y : Option Frame) (moved : Bool) → frames_of (known_of o v x y moved true true true None) ≡ []
known_ended o v None None moved = refl
known_ended o v None (Some g) false = refl
known_ended o v None (Some g) true = refl
known_ended o v (Some f) None moved = refl
known_ended o v (Some f) (Some g) false = refl
known_ended o v (Some f) (Some g) true = refl

held_ended : (s : After) (t : Past) (a : ℕ) (o : Op) (next : ℕ) (xs : List Migrating) → ((y : Migrating) → Among xs y → Passed s t a (record_facts o Finish next None y) (step_facts o Finish true None y)) → held o xs Finish next None ≡ []
held_ended s t a o next [] h = refl
held_ended s t a o next (x ∷ xs) h = frames_join (record_facts o Finish next None x) (records o Finish next None xs) ∙ (ap (λ l. l ++ held o xs Finish next None) (sym (h x (inl refl)).frames ∙ known_ended o x.page x.source x.dest x.moved) ∙ held_ended s t a o next xs (λ y i. h y (inr i)))

-- what the pages from one on have nothing to do for
abbrev Idle : After → Op → List Migrating → MoveStep → ℕ → Type 0
Idle s o xs step next = (y : Migrating) → Among xs y → next ≤ y.page → concerns s o step y ≡ false

idle_of : (s : After) (o : Op) (step : MoveStep) (next : ℕ) (y : Migrating) → (nat_le next y.page && concerns s o step y) ≡ false → next ≤ y.page → concerns s o step y ≡ false
idle_of s o step next y h l = by (concerns s o step y) h (le next y.page l)
  where
    le : (m n : ℕ) → m ≤ n → nat_le m n ≡ true
    le m n l = grind (arith, nat_tests)

    by : (b : Bool) → (nat_le next y.page && b) ≡ false → nat_le next y.page ≡ true → b ≡ false
    by true h e = grind arith
    by false h e = refl

come_over : (c : Program) (s : After) (t : Past) (a : ℕ) (o : Op) (xs : List Migrating) (step : MoveStep) (next : ℕ) (after : MoveStep) → Sound c s t → Follows step after → Come s t a o xs step next → Idle s o xs step next → Come s t a o xs after 0
come_over c s t a o xs step next after so f h idle = come_on s t a o xs step next after 0 (λ y i. passed_by s t a _ _ _ _ refl (start_is o step after y f) (record_over c s t a o step next y so (idle y i))) h

past_all : (c : Program) (s : After) (t : Past) (a : ℕ) (o : Op) (xs : List Migrating) (next : ℕ) → Sound c s t → Come s t a o xs Finish next → Idle s o xs Finish next → Past_all s t a o xs
past_all c s t a o xs next so h idle = record {
  reads = h.knows.1.1.0;
  locks = λ f m. subst (λ l. list_any (same_frame f) l ≡ true) (held_ended s t a o next xs (λ y i. record_over c s t a o Finish next y so (idle y i))) (h.locks f m);
}

come_here : (c : Program) (s : After) (t : Past) (a : ℕ) (o : Op) (xs : List Migrating) (step : MoveStep) (next : ℕ) (x : Migrating) → Sound c s t → Come s t a o xs step next → find (λ x. nat_le next x.page && concerns s o step x) xs ≡ Some x → Came s t a o xs step x
come_here c s t a o xs step next x so h e = record {
  among = found.0;
  concerned = tests.1;
  knows = on.knows;
  locks = on.locks;
}
  where
    found : Among xs x × ((nat_le next x.page && concerns s o step x) ≡ true)
    found = find_some (λ x. nat_le next x.page && concerns s o step x) xs x e

    tests : (nat_le next x.page ≡ true) × (concerns s o step x ≡ true)
    tests = and_parts (nat_le next x.page) (concerns s o step x) found.1

    le : (m n : ℕ) → nat_le m n ≡ true → m ≤ n
    le m n l = grind (arith, nat_tests)

    on : Come s t a o xs step x.page
    on = come_on s t a o xs step next step x.page
        (λ y i. record_within c s t a o step next x.page y so (le next x.page tests.0) (λ l m. idle_of s o step next y (find_before (λ x. nat_le next x.page && concerns s o step x) xs x y h.knows.1.0.rising e i m) l)) h

-- the entry is due where it comes to: at a page of a step, or past all
pub record Ahead (s : After) (t : Past) (a : ℕ) (o : Op) (xs : List Migrating) (P : Option (MoveStep × Migrating) → Type 0) : Type 0 where
  pub here : (step : MoveStep) (x : Migrating) → Came s t a o xs step x → P (Some (step, x))
  pub ended : Past_all s t a o xs → P None

come_in : (c : Program) (s : After) (t : Past) (a : ℕ) (o : Op) (xs : List Migrating) (step : MoveStep) (rest : List MoveStep) (next : ℕ) (P : Option (MoveStep × Migrating) → Type 0) → Sound c s t → Come s t a o xs step next → Ahead s t a o xs P → (Idle s o xs step next → P (come_to s o xs rest 0)) → P (come_to s o xs (step ∷ rest) next)
come_in c s t a o xs step rest next P so h go over = by (find (λ x. nat_le next x.page && concerns s o step x) xs) refl
  where
    by : (r : Option Migrating) → find (λ x. nat_le next x.page && concerns s o step x) xs ≡ r → P (elim r [ Some x ↦ Some (step, x) | None ↦ come_to s o xs rest 0 ])
    by (Some x) i = go.here step x (come_here c s t a o xs step next x so h i)
    by None i = over (λ y j. idle_of s o step next y (find_none (λ x. nat_le next x.page && concerns s o step x) xs y i j))

come_next : (c : Program) (s : After) (t : Past) (a : ℕ) (o : Op) (xs : List Migrating) (step after : MoveStep) (rest : List MoveStep) (next : ℕ) (P : Option (MoveStep × Migrating) → Type 0) → Sound c s t → Follows step after → Come s t a o xs step next → Ahead s t a o xs P → (Come s t a o xs after 0 → P (come_to s o xs rest 0)) → P (come_to s o xs (step ∷ rest) next)
come_next c s t a o xs step after rest next P so f h go on = come_in c s t a o xs step rest next P so h go (λ idle. on (come_over c s t a o xs step next after so f h idle))

came_from : (c : Program) (s : After) (t : Past) (a : ℕ) (o : Op) (xs : List Migrating) (step : MoveStep) (next : ℕ) (P : Option (MoveStep × Migrating) → Type 0) → Sound c s t → Come s t a o xs step next → Ahead s t a o xs P → P (come_to s o xs (steps_from step) next)
came_from c s t a o xs step next P so h go = from step next h
  where
    at_finish : (next : ℕ) → Come s t a o xs Finish next → P (come_to s o xs (steps_from Finish) next)
    at_finish next h = come_in c s t a o xs Finish [] next P so h go (λ idle. go.ended (past_all c s t a o xs next so h idle))

    at_own_table : (next : ℕ) → Come s t a o xs SetOwnTable next → P (come_to s o xs (steps_from SetOwnTable) next)
    at_own_table next h = come_next c s t a o xs SetOwnTable Finish (steps_from Finish) next P so (λ o y. refl) h go (at_finish 0)

    at_commit : (next : ℕ) → Come s t a o xs Commit next → P (come_to s o xs (steps_from Commit) next)
    at_commit next h = come_next c s t a o xs Commit SetOwnTable (steps_from SetOwnTable) next P so (λ o y. refl) h go (at_own_table 0)

    at_take : (next : ℕ) → Come s t a o xs TakeAndCopy next → P (come_to s o xs (steps_from TakeAndCopy) next)
    at_take next h = come_next c s t a o xs TakeAndCopy Commit (steps_from Commit) next P so (λ o y. refl) h go (at_commit 0)

    from : (step : MoveStep) (next : ℕ) → Come s t a o xs step next → P (come_to s o xs (steps_from step) next)
    from FreezeOthers next h = come_next c s t a o xs FreezeOthers TakeAndCopy (steps_from TakeAndCopy) next P so (λ o y. refl) h go (at_take 0)
    from TakeAndCopy next h = at_take next h
    from Commit next h = at_commit next h
    from SetOwnTable next h = at_own_table next h
    from Finish next h = at_finish next h

-- from a phase of it
pub came_to : (c : Program) (s : After) (t : Past) (a : ℕ) (o : Op) (xs : List Migrating) (step : MoveStep) (next : ℕ) (P : Option (MoveStep × Migrating) → Type 0) → Sound c s t → HoldsAll s t a (migrating o xs step next None) → Holds s t a (Locks_only (held o xs step next None)) → Ahead s t a o xs P → P (coming s o xs (Phase.Moves step next))
came_to c s t a o xs step next P so h l go = came_from c s t a o xs step next P so (record { knows = h; locks = l }) go
