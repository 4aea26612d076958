-- Where a migration takes frames and copies: a frame is taken for each page, or the page is passed over.
use Rattle.std.proofs.Common.{◌≡◌, ℕ, ◌+◌, ◌⊎◌, inl, inr, Bool, true, false, ◌||◌, is_some, is_none, Option, Some, None, List, [], ◌∷◌, refl, sym, ap, ◌∙◌, subst, arith}
use Rattle.std.specs.List.{list_any}
use Rattle.std.proofs.lemmas.Bool.{cases_eq, or_right, or_left}
use Rattle.hm_base.specs.Program.{Program}
use Rattle.hm_base.specs.declared.Frame.{Frame}
use Rattle.hm_base.specs.declared.ops.Op.{Op}
use Rattle.hm_history.specs.Memory.Words.{same_frame, is_frame}
use Rattle.hm_history.specs.Memory.Places.{lowest_free}
use Rattle.hm_history.specs.Memory.Contents.{zeros}
use Rattle.hm_history.specs.Memory.After.{After}
use Rattle.hm_history.specs.Kernel.Operation.{op_mirror, is_to_device}
use Rattle.hm_history.specs.Kernel.Stacks.{copying}
use Rattle.hm_history.specs.Kernel.Going.{with_record}
use Rattle.hm_history.specs.Kernel.Due.{skips, pool_of, due_step}
use Rattle.hm_history.specs.declared.KeptAt.{KeptAt}
use Rattle.hm_history.specs.declared.KeptWhy.{KeptWhy}
use Rattle.hm_history.specs.declared.Who.{Who}
use Rattle.hm_history.specs.declared.Kind.{Kind}
use Rattle.hm_history.specs.declared.phases.Migrating.{Migrating}
use Rattle.hm_history.specs.declared.phases.MoveStep.{MoveStep}
use Rattle.hm_history.specs.declared.phases.MoveStep.TheVariants.{TakeAndCopy}
use Rattle.hm_history.specs.declared.phases.Phase.{Phase}
use Rattle.hm_laws.specs.Past.{Past}
use Rattle.hm_laws.specs.Sound.{Sound}
use Rattle.hm_laws.specs.Allowed.{next, Allowed}
use Rattle.hm_laws.specs.Records.{Among, is_of, WellListed}
use Rattle.hm_laws.specs.Facts.{No_guard, Locks_only, May_read, Frozen, Frozen_at, Holds, frames_of, held, record_facts, migrating, facts, HoldsAll}
use Rattle.hm_laws.proofs.Kept.Pools.{free_says}
use Rattle.hm_laws.proofs.Other.Frames.{frame_else, frame_here}
use Rattle.hm_laws.proofs.Own.Facts.{Keeping, own_all}
use Rattle.hm_laws.proofs.Own.Records.{migrating_on, record_on}
use Rattle.hm_laws.proofs.Due.Good.{either}
use Rattle.hm_laws.proofs.Due.Decide.{taken_own}
use Rattle.hm_laws.proofs.Migration.Records.{records_each, records_all, held_some, frames_are, hand_same, with_among, among_with, among_still, listed_with, one_of_page, pair_has}
use Rattle.hm_laws.proofs.Migration.Good.{Came, Steps}
use Rattle.hm_laws.proofs.Migration.TakingFacts.{held_taking, mine_taking, same_held, further, all_further, not_yet, staged_taken, known_source, known_none, known_fresh, known_pair, parts_here}
use Rattle.hm_history.proofs.Tests.{true_false}
use Rattle.hm_history.proofs.Frames.{frame_tells, is_frame_of}
use Rattle.hm_laws.proofs.Due.Empties.{no_part}

-- a page is passed over
passed_over : (c : Program) (s : After) (t : Past) (a : ℕ) (o : Op) (xs : List Migrating) (x : Migrating) (why : KeptWhy) → Sound c s t → Holds s t a No_guard → Came s t a o xs TakeAndCopy x → HoldsAll (next s a (Kind.Kept (KeptAt.Page x.page) why)) t a (facts o xs (Phase.Moves TakeAndCopy (x.page + 1) ∷ []))
passed_over c s t a o xs x why so free came = (free, (same_held s t a o x.page (x.page + 1) None None xs came.locks, migrating_on c s t a (Kind.Kept (KeptAt.Page x.page) why) so tt (record { map = refl; there = λ p. refl; areas = λ p. refl }) o xs TakeAndCopy (x.page + 1) None (λ i m. tt) (all_further s t a o xs x.page came.knows)))

-- a frame that is taken was nobody's
abbrev with_dest : Migrating → Frame → Migrating
with_dest x g = record x { dest = Some g }

of_dest : (x : Migrating) (g f : Frame) → is_of (with_dest x g) f ≡ true → (is_of x f ≡ true) ⊎ (g ≡ f)
of_dest x g f h = by (is_frame x.source f) (is_frame x.dest f) (same_frame g f) (frame_tells g f) h
  where
    by : (b d e : Bool) → ((e ≡ true) × (g ≡ f)) ⊎ ((e ≡ false) × (g ≡ f → ⊥)) → (b || e) ≡ true → ((b || d) ≡ true) ⊎ (g ≡ f)
    by true d e k h = inl refl
    by false d e (inl k) h = inr k.1
    by false d e (inr k) h = absurd (true_false e h k.0)

record Taking (c : Program) (s : After) (t : Past) (a : ℕ) (o : Op) (xs : List Migrating) (x : Migrating) (g : Frame) : Type 0 where
  pub ok : Allowed c s t a (Kind.Take g)
  pub out : s.places.held g ≡ false
  pub pool : g.pool ≡ pool_of s o
  pub nobody : (y : Migrating) → Among xs y → is_of y g ≡ true → ⊥
  pub knows : HoldsAll s t a (record_facts o TakeAndCopy x.page None x)
  pub kind : (is_some x.source || is_to_device o) ≡ true
  pub none : x.dest ≡ None
  pub still : x.moved ≡ false

taking : (c : Program) (s : After) (t : Past) (a : ℕ) (o : Op) (xs : List Migrating) (x : Migrating) (g : Frame) → Sound c s t → Came s t a o xs TakeAndCopy x → lowest_free c s.places (pool_of s o) ≡ Some g → Taking c s t a o xs x g
taking c s t a o xs x g so came e = record {
  ok = subst (λ i. lowest_free c s.places i ≡ Some g) (sym (free_says c s.places (pool_of s o) g e).0) e;
  out = (free_says c s.places (pool_of s o) g e).1;
  pool = (free_says c s.places (pool_of s o) g e).0;
  nobody = λ y i m. true_false (s.places.held g) (so.frames.locked_held g a (mine_taking s t a o x.page None xs y g came.knows.1.1.1 i m)) (free_says c s.places (pool_of s o) g e).1;
  knows = known;
  kind = (not_yet o x known.0).0;
  none = (not_yet o x known.0).1;
  still = (not_yet o x known.0).2;
}
  where
    known : HoldsAll s t a (record_facts o TakeAndCopy x.page None x)
    known = records_each s t a o TakeAndCopy x.page None xs came.knows.1.1.1 x came.among

took_listed : (c : Program) (s : After) (t : Past) (a : ℕ) (o : Op) (xs : List Migrating) (x : Migrating) (g : Frame) → Came s t a o xs TakeAndCopy x → Taking c s t a o xs x g → WellListed (with_record (with_dest x g) xs)
took_listed c s t a o xs x g came k = listed_with xs (with_dest x g) x came.knows.1.0 came.among refl (λ f m. at f (of_dest x g f m)) (λ f e d. k.nobody x came.among (or_left (is_frame x.source g) (is_frame x.dest g) (is_frame_of x.source g (e ∙ sym d))))
  where
    at : (f : Frame) → (is_of x f ≡ true) ⊎ (g ≡ f) → (is_of x f ≡ true) ⊎ ((y : Migrating) → Among xs y → is_of y f ≡ true → ⊥)
    at f (inl i) = inl i
    at f (inr i) = inr (λ y j m. k.nobody y j (ap (is_of y) i ∙ m))

same_frame_of : (g i : Frame) → g ≡ i → same_frame g i ≡ true
same_frame_of g i e = grind (arith, frame_tells g i)

-- the frames that the actor has locked then are those of the records and the one that it took
of_source : (x : Migrating) (i : Frame) → x.dest ≡ None → is_of x i ≡ true → is_frame x.source i ≡ true
of_source x i d h = by (is_frame x.source i) (sym (ap (λ y. is_frame x.source i || is_frame y i) d) ∙ h)
  where
    by : (b : Bool) → (b || false) ≡ true → b ≡ true
    by true h = refl
    by false h = h

took_locks : (c : Program) (s : After) (t : Past) (a : ℕ) (o : Op) (xs : List Migrating) (x : Migrating) (g : Frame) (hand : Option (Frame × ℕ)) → Came s t a o xs TakeAndCopy x → Taking c s t a o xs x g → Holds (next s a (Kind.Take g)) t a (Locks_only (held o (with_record (with_dest x g) xs) TakeAndCopy (x.page + 1) hand))
took_locks c s t a o xs x g hand came k i l = by (frame_tells i g)
  where
    P : Type 0
    P = list_any (same_frame i) (held o (with_record (with_dest x g) xs) TakeAndCopy (x.page + 1) hand) ≡ true

    here : (is_frame x.source i || same_frame g i) ≡ true → P
    here m = held_taking o (x.page + 1) hand (with_record (with_dest x g) xs) (with_dest x g) i (among_with (with_dest x g) xs x came.among refl) m

    was : (y : Migrating) → Among xs y → is_of y i ≡ true → (y.page ≡ x.page) ⊎ (y.page ≡ x.page → ⊥) → P
    was y j m (inl e) = here (or_left (is_frame x.source i) (same_frame g i) (of_source x i k.none (sym (ap (λ z. is_of z i) (one_of_page xs y x came.knows.1.0 j came.among e)) ∙ m)))
    was y j m (inr ne) = held_taking o (x.page + 1) hand (with_record (with_dest x g) xs) y i (among_still (with_dest x g) xs y j ne) m

    at : (y : Migrating) × Among xs y × (list_any (same_frame i) (frames_of (record_facts o TakeAndCopy x.page None y)) ≡ true) → P
    at y = was y.0 y.1 (frames_are o TakeAndCopy x.page None y.0 i y.2) (cases_eq y.0.page x.page)

    by : ((same_frame i g ≡ true) × (i ≡ g)) ⊎ ((same_frame i g ≡ false) × (i ≡ g → ⊥)) → P
    by (inl e) = here (or_right (is_frame x.source i) (same_frame g i) (same_frame_of g i (sym e.1)))
    by (inr ne) = at (held_some o TakeAndCopy x.page None xs i (came.locks i (sym (frame_else s.locks.frame g i (Some a) ne.1) ∙ l)))

-- what is known of the other records stays
still_keeping : (s : After) (a : ℕ) (g : Frame) → Keeping s a (Kind.Take g)
still_keeping s a g = record { map = refl; there = λ p. refl; areas = λ p. refl }

took_records : (c : Program) (s : After) (t : Past) (a : ℕ) (o : Op) (xs : List Migrating) (x : Migrating) (g : Frame) (hand : Option (Frame × ℕ)) → Sound c s t → Came s t a o xs TakeAndCopy x → Taking c s t a o xs x g → ((y : Migrating) → is_frame y.dest g ≡ false → record_facts o TakeAndCopy (x.page + 1) hand y ≡ record_facts o TakeAndCopy (x.page + 1) None y) →
    HoldsAll (next s a (Kind.Take g)) t a (record_facts o TakeAndCopy (x.page + 1) hand (with_dest x g)) → HoldsAll (next s a (Kind.Take g)) t a (migrating o (with_record (with_dest x g) xs) TakeAndCopy (x.page + 1) hand)
took_records c s t a o xs x g hand so came k same h = (came.knows.0, (took_listed c s t a o xs x g came k, (came.knows.1.1.0, records_all (next s a (Kind.Take g)) t a o TakeAndCopy (x.page + 1) hand (with_record (with_dest x g) xs) (λ y i. each y (with_among (with_dest x g) xs y i)))))
  where
    apart : (y : Migrating) → Among xs y → (b : Bool) → is_frame y.dest g ≡ b → b ≡ false
    apart y i true e = absurd (k.nobody y i (or_right (is_frame y.source g) (is_frame y.dest g) e))
    apart y i false e = refl

    each : (y : Migrating) → ((y ≡ with_dest x g) × ((z : Migrating) × Among xs z × (z.page ≡ x.page))) ⊎ (Among xs y × (y.page ≡ x.page → ⊥)) → HoldsAll (next s a (Kind.Take g)) t a (record_facts o TakeAndCopy (x.page + 1) hand y)
    each y (inl e) = subst (λ z. HoldsAll (next s a (Kind.Take g)) t a (record_facts o TakeAndCopy (x.page + 1) hand z)) (sym e.0) h
    each y (inr i) = subst (HoldsAll (next s a (Kind.Take g)) t a) (sym (same y (apart y i.0 (is_frame y.dest g) refl))) (record_on c s t a (Kind.Take g) so k.ok (still_keeping s a g) o TakeAndCopy (x.page + 1) None y (λ j m. tt) (further s t a o x.page None y (records_each s t a o TakeAndCopy x.page None xs came.knows.1.1.1 y i.0)))

-- and of the page's own record: its frame is zeroed where the page had none
took_fresh : (c : Program) (s : After) (t : Past) (a : ℕ) (o : Op) (xs : List Migrating) (x : Migrating) (g : Frame) → Sound c s t → Came s t a o xs TakeAndCopy x → Taking c s t a o xs x g → x.source ≡ None → HoldsAll (next s a (Kind.Take g)) t a (record_facts o TakeAndCopy (x.page + 1) None (with_dest x g))
took_fresh c s t a o xs x g so came k e = (staged_taken o x g k.kind k.still, (k.knows.1.0, subst (HoldsAll (next s a (Kind.Take g)) t a) (sym (known_fresh o x.page x.source x.moved g e k.still)) ((taken_own c s t a g so k.out, frame_here s.contents g zeros), (was.0, ((came.knows.1.1.0.0, k.pool), tt)))))
  where
    was : HoldsAll s t a (May_read (Who.Mirror (op_mirror o)) x.page ∷ [])
    was = subst (HoldsAll s t a) (known_none o x.page x.source x.dest x.moved e k.none) k.knows.1.1

-- and else nothing is copied there yet
took_pair : (c : Program) (s : After) (t : Past) (a : ℕ) (o : Op) (xs : List Migrating) (x : Migrating) (f g : Frame) → Sound c s t → Came s t a o xs TakeAndCopy x → Taking c s t a o xs x g → x.source ≡ Some f → HoldsAll (next s a (Kind.Take g)) t a (record_facts o TakeAndCopy (x.page + 1) (Some (g, 0)) (with_dest x g))
took_pair c s t a o xs x f g so came k e = (
  staged_taken o x g k.kind k.still,
  (
    k.knows.1.0,
    subst (HoldsAll (next s a (Kind.Take g)) t a) (sym (known_pair o x.page x.source (Some g) x.moved f g (Some (g, 0)) 0 e refl k.still (parts_here g 0)))
        ((was.0, taken_own c s t a g so k.out, (λ n i l. absurd (no_part n l)), λ i. k.nobody x came.among (or_left (is_frame x.source g) (is_frame x.dest g) (is_frame_of x.source g (e ∙ ap Some i)))), (was.1.0, ((came.knows.1.1.0.0, k.pool), tt))),
  ),
)
  where
    was : HoldsAll (next s a (Kind.Take g)) t a (Frozen f ∷ Frozen_at (Who.Mirror (op_mirror o)) x.page f ∷ [])
    was = own_all c s t a (Kind.Take g) so k.ok (still_keeping s a g) (Frozen f ∷ Frozen_at (Who.Mirror (op_mirror o)) x.page f ∷ []) (tt, (tt, tt)) (subst (HoldsAll s t a) (known_source o x.page x.source x.dest x.moved f e k.none) k.knows.1.1)

took : (c : Program) (s : After) (t : Past) (a : ℕ) (o : Op) (xs : List Migrating) (x : Migrating) (g : Frame) → Sound c s t → Holds s t a No_guard → Came s t a o xs TakeAndCopy x → Taking c s t a o xs x g → (y : Option Frame) → x.source ≡ y → HoldsAll (next s a (Kind.Take g)) t a (facts o (with_record (with_dest x g) xs) (copying y g (Phase.Moves TakeAndCopy (x.page + 1) ∷ [])))
took c s t a o xs x g so free came k None e = (free, (took_locks c s t a o xs x g None came k, took_records c s t a o xs x g None so came k (λ y i. refl) (took_fresh c s t a o xs x g so came k e)))
took c s t a o xs x g so free came k (Some f) e = (
  free,
  (
    took_locks c s t a o xs x g (Some (g, 0)) came k,
    (
      refl,
      (
        refl,
        (
          pair_has f g (with_record (with_dest x g) xs) (with_dest x g) (among_with (with_dest x g) xs x came.among refl) e refl k.still,
          took_records c s t a o xs x g (Some (g, 0)) so came k (λ y i. hand_same o TakeAndCopy (x.page + 1) g 0 y i) (took_pair c s t a o xs x f g so came k e),
        ),
      ),
    ),
  ),
)

pub take_and_copy_ok : (c : Program) (s : After) (t : Past) (a : ℕ) (o : Op) (xs : List Migrating) (x : Migrating) (step : MoveStep) (v : ℕ) → Sound c s t → Holds s t a No_guard → Came s t a o xs TakeAndCopy x → Steps c s t a o xs step v (Some x) (due_step c s o TakeAndCopy x)
take_and_copy_ok c s t a o xs x step v so free came = either P (skips c o x.page) _ _ (λ e. (tt, e, passed_over c s t a o xs x KeptWhy.Skipped so free came)) (λ e. by (lowest_free c s.places (pool_of s o)) refl)
  where
    P : Kind → Type 0
    P = λ k. Steps c s t a o xs step v (Some x) k

    took_one : (g : Frame) → Taking c s t a o xs x g → P (Kind.Take g)
    took_one g k = (k.ok, tt, took c s t a o xs x g so free came k x.source refl)

    by : (y : Option Frame) → lowest_free c s.places (pool_of s o) ≡ y → P (elim y [ Some g ↦ Kind.Take g | None ↦ Kind.Kept (KeptAt.Page x.page) KeptWhy.NoFrame ])
    by None e = (tt, ap is_none e, passed_over c s t a o xs x KeptWhy.NoFrame so free came)
    by (Some g) e = took_one g (taking c s t a o xs x g so came e)
