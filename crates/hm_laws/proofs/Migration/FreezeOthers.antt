-- Where a migration freezes the other mappings of its frames: the other pages of its frames are frozen, each in a guard.
use Rattle.std.proofs.Common.{◌≡◌, ℕ, ◌<◌, ◌⊎◌, inl, inr, Bool, true, false, ◌&&◌, ◌||◌, nat_lt, is_some, is_none, Option, Some, None, List, [], ◌∷◌, refl, sym, ap, ◌∙◌, subst, arith, unwrap_or}
use Rattle.std.specs.List.{list_any}
use Rattle.std.proofs.lemmas.Bool.Decides.{nat_tests}
use Rattle.std.proofs.lemmas.Bool.{cases_eq}
use Rattle.std.proofs.lemmas.Option.{same_Some}
use Rattle.hm_base.specs.Pages.{Pages, one_page}
use Rattle.hm_base.specs.Program.{Program}
use Rattle.hm_base.specs.declared.cause.Cause.{Cause}
use Rattle.hm_base.specs.declared.Frame.{Frame}
use Rattle.hm_base.specs.declared.Place.{Place}
use Rattle.hm_base.specs.declared.ops.Op.{Op}
use Rattle.hm_history.specs.Memory.Words.{same_frame, is_frame, names_directly, moving_frame, writable}
use Rattle.hm_history.specs.Memory.Plain.{mirror_proc}
use Rattle.hm_history.specs.Memory.Places.{with_place, lowest_direct}
use Rattle.hm_history.specs.Memory.Sequences.{some_overlap, seq_started, seq_ended, all_told}
use Rattle.hm_history.specs.Memory.After.{After}
use Rattle.hm_history.specs.Kernel.Operation.{op_mirror}
use Rattle.hm_history.specs.Kernel.Stacks.{freezing}
use Rattle.hm_history.specs.Kernel.Going.{is_direct}
use Rattle.hm_history.specs.Kernel.Due.{start_entry, others_of, due_step, due_guard, body_or_end}
use Rattle.hm_history.specs.declared.Who.{Who}
use Rattle.hm_history.specs.declared.Kind.{Kind}
use Rattle.hm_history.specs.declared.phases.Migrating.{Migrating}
use Rattle.hm_history.specs.declared.phases.MoveStep.{MoveStep}
use Rattle.hm_history.specs.declared.phases.MoveStep.TheVariants.{FreezeOthers}
use Rattle.hm_history.specs.declared.phases.Body.{Body}
use Rattle.hm_history.specs.declared.phases.Phase.{Phase}
use Rattle.hm_history.specs.declared.phases.Next.TheVariants.{Do}
use Rattle.hm_laws.specs.Stood.{stood}
use Rattle.hm_laws.specs.Past.{Past}
use Rattle.hm_laws.specs.Sound.{Sound}
use Rattle.hm_laws.specs.Allowed.{next, IsSource, Allowed}
use Rattle.hm_laws.specs.Records.{is_past, Among, is_of, WellListed, has_source}
use Rattle.hm_laws.specs.Facts.{Fact, Is, No_guard, In_guard, Locks_only, Sourced, Frozen_at, Holds, frames_of, held, known_of, record_facts, records, migrating, facts, HoldsAll}
use Rattle.hm_laws.proofs.Kept.Areas.{placed_cases}
use Rattle.hm_laws.proofs.Kept.Frames.{direct_names}
use Rattle.hm_laws.proofs.Own.Records.{migrating_on, record_on}
use Rattle.hm_laws.proofs.Due.Good.{Good, either}
use Rattle.hm_laws.proofs.Due.Guards.{started, start_takes, is_covered, end_takes, guard_ok}
use Rattle.hm_laws.proofs.Due.Spans.{goes_on}
use Rattle.hm_laws.proofs.Due.LeftFrames.{orphan_at}
use Rattle.hm_laws.proofs.Due.Freezes.{Froze, froze, first_covered}
use Rattle.hm_laws.proofs.Migration.Records.{records_each, records_all, frames_are, source_found, source_has, one_of_page, step_says}
use Rattle.hm_laws.proofs.Migration.Good.{Came, Steps}
use Rattle.hm_history.proofs.Updates.{here_at}
use Rattle.hm_history.proofs.Frames.{is_frame_from, is_frame_of}

-- a page that names the source of a record directly is frozen next
freeze_others_start : (c : Program) (s : After) (t : Past) (a : ℕ) (o : Op) (xs : List Migrating) (x : Migrating) (v : ℕ) (f : Frame) (z : ℕ × ℕ) → a < 16 → Sound c s t → Holds s t a No_guard → Came s t a o xs FreezeOthers x → x.source ≡ Some f → Steps c s t a o xs FreezeOthers v (Some x) (start_entry s z.0 (one_page z.1))
freeze_others_start c s t a o xs x v f z few so free came e = (
  ok,
  tt,
  subst (λ (y : Option Frame). HoldsAll (next s a (start_entry s z.0 (one_page z.1))) t a (facts o xs (Phase.Guard z.0 (one_page z.1) (some_overlap s.sequences z.0 (one_page z.1)) None (freezing FreezeOthers y x.dest) ∷ Phase.Moves FreezeOthers x.page ∷ []))) (sym e)
      (started s a z.0 (one_page z.1) (seq_started s.sequences z.0 (one_page z.1)), (came.locks, (refl, (refl, (source_has f x.page xs x came.among refl e, on))))),
)
  where
    ok : Allowed c s t a (start_entry s z.0 (one_page z.1))
    ok = (few, start_takes s a z.0 (one_page z.1) free)

    on : HoldsAll (next s a (start_entry s z.0 (one_page z.1))) t a (migrating o xs FreezeOthers x.page None)
    on = migrating_on c s t a (start_entry s z.0 (one_page z.1)) so ok (record { map = refl; there = λ p. refl; areas = λ p. refl }) o xs FreezeOthers x.page None (λ i m. tt) came.knows

pub freeze_others_ok : (c : Program) (s : After) (t : Past) (a : ℕ) (o : Op) (xs : List Migrating) (x : Migrating) (v : ℕ) → a < 16 → Sound c s t → Holds s t a No_guard → Came s t a o xs FreezeOthers x → Steps c s t a o xs FreezeOthers v (Some x) (due_step c s o FreezeOthers x)
freeze_others_ok c s t a o xs x v few so free came = by x.source refl came.concerned
  where
    at : (f : Frame) → x.source ≡ Some f → (z : Option (ℕ × ℕ)) → is_some z ≡ true → Steps c s t a o xs FreezeOthers v (Some x) (elim z [ Some y ↦ start_entry s y.0 (one_page y.1) | None ↦ Kind.Refused Cause.Never ])
    at f e None h = cc
    at f e (Some z) h = freeze_others_start c s t a o xs x v f z few so free came e

    by : (y : Option Frame) → x.source ≡ y → is_direct s y ≡ true → Steps c s t a o xs FreezeOthers v (Some x) (others_of s y)
    by None e h = cc
    by (Some f) e h = at f e (lowest_direct s.places f) h

-- what is known of a record in this step: it has no frame yet
none_yet : (b : Option Frame) (d e : Bool) → (d && ((is_none b || false) && e)) ≡ true → b ≡ None
none_yet None d e h = refl
none_yet (Some f) d e h = absurd (never d e h)
  where
    never : (d e : Bool) → (d && ((false || false) && e)) ≡ true → ⊥
    never d e h = grind arith

known_sourced : (o : Op) (v : ℕ) (source dest : Option Frame) (moved past_freezing : Bool) (f : Frame) → source ≡ Some f → dest ≡ None → past_freezing ≡ false → known_of o v source dest moved past_freezing false false None ≡ Sourced f ∷ Frozen_at (Who.Mirror (op_mirror o)) v f ∷ []
known_sourced o v source dest moved past_freezing f e d n = ap (λ y. known_of o v y dest moved past_freezing false false None) e ∙ (ap (λ y. known_of o v (Some f) y moved past_freezing false false None) d ∙ ap (λ b. known_of o v (Some f) None moved b false false None) n)

not_below : (n m : ℕ) → n ≡ m → nat_lt n m ≡ false
not_below n m e = grind (arith, nat_tests)

source_facts : (s : After) (t : Past) (a : ℕ) (o : Op) (v : ℕ) (y : Migrating) (f : Frame) → y.source ≡ Some f → y.page ≡ v → HoldsAll s t a (record_facts o FreezeOthers v None y) →
    known_of o y.page y.source y.dest y.moved (is_past FreezeOthers v FreezeOthers y.page) false false None ≡ Sourced f ∷ Frozen_at (Who.Mirror (op_mirror o)) y.page f ∷ []
source_facts s t a o v y f e p h = known_sourced o y.page y.source y.dest y.moved (is_past FreezeOthers v FreezeOthers y.page) f e (none_yet y.dest _ _ h.0) (not_below y.page v p)

-- the entry that freezes a page
abbrev freezes : After → ℕ → ℕ → Frame → Kind
freezes s p u f = Kind.Place p u (Place.Moving f (writable (s.places.place p u)))

-- the record's page is under way as before, or it is the one that is frozen; its source is the actor's still
frozen_record : (c : Program) (s : After) (t : Past) (a p u : ℕ) (o : Op) (v : ℕ) (f : Frame) (l : List Frame) (y : Migrating) → Froze c s t a p u f l → y.source ≡ Some f → y.page ≡ v → HoldsAll s t a (record_facts o FreezeOthers v None y) → HoldsAll (next s a (freezes s p u f)) t a (record_facts o FreezeOthers v None y)
frozen_record c s t a p u o v f l y z e pv h = (h.0, (h.1.0, subst (HoldsAll (next s a (freezes s p u f)) t a) (sym is) (z.source, ((was.1.0.0, was.1.0.1, z.source.mine, moving (placed_cases s.places.place p u (Place.Moving f (writable (s.places.place p u))) (mirror_proc s.plain (op_mirror o)) y.page) was.1.0.3), tt))))
  where
    is : known_of o y.page y.source y.dest y.moved (is_past FreezeOthers v FreezeOthers y.page) false false None ≡ Sourced f ∷ Frozen_at (Who.Mirror (op_mirror o)) y.page f ∷ []
    is = source_facts s t a o v y f e pv h

    was : HoldsAll s t a (Sourced f ∷ Frozen_at (Who.Mirror (op_mirror o)) y.page f ∷ [])
    was = subst (HoldsAll s t a) is h.1.1

    moving : {q w : ℕ} → ((q ≡ p) × (w ≡ u) × (with_place s.places.place p u (Place.Moving f (writable (s.places.place p u))) q w ≡ Place.Moving f (writable (s.places.place p u)))) ⊎ (with_place s.places.place p u (Place.Moving f (writable (s.places.place p u))) q w ≡ s.places.place q w) →
        moving_frame (s.places.place q w) ≡ Some f → moving_frame (with_place s.places.place p u (Place.Moving f (writable (s.places.place p u))) q w) ≡ Some f
    moving (inl k) m = ap moving_frame k.2
    moving (inr k) m = ap moving_frame k ∙ m

-- the other records are about other frames
other_record : (c : Program) (s : After) (t : Past) (a p u : ℕ) (o : Op) (v : ℕ) (f : Frame) (l : List Frame) (y : Migrating) → Sound c s t → names_directly (s.places.place p u) ≡ Some f → Froze c s t a p u f l → (is_of y f ≡ true → ⊥) → HoldsAll s t a (record_facts o FreezeOthers v None y) → HoldsAll (next s a (freezes s p u f)) t a (record_facts o FreezeOthers v None y)
other_record c s t a p u o v f l y so direct z off h = record_on c s t a (freezes s p u f) so z.ok (record { map = refl; there = λ q. refl; areas = λ q. refl }) o FreezeOthers v None y
    (λ i m. (λ n. ne i m (same_Some f i (sym (direct_names (s.places.place p u) f direct).0 ∙ n)), λ n. ne i m (same_Some f i n), λ n. ne i m (same_Some f i (sym stands ∙ n)))) h
  where
    ne : (i : Frame) → list_any (same_frame i) (frames_of (record_facts o FreezeOthers v None y)) ≡ true → f ≡ i → ⊥
    ne i m e = off (ap (is_of y) e ∙ frames_are o FreezeOthers v None y i m)

    stands : stood s.places.committed_to (Place.Moving f (writable (s.places.place p u))) ≡ Some f
    stands = ap (λ j. Some (unwrap_or j f)) (so.frames.direct_fresh p u f direct)

frozen_records : (c : Program) (s : After) (t : Past) (a p u : ℕ) (o : Op) (xs : List Migrating) (v : ℕ) (f : Frame) (l : List Frame) (y : Migrating) → Sound c s t → names_directly (s.places.place p u) ≡ Some f → Froze c s t a p u f l → WellListed xs → Among xs y → y.page ≡ v → y.source ≡ Some f → HoldsAll s t a (records o FreezeOthers v None xs) → HoldsAll (next s a (freezes s p u f)) t a (records o FreezeOthers v None xs)
frozen_records c s t a p u o xs v f l y so direct z wl i pv e h = records_all (next s a (freezes s p u f)) t a o FreezeOthers v None xs (λ w j. each w j (records_each s t a o FreezeOthers v None xs h w j) (cases_eq w.page v))
  where
    source_of : is_of y f ≡ true
    source_of = left (is_frame y.source f) (is_frame y.dest f) (is_frame_of y.source f e)
      where
        left : (b d : Bool) → b ≡ true → (b || d) ≡ true
        left b d h = grind arith

    each : (w : Migrating) → Among xs w → HoldsAll s t a (record_facts o FreezeOthers v None w) → (w.page ≡ v) ⊎ (w.page ≡ v → ⊥) → HoldsAll (next s a (freezes s p u f)) t a (record_facts o FreezeOthers v None w)
    each w j k (inl m) = frozen_record c s t a p u o v f l w z (ap (λ (b : Migrating). b.source) (one_of_page xs w y wl j i (m ∙ sym pv)) ∙ e) m k
    each w j k (inr ne) = other_record c s t a p u o v f l w so direct z (λ m. ne (ap (λ (b : Migrating). b.page) (wl.apart w y f j i m source_of) ∙ pv)) k

-- the source is the actor's
source_mine : (s : After) (t : Past) (a : ℕ) (o : Op) (xs : List Migrating) (v : ℕ) (f : Frame) (y : Migrating) → Among xs y → y.page ≡ v → y.source ≡ Some f → HoldsAll s t a (records o FreezeOthers v None xs) → IsSource s a f
source_mine s t a o xs v f y i pv e h = (subst (HoldsAll s t a) (source_facts s t a o v y f e pv k) k.1.1).0
  where
    k : HoldsAll s t a (record_facts o FreezeOthers v None y)
    k = records_each s t a o FreezeOthers v None xs h y i

abbrev freezing_facts : Op → List Migrating → ℕ → Pages → Bool → Option ℕ → Frame → ℕ → List Fact
freezing_facts o xs q r met told f v = In_guard q r met told ∷ Locks_only (held o xs FreezeOthers v None) ∷ Is (nat_lt 0 r.count) ∷ Is true ∷ Is (has_source f v xs) ∷ migrating o xs FreezeOthers v None

freeze_placed : (c : Program) (s : After) (t : Past) (a : ℕ) (o : Op) (xs : List Migrating) (q : ℕ) (r : Pages) (met : Bool) (told : Option ℕ) (f : Frame) (v : ℕ) → Sound c s t → (h : HoldsAll s t a (freezing_facts o xs q r met told f v)) → all_told h.0.given ≡ true → is_frame (names_directly (s.places.place q r.first)) f ≡ true →
    Good c s t a o xs (Phase.Guard q r met told (Body.Freeze f)) (Phase.Moves FreezeOthers v ∷ []) (Do (freezes s q r.first f))
freeze_placed c s t a o xs q r met told f v so h al e = (
  z.ok,
  refl,
  goes_on s t a o xs (freezes s q r.first f) q r.first (Place.Moving f (writable (s.places.place q r.first))) _ z.stays
      (h.0, (z.locks, (h.1.1.1.1.1.0, (h.1.1.1.1.1.1.0, (h.1.1.1.1.1.1.1.0, frozen_records c s t a q r.first o xs v f (held o xs FreezeOthers v None) y.0 so direct z h.1.1.1.1.1.1.0 y.1 y.2 y.3 h.1.1.1.1.1.1.1.1)))))
      (orphan_at s q r.first (Place.Moving f (writable (s.places.place q r.first)))) refl,
)
  where
    y : (y : Migrating) × Among xs y × (y.page ≡ v) × (y.source ≡ Some f)
    y = source_found f v xs h.1.1.1.1.0

    source : IsSource s a f
    source = source_mine s t a o xs v f y.0 y.1 y.2 y.3 h.1.1.1.1.1.1.1.1

    direct : names_directly (s.places.place q r.first) ≡ Some f
    direct = is_frame_from (names_directly (s.places.place q r.first)) f e

    z : Froze c s t a q r.first f (held o xs FreezeOthers v None)
    z = froze c s t a q r.first f (held o xs FreezeOthers v None) so direct (inr source.mine) (is_covered s a q r.first r met told h.0 al (first_covered r h.1.1.0)) source.stood_by h.1.0 (h.1.0 f source.mine)

freeze_other : (c : Program) (s : After) (t : Past) (a : ℕ) (o : Op) (xs : List Migrating) (q : ℕ) (r : Pages) (met : Bool) (told : Option ℕ) (f : Frame) (v : ℕ) → Sound c s t → HoldsAll s t a (freezing_facts o xs q r met told f v) →
    Good c s t a o xs (Phase.Guard q r met told (Body.Freeze f)) (Phase.Moves FreezeOthers v ∷ []) (Do (due_guard s a o q r met told (Body.Freeze f)))
freeze_other c s t a o xs q r met told f v so h = guard_ok c s t a o xs q r met told (Body.Freeze f) (Phase.Moves FreezeOthers v ∷ []) so h.0
    (λ m tk i. (i, (h.1.0, (h.1.1.0, (h.1.1.1.0, (h.1.1.1.1.0, migrating_on c s t a (Kind.Told m r (s.sequences.seq q)) so tk (record { map = refl; there = λ p. refl; areas = λ p. refl }) o xs FreezeOthers v None (λ j n. tt) h.1.1.1.1.1))))))
    (λ al. either (λ y. P (body_or_end s q r y)) (is_frame (names_directly (s.places.place q r.first)) f) _ _ (λ e. freeze_placed c s t a o xs q r met told f v so h al e) (λ e. ends (end_takes s a q r met told h.0 al)))
  where
    P : Kind → Type 0
    P = λ k. Good c s t a o xs (Phase.Guard q r met told (Body.Freeze f)) (Phase.Moves FreezeOthers v ∷ []) (Do k)

    ends : Allowed c s t a (Kind.End q r (seq_ended s.sequences q)) → P (Kind.End q r (seq_ended s.sequences q))
    ends ok = (ok, tt, (here_at s.sequences.guard a None, (h.1.0, migrating_on c s t a (Kind.End q r (seq_ended s.sequences q)) so ok (record { map = refl; there = λ p. refl; areas = λ p. refl }) o xs FreezeOthers v None (λ i m. tt) h.1.1.1.1.1)))

pub freeze_moves_ok : (c : Program) (s : After) (t : Past) (a : ℕ) (o : Op) (xs : List Migrating) (q : ℕ) (r : Pages) (met : Bool) (told : Option ℕ) (f : Frame) (step : MoveStep) (v : ℕ) → Sound c s t → HoldsAll s t a (facts o xs (Phase.Guard q r met told (Body.Freeze f) ∷ Phase.Moves step v ∷ [])) →
    Good c s t a o xs (Phase.Guard q r met told (Body.Freeze f)) (Phase.Moves step v ∷ []) (Do (due_guard s a o q r met told (Body.Freeze f)))
freeze_moves_ok c s t a o xs q r met told f step v so h = subst (λ n. HoldsAll s t a (facts o xs (Phase.Guard q r met told (Body.Freeze f) ∷ Phase.Moves n v ∷ [])) → Good c s t a o xs (Phase.Guard q r met told (Body.Freeze f)) (Phase.Moves n v ∷ []) (Do (due_guard s a o q r met told (Body.Freeze f)))) (sym (step_says step FreezeOthers h.1.1.1.0)) (freeze_other c s t a o xs q r met told f v so) h

-- after the freezing the guard ends
pub guard_moves_ok : (c : Program) (s : After) (t : Past) (a : ℕ) (o : Op) (xs : List Migrating) (q : ℕ) (r : Pages) (met : Bool) (told : Option ℕ) (step : MoveStep) (v : ℕ) → Sound c s t → HoldsAll s t a (facts o xs (Phase.Guard q r met told Body.Nothing ∷ Phase.Moves step v ∷ [])) →
    Good c s t a o xs (Phase.Guard q r met told Body.Nothing) (Phase.Moves step v ∷ []) (Do (due_guard s a o q r met told Body.Nothing))
guard_moves_ok c s t a o xs q r met told step v so h = guard_ok c s t a o xs q r met told Body.Nothing (Phase.Moves step v ∷ []) so h.0
    (λ m tk i. (i, (h.1.0, migrating_on c s t a (Kind.Told m r (s.sequences.seq q)) so tk (record { map = refl; there = λ p. refl; areas = λ p. refl }) o xs step v None (λ j n. tt) h.1.1)))
    (λ al. ends (end_takes s a q r met told h.0 al))
  where
    ends : Allowed c s t a (Kind.End q r (seq_ended s.sequences q)) → Good c s t a o xs (Phase.Guard q r met told Body.Nothing) (Phase.Moves step v ∷ []) (Do (Kind.End q r (seq_ended s.sequences q)))
    ends ok = (ok, tt, (here_at s.sequences.guard a None, (h.1.0, migrating_on c s t a (Kind.End q r (seq_ended s.sequences q)) so ok (record { map = refl; there = λ p. refl; areas = λ p. refl }) o xs step v None (λ j n. tt) h.1.1)))
