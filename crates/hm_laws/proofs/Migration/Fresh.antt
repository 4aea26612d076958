-- The guard in which an untouched page gets a frame of the device (`migrate_vma_insert_page`, mm/migrate_device.c).
use Rattle.std.proofs.Common.{◌≡◌, ℕ, Bool, true, false, Option, None, List, [], ◌∷◌, refl, sym, subst}
use Rattle.hm_base.specs.Pages.{Pages, one_page}
use Rattle.hm_base.specs.Program.{Program}
use Rattle.hm_base.specs.declared.Frame.{Frame}
use Rattle.hm_base.specs.declared.Place.{Place}
use Rattle.hm_base.specs.declared.ops.Op.{Op}
use Rattle.hm_history.specs.Memory.Words.{place_in}
use Rattle.hm_history.specs.Memory.Plain.{mirror_proc, rights_of, is_read_write}
use Rattle.hm_history.specs.Memory.Sequences.{seq_ended, all_told}
use Rattle.hm_history.specs.Memory.After.{After}
use Rattle.hm_history.specs.Kernel.Operation.{op_mirror}
use Rattle.hm_history.specs.Kernel.Going.{with_record}
use Rattle.hm_history.specs.Kernel.Due.{has_no_frame, due_guard, body_or_end}
use Rattle.hm_history.specs.declared.Kind.{Kind}
use Rattle.hm_history.specs.declared.phases.Migrating.{Migrating}
use Rattle.hm_history.specs.declared.phases.MoveStep.{MoveStep}
use Rattle.hm_history.specs.declared.phases.MoveStep.TheVariants.{Commit}
use Rattle.hm_history.specs.declared.phases.Body.{Body}
use Rattle.hm_history.specs.declared.phases.Phase.{Phase}
use Rattle.hm_history.specs.declared.phases.Next.TheVariants.{Do}
use Rattle.hm_laws.specs.Past.{Past}
use Rattle.hm_laws.specs.Sound.{Sound}
use Rattle.hm_laws.specs.Allowed.{Allowed}
use Rattle.hm_laws.specs.Facts.{facts, HoldsAll}
use Rattle.hm_laws.proofs.Due.LeftFrames.{orphan_at, no_left}
use Rattle.hm_laws.proofs.Due.Good.{Good, either}
use Rattle.hm_laws.proofs.Due.Spans.{goes_on}
use Rattle.hm_laws.proofs.Due.Guards.{is_covered, end_takes, guard_ok}
use Rattle.hm_laws.proofs.Migration.Places.{in_frame}
use Rattle.hm_laws.proofs.Own.Records.{migrating_on}
use Rattle.hm_laws.proofs.Migration.Records.{fresh_was, step_says}
use Rattle.hm_laws.proofs.Migration.FreshPlaces.{untouched_is, fresh_ok}
use Rattle.hm_laws.proofs.Migration.FreshRecords.{old_record, new_record, the_record, Placing, new_migrating, new_locks}
use Rattle.hm_history.proofs.Updates.{here_at}
use Rattle.hm_laws.proofs.Due.Faults.{covers_one}

-- the guard over the page
abbrev fresh_guard : Op → List Migrating → ℕ → ℕ → Bool → Option ℕ → Frame → ℕ → List Phase
fresh_guard o xs p u met told g v = Phase.Guard p (one_page u) met told (Body.Fresh g) ∷ Phase.Moves Commit v ∷ []

-- the write right that it gets is its area's
abbrev right_at : After → Op → ℕ → Bool
right_at s o u = is_read_write (rights_of s.plain (mirror_proc s.plain (op_mirror o)) u)

-- what is known where it is placed
placing : (c : Program) (s : After) (t : Past) (a : ℕ) (o : Op) (xs : List Migrating) (u v : ℕ) (met : Bool) (told : Option ℕ) (g : Frame) → Sound c s t → (h : HoldsAll s t a (facts o xs (fresh_guard o xs (mirror_proc s.plain (op_mirror o)) u met told g v))) → all_told h.0.given ≡ true → has_no_frame (s.places.place (mirror_proc s.plain (op_mirror o)) u) ≡ true →
    Placing c s t a o xs u v g (right_at s o u) (place_in g (right_at s o u))
placing c s t a o xs u v met told g so h al e = record {
  among = the_record u g xs h.1.1.1.1.1.0;
  before = h.1.1.1.1.0;
  listed = h.1.1.1.1.1.1.1.1.1.1.1.0;
  knows = h.1.1.1.1.1.1.1.1.1.1;
  ok = fresh_ok c s t a p u g (place_in g (right_at s o u)) so h.1.1.1.1.1.1.1.1.0.1 h.1.1.1.1.1.1.1.1.0.2 h.1.1.1.1.1.1.1.0.0 h.1.1.1.1.1.1.1.0.1 (in_frame g (right_at s o u)) e (is_covered s a p u (one_page u) met told h.0 al (covers_one u));
  new = in_frame g (right_at s o u);
  old = untouched_is s.places.committed_to (s.places.place p u) e;
  own = h.1.1.1.1.1.1.1.0.0;
  reads = (h.1.1.1.1.1.1.1.1.0.0, h.1.1.1.1.1.1.1.1.0.1);
  lands = h.1.1.1.1.1.1.1.1.1.0;
  locks = h.1.0;
}
  where
    p : ℕ
    p = mirror_proc s.plain (op_mirror o)

-- the page was touched meanwhile: the guard ends
ends : (c : Program) (s : After) (t : Past) (a : ℕ) (o : Op) (xs : List Migrating) (u v : ℕ) (met : Bool) (told : Option ℕ) (g : Frame) → Sound c s t → (h : HoldsAll s t a (facts o xs (fresh_guard o xs (mirror_proc s.plain (op_mirror o)) u met told g v))) → all_told h.0.given ≡ true → has_no_frame (s.places.place (mirror_proc s.plain (op_mirror o)) u) ≡ false →
    Good c s t a o xs (Phase.Guard (mirror_proc s.plain (op_mirror o)) (one_page u) met told (Body.Fresh g)) (Phase.Moves Commit v ∷ []) (Do (Kind.End (mirror_proc s.plain (op_mirror o)) (one_page u) (seq_ended s.sequences (mirror_proc s.plain (op_mirror o)))))
ends c s t a o xs u v met told g so h al e = (
  ok,
  tt,
  (
    here_at s.sequences.guard a None,
    (
      h.1.0,
      (
        h.1.1.0,
        (
          fresh_was u xs (old_record u g) (the_record u g xs h.1.1.1.1.1.0) refl refl,
          (
            (h.1.1.1.1.1.1.1.1.0.0, h.1.1.1.1.1.1.1.1.0.1, e),
            (
              h.1.1.1.1.1.1.1.0.0,
              migrating_on c s t a k so ok (record { map = refl; there = λ q. refl; areas = λ q. refl }) o xs Commit v None (λ f m. tt) h.1.1.1.1.1.1.1.1.1.1,
            ),
          ),
        ),
      ),
    ),
  ),
)
  where
    k : Kind
    k = Kind.End (mirror_proc s.plain (op_mirror o)) (one_page u) (seq_ended s.sequences (mirror_proc s.plain (op_mirror o)))

    ok : Allowed c s t a (Kind.End (mirror_proc s.plain (op_mirror o)) (one_page u) (seq_ended s.sequences (mirror_proc s.plain (op_mirror o))))
    ok = end_takes s a (mirror_proc s.plain (op_mirror o)) (one_page u) met told h.0 al

-- or is placed
placed : (c : Program) (s : After) (t : Past) (a : ℕ) (o : Op) (xs : List Migrating) (u v : ℕ) (met : Bool) (told : Option ℕ) (g : Frame) → Sound c s t → (h : HoldsAll s t a (facts o xs (fresh_guard o xs (mirror_proc s.plain (op_mirror o)) u met told g v))) → all_told h.0.given ≡ true → has_no_frame (s.places.place (mirror_proc s.plain (op_mirror o)) u) ≡ true →
    Good c s t a o xs (Phase.Guard (mirror_proc s.plain (op_mirror o)) (one_page u) met told (Body.Fresh g)) (Phase.Moves Commit v ∷ []) (Do (Kind.Place (mirror_proc s.plain (op_mirror o)) u (place_in g (right_at s o u))))
placed c s t a o xs u v met told g so h al e = (
  z.ok,
  z.new.shared,
  goes_on s t a o (with_record (new_record u g) xs) (Kind.Place p u x) p u x (Phase.Guard p (one_page u) met told Body.Nothing ∷ Phase.Moves Commit v ∷ []) (λ f n. no_left s p u x f z.old.unnamed n)
      (h.0, (new_locks c s t a o xs u v g (right_at s o u) x so z, new_migrating c s t a o xs u v g (right_at s o u) x so z)) (orphan_at s p u x) refl,
)
  where
    p : ℕ
    p = mirror_proc s.plain (op_mirror o)

    x : Place
    x = place_in g (right_at s o u)

    z : Placing c s t a o xs u v g (right_at s o u) (place_in g (right_at s o u))
    z = placing c s t a o xs u v met told g so h al e

-- what is due in the guard
fresh_here : (c : Program) (s : After) (t : Past) (a : ℕ) (o : Op) (xs : List Migrating) (u v : ℕ) (met : Bool) (told : Option ℕ) (g : Frame) → Sound c s t → HoldsAll s t a (facts o xs (fresh_guard o xs (mirror_proc s.plain (op_mirror o)) u met told g v)) →
    Good c s t a o xs (Phase.Guard (mirror_proc s.plain (op_mirror o)) (one_page u) met told (Body.Fresh g)) (Phase.Moves Commit v ∷ []) (Do (due_guard s a o (mirror_proc s.plain (op_mirror o)) (one_page u) met told (Body.Fresh g)))
fresh_here c s t a o xs u v met told g so h = guard_ok c s t a o xs p (one_page u) met told (Body.Fresh g) (Phase.Moves Commit v ∷ []) so h.0
    (λ m tk i. (
      i,
      (
        h.1.0,
        (
          h.1.1.0,
          (
            h.1.1.1.0,
            (
              h.1.1.1.1.0,
              (
                h.1.1.1.1.1.0,
                (
                  h.1.1.1.1.1.1.0,
                  (
                    h.1.1.1.1.1.1.1.0,
                    (
                      h.1.1.1.1.1.1.1.1.0,
                      (
                        h.1.1.1.1.1.1.1.1.1.0,
                        migrating_on c s t a (Kind.Told m (one_page u) (s.sequences.seq p)) so tk (record { map = refl; there = λ q. refl; areas = λ q. refl }) o xs Commit v None (λ f n. tt) h.1.1.1.1.1.1.1.1.1.1,
                      ),
                    ),
                  ),
                ),
              ),
            ),
          ),
        ),
      ),
    ))
    (λ al. either (λ y. Good c s t a o xs (Phase.Guard p (one_page u) met told (Body.Fresh g)) (Phase.Moves Commit v ∷ []) (Do (body_or_end s p (one_page u) y))) (has_no_frame (s.places.place p u)) _ _ (placed c s t a o xs u v met told g so h al) (ends c s t a o xs u v met told g so h al))
  where
    p : ℕ
    p = mirror_proc s.plain (op_mirror o)

pub fresh_moves_ok : (c : Program) (s : After) (t : Past) (a : ℕ) (o : Op) (xs : List Migrating) (q : ℕ) (r : Pages) (met : Bool) (told : Option ℕ) (g : Frame) (step : MoveStep) (v : ℕ) → Sound c s t → HoldsAll s t a (facts o xs (Phase.Guard q r met told (Body.Fresh g) ∷ Phase.Moves step v ∷ [])) →
    Good c s t a o xs (Phase.Guard q r met told (Body.Fresh g)) (Phase.Moves step v ∷ []) (Do (due_guard s a o q r met told (Body.Fresh g)))
fresh_moves_ok c s t a o xs q r met told g step v so h =
    subst (λ z. P q r z) (sym (step_says step Commit h.1.1.1.0))
    (subst (λ z. P z r Commit) (sym h.1.1.1.1.1.1.0.1)
    (subst (λ z. P (mirror_proc s.plain (op_mirror o)) z Commit) (sym h.1.1.1.1.1.1.0.2) (fresh_here c s t a o xs r.first v met told g so))) h
  where
    P : ℕ → Pages → MoveStep → Type 0
    P = λ q r step. HoldsAll s t a (facts o xs (Phase.Guard q r met told (Body.Fresh g) ∷ Phase.Moves step v ∷ [])) → Good c s t a o xs (Phase.Guard q r met told (Body.Fresh g)) (Phase.Moves step v ∷ []) (Do (due_guard s a o q r met told (Body.Fresh g)))
