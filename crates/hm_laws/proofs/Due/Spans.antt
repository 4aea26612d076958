-- The guards of an unmap, a protection and an exit, and their answers.
use Rattle.std.proofs.Common.{◌≡◌, ℕ, ◌+◌, ◌<◌, ◌≤◌, ◌⊎◌, inl, inr, Bool, true, false, ◌==◌, nat_lt, nat_le, is_some, Option, Some, None, List, [], ◌∷◌, refl, sym, ap, ◌∙◌, arith}
use Rattle.std.specs.List.{list_any}
use Rattle.std.proofs.lemmas.Bool.Decides.{nat_tests}
use Rattle.std.proofs.lemmas.Bool.{eqb-true}
use Rattle.std.proofs.lemmas.Option.{same_Some}
use Rattle.hm_base.specs.Pages.{Pages, covers}
use Rattle.hm_base.specs.Areas.{last_of}
use Rattle.hm_base.specs.Program.{Program}
use Rattle.hm_base.specs.declared.Frame.{Frame}
use Rattle.hm_base.specs.declared.Place.{Place}
use Rattle.hm_base.specs.declared.ops.Rights.{Rights}
use Rattle.hm_base.specs.declared.ops.Op.{Op}
use Rattle.hm_history.specs.Memory.Words.{same_frame, names, moving_frame, writable, is_empty_place, page_of}
use Rattle.hm_history.specs.Memory.Plain.{rights_of}
use Rattle.hm_history.specs.Memory.Places.{with_place}
use Rattle.hm_history.specs.Memory.Locks.{frame_placed}
use Rattle.hm_history.specs.Memory.Sequences.{seq_ended, all_told}
use Rattle.hm_history.specs.Memory.After.{After}
use Rattle.hm_history.specs.declared.Kind.{Kind}
use Rattle.hm_laws.specs.Past.{Past}
use Rattle.hm_laws.specs.Sound.{Sound}
use Rattle.hm_laws.specs.Allowed.{next, CleanBut, Clean, PlaceOk, Allowed}
use Rattle.hm_laws.specs.Facts.{Fact, Emptying, Narrowing, In_guard, Over, Locks_only, Owns, Guarding, EmptyBelow, NarrowBelow, Holds, op_span, zapping, narrowing, widening, answering, facts, HoldsAll}
use Rattle.hm_history.specs.Kernel.Due.{proc_of_op}
use Rattle.hm_history.specs.Memory.Words.{narrowed}
use Rattle.hm_history.specs.Memory.Places.{next_page, is_used}
use Rattle.hm_history.specs.Memory.Sequences.{all_told}
use Rattle.hm_history.specs.Kernel.Stacks.{dropping}
use Rattle.hm_history.specs.Kernel.Due.{due_guard, within, body_or_end}
use Rattle.hm_history.specs.declared.phases.Migrating.{Migrating}
use Rattle.hm_history.specs.declared.phases.Body.{Body}
use Rattle.hm_history.specs.declared.phases.Phase.{Phase}
use Rattle.hm_history.specs.declared.phases.Next.TheVariants.{Do}
use Rattle.hm_history.specs.Memory.Places.{is_exclusive}
use Rattle.hm_laws.proofs.Due.LeftFrames.{LocksNothing, unfrozen}
use Rattle.hm_laws.proofs.Due.Good.{Good, either}
use Rattle.hm_laws.proofs.Due.LeftFrames.{orphan_at, gains_own, left_owned, none_left}
use Rattle.hm_laws.proofs.Due.Places.{narrowed_ok, empty_ok}
use Rattle.hm_laws.proofs.Due.Guards.{number_is, is_covered, end_takes, guard_ok}
use Rattle.hm_laws.proofs.State.NextPage.{NextSays, next_says, none_says}
use Rattle.hm_laws.proofs.Due.Decide.{empty_locks, still_none}
use Rattle.hm_laws.proofs.Due.Faults.{dropped_locks}
use Rattle.hm_history.proofs.Updates.{here_at}
use Rattle.hm_history.proofs.Tests.{some_none, true_false}
use Rattle.hm_history.proofs.Frames.{frame_tells}
use Rattle.hm_history.proofs.Pages.{no_empty_writable}

-- pages emptied
zapped_answer : (s : After) (t : Past) (a : ℕ) (o : Op) → HoldsAll s t a (zapping o (last_of (op_span o))) → HoldsAll s t a (answering o)
zapped_answer s t a (Op.Unmap p r) h = h
zapped_answer s t a (Op.Exit p) h = h
zapped_answer s t a o h = cc

narrowed_answer : (s : After) (t : Past) (a : ℕ) (o : Op) → HoldsAll s t a (narrowing o (last_of (op_span o))) → HoldsAll s t a (answering o)
narrowed_answer s t a (Op.Protect p r Rights.Read) h = h
narrowed_answer s t a o h = cc

widened_answer : (s : After) (t : Past) (a : ℕ) (o : Op) → HoldsAll s t a (widening o) → HoldsAll s t a (answering o)
widened_answer s t a (Op.Protect p r Rights.ReadWrite) h = h
widened_answer s t a o h = cc

pub no_empty_used : (x : Place) → is_empty_place x ≡ true → is_used x ≡ false
no_empty_used x e = grind arith

pub unused_empty : (x : Place) → is_used x ≡ false → is_empty_place x ≡ true
unused_empty x e = grind arith

-- the pages below a page and those from there to the next that passes
pub below_next : (P : ℕ → Type 0) (r : Pages) (n m : ℕ) → ((u : ℕ) → covers r u ≡ true → u < n → P u) → ((w : ℕ) → n ≤ w → w < m → P w) → (u : ℕ) → covers r u ≡ true → u < m → P u
below_next P r n m f g u cv l = by (nat_lt u n) refl
  where
    less : nat_lt u n ≡ true → u < n
    less e = grind (arith, nat_tests)

    more : nat_lt u n ≡ false → n ≤ u
    more e = grind (arith, nat_tests)

    by : (b : Bool) → nat_lt u n ≡ b → P u
    by true k = f u cv (less k)
    by false k = g u (more k) l

pub in_span : (r : Pages) (n u : ℕ) → nat_le r.first n ≡ true → n ≤ u → nat_lt u (r.first + r.count) ≡ true → covers r u ≡ true
in_span r n u h l k = grind (arith, nat_tests)

-- the page has the new place, and the others theirs
pub other_pages : (place : ℕ → ℕ → Place) (p v : ℕ) (x : Place) (u : ℕ) → (u ≡ v → ⊥) → with_place place p v x p u ≡ place p u
other_pages place p v x u ne = grind (arith, nat_tests)

pub this_page : (place : ℕ → ℕ → Place) (p v : ℕ) (x : Place) → with_place place p v x p v ≡ x
this_page place p v x = grind (arith, nat_tests)

not_covered : (r : Pages) (u v : ℕ) → covers r u ≡ true → covers r v ≡ false → v ≡ u → ⊥
not_covered r u v h k e = true_false (covers r u) h (ap (covers r) (sym e) ∙ k)

-- a place of an actor that had nothing locked: what it left behind, if anything, is locked now
pub left_locks : (s : After) (t : Past) (a p v : ℕ) (x : Place) → moving_frame x ≡ None → Holds s t a (Locks_only []) → (f : Frame) → (next s a (Kind.Place p v x)).locks.frame f ≡ Some a → orphan_at s p v x ≡ Some f
left_locks s t a p v x nm h f e = by (gains_own s a p v x (unfrozen s x nm) f e)
  where
    by : (orphan_at s p v x ≡ Some f) ⊎ ((s.locks.frame f ≡ Some a) × (frame_placed s.locks (s.places.place p v) a x f ≡ Some a)) → orphan_at s p v x ≡ Some f
    by (inl k) = k
    by (inr k) = absurd (empty_locks f (h f k.0))

pub only_that : (f g : Frame) → f ≡ g → list_any (same_frame g) (f ∷ []) ≡ true
only_that f g h = grind (arith, frame_tells g f)

abbrev pub zap_guard : Op → ℕ → Pages → Bool → Option ℕ → ℕ → List Fact
zap_guard o p r met told n = In_guard p r met told ∷ Locks_only [] ∷ Over p r (proc_of_op o) (op_span o) ∷ zapping o n

zapped_clean : (s : After) (p : ℕ) (r : Pages) (u : ℕ) → CleanBut s p r → covers r u ≡ true → (x : ℕ) → covers r (page_of x) ≡ false → is_empty_place (with_place s.places.place p u Place.Empty p (page_of x)) ≡ true → is_some (rights_of s.plain p (page_of x)) ≡ true → s.plain.bytes p x ≡ 0
zapped_clean s p r u cl cv x out e i = cl x out (sym (ap is_empty_place (other_pages s.places.place p u Place.Empty (page_of x) (not_covered r u (page_of x) cv out))) ∙ e) i

zapped_below : (s : After) (p : ℕ) (r : Pages) (u : ℕ) → ((w : ℕ) → covers r w ≡ true → w < u → is_empty_place (s.places.place p w) ≡ true) → (w : ℕ) → covers r w ≡ true → w < u + 1 → is_empty_place (with_place s.places.place p u Place.Empty p w) ≡ true
zapped_below s p r u f w cv l = by (w == u) refl
  where
    less : (w == u) ≡ false → w < u
    less e = grind (arith, nat_tests)

    by : (b : Bool) → (w == u) ≡ b → is_empty_place (with_place s.places.place p u Place.Empty p w) ≡ true
    by true e = ap (λ i. is_empty_place (with_place s.places.place p u Place.Empty p i)) (eqb-true w u e) ∙ ap is_empty_place (this_page s.places.place p u Place.Empty)
    by false e = ap is_empty_place (other_pages s.places.place p u Place.Empty w (λ k. absurd (true_false (w == u) (number_is w u k) e))) ∙ f w cv (less e)

more_first : (m n u : ℕ) → nat_le m n ≡ true → n ≤ u → nat_le m (u + 1) ≡ true
more_first m n u h l = grind (arith, nat_tests)

upto_last : (m n k : ℕ) → nat_le m n ≡ true → nat_le m (m + k) ≡ true
upto_last m n k h = grind (arith, nat_tests)

-- the actor goes on with the next page, when what the page named is dropped
zapped_facts : (c : Program) (s : After) (t : Past) (a : ℕ) (o : Op) (xs : List Migrating) (p : ℕ) (r : Pages) (met : Bool) (told : Option ℕ) (u m : ℕ) → Sound c s t → Allowed c s t a (Kind.Place p u Place.Empty) → Holds s t a (Locks_only []) → Guarding s.sequences.guard a p r met told →
    HoldsAll (next s a (Kind.Place p u Place.Empty)) t a (Over p r (proc_of_op o) (op_span o) ∷ zapping o m) → (y : Option Frame) → orphan_at s p u Place.Empty ≡ y →
    HoldsAll (next s a (Kind.Place p u Place.Empty)) t a (facts o xs (dropping y (Phase.Guard p r met told (Body.Zap m) ∷ Phase.Answer ∷ [])))
zapped_facts c s t a o xs p r met told u m so ok l g h None e = (g, ((λ f j. absurd (some_none (orphan_at s p u Place.Empty) f (left_locks s t a p u Place.Empty refl l f j) e)), h))
zapped_facts c s t a o xs p r met told u m so ok l g h (Some f) e = (left_owned c s t a p u Place.Empty so ok refl f e, (g, ((λ i j. only_that f i (same_Some f i (sym e ∙ left_locks s t a p u Place.Empty refl l i j))), h)))

pub zap_ok : (c : Program) (s : After) (t : Past) (a : ℕ) (o : Op) (xs : List Migrating) (met : Bool) (told : Option ℕ) (n : ℕ) → Sound c s t → HoldsAll s t a (zap_guard o (proc_of_op o) (op_span o) met told n) →
    Good c s t a o xs (Phase.Guard (proc_of_op o) (op_span o) met told (Body.Zap n)) (Phase.Answer ∷ []) (Do (due_guard s a o (proc_of_op o) (op_span o) met told (Body.Zap n)))
zap_ok c s t a o xs met told n so h = guard_ok c s t a o xs p r met told (Body.Zap n) (Phase.Answer ∷ []) so h.0 (λ m tk i. (i, h.1))
    (λ al. by al (next_page s.places is_used p n) refl)
  where
    p : ℕ
    p = proc_of_op o

    r : Pages
    r = op_span o

    P : Option Kind → Type 0
    P = λ y. Good c s t a o xs (Phase.Guard (proc_of_op o) (op_span o) met told (Body.Zap n)) (Phase.Answer ∷ []) (Do (body_or_end s (proc_of_op o) (op_span o) y))

    em : Holds s t a (Emptying (proc_of_op o) (op_span o) n)
    em = h.1.1.1.1.1.1.0

    ends : all_told h.0.given ≡ true → EmptyBelow s (proc_of_op o) (op_span o) (last_of (op_span o)) → P None
    ends al f = (
      end_takes s a (proc_of_op o) (op_span o) met told h.0 al,
      tt,
      (
        here_at s.sequences.guard a None,
        (
          h.1.0,
          zapped_answer (next s a (Kind.End (proc_of_op o) (op_span o) (seq_ended s.sequences (proc_of_op o)))) t a o
              (h.1.1.1.0, (upto_last (op_span o).first n (op_span o).count h.1.1.1.1.0, (h.1.1.1.1.1.0, ((em.0, em.1, f), tt)))),
        ),
      ),
    )

    by : all_told h.0.given ≡ true → (x : Option ℕ) → next_page s.places is_used (proc_of_op o) n ≡ x → P (within (op_span o) x (λ u. Kind.Place (proc_of_op o) u Place.Empty))
    by al None e = ends al (below_next (λ u. is_empty_place (s.places.place (proc_of_op o) u) ≡ true) (op_span o) n (last_of (op_span o)) em.2 (λ w l m. unused_empty (s.places.place (proc_of_op o) w) ((none_says s.places is_used so.places no_empty_used (proc_of_op o) n e).fails w l)))
    by al (Some u) e = either P (nat_lt u (last_of (op_span o))) (Some (Kind.Place (proc_of_op o) u Place.Empty)) None
        (λ l. let cv : covers (op_span o) u ≡ true = in_span (op_span o) n u h.1.1.1.1.0 says.above l in
        let ok : PlaceOk s t a (proc_of_op o) u Place.Empty = empty_ok c s t a (proc_of_op o) u so em.0 (is_covered s a (proc_of_op o) u (op_span o) met told h.0 al cv) in
        (ok, refl, zapped_facts c s t a o xs (proc_of_op o) (op_span o) met told u (u + 1) so ok h.1.0 h.0 (h.1.1.0, (h.1.1.1.0, (more_first (op_span o).first n u h.1.1.1.1.0 says.above, (h.1.1.1.1.1.0, ((em.0, zapped_clean s (proc_of_op o) (op_span o) u em.1 cv, zapped_below s (proc_of_op o) (op_span o) u (empty_to u says.between)), tt))))) (orphan_at s (proc_of_op o) u Place.Empty) refl))
        (λ l. ends al (empty_to (last_of (op_span o)) (λ w k m. says.between w k (before w m l))))
      where
        says : NextSays s.places is_used (proc_of_op o) n u
        says = next_says s.places is_used so.places no_empty_used (proc_of_op o) n u e

        empty_to : (m : ℕ) → ((w : ℕ) → n ≤ w → w < m → is_used (s.places.place (proc_of_op o) w) ≡ false) → EmptyBelow s (proc_of_op o) (op_span o) m
        empty_to m f = below_next (λ u. is_empty_place (s.places.place (proc_of_op o) u) ≡ true) (op_span o) n m em.2 (λ w l k. unused_empty (s.places.place (proc_of_op o) w) (f w l k))

        before : (w : ℕ) → w < last_of (op_span o) → nat_lt u (last_of (op_span o)) ≡ false → w < u
        before w m l = grind (arith, nat_tests)

pub zap_drop : (c : Program) (s : After) (t : Past) (a : ℕ) (o : Op) (xs : List Migrating) (f : Frame) (q : ℕ) (r : Pages) (met : Bool) (told : Option ℕ) (n : ℕ) → HoldsAll s t a (Owns f ∷ In_guard q r met told ∷ Locks_only (f ∷ []) ∷ Over q r (proc_of_op o) (op_span o) ∷ zapping o n) →
    Good c s t a o xs (Phase.Drop f) (Phase.Guard q r met told (Body.Zap n) ∷ Phase.Answer ∷ []) (Do (Kind.Drop f))
zap_drop c s t a o xs f q r met told n h = (h.0.0, tt, (h.1.0, (dropped_locks s t a f h.1.1.0, h.1.1.1)))

-- write rights taken
abbrev pub narrow_guard : Op → ℕ → Pages → Bool → Option ℕ → ℕ → List Fact
narrow_guard o p r met told n = In_guard p r met told ∷ Locks_only [] ∷ Over p r (proc_of_op o) (op_span o) ∷ narrowing o n

pub narrowed_stays : (y : Place) → writable y ≡ true → (is_empty_place (narrowed y) ≡ false) × (writable (narrowed y) ≡ false)
narrowed_stays y w = (grind arith, grind arith)

pub narrow_clean : (s : After) (p u : ℕ) (x : Place) → Clean s p → is_empty_place x ≡ false → (y : ℕ) → is_empty_place (with_place s.places.place p u x p (page_of y)) ≡ true → is_some (rights_of s.plain p (page_of y)) ≡ true → s.plain.bytes p y ≡ 0
narrow_clean s p u x cl n y e i = by (page_of y == u) refl
  where
    by : (b : Bool) → (page_of y == u) ≡ b → s.plain.bytes p y ≡ 0
    by true k = absurd (true_false (is_empty_place x) (sym (ap (λ j. is_empty_place (with_place s.places.place p u x p j)) (eqb-true (page_of y) u k) ∙ ap is_empty_place (this_page s.places.place p u x)) ∙ e) n)
    by false k = cl y (sym (ap is_empty_place (other_pages s.places.place p u x (page_of y) (λ j. absurd (true_false (page_of y == u) (number_is (page_of y) u j) k)))) ∙ e) i

narrow_below : (s : After) (p : ℕ) (r : Pages) (u : ℕ) (x : Place) → writable x ≡ false → ((w : ℕ) → covers r w ≡ true → w < u → writable (s.places.place p w) ≡ false) → (w : ℕ) → covers r w ≡ true → w < u + 1 → writable (with_place s.places.place p u x p w) ≡ false
narrow_below s p r u x n f w cv l = by (w == u) refl
  where
    less : (w == u) ≡ false → w < u
    less e = grind (arith, nat_tests)

    by : (b : Bool) → (w == u) ≡ b → writable (with_place s.places.place p u x p w) ≡ false
    by true e = ap (λ i. writable (with_place s.places.place p u x p i)) (eqb-true w u e) ∙ ap writable (this_page s.places.place p u x) ∙ n
    by false e = ap writable (other_pages s.places.place p u x w (λ k. absurd (true_false (w == u) (number_is w u k) e))) ∙ f w cv (less e)

pub narrow_locks : (c : Program) (s : After) (t : Past) (p u : ℕ) → Sound c s t → LocksNothing s (narrowed (s.places.place p u))
narrow_locks c s t p u so f e = so.frames.moving_locked p u f (was (s.places.place p u) e)
  where
    was : (y : Place) → moving_frame (narrowed y) ≡ Some f → moving_frame y ≡ Some f
    was y i = grind arith

pub never_exclusive : (y : Place) → is_exclusive (narrowed y) ≡ false
never_exclusive y = grind arith

-- nothing is left behind, so that the actor goes on
pub goes_on : (s : After) (t : Past) (a : ℕ) (o : Op) (xs : List Migrating) (k : Kind) (p v : ℕ) (x : Place) (st : List Phase) → ((f : Frame) → orphan_at s p v x ≡ Some f → ⊥) → HoldsAll (next s a k) t a (facts o xs st) → (y : Option Frame) → orphan_at s p v x ≡ y → HoldsAll (next s a k) t a (facts o xs (dropping y st))
goes_on s t a o xs k p v x st n h None e = h
goes_on s t a o xs k p v x st n h (Some f) e = absurd (n f e)

pub narrow_ok : (c : Program) (s : After) (t : Past) (a : ℕ) (o : Op) (xs : List Migrating) (met : Bool) (told : Option ℕ) (n : ℕ) → Sound c s t → HoldsAll s t a (narrow_guard o (proc_of_op o) (op_span o) met told n) →
    Good c s t a o xs (Phase.Guard (proc_of_op o) (op_span o) met told (Body.Narrow n)) (Phase.Answer ∷ []) (Do (due_guard s a o (proc_of_op o) (op_span o) met told (Body.Narrow n)))
narrow_ok c s t a o xs met told n so h = guard_ok c s t a o xs (proc_of_op o) (op_span o) met told (Body.Narrow n) (Phase.Answer ∷ []) so h.0 (λ m tk i. (i, h.1))
    (λ al. by al (next_page s.places writable (proc_of_op o) n) refl)
  where
    P : Option Kind → Type 0
    P = λ y. Good c s t a o xs (Phase.Guard (proc_of_op o) (op_span o) met told (Body.Narrow n)) (Phase.Answer ∷ []) (Do (body_or_end s (proc_of_op o) (op_span o) y))

    nr : Holds s t a (Narrowing (proc_of_op o) (op_span o) n)
    nr = h.1.1.1.1.1.1.0

    narrow : ℕ → Place
    narrow = λ u. narrowed (s.places.place (proc_of_op o) u)

    ends : all_told h.0.given ≡ true → NarrowBelow s (proc_of_op o) (op_span o) (last_of (op_span o)) → P None
    ends al f = (
      end_takes s a (proc_of_op o) (op_span o) met told h.0 al,
      tt,
      (
        here_at s.sequences.guard a None,
        (
          h.1.0,
          narrowed_answer (next s a (Kind.End (proc_of_op o) (op_span o) (seq_ended s.sequences (proc_of_op o)))) t a o
              (h.1.1.1.0, (upto_last (op_span o).first n (op_span o).count h.1.1.1.1.0, (h.1.1.1.1.1.0, ((nr.0, nr.1, f), tt)))),
        ),
      ),
    )

    by : all_told h.0.given ≡ true → (x : Option ℕ) → next_page s.places writable (proc_of_op o) n ≡ x → P (within (op_span o) x (λ u. Kind.Place (proc_of_op o) u (narrowed (s.places.place (proc_of_op o) u))))
    by al None e = ends al (below_next (λ u. writable (s.places.place (proc_of_op o) u) ≡ false) (op_span o) n (last_of (op_span o)) nr.2 (λ w l m. (none_says s.places writable so.places no_empty_writable (proc_of_op o) n e).fails w l))
    by al (Some u) e = either P (nat_lt u (last_of (op_span o))) (Some (Kind.Place (proc_of_op o) u (narrowed (s.places.place (proc_of_op o) u)))) None
        (λ l. let cv : covers (op_span o) u ≡ true = in_span (op_span o) n u h.1.1.1.1.0 says.above l in
        let ok : PlaceOk s t a (proc_of_op o) u (narrowed (s.places.place (proc_of_op o) u)) = narrowed_ok c s t a (proc_of_op o) u so nr.0 h.1.0 says.passes (is_covered s a (proc_of_op o) u (op_span o) met told h.0 al cv) in
        let st : (is_empty_place (narrowed (s.places.place (proc_of_op o) u)) ≡ false) × (writable (narrowed (s.places.place (proc_of_op o) u)) ≡ false) = narrowed_stays (s.places.place (proc_of_op o) u) says.passes in (
          ok,
          never_exclusive (s.places.place (proc_of_op o) u),
          goes_on s t a o xs (Kind.Place (proc_of_op o) u (narrowed (s.places.place (proc_of_op o) u))) (proc_of_op o) u (narrowed (s.places.place (proc_of_op o) u)) (Phase.Guard (proc_of_op o) (op_span o) met told (Body.Narrow (u + 1)) ∷ Phase.Answer ∷ []) (stays u ok)
              (h.0, (still_none s t a (proc_of_op o) u (narrowed (s.places.place (proc_of_op o) u)) (narrow_locks c s t (proc_of_op o) u so) (stays u ok) h.1.0, (h.1.1.0, (h.1.1.1.0, (more_first (op_span o).first n u h.1.1.1.1.0 says.above, (h.1.1.1.1.1.0, ((nr.0, narrow_clean s (proc_of_op o) u (narrowed (s.places.place (proc_of_op o) u)) nr.1 st.0, narrow_below s (proc_of_op o) (op_span o) u (narrowed (s.places.place (proc_of_op o) u)) st.1 (narrow_to u says.between)), tt)))))))
              (orphan_at s (proc_of_op o) u (narrowed (s.places.place (proc_of_op o) u))) refl,
        ))
        (λ l. ends al (narrow_to (last_of (op_span o)) (λ w k m. says.between w k (before w m l))))
      where
        says : NextSays s.places writable (proc_of_op o) n u
        says = next_says s.places writable so.places no_empty_writable (proc_of_op o) n u e

        stays : (u : ℕ) → PlaceOk s t a (proc_of_op o) u (narrowed (s.places.place (proc_of_op o) u)) → (f : Frame) → orphan_at s (proc_of_op o) u (narrowed (s.places.place (proc_of_op o) u)) ≡ Some f → ⊥
        stays u ok = none_left c s t a (proc_of_op o) u (narrowed (s.places.place (proc_of_op o) u)) so ok (same (s.places.place (proc_of_op o) u))
          where
            same : (y : Place) → names (narrowed y) ≡ names y
            same y = grind arith

        narrow_to : (m : ℕ) → ((w : ℕ) → n ≤ w → w < m → writable (s.places.place (proc_of_op o) w) ≡ false) → NarrowBelow s (proc_of_op o) (op_span o) m
        narrow_to m f = below_next (λ u. writable (s.places.place (proc_of_op o) u) ≡ false) (op_span o) n m nr.2 f

        before : (w : ℕ) → w < last_of (op_span o) → nat_lt u (last_of (op_span o)) ≡ false → w < u
        before w m l = grind (arith, nat_tests)

pub widen_ok : (c : Program) (s : After) (t : Past) (a : ℕ) (o : Op) (xs : List Migrating) (p : ℕ) (r : Pages) (met : Bool) (told : Option ℕ) → Sound c s t → HoldsAll s t a (In_guard p r met told ∷ Locks_only [] ∷ Over p r (proc_of_op o) (op_span o) ∷ widening o) →
    Good c s t a o xs (Phase.Guard p r met told Body.Nothing) (Phase.Answer ∷ []) (Do (due_guard s a o p r met told Body.Nothing))
widen_ok c s t a o xs p r met told so h = guard_ok c s t a o xs p r met told Body.Nothing (Phase.Answer ∷ []) so h.0 (λ m tk i. (i, h.1))
    (λ al. (end_takes s a p r met told h.0 al, tt, (here_at s.sequences.guard a None, (h.1.0, widened_answer (next s a (Kind.End p r (seq_ended s.sequences p))) t a o h.1.1.1))))
