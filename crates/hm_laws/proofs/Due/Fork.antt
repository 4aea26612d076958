-- Forks: each page of the parent loses its write right, and the child gets its place.
use Rattle.std.proofs.Common.{◌≡◌, ℕ, ◌+◌, ◌%◌, ◌^◌, ◌<◌, ◌≤◌, ◌⊎◌, inl, inr, Bool, true, false, ◌==◌, ◌&&◌, ◌||◌, nat_lt, nat_le, if◌then◌else◌, not, Option, Some, None, List, [], ◌∷◌, refl, sym, ap, ◌∙◌, subst, arith}
use Rattle.std.proofs.lemmas.Bool.Decides.{nat_tests}
use Rattle.std.proofs.lemmas.Bool.{and_from, eqb-true}
use Rattle.hm_base.specs.Pages.{Pages, covers}
use Rattle.hm_base.specs.Areas.{last_of}
use Rattle.hm_base.specs.Program.{Program}
use Rattle.hm_base.specs.declared.cause.Cause.{Cause}
use Rattle.hm_base.specs.declared.Frame.{Frame}
use Rattle.hm_base.specs.declared.Place.{Place}
use Rattle.hm_base.specs.declared.ops.Op.{Op}
use Rattle.hm_history.specs.Memory.Words.{names, writable, is_empty_place, page_of}
use Rattle.hm_history.specs.Memory.Places.{with_place, is_exclusive}
use Rattle.hm_history.specs.Memory.Sequences.{seq_started, seq_ended, all_told}
use Rattle.hm_history.specs.Memory.Contents.{shown_by}
use Rattle.hm_history.specs.Memory.After.{After}
use Rattle.hm_history.specs.declared.Kind.{Kind}
use Rattle.hm_laws.specs.Stood.{stood}
use Rattle.hm_laws.specs.Past.{Past}
use Rattle.hm_laws.specs.Sound.{Sound}
use Rattle.hm_laws.specs.Allowed.{next, Clean, HasChild, Alike, PlaceOk}
use Rattle.hm_laws.specs.Facts.{Fact, Forking, No_guard, In_guard, Over, Locks_only, Guarding, Holds, op_span, forking, answering, facts, HoldsAll}
use Rattle.hm_history.specs.Kernel.Due.{proc_of_op}
use Rattle.hm_base.specs.Pages.{all_pages}
use Rattle.hm_history.specs.Memory.Words.{narrowed}
use Rattle.hm_history.specs.Memory.Places.{next_page, is_used}
use Rattle.hm_history.specs.Memory.Sequences.{all_told}
use Rattle.hm_history.specs.Kernel.Due.{start_entry, due_guard, within, fork_page, body_or_end, due_areas}
use Rattle.hm_history.specs.declared.phases.Migrating.{Migrating}
use Rattle.hm_history.specs.declared.phases.Body.{Body}
use Rattle.hm_history.specs.declared.phases.Phase.{Phase}
use Rattle.hm_history.specs.declared.phases.Next.TheVariants.{Do}
use Rattle.hm_laws.proofs.Due.Good.{Good, either, release_clean, not_short}
use Rattle.hm_laws.proofs.Due.LeftFrames.{orphan_at, no_left, none_left}
use Rattle.hm_laws.proofs.Due.Places.{narrowed_ok, child_ok}
use Rattle.hm_laws.proofs.Due.Guards.{started, number_is, start_takes, is_covered, end_takes, guard_ok}
use Rattle.hm_laws.proofs.State.NextPage.{NextSays, next_says, none_says}
use Rattle.hm_laws.proofs.Due.Decide.{still_none}
use Rattle.hm_laws.proofs.Due.Areas.{locked}
use Rattle.hm_laws.proofs.Due.Spans.{no_empty_used, unused_empty, in_span, other_pages, this_page, narrowed_stays, narrow_clean, never_exclusive, narrow_locks, goes_on}
use Rattle.hm_history.proofs.Updates.{here_at}
use Rattle.hm_history.proofs.Tests.{true_false}

-- the name is given
pub fork_name_ok : (c : Program) (s : After) (t : Past) (a p d : ℕ) (xs : List Migrating) → Sound c s t → HoldsAll s t a (locked (Op.Fork p d)) → Good c s t a (Op.Fork p d) xs Phase.Locked [] (Do (due_areas s (Op.Fork p d)))
fork_name_ok c s t a p d xs so h = either P ((d == 0) || s.plain.named d) _ _
    (λ e. (release_clean s a p h.1.1.1.0.0 h.1.1.1.0.1, not_short c s Cause.NameTaken refl, (here_at s.locks.map a None, (h.0, (h.1.0, tt)))))
    (λ e. (named_ok (d == 0) refl (s.plain.named d) refl e, tt, (h.0, (h.1.0, (refl, ((h.1.1.1.0.0, λ i. absurd (true_false false i refl)), ((h.1.1.1.0.0, h.1.1.1.0.1, (here_at t.namer d (Some a), not_been e), (λ u l. absurd (none u l)), λ u l. unborn e u), tt)))))))
  where
    P : Kind → Type 0
    P = λ k. Good c s t a (Op.Fork p d) xs Phase.Locked [] (Do k)

    named_ok : (b : Bool) → (d == 0) ≡ b → (n : Bool) → s.plain.named d ≡ n → (b || n) ≡ false → (s.plain.there p && (nat_lt 0 d && not (s.plain.named d))) ≡ true
    named_ok true eb n en k = cc
    named_ok false eb true en k = cc
    named_ok false eb false en k = and_from (s.plain.there p) _ h.1.1.1.0.0.1 (and_from (nat_lt 0 d) _ (grind (arith, nat_tests)) (rw en refl))

    fresh : ((d == 0) || s.plain.named d) ≡ false → ((d == 0) ≡ false) × (s.plain.named d ≡ false)
    fresh e = by (d == 0) refl (s.plain.named d) refl e
      where
        by : (b : Bool) → (d == 0) ≡ b → (n : Bool) → s.plain.named d ≡ n → (b || n) ≡ false → (b ≡ false) × (n ≡ false)
        by true eb n en k = cc
        by false eb true en k = cc
        by false eb false en k = (refl, refl)

    not_been : ((d == 0) || s.plain.named d) ≡ false → s.plain.been d ≡ false
    not_been e = by (s.plain.been d) refl
      where
        by : (b : Bool) → s.plain.been d ≡ b → b ≡ false
        by false eb = refl
        by true eb = at (so.processes.been_named d eb)
          where
            at : (d ≡ 0) ⊎ (s.plain.named d ≡ true) → true ≡ false
            at (inl z) = absurd (true_false (d == 0) (number_is d 0 z) (fresh e).0)
            at (inr z) = absurd (true_false (s.plain.named d) z (fresh e).1)

    unborn : ((d == 0) || s.plain.named d) ≡ false → (u : ℕ) → is_empty_place (s.places.place d u) ≡ true
    unborn e u = so.areas.unborn d u (so.processes.namer_named d (fresh e).1) (not_been e)

    none : (u : ℕ) → u < 0 → ⊥
    none u l = omega arith

-- pages stay alike at a start, a tell and an end
alike_start : (s : After) (a q : ℕ) (r : Pages) (m p d v : ℕ) → Alike s p d v → Alike (next s a (Kind.Start q r m)) p d v
alike_start s a q r m p d v al = record { emptiness = al.emptiness; contents = al.contents; child_right = al.child_right; parent_right = al.parent_right }

alike_told : (s : After) (a k : ℕ) (r : Pages) (m p d v : ℕ) → Alike s p d v → Alike (next s a (Kind.Told k r m)) p d v
alike_told s a k r m p d v al = record { emptiness = al.emptiness; contents = al.contents; child_right = al.child_right; parent_right = al.parent_right }

-- the guard opens
pub fork_ready : (c : Program) (s : After) (t : Past) (a p d : ℕ) (xs : List Migrating) → a < 16 → HoldsAll s t a (No_guard ∷ Locks_only [] ∷ forking (Op.Fork p d) 0 false) → Good c s t a (Op.Fork p d) xs Phase.Ready [] (Do (start_entry s p all_pages))
fork_ready c s t a p d xs few h = ((few, start_takes s a p all_pages h.0), tt, (started s a p all_pages (seq_started s.sequences p all_pages), (h.1.0, ((refl, refl), (h.1.1.0, (h.1.1.1.0, ((f.0, f.1, f.2, (λ u l. alike_start s a p all_pages (seq_started s.sequences p all_pages) p d u (f.3 u l)), f.4), tt)))))))
  where
    f : Holds s t a (Forking p d 0)
    f = h.1.1.1.1.0

-- pages that are alike, and stay so where other pages get a place
alike_empty : (s : After) (p d v : ℕ) → is_empty_place (s.places.place p v) ≡ true → is_empty_place (s.places.place d v) ≡ true → Alike s p d v
alike_empty s p d v e f = record {
  emptiness = f ∙ sym e;
  contents = λ x i n. absurd (true_false (is_empty_place (s.places.place d v)) f n);
  child_right = narrow (s.places.place d v) f;
  parent_right = narrow (s.places.place p v) e;
}
  where
    narrow : (x : Place) → is_empty_place x ≡ true → writable x ≡ false
    narrow x h = grind arith

alike_same : (s : After) (a q u : ℕ) (x : Place) (p d v : ℕ) → with_place s.places.place q u x p v ≡ s.places.place p v → with_place s.places.place q u x d v ≡ s.places.place d v → Alike s p d v → Alike (next s a (Kind.Place q u x)) p d v
alike_same s a q u x p d v e f al = record {
  emptiness = ap is_empty_place f ∙ al.emptiness ∙ sym (ap is_empty_place e);
  contents = λ y i n. ap (λ j. shown_by s.contents (stood s.places.committed_to j) (y % 4096)) f ∙ al.contents y i (sym (ap is_empty_place f) ∙ n);
  child_right = ap writable f ∙ al.child_right;
  parent_right = ap writable e ∙ al.parent_right;
}

other_process : (place : ℕ → ℕ → Place) (p v : ℕ) (x : Place) (q u : ℕ) → (q ≡ p → ⊥) → with_place place p v x q u ≡ place q u
other_process place p v x q u ne = grind (arith, nat_tests)

-- the child gets the place of a page that is not writable
child_placed : (c : Program) (s : After) (t : Past) (a p d n u : ℕ) → Sound c s t → (d ≡ p → ⊥) → Holds s t a (Forking p d n) → n ≤ u → ((w : ℕ) → n ≤ w → w < u → is_empty_place (s.places.place p w) ≡ true) → is_empty_place (s.places.place p u) ≡ false → writable (s.places.place p u) ≡ false →
    Holds (next s a (Kind.Place d u (s.places.place p u))) t a (Forking p d (u + 1))
child_placed c s t a p d n u so ne h l between st nw = (h.0, clean, h.2, alike, λ w k. ap is_empty_place (other_pages s.places.place d u (s.places.place p u) w (λ e. above w e k)) ∙ h.4 w (omega (arith, k)))
  where
    parent : (v : ℕ) → with_place s.places.place d u (s.places.place p u) p v ≡ s.places.place p v
    parent v = other_process s.places.place d u (s.places.place p u) p v (λ e. ne (sym e))

    clean : Clean (next s a (Kind.Place d u (s.places.place p u))) p
    clean x e i = h.1 x (sym (ap is_empty_place (parent (page_of x))) ∙ e) i

    above : (w : ℕ) → w ≡ u → u + 1 ≤ w → ⊥
    above w e k = omega (arith, e, k)

    below : (w : ℕ) → w < u → Alike s p d w
    below w k = by (nat_lt w n) refl
      where
        less : nat_lt w n ≡ true → w < n
        less e = grind (arith, nat_tests)

        more : nat_lt w n ≡ false → n ≤ w
        more e = grind (arith, nat_tests)

        by : (b : Bool) → nat_lt w n ≡ b → Alike s p d w
        by true e = h.3 w (less e)
        by false e = alike_empty s p d w (between w (more e) k) (h.4 w (more e))

    new : Alike (next s a (Kind.Place d u (s.places.place p u))) p d u
    new = record {
      emptiness = ap is_empty_place (this_page s.places.place d u (s.places.place p u)) ∙ sym (ap is_empty_place (parent u));
      contents = λ y i m. ap (λ j. shown_by s.contents (stood s.places.committed_to j) (y % 4096)) (this_page s.places.place d u (s.places.place p u)) ∙ ap (λ j. shown_by s.contents (stood s.places.committed_to (s.places.place p j)) (y % 4096)) (sym i) ∙ so.reads.reads p y h.0.1 (ap (λ j. is_empty_place (s.places.place p j)) i ∙ st);
      child_right = ap writable (this_page s.places.place d u (s.places.place p u)) ∙ nw;
      parent_right = ap writable (parent u) ∙ nw;
    }

    alike : (w : ℕ) → w < u + 1 → Alike (next s a (Kind.Place d u (s.places.place p u))) p d w
    alike w k = by (w == u) refl
      where
        less : (w == u) ≡ false → w < u
        less e = grind (arith, nat_tests)

        by : (b : Bool) → (w == u) ≡ b → Alike (next s a (Kind.Place d u (s.places.place p u))) p d w
        by true e = subst (Alike (next s a (Kind.Place d u (s.places.place p u))) p d) (sym (eqb-true w u e)) new
        by false e = alike_same s a d u (s.places.place p u) p d w (parent w) (other_pages s.places.place d u (s.places.place p u) w (λ i. absurd (true_false (w == u) (number_is w u i) e))) (below w (less e))

-- the parent's page loses its write right
parent_narrowed : (c : Program) (s : After) (t : Past) (a p d n u : ℕ) (x : Place) → (d ≡ p → ⊥) → Holds s t a (Forking p d n) → n ≤ u → ((w : ℕ) → n ≤ w → w < u → is_empty_place (s.places.place p w) ≡ true) → is_empty_place x ≡ false → Holds (next s a (Kind.Place p u x)) t a (Forking p d u)
parent_narrowed c s t a p d n u x ne h l between st = (h.0, narrow_clean s p u x h.1 st, h.2, alike, λ w k. ap is_empty_place (child w) ∙ h.4 w (omega (arith, k, l)))
  where
    child : (v : ℕ) → with_place s.places.place p u x d v ≡ s.places.place d v
    child v = other_process s.places.place p u x d v ne

    below : (w : ℕ) → w < u → Alike s p d w
    below w k = by (nat_lt w n) refl
      where
        less : nat_lt w n ≡ true → w < n
        less e = grind (arith, nat_tests)

        more : nat_lt w n ≡ false → n ≤ w
        more e = grind (arith, nat_tests)

        by : (b : Bool) → nat_lt w n ≡ b → Alike s p d w
        by true e = h.3 w (less e)
        by false e = alike_empty s p d w (between w (more e) k) (h.4 w (more e))

    alike : (w : ℕ) → w < u → Alike (next s a (Kind.Place p u x)) p d w
    alike w k = alike_same s a p u x p d w (other_pages s.places.place p u x w (λ e. before w e k)) (child w) (below w k)
      where
        before : (w : ℕ) → w ≡ u → w < u → ⊥
        before w e k = omega (arith, e, k)

-- no number is below 0
pub from_first : (n : ℕ) → nat_le 0 n ≡ true
from_first n = grind (arith, nat_tests)

abbrev pub fork_guard : Op → ℕ → Pages → Bool → Option ℕ → ℕ → Bool → List Fact
fork_guard o p r met told n half = In_guard p r met told ∷ Locks_only [] ∷ Over p r (proc_of_op o) (op_span o) ∷ forking o n half

pub not_itself : (c : Program) (s : After) (t : Past) (a p d : ℕ) → Sound c s t → s.plain.there p ≡ true → HasChild s t a d → d ≡ p → ⊥
not_itself c s t a p d so th h e = true_false (s.plain.been d) (ap s.plain.been e ∙ so.processes.there_been p th) h.1

-- which page of the fork was placed: the parent's, or the child's
parent_body : (s : After) (t : Past) (a : ℕ) (o : Op) (xs : List Migrating) (p : ℕ) (r : Pages) (met : Bool) (told : Option ℕ) (u : ℕ) (b : Bool) → b ≡ true → HoldsAll s t a (facts o xs (Phase.Guard p r met told (Body.Fork u true) ∷ Phase.Answer ∷ [])) →
    HoldsAll s t a (facts o xs (Phase.Guard p r met told (if b then Body.Fork u true else Body.Fork (u + 1) false) ∷ Phase.Answer ∷ []))
parent_body s t a o xs p r met told u true e h = h
parent_body s t a o xs p r met told u false e h = cc

child_body : (s : After) (t : Past) (a : ℕ) (o : Op) (xs : List Migrating) (p : ℕ) (r : Pages) (met : Bool) (told : Option ℕ) (u : ℕ) (b : Bool) → b ≡ false → HoldsAll s t a (facts o xs (Phase.Guard p r met told (Body.Fork (u + 1) false) ∷ Phase.Answer ∷ [])) →
    HoldsAll s t a (facts o xs (Phase.Guard p r met told (if b then Body.Fork u true else Body.Fork (u + 1) false) ∷ Phase.Answer ∷ []))
child_body s t a o xs p r met told u true e h = cc
child_body s t a o xs p r met told u false e h = h

forked_answer : (p d : ℕ) (s : After) (t : Past) (a : ℕ) → Holds s t a (Forking p d (last_of all_pages)) → HoldsAll s t a (answering (Op.Fork p d))
forked_answer p d s t a h = (refl, ((h.0, λ i. absurd (true_false false i refl)), (h, tt)))

-- the child's place
pub fork_child_ok : (c : Program) (s : After) (t : Past) (a p d : ℕ) (xs : List Migrating) (met : Bool) (told : Option ℕ) (n u : ℕ) (half : Bool) → Sound c s t → Guarding s.sequences.guard a p all_pages met told → Holds s t a (Locks_only []) → Holds s t a (Forking p d n) → n ≤ u → ((w : ℕ) → n ≤ w → w < u → is_empty_place (s.places.place p w) ≡ true) →
    is_empty_place (s.places.place p u) ≡ false → writable (s.places.place p u) ≡ false → Good c s t a (Op.Fork p d) xs (Phase.Guard p all_pages met told (Body.Fork n half)) (Phase.Answer ∷ []) (Do (Kind.Place d u (s.places.place p u)))
fork_child_ok c s t a p d xs met told n u half so g l f le between st nw = (
  ok,
  shared (s.places.place p u) nw,
  goes_on s t a (Op.Fork p d) xs (Kind.Place d u (s.places.place p u)) d u (s.places.place p u) _ left
      (child_body (next s a (Kind.Place d u (s.places.place p u))) t a (Op.Fork p d) xs p all_pages met told u (d == p) (differ (d == p) refl) (g, (still_none s t a d u (s.places.place p u) (λ f e. so.frames.moving_locked p u f e) left l, ((refl, refl), (refl, ((f.0, λ i. absurd (true_false false i refl)), (child_placed c s t a p d n u so ne f le between st nw, tt)))))))
      (orphan_at s d u (s.places.place p u)) refl,
)
  where
    ne : d ≡ p → ⊥
    ne = not_itself c s t a p d so f.0.1 f.2

    differ : (b : Bool) → (d == p) ≡ b → b ≡ false
    differ true e = absurd (ne (eqb-true d p e))
    differ false e = refl

    empty : is_empty_place (s.places.place d u) ≡ true
    empty = f.4 u le

    ok : PlaceOk s t a d u (s.places.place p u)
    ok = child_ok c s t a p d u so f.2 l empty st nw

    shared : (y : Place) → writable y ≡ false → is_exclusive y ≡ false
    shared y e = grind arith

    nothing : (y : Place) → is_empty_place y ≡ true → names y ≡ None
    nothing y e = grind arith

    left : (i : Frame) → orphan_at s d u (s.places.place p u) ≡ Some i → ⊥
    left i e = no_left s d u (s.places.place p u) i (nothing (s.places.place d u) empty) e

pub fork_ok : (c : Program) (s : After) (t : Past) (a p d : ℕ) (xs : List Migrating) (met : Bool) (told : Option ℕ) (n : ℕ) (half : Bool) → Sound c s t → HoldsAll s t a (fork_guard (Op.Fork p d) p all_pages met told n half) →
    Good c s t a (Op.Fork p d) xs (Phase.Guard p all_pages met told (Body.Fork n half)) (Phase.Answer ∷ []) (Do (due_guard s a (Op.Fork p d) p all_pages met told (Body.Fork n half)))
fork_ok c s t a p d xs met told n true so h = guard_ok c s t a (Op.Fork p d) xs p all_pages met told (Body.Fork n true) (Phase.Answer ∷ []) so h.0 (λ m tk i. (i, (h.1.0, (h.1.1.0, (h.1.1.1.0, (h.1.1.1.1.0, ((h.1.1.1.1.1.0.0, h.1.1.1.1.1.0.1, h.1.1.1.1.1.0.2, (λ u l. alike_told s a m all_pages (s.sequences.seq p) p d u (h.1.1.1.1.1.0.3 u l)), h.1.1.1.1.1.0.4), tt)))))))
    (λ al. fork_child_ok c s t a p d xs met told n n true so h.0 h.1.0 h.1.1.1.1.1.0 (omega arith) (λ w l m. absurd (none w l m)) (h.1.1.1.1.0.1 refl).1 (h.1.1.1.1.0.1 refl).0)
  where
    none : (w : ℕ) → n ≤ w → w < n → ⊥
    none w l m = omega (arith, l, m)
fork_ok c s t a p d xs met told n false so h = guard_ok c s t a (Op.Fork p d) xs p all_pages met told (Body.Fork n false) (Phase.Answer ∷ []) so h.0 (λ m tk i. (i, (h.1.0, (h.1.1.0, (h.1.1.1.0, (h.1.1.1.1.0, ((h.1.1.1.1.1.0.0, h.1.1.1.1.1.0.1, h.1.1.1.1.1.0.2, (λ u l. alike_told s a m all_pages (s.sequences.seq p) p d u (h.1.1.1.1.1.0.3 u l)), h.1.1.1.1.1.0.4), tt)))))))
    (λ al. by al (next_page s.places is_used p n) refl)
  where
    P : Option Kind → Type 0
    P = λ y. Good c s t a (Op.Fork p d) xs (Phase.Guard p all_pages met told (Body.Fork n false)) (Phase.Answer ∷ []) (Do (body_or_end s p all_pages y))

    f : Holds s t a (Forking p d n)
    f = h.1.1.1.1.1.0

    ne : d ≡ p → ⊥
    ne = not_itself c s t a p d so f.0.1 f.2

    past_last : (u : ℕ) → last_of all_pages ≤ u → is_empty_place (s.places.place d u) ≡ true
    past_last u l = at (is_empty_place (s.places.place d u)) refl
      where
        at : (b : Bool) → is_empty_place (s.places.place d u) ≡ b → b ≡ true
        at true e = refl
        at false e = absurd (past u l (so.places.ranged d u e))
          where
            past : (u : ℕ) → last_of all_pages ≤ u → u < 2 ^ 36 → ⊥
            past u l m = omega (arith, l, m)

    ends : all_told h.0.given ≡ true → ((w : ℕ) → n ≤ w → w < last_of all_pages → is_empty_place (s.places.place p w) ≡ true) → P None
    ends al e = (end_takes s a p all_pages met told h.0 al, tt, (here_at s.sequences.guard a None, (h.1.0, forked_answer p d (next s a (Kind.End p all_pages (seq_ended s.sequences p))) t a (f.0, f.1, f.2, (λ w k. same w (below w k)), past_last))))
      where
        below : (w : ℕ) → w < last_of all_pages → Alike s p d w
        below w k = at (nat_lt w n) refl
          where
            less : nat_lt w n ≡ true → w < n
            less e = grind (arith, nat_tests)

            more : nat_lt w n ≡ false → n ≤ w
            more e = grind (arith, nat_tests)

            at : (b : Bool) → nat_lt w n ≡ b → Alike s p d w
            at true i = f.3 w (less i)
            at false i = alike_empty s p d w (e w (more i) k) (f.4 w (more i))

        same : (w : ℕ) → Alike s p d w → Alike (next s a (Kind.End p all_pages (seq_ended s.sequences p))) p d w
        same w al = record { emptiness = al.emptiness; contents = al.contents; child_right = al.child_right; parent_right = al.parent_right }

    by : all_told h.0.given ≡ true → (x : Option ℕ) → next_page s.places is_used p n ≡ x → P (within all_pages x (fork_page s p d))
    by al None e = ends al (λ w l m. unused_empty (s.places.place p w) ((none_says s.places is_used so.places no_empty_used p n e).fails w l))
    by al (Some u) e = either P (nat_lt u (last_of all_pages)) (Some (fork_page s p d u)) None
        (λ l. either (λ k. P (Some k)) (writable (s.places.place p u)) (Kind.Place p u (narrowed (s.places.place p u))) (Kind.Place d u (s.places.place p u))
        (λ w. let cv : covers all_pages u ≡ true = in_span all_pages n u (from_first n) says.above l in
        let ok : PlaceOk s t a p u (narrowed (s.places.place p u)) = narrowed_ok c s t a p u so f.0 h.1.0 w (is_covered s a p u all_pages met told h.0 al cv) in
        let st : (is_empty_place (narrowed (s.places.place p u)) ≡ false) × (writable (narrowed (s.places.place p u)) ≡ false) = narrowed_stays (s.places.place p u) w in (
          ok,
          never_exclusive (s.places.place p u),
          goes_on s t a (Op.Fork p d) xs (Kind.Place p u (narrowed (s.places.place p u))) p u (narrowed (s.places.place p u)) _ (stays ok)
              (parent_body (next s a (Kind.Place p u (narrowed (s.places.place p u)))) t a (Op.Fork p d) xs p all_pages met told u (p == p) (number_is p p refl)
              (h.0, (still_none s t a p u (narrowed (s.places.place p u)) (narrow_locks c s t p u so) (stays ok) h.1.0, ((refl, refl), (refl, ((f.0, λ i. (ap writable (this_page s.places.place p u (narrowed (s.places.place p u))) ∙ st.1, ap is_empty_place (this_page s.places.place p u (narrowed (s.places.place p u))) ∙ st.0)), (parent_narrowed c s t a p d n u (narrowed (s.places.place p u)) ne f says.above (λ w i j. unused_empty (s.places.place p w) (says.between w i j)) st.0, tt)))))))
              (orphan_at s p u (narrowed (s.places.place p u))) refl,
        ))
        (λ w. fork_child_ok c s t a p d xs met told n u false so h.0 h.1.0 f says.above (λ w i j. unused_empty (s.places.place p w) (says.between w i j)) (used (s.places.place p u) says.passes) w))
        (λ l. ends al (λ w i j. unused_empty (s.places.place p w) (says.between w i (before w j l))))
      where
        says : NextSays s.places is_used p n u
        says = next_says s.places is_used so.places no_empty_used p n u e

        used : (x : Place) → is_used x ≡ true → is_empty_place x ≡ false
        used x i = grind arith

        before : (w : ℕ) → w < last_of all_pages → nat_lt u (last_of all_pages) ≡ false → w < u
        before w m l = grind (arith, nat_tests)

        stays : PlaceOk s t a p u (narrowed (s.places.place p u)) → (i : Frame) → orphan_at s p u (narrowed (s.places.place p u)) ≡ Some i → ⊥
        stays ok = none_left c s t a p u (narrowed (s.places.place p u)) so ok (same (s.places.place p u))
          where
            same : (y : Place) → names (narrowed y) ≡ names y
            same y = grind arith
