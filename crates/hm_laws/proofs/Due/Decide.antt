-- The decision of a fault, by the CPU or in a look-up.
use Rattle.std.proofs.Common.{◌≡◌, ℕ, ◌^◌, ◌<◌, ◌⊎◌, inl, inr, Bool, true, false, ◌&&◌, ◌||◌, if◌then◌else◌, not, is_some, is_none, Option, Some, None, List, [], ◌∷◌, refl, sym, ap, ◌∙◌, subst, arith}
use Rattle.std.specs.List.{list_any}
use Rattle.std.proofs.lemmas.Bool.{and_parts}
use Rattle.hm_base.specs.Areas.{rights_at}
use Rattle.hm_base.specs.Program.{Program}
use Rattle.hm_base.specs.declared.cause.Cause.{Cause}
use Rattle.hm_base.specs.declared.area.Area.{Area}
use Rattle.hm_base.specs.declared.PoolId.{PoolId}
use Rattle.hm_base.specs.declared.Frame.{Frame}
use Rattle.hm_base.specs.declared.Place.{Place}
use Rattle.hm_base.specs.declared.ops.Op.{Op}
use Rattle.hm_history.specs.Memory.Words.{same_pool, same_frame, sys_frame, dev_frame, with_frame, names, moving_frame, writable, is_empty_place}
use Rattle.hm_history.specs.Memory.Plain.{rights_of, is_read_write, is_read_only, may_fail, outside_cause, proc_of}
use Rattle.hm_history.specs.Memory.Places.{lowest_free, is_exclusive}
use Rattle.hm_history.specs.Memory.Locks.{frame_placed}
use Rattle.hm_history.specs.Memory.Contents.{zeros}
use Rattle.hm_history.specs.Memory.After.{After}
use Rattle.hm_history.specs.Kernel.Operation.{op_who, op_writes}
use Rattle.hm_history.specs.Kernel.Stacks.{with_frame_taken, piece_of, body_of_fault}
use Rattle.hm_history.specs.Kernel.Going.{touch_page}
use Rattle.hm_history.specs.Kernel.Due.{suits, fails, fault, fault_at, start_entry, is_used_once, take_or}
use Rattle.hm_base.specs.Pages.{one_page}
use Rattle.hm_history.specs.Memory.Sequences.{some_overlap, seq_started}
use Rattle.hm_history.specs.Memory.Locks.{other_locker}
use Rattle.hm_laws.proofs.Due.Guards.{started, start_takes}
use Rattle.hm_history.specs.declared.Kind.{Kind}
use Rattle.hm_history.specs.declared.phases.Migrating.{Migrating}
use Rattle.hm_history.specs.declared.phases.Touch.{Touch}
use Rattle.hm_history.specs.declared.phases.Phase.{Phase}
use Rattle.hm_history.specs.declared.phases.Next.{Next}
use Rattle.hm_history.specs.declared.phases.Next.TheVariants.{Do}
use Rattle.hm_laws.specs.Past.{Past}
use Rattle.hm_laws.specs.Sound.{Sound}
use Rattle.hm_laws.specs.Allowed.{next, shows, ReadsThere, OwnsFrame, PlaceOk, Allowed}
use Rattle.hm_laws.specs.Facts.{Locks_only, Touching, Holds, deciding, facts, is_core, of_system, HoldsAll}
use Rattle.hm_laws.proofs.Kept.Pools.{free_says}
use Rattle.hm_laws.proofs.Kept.Contents.{stood_else}
use Rattle.hm_laws.proofs.Other.Frames.{frame_here}
use Rattle.hm_laws.proofs.Other.Lookups.{touches_own}
use Rattle.hm_laws.proofs.Due.Good.{Good, IsShort, either, either_option, some_rights, write_rights, some_write, no_area, no_frame, read_only, not_short}
use Rattle.hm_laws.proofs.Due.LeftFrames.{orphan_at, LocksNothing, unfrozen, gains_own, no_left, none_left}
use Rattle.hm_laws.proofs.Due.Places.{zero_ok}
use Rattle.hm_laws.proofs.State.Pieces.{sole_ok}
use Rattle.hm_history.proofs.Tests.{true_false}

-- a frame is taken
taken_locks : (s : After) (a : ℕ) (g : Frame) → ((f : Frame) → s.locks.frame f ≡ Some a → list_any (same_frame f) [] ≡ true) → (f : Frame) → with_frame s.locks.frame g (Some a) f ≡ Some a → list_any (same_frame f) (g ∷ []) ≡ true
taken_locks s a g h f k = by (same_frame f g) refl k
  where
    by : (b : Bool) → same_frame f g ≡ b → (if b then Some a else s.locks.frame f) ≡ Some a → (b || false) ≡ true
    by true e k = refl
    by false e k = h f k

-- what was free is nobody's
pub taken_own : (c : Program) (s : After) (t : Past) (a : ℕ) (g : Frame) → Sound c s t → s.places.held g ≡ false → OwnsFrame (next s a (Kind.Take g)) a g
taken_own c s t a g so free = (
  record {
    mine = frame_here s.locks.frame g (Some a);
    unnamed = λ q u n. true_false (s.places.held g) (so.frames.names_held q u g n) free;
    unstood = λ q u n. true_false (s.places.held g) (so.frames.stands_held q u g (sym (stood_else s.places.committed_to g None (s.places.place q u) (λ e. true_false (s.places.held g) (so.frames.names_held q u g e) free)) ∙ n)) free;
  },
  frame_here s.places.committed_to g None,
)

taken_facts : (c : Program) (s : After) (t : Past) (a : ℕ) (o : Op) (xs : List Migrating) (touch : Touch) (g : Frame) → g.pool ≡ PoolId.System → Sound c s t → lowest_free c s.places g.pool ≡ Some g → HoldsAll s t a (deciding o touch) → ReadsThere s a (proc_of s.plain (op_who o)) → is_read_write (rights_of s.plain (proc_of s.plain (op_who o)) (touch_page o touch)) ≡ true →
    (x : Place) → s.places.place (proc_of s.plain (op_who o)) (touch_page o touch) ≡ x → is_core x ≡ true → writable x ≡ false → HoldsAll (next s a (Kind.Take g)) t a (facts o xs (with_frame_taken touch g x ∷ []))
taken_facts c s t a o xs touch g pool so free h th i x e co w = by x e co w
  where
    own : OwnsFrame (next s a (Kind.Take g)) a g
    own = taken_own c s t a g so (free_says c s.places g.pool g free).1

    zero : with_frame s.contents g zeros g ≡ zeros
    zero = frame_here s.contents g zeros

    locks : Holds (next s a (Kind.Take g)) t a (Locks_only (g ∷ []))
    locks = taken_locks s a g h.1.1.1.0

    touches : Holds (next s a (Kind.Take g)) t a (Touching o touch)
    touches = touches_own c s t a (Kind.Take g) so free refl o touch h.0

    system : of_system g ≡ true
    system = ap (λ x. same_pool x PoolId.System) pool

    not_writable : (b : Bool) → b ≡ false → not b ≡ true
    not_writable b n = grind arith

    by : (x : Place) → s.places.place (proc_of s.plain (op_who o)) (touch_page o touch) ≡ x → is_core x ≡ true → writable x ≡ false → HoldsAll (next s a (Kind.Take g)) t a (facts o xs (with_frame_taken touch g x ∷ []))
    by Place.Zero e co w = (touches, ((h.1.0.0, th, i), (h.1.1.0, (locks, ((h.1.0.0, th, own, λ z n l. ap (λ (f : ℕ → ℕ). f n) zero ∙ sym (ap (λ y. shows (next s a (Kind.Take g)) y n) e)), (refl, (refl, (system, tt))))))))
    by Place.Empty e co w = (touches, ((h.1.0.0, th, i), (h.1.1.0, (locks, ((own, zero), (refl, (refl, (system, tt))))))))
    by (Place.Sys n z) e co w = (touches, ((h.1.0.0, th, i), (h.1.1.0, (locks, ((own, zero), (refl, (not_writable z w, (system, tt))))))))
    by (Place.Own d n z) e co w = cc
    by (Place.Moving f z) e co w = cc
    by (Place.Exclusive n b) e co w = cc

-- the page of an area lies in the address space
pub ranged : (c : Program) (s : After) (t : Past) (p v : ℕ) → Sound c s t → is_some (rights_of s.plain p v) ≡ true → v < 2 ^ 36
ranged c s t p v so h = so.processes.area_below p v h

pub empty_locks : (f : Frame) → list_any (same_frame f) [] ≡ true → ⊥
empty_locks f e = cc

-- after a place that leaves nothing behind, of an actor that had nothing locked
pub still_none : (s : After) (t : Past) (a p v : ℕ) (x : Place) → LocksNothing s x → ((f : Frame) → orphan_at s p v x ≡ Some f → ⊥) → Holds s t a (Locks_only []) → Holds (next s a (Kind.Place p v x)) t a (Locks_only [])
still_none s t a p v x nm left h f e = by (gains_own s a p v x nm f e)
  where
    by : (orphan_at s p v x ≡ Some f) ⊎ ((s.locks.frame f ≡ Some a) × (frame_placed s.locks (s.places.place p v) a x f ≡ Some a)) → list_any (same_frame f) [] ≡ true
    by (inl k) = absurd (left f k)
    by (inr k) = h f k.0

-- who has a process's lock finds it there where a page has an area
pub there_of : (c : Program) (s : After) (t : Past) (p v : ℕ) → Sound c s t → is_some (rights_of s.plain p v) ≡ true → s.plain.there p ≡ true
there_of c s t p v so h = by (s.plain.there p) refl
  where
    no_rights : (as_ : List Area) → as_ ≡ [] → is_some (rights_at as_ v) ≡ true → ⊥
    no_rights as_ e k = true_false false (sym (ap (λ y. is_some (rights_at y v)) e) ∙ k) refl

    by : (b : Bool) → s.plain.there p ≡ b → b ≡ true
    by true e = refl
    by false e = absurd (no_rights (s.plain.areas p) (so.processes.no_area p e) h)

-- what does not suit is written to, where there is something
suit_writes : (b : Bool) (x : Place) → is_core x ≡ true → is_empty_place x ≡ false → suits b x ≡ false → (b ≡ true) × (writable x ≡ false)
suit_writes true Place.Zero co n h = (refl, refl)
suit_writes true (Place.Sys m w) co n h = (refl, h)
suit_writes false Place.Zero co n h = cc
suit_writes false (Place.Sys m w) co n h = cc
suit_writes b x co n h = cc

both_not : (b d : Bool) → (b && d) ≡ false → b ≡ true → d ≡ false
both_not b d h k = grind arith

-- the fault's outcomes, given what a failure and the end of the fault lead to
pub record Outcomes (c : Program) (s : After) (t : Past) (a : ℕ) (o : Op) (xs : List Migrating) (touch : Touch) (suited : Place → Bool) : Type 0 where
  pub fail : (why : Cause) → may_fail s.plain (op_who o) (touch_page o touch) why ≡ true → IsShort c s why → Good c s t a o xs (Phase.Decide touch) [] (Do (fails o (piece_of touch) why))
  pub suit : suited (s.places.place (proc_of s.plain (op_who o)) (touch_page o touch)) ≡ true → Good c s t a o xs (Phase.Decide touch) [] (Do (Kind.Runlock (proc_of s.plain (op_who o))))
  pub inside : outside_cause s.plain (op_who o) (touch_page o touch) ≡ false
  pub suits_core : (x : Place) → is_core x ≡ true → suited x ≡ suits (op_writes o) x

take_ok : (c : Program) (s : After) (t : Past) (a : ℕ) (o : Op) (xs : List Migrating) (touch : Touch) (suited : Place → Bool) → Outcomes c s t a o xs touch suited → Sound c s t → HoldsAll s t a (deciding o touch) → is_read_write (rights_of s.plain (proc_of s.plain (op_who o)) (touch_page o touch)) ≡ true →
    is_core (s.places.place (proc_of s.plain (op_who o)) (touch_page o touch)) ≡ true → writable (s.places.place (proc_of s.plain (op_who o)) (touch_page o touch)) ≡ false → Good c s t a o xs (Phase.Decide touch) [] (take_or c s (fails o (piece_of touch) Cause.NoFrame))
take_ok c s t a o xs touch suited out so h r co w = by (lowest_free c s.places PoolId.System) refl
  where
    th : ReadsThere s a (proc_of s.plain (op_who o))
    th = (h.1.0.1, there_of c s t _ _ so (some_write _ r))

    by : (x : Option Frame) → lowest_free c s.places PoolId.System ≡ x → Good c s t a o xs (Phase.Decide touch) [] (elim x [ Some g ↦ Do (Kind.Take g) | None ↦ Do (fails o (piece_of touch) Cause.NoFrame) ])
    by None e = out.fail Cause.NoFrame (no_frame s.plain (op_who o) _ h.1.0.0 th.1 (some_write _ r)) (λ i. e)
    by (Some g) e = (free, tt, taken_facts c s t a o xs touch g (free_says c s.places PoolId.System g e).0 so free h th r (s.places.place (proc_of s.plain (op_who o)) (touch_page o touch)) refl co w)
      where
        free : lowest_free c s.places g.pool ≡ Some g
        free = subst (λ i. lowest_free c s.places i ≡ Some g) (sym (free_says c s.places PoolId.System g e).0) e

pub fault_ok : (c : Program) (s : After) (t : Past) (a : ℕ) (o : Op) (xs : List Migrating) (touch : Touch) (suited : Place → Bool) → a < 16 → Outcomes c s t a o xs touch suited → Sound c s t → HoldsAll s t a (deciding o touch) →
    Good c s t a o xs (Phase.Decide touch) [] (fault c s a o (piece_of touch) suited (proc_of s.plain (op_who o)) (touch_page o touch))
fault_ok c s t a o xs touch suited few out so h = either P (is_none (rights_of s.plain p v)) _ _
    (λ e. out.fail Cause.Unmapped (no_area s.plain (op_who o) v out.inside e) (not_short c s Cause.Unmapped refl))
    (λ e. either P (op_writes o && is_read_only (rights_of s.plain p v)) _ _
    (λ d. out.fail Cause.Forbidden (read_only s.plain (op_who o) v out.inside (there_of c s t p v so (some_rights _ e)) e (and_parts (op_writes o) _ d).1) (not_short c s Cause.Forbidden refl))
    (λ d. either P (suited (s.places.place p v)) _ _ out.suit
    (λ r. by e (both_not (op_writes o) (is_read_only (rights_of s.plain p v)) d) (s.places.place p v) refl r)))
  where
    p : ℕ
    p = proc_of s.plain (op_who o)

    v : ℕ
    v = touch_page o touch

    P : Next → Type 0
    P = Good c s t a o xs (Phase.Decide touch) []

    reads : is_none (rights_of s.plain (proc_of s.plain (op_who o)) (touch_page o touch)) ≡ false → ReadsThere s a (proc_of s.plain (op_who o))
    reads e = (h.1.0.1, there_of c s t _ _ so (some_rights _ e))

    -- the place is put in, and the actor decides again
    again : (x : Place) → PlaceOk s t a (proc_of s.plain (op_who o)) (touch_page o touch) x → is_exclusive x ≡ false → moving_frame x ≡ None → ((f : Frame) → orphan_at s (proc_of s.plain (op_who o)) (touch_page o touch) x ≡ Some f → ⊥) → P (Do (Kind.Place (proc_of s.plain (op_who o)) (touch_page o touch) x))
    again x ok shared nm left = (ok, shared, (touches_own c s t a (Kind.Place (proc_of s.plain (op_who o)) (touch_page o touch) x) so ok refl o touch h.0, (h.1.0, (h.1.1.0, (still_none s t a _ _ x (unfrozen s x nm) left h.1.1.1.0, tt)))))

    by : is_none (rights_of s.plain (proc_of s.plain (op_who o)) (touch_page o touch)) ≡ false → (op_writes o ≡ true → is_read_only (rights_of s.plain (proc_of s.plain (op_who o)) (touch_page o touch)) ≡ false) → (x : Place) → s.places.place (proc_of s.plain (op_who o)) (touch_page o touch) ≡ x → suited x ≡ false →
        P (fault_at c s a o (piece_of touch) (proc_of s.plain (op_who o)) (touch_page o touch) x)
    by e d Place.Empty i r = either P (op_writes o) _ _
        (λ w. take_ok c s t a o xs touch suited out so h (write_rights _ e (d w)) (ap is_core i) (ap writable i))
        (λ w. again Place.Zero (zero_ok c s t a _ _ so (reads e) (ranged c s t _ _ so (some_rights _ e)) i (some_rights _ e)) refl refl (λ f. no_left s _ _ Place.Zero f (ap names i)))
    by e d Place.Zero i r = take_ok c s t a o xs touch suited out so h (write_rights _ e (d (suit_writes (op_writes o) Place.Zero refl refl (sym (out.suits_core Place.Zero refl) ∙ r)).0)) (ap is_core i) (ap writable i)
    by e d (Place.Sys m w) i r = either P (is_used_once s (sys_frame m)) _ _
        (λ al. let ok : PlaceOk s t a (proc_of s.plain (op_who o)) (touch_page o touch) (Place.Sys m true) = sole_ok c s t a _ _ m w so (reads e) i (write_rights _ e (d says.0)) al in again (Place.Sys m true) ok refl refl (none_left c s t a _ _ (Place.Sys m true) so ok (sym (ap names i))))
        (λ al. take_ok c s t a o xs touch suited out so h (write_rights _ e (d says.0)) (ap is_core i) (ap writable i ∙ says.1))
      where
        says : (op_writes o ≡ true) × (w ≡ false)
        says = suit_writes (op_writes o) (Place.Sys m w) refl refl (sym (out.suits_core (Place.Sys m w) refl) ∙ r)
    by e d (Place.Own n m w) i r = either_option P (other_locker s.locks (dev_frame n m) a) _ _ (λ free. (
      ok,
      tt,
      subst (λ y. HoldsAll (next s a (start_entry s (proc_of s.plain (op_who o)) (one_page (touch_page o touch)))) t a (facts o xs (Phase.Guard (proc_of s.plain (op_who o)) (one_page (touch_page o touch)) (some_overlap s.sequences (proc_of s.plain (op_who o)) (one_page (touch_page o touch))) None (body_of_fault y) ∷ Phase.Decide touch ∷ []))) (sym i)
          (started s a (proc_of s.plain (op_who o)) (one_page (touch_page o touch)) (seq_started s.sequences (proc_of s.plain (op_who o)) (one_page (touch_page o touch))), (h.1.1.1.0, (refl, (refl, (touches_own c s t a (start_entry s (proc_of s.plain (op_who o)) (one_page (touch_page o touch))) so ok refl o touch h.0, ((h.1.0.0, reads e, some_rights _ e), tt)))))),
    )) (λ b free. tt)
      where
        ok : Allowed c s t a (start_entry s (proc_of s.plain (op_who o)) (one_page (touch_page o touch)))
        ok = (few, start_takes s a (proc_of s.plain (op_who o)) (one_page (touch_page o touch)) h.1.1.0)
    by e d (Place.Moving f w) i r = tt
    by e d (Place.Exclusive m b) i r = (
      ok,
      tt,
      subst (λ y. HoldsAll (next s a (start_entry s (proc_of s.plain (op_who o)) (one_page (touch_page o touch)))) t a (facts o xs (Phase.Guard (proc_of s.plain (op_who o)) (one_page (touch_page o touch)) (some_overlap s.sequences (proc_of s.plain (op_who o)) (one_page (touch_page o touch))) None (body_of_fault y) ∷ Phase.Decide touch ∷ []))) (sym i)
          (started s a (proc_of s.plain (op_who o)) (one_page (touch_page o touch)) (seq_started s.sequences (proc_of s.plain (op_who o)) (one_page (touch_page o touch))), (h.1.1.1.0, ((h.1.0.0, refl, refl), (touches_own c s t a (start_entry s (proc_of s.plain (op_who o)) (one_page (touch_page o touch))) so ok refl o touch h.0, (h.1.0, tt))))),
    )
      where
        ok : Allowed c s t a (start_entry s (proc_of s.plain (op_who o)) (one_page (touch_page o touch)))
        ok = (few, start_takes s a (proc_of s.plain (op_who o)) (one_page (touch_page o touch)) h.1.1.0)
