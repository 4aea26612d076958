-- A look-up: its lock, its decisions, and what it notes and sets.
use Rattle.std.proofs.Common.{◌≡◌, ℕ, ◌<◌, Bool, true, false, ◌==◌, ◌||◌, not, Option, Some, None, List, [], ◌∷◌, refl, sym, ap, ◌∙◌, subst, arith}
use Rattle.std.proofs.lemmas.Bool.{and_parts, eqb-true, or_right}
use Rattle.hm_base.specs.Pages.{covers}
use Rattle.hm_base.specs.Program.{Program}
use Rattle.hm_base.specs.declared.cause.Cause.{Cause}
use Rattle.hm_base.specs.declared.Frame.{Frame}
use Rattle.hm_base.specs.declared.Place.{Place}
use Rattle.hm_base.specs.declared.ops.Op.{Op}
use Rattle.hm_history.specs.Memory.Words.{sys_frame, dev_frame, names, writable}
use Rattle.hm_history.specs.Memory.Plain.{MirrorState, is_attached_state, mirror_passes, is_attached, mirror_proc, mirror_dev, may_fail, outside_cause, proc_of}
use Rattle.hm_history.specs.Memory.Places.{is_for_device}
use Rattle.hm_history.specs.Memory.Sequences.{interval_seq}
use Rattle.hm_history.specs.Memory.After.{After}
use Rattle.hm_history.specs.Kernel.Operation.{op_who, op_mirror, op_writes}
use Rattle.hm_history.specs.Kernel.Going.{touch_page}
use Rattle.hm_history.specs.Kernel.Due.{process_seq, suits_walk, suits, failed, fails, repeats, right_of, rlock, due_decide, due_noted}
use Rattle.hm_history.specs.declared.Who.{Who}
use Rattle.hm_history.specs.declared.Kind.{Kind}
use Rattle.hm_history.specs.declared.phases.Migrating.{Migrating}
use Rattle.hm_history.specs.declared.phases.Touch.{Touch}
use Rattle.hm_history.specs.declared.phases.Phase.{Phase}
use Rattle.hm_history.specs.declared.phases.Next.{Next}
use Rattle.hm_history.specs.declared.phases.Next.TheVariants.{Do}
use Rattle.hm_laws.specs.Stood.{is_moving, Matches}
use Rattle.hm_laws.specs.Past.{Past, is_position}
use Rattle.hm_laws.specs.Sound.{Sound}
use Rattle.hm_laws.specs.Allowed.{next, SetOk}
use Rattle.hm_laws.specs.Facts.{Read_locked, Touching, Noted, Holds, at_page, has_piece, is_core, nothing_held, deciding, HoldsAll}
use Rattle.hm_laws.proofs.State.MirrorInterval.{Mirrored, mirrored}
use Rattle.hm_laws.proofs.Other.Lookups.{within_some}
use Rattle.hm_laws.proofs.Other.Noted.{matches_right}
use Rattle.hm_laws.proofs.Due.Good.{Good, IsShort, either, release_none, rlock_ok, ends_ok}
use Rattle.hm_laws.proofs.Due.Guards.{number_is}
use Rattle.hm_laws.proofs.Due.Mirrors.{release_locked}
use Rattle.hm_laws.proofs.Due.Decide.{Outcomes, fault_ok}
use Rattle.hm_laws.proofs.Due.MirrorPieces.{within_window}
use Rattle.hm_history.proofs.Updates.{here_at}

-- the look-up takes the lock
pub begun_ok : (c : Program) (s : After) (t : Past) (a : ℕ) (o : Op) (xs : List Migrating) (k at q : ℕ) → a < 16 → Sound c s t → op_who o ≡ Who.Mirror (op_mirror o) → HoldsAll s t a (Touching o (Touch.Walk k at q) ∷ nothing_held) →
    Good c s t a o xs (Phase.Begun k at q) [] (rlock s (mirror_proc s.plain (op_mirror o)))
begun_ok c s t a o xs k at q few so i h = rlock_ok c s t a o xs (Phase.Begun k at q) (mirror_proc s.plain (op_mirror o)) few so h.1.0
    (h.0, (subst (λ x. Holds (next s a (Kind.Rlock (mirror_proc s.plain (op_mirror o)))) t a (Read_locked x)) (sym i) (within_some (s.plain.mirrors (op_mirror o)) _ h.0.1, here_at s.locks.map a _), h.1.1))

-- what suits a look-up stands for what it notes
suited_stands : (to : Frame → Option Frame) (d : ℕ) (w : Bool) (x : Place) → suits_walk d w x ≡ true → Matches to (names x) (right_of (writable x)) x × (is_moving x ≡ false) × (is_for_device (names x) d ≡ true)
suited_stands to d w Place.Empty h = by w h
  where
    by : (b : Bool) → suits b Place.Empty ≡ true → Matches to (names Place.Empty) (right_of (writable Place.Empty)) Place.Empty × (is_moving Place.Empty ≡ false) × (is_for_device (names Place.Empty) d ≡ true)
    by true k = cc
    by false k = cc
suited_stands to d w Place.Zero h = ((refl, refl), refl, refl)
suited_stands to d w (Place.Sys n z) h = (matches_right to (Some (sys_frame n)) z (Place.Sys n z) (refl, λ e. e), refl, refl)
suited_stands to d w (Place.Own e n z) h = (matches_right to (Some (dev_frame e n)) z (Place.Own e n z) (refl, λ i. i), refl, (and_parts (d == e) _ h).0)
suited_stands to d w (Place.Moving f z) h = by w h
  where
    by : (b : Bool) → suits b (Place.Moving f z) ≡ true → Matches to (names (Place.Moving f z)) (right_of (writable (Place.Moving f z))) (Place.Moving f z) × (is_moving (Place.Moving f z) ≡ false) × (is_for_device (names (Place.Moving f z)) d ≡ true)
    by true k = cc
    by false k = cc
suited_stands to d w (Place.Exclusive n b) h = by w h
  where
    by : (i : Bool) → suits i (Place.Exclusive n b) ≡ true → Matches to (names (Place.Exclusive n b)) (right_of (writable (Place.Exclusive n b))) (Place.Exclusive n b) × (is_moving (Place.Exclusive n b) ≡ false) × (is_for_device (names (Place.Exclusive n b)) d ≡ true)
    by true k = cc
    by false k = cc

suits_core : (d : ℕ) (w : Bool) (x : Place) → is_core x ≡ true → suits_walk d w x ≡ suits w x
suits_core d w Place.Empty co = refl
suits_core d w Place.Zero co = refl
suits_core d w (Place.Sys n z) co = refl
suits_core d w x co = cc

not_repeats : (s : After) (m q : ℕ) → repeats s m q ≡ false → (is_attached s.plain m ≡ true) × (interval_seq s.sequences m ≡ q)
not_repeats s m q h = (at (is_attached s.plain m) (interval_seq s.sequences m == q) h, eqb-true (interval_seq s.sequences m) q (same (is_attached s.plain m) (interval_seq s.sequences m == q) h))
  where
    at : (x y : Bool) → (not x || not y) ≡ false → x ≡ true
    at x y k = grind arith

    same : (x y : Bool) → (not x || not y) ≡ false → y ≡ true
    same x y k = grind arith

-- the decision of a look-up: it is repeated, or a fault is gone through until the place suits
walk_outcomes : (c : Program) (s : After) (t : Past) (a : ℕ) (o : Op) (xs : List Migrating) (k at q : ℕ) → Sound c s t → HoldsAll s t a (deciding o (Touch.Walk k at q)) → is_attached s.plain (op_mirror o) ≡ true → op_who o ≡ Who.Mirror (op_mirror o) →
    ((why : Cause) → may_fail s.plain (op_who o) (touch_page o (Touch.Walk k at q)) why ≡ true → IsShort c s why → Good c s t a o xs (Phase.Decide (Touch.Walk k at q)) [] (Do (fails o k why))) →
    (suits_walk (mirror_dev s.plain (op_mirror o)) (op_writes o) (s.places.place (proc_of s.plain (op_who o)) (touch_page o (Touch.Walk k at q))) ≡ true → Good c s t a o xs (Phase.Decide (Touch.Walk k at q)) [] (Do (Kind.Runlock (proc_of s.plain (op_who o))))) →
    Outcomes c s t a o xs (Touch.Walk k at q) (suits_walk (mirror_dev s.plain (op_mirror o)) (op_writes o))
walk_outcomes c s t a o xs k at q so h att i fail suit = record {
  fail = fail;
  suit = suit;
  inside = subst (λ x. outside_cause s.plain x (touch_page o (Touch.Walk k at q)) ≡ false) (sym i) (ap not (within_window s.plain (op_mirror o) _ att h.0.1));
  suits_core = suits_core (mirror_dev s.plain (op_mirror o)) (op_writes o);
}

pub load_walk_ok : (c : Program) (s : After) (t : Past) (a m adr n k at q : ℕ) (xs : List Migrating) → a < 16 → Sound c s t → HoldsAll s t a (deciding (Op.DeviceLoad m adr n) (Touch.Walk k at q)) → Good c s t a (Op.DeviceLoad m adr n) xs (Phase.Decide (Touch.Walk k at q)) [] (due_decide c s a (Op.DeviceLoad m adr n) (Touch.Walk k at q) (mirror_proc s.plain m) (at_page (Op.DeviceLoad m adr n) k))
load_walk_ok c s t a m adr n k at q xs few so h = either P (repeats s m q) _ _
    (λ e. (release_locked s a (mirror_proc s.plain m) h.1.0.1, tt, (h.0.0, (here_at s.locks.map a None, h.1.1))))
    (λ e. fault_ok c s t a o xs (Touch.Walk k at q) (suits_walk (mirror_dev s.plain m) false) few (walk_outcomes c s t a o xs k at q so h (not_repeats s m q e).0 refl
    (λ i f sh. ((release_locked s a (mirror_proc s.plain m) h.1.0.1, f), sh, ends_ok o xs k (next s a (failed o k i)) t a (here_at s.locks.map a None, h.1.1)))
    (λ w. let st = suited_stands s.places.committed_to (mirror_dev s.plain m) false (s.places.place (mirror_proc s.plain m) (at_page o k)) w in
    (release_locked s a (mirror_proc s.plain m) h.1.0.1, tt, (h.0, ((h.0.1, h.0.2.1, st.2, λ i j. (st.0, st.1)), (here_at s.locks.map a None, h.1.1)))))) so h)
  where
    o : Op
    o = Op.DeviceLoad m adr n

    P : Next → Type 0
    P = Good c s t a (Op.DeviceLoad m adr n) xs (Phase.Decide (Touch.Walk k at q)) []

pub store_walk_ok : (c : Program) (s : After) (t : Past) (a m adr : ℕ) (bs : List ℕ) (k at q : ℕ) (xs : List Migrating) → a < 16 → Sound c s t → HoldsAll s t a (deciding (Op.DeviceStore m adr bs) (Touch.Walk k at q)) → Good c s t a (Op.DeviceStore m adr bs) xs (Phase.Decide (Touch.Walk k at q)) [] (due_decide c s a (Op.DeviceStore m adr bs) (Touch.Walk k at q) (mirror_proc s.plain m) (at_page (Op.DeviceStore m adr bs) k))
store_walk_ok c s t a m adr bs k at q xs few so h = either P (repeats s m q) _ _
    (λ e. (release_locked s a (mirror_proc s.plain m) h.1.0.1, tt, (h.0.0, (here_at s.locks.map a None, h.1.1))))
    (λ e. fault_ok c s t a o xs (Touch.Walk k at q) (suits_walk (mirror_dev s.plain m) true) few (walk_outcomes c s t a o xs k at q so h (not_repeats s m q e).0 refl
    (λ i f sh. ((release_locked s a (mirror_proc s.plain m) h.1.0.1, f), sh, ends_ok o xs k (next s a (failed o k i)) t a (here_at s.locks.map a None, h.1.1)))
    (λ w. let st = suited_stands s.places.committed_to (mirror_dev s.plain m) true (s.places.place (mirror_proc s.plain m) (at_page o k)) w in
    (release_locked s a (mirror_proc s.plain m) h.1.0.1, tt, (h.0, ((h.0.1, h.0.2.1, st.2, λ i j. (st.0, st.1)), (here_at s.locks.map a None, h.1.1)))))) so h)
  where
    o : Op
    o = Op.DeviceStore m adr bs

    P : Next → Type 0
    P = Good c s t a (Op.DeviceStore m adr bs) xs (Phase.Decide (Touch.Walk k at q)) []

-- what was noted is set, if nobody was told
pub noted_ok : (c : Program) (s : After) (t : Past) (a : ℕ) (o : Op) (xs : List Migrating) (k at q : ℕ) (x : Place) → Sound c s t → has_piece o k ≡ true → touch_page o (Touch.Walk k at q) ≡ at_page o k → HoldsAll s t a (Touching o (Touch.Walk k at q) ∷ Noted (op_mirror o) (at_page o k) q x ∷ nothing_held) →
    Good c s t a o xs (Phase.Noted k at q x) [] (due_noted s o k at q x)
noted_ok c s t a o xs k at q x so piece page h = either P (repeats s m q) _ _
    (λ e. (release_none s a h.1.1.0, tt, (piece, (here_at s.locks.map a None, h.1.1.1))))
    (λ e. let r = not_repeats s (op_mirror o) q e in (sets r.0 r.1 (mirrored c s t (op_mirror o) is_attached_state so r.0), tt, (piece, h.1.1)))
  where
    m : ℕ
    m = op_mirror o

    P : Next → Type 0
    P = Good c s t a o xs (Phase.Noted k at q x) []

    position : (y : Option ℕ) (i : ℕ) → y ≡ Some i → is_position y i ≡ true
    position None i e = cc
    position (Some j) i e = number_is i j (some_is i j (sym e))
      where
        some_is : (i j : ℕ) → Some i ≡ Some j → i ≡ j
        some_is i j e = cc

    sets : is_attached s.plain (op_mirror o) ≡ true → interval_seq s.sequences (op_mirror o) ≡ q → Mirrored s (op_mirror o) is_attached_state → SetOk s t a (op_mirror o) (at_page o k) (names x) (right_of (writable x)) at
    sets att e mi = record {
      mirror = mi.mirror;
      is = mi.is;
      attached = mi.passes;
      fits = record {
        in_window = sym (ap (mirror_passes (λ y. covers y.window (at_page o k))) mi.is) ∙ h.1.0.0;
        matches = subst (λ p. Matches s.places.committed_to (names x) (right_of (writable x)) (s.places.place p (at_page o k))) proc (h.1.0.3 att e).0;
        own_device = subst (λ d. is_for_device (names x) d ≡ true) dev h.1.0.2;
      };
      below = subst (λ p. interval_seq s.sequences (op_mirror o) < s.sequences.seq p) proc (subst (λ i. i < process_seq s (op_mirror o)) (sym e) h.1.0.1);
      untold = h.0.2.2 e (at_page o k);
      rightly = or_right (at == s.length) (is_position (t.begun a (op_mirror o)) at) (position (t.begun a (op_mirror o)) at h.0.2.0);
    }
      where
        proc : mirror_proc s.plain (op_mirror o) ≡ mi.mirror.proc
        proc = ap (λ (y : Option MirrorState). elim y [ None ↦ 0 | Some z ↦ z.proc ]) mi.is

        dev : mirror_dev s.plain (op_mirror o) ≡ mi.mirror.dev
        dev = ap (λ (y : Option MirrorState). elim y [ None ↦ 0 | Some z ↦ z.dev ]) mi.is
