-- A page is taken for its actor alone: the beginning, the decisions, and the answers.
use Rattle.std.proofs.Common.{◌≡◌, ℕ, ◌<◌, ◌≤◌, Bool, true, false, ◌==◌, ◌||◌, not, Option, Some, None, List, [], ◌∷◌, refl, sym, ap, ◌∙◌, subst, arith}
use Rattle.std.proofs.lemmas.Bool.Decides.{nat_tests}
use Rattle.std.proofs.lemmas.Bool.{eqb-true}
use Rattle.hm_base.specs.Pages.{one_page, covers}
use Rattle.hm_base.specs.Program.{Program}
use Rattle.hm_base.specs.declared.cause.Cause.{Cause}
use Rattle.hm_base.specs.declared.Place.{Place}
use Rattle.hm_base.specs.declared.ops.Op.{Op}
use Rattle.hm_history.specs.Memory.Words.{sys_frame}
use Rattle.hm_history.specs.Memory.Plain.{MirrorState, Plain, is_attached_state, mirror_passes, is_attached, in_window, mirror_proc, may_fail, outside_cause, proc_of}
use Rattle.hm_history.specs.Memory.Sequences.{Interval, interval_seq, some_overlap, seq_started}
use Rattle.hm_history.specs.Memory.After.{After}
use Rattle.hm_history.specs.Kernel.Operation.{op_who, op_mirror, op_writes}
use Rattle.hm_history.specs.Kernel.Stacks.{body_of_fault}
use Rattle.hm_history.specs.Kernel.Going.{touch_page}
use Rattle.hm_history.specs.Kernel.Due.{process_seq, is_invalidating, suits, failed, fails, fault, start_entry, due_sole, due_decide, in_window_rlock}
use Rattle.hm_history.specs.declared.Who.{Who}
use Rattle.hm_history.specs.declared.Kind.{Kind}
use Rattle.hm_history.specs.declared.TableRight.{TableRight}
use Rattle.hm_history.specs.declared.phases.Migrating.{Migrating}
use Rattle.hm_history.specs.declared.phases.Touch.{Touch}
use Rattle.hm_history.specs.declared.phases.Phase.{Phase}
use Rattle.hm_history.specs.declared.phases.Next.{Next}
use Rattle.hm_history.specs.declared.phases.Next.TheVariants.{Do}
use Rattle.hm_laws.specs.Stood.{FitsSole}
use Rattle.hm_laws.specs.Past.{Past, past_next}
use Rattle.hm_laws.specs.Sound.{Sound}
use Rattle.hm_laws.specs.Allowed.{next, SetOk, Allowed}
use Rattle.hm_laws.specs.Facts.{Read_locked, No_guard, Locks_only, Within, nothing_held, deciding, answering, under, facts, HoldsAll}
use Rattle.hm_laws.proofs.State.MirrorInterval.{Mirrored, mirrored}
use Rattle.hm_laws.proofs.Other.Lookups.{within_some, touches_own}
use Rattle.hm_laws.proofs.Due.Good.{Good, IsShort, either, release_none, rlock_ok, ends_ok, outside, not_short}
use Rattle.hm_laws.proofs.Due.Guards.{started, start_takes}
use Rattle.hm_laws.proofs.Due.Mirrors.{release_locked}
use Rattle.hm_laws.proofs.Due.Decide.{fault_ok}
use Rattle.hm_laws.proofs.Due.MirrorPieces.{window_within, window_attached, within_window}
use Rattle.hm_history.proofs.Updates.{here_at}
use Rattle.hm_history.proofs.Tests.{true_false}

-- the lock is taken
pub exclusive_begin_ok : (c : Program) (s : After) (t : Past) (a m v : ℕ) (xs : List Migrating) → a < 16 → Sound c s t → HoldsAll s t a nothing_held → Good c s t a (Op.Exclusive m v) xs Phase.Begin [] (in_window_rlock s m (one_page v))
exclusive_begin_ok c s t a m v xs few so h = either P (in_window s.plain m (one_page v)) _ _
    (λ w. let inside : Within s.plain m v = window_within s.plain m v w in rlock_ok c s t a (Op.Exclusive m v) xs Phase.Begin (mirror_proc s.plain m) few so h.0 ((refl, inside), ((within_some (s.plain.mirrors m) _ inside, here_at s.locks.map a _), h.1)))
    (λ w. (release_none s a h.0, not_short c s Cause.Outside refl, (here_at s.locks.map a None, h.1)))
  where
    P : Next → Type 0
    P = Good c s t a (Op.Exclusive m v) xs Phase.Begin []

-- the place in the mirror's table
not_told : (s : After) (m n : ℕ) → interval_seq s.sequences m ≡ n → n ≤ process_seq s m → is_invalidating s m ≡ false → interval_seq s.sequences m < process_seq s m
not_told s m n e l h = grind (arith, nat_tests)

is_first : (n : ℕ) (b : Bool) → ((n == n) || b) ≡ true
is_first n b = grind (arith, nat_tests)

sets_ok : (c : Program) (s : After) (t : Past) (a m v n : ℕ) → Sound c s t → Within s.plain m v → is_attached s.plain m ≡ true → is_invalidating s m ≡ false → s.places.place (mirror_proc s.plain m) v ≡ Place.Exclusive n a → SetOk s t a m v (Some (sys_frame n)) TableRight.Sole s.length
sets_ok c s t a m v n so within att e is = record {
  mirror = mi.mirror;
  is = mi.is;
  attached = mi.passes;
  fits = record {
    in_window = sym (ap (mirror_passes (λ y. covers y.window v)) mi.is) ∙ within;
    matches = subst (λ x. FitsSole (Some (sys_frame n)) x) (sym is ∙ ap (λ p. s.places.place p v) proc) refl;
    own_device = refl;
  };
  below = subst (λ p. interval_seq s.sequences m < s.sequences.seq p) proc (not_told s m mi.interval.seq seq_is not_above e);
  untold = so.past.told_below m v;
  rightly = is_first s.length _;
}
  where
    mi : Mirrored s m is_attached_state
    mi = mirrored c s t m is_attached_state so att

    proc : mirror_proc s.plain m ≡ mi.mirror.proc
    proc = ap (λ (y : Option MirrorState). elim y [ None ↦ 0 | Some z ↦ z.proc ]) mi.is

    seq_is : interval_seq s.sequences m ≡ mi.interval.seq
    seq_is = ap (λ (x : Option Interval). elim x [ None ↦ 0 | Some y ↦ y.seq ]) mi.is_interval

    not_above : mi.interval.seq ≤ process_seq s m
    not_above = subst (λ p. mi.interval.seq ≤ s.sequences.seq p) (mi.paired.proc ∙ sym proc) (so.sequences.not_above m mi.interval mi.is_interval)

-- what the operation makes of a failure, and of its end
pub record Takes (c : Program) (s : After) (t : Past) (a : ℕ) (o : Op) (xs : List Migrating) : Type 0 where
  pub who : op_who o ≡ Who.Mirror (op_mirror o)
  pub writes : op_writes o ≡ true
  pub answers : answering o ≡ Read_locked (op_who o) ∷ []
  pub fail : (why : Cause) → may_fail s.plain (op_who o) (touch_page o Touch.Sole) why ≡ true → IsShort c s why → Good c s t a o xs (Phase.Decide Touch.Sole) [] (Do (fails o 0 why))

not_attached : (s : Plain) (m v : ℕ) → is_attached s m ≡ false → in_window s m (one_page v) ≡ false
not_attached s m v h = by (in_window s m (one_page v)) refl
  where
    by : (b : Bool) → in_window s m (one_page v) ≡ b → b ≡ false
    by true e = absurd (true_false (is_attached s m) (window_attached s m v e) h)
    by false e = refl

pub sole_touch_ok : (c : Program) (s : After) (t : Past) (a : ℕ) (o : Op) (xs : List Migrating) → a < 16 → Sound c s t → Takes c s t a o xs → HoldsAll s t a (deciding o Touch.Sole) → Good c s t a o xs (Phase.Decide Touch.Sole) [] (due_decide c s a o Touch.Sole (proc_of s.plain (op_who o)) (touch_page o Touch.Sole))
sole_touch_ok c s t a o xs few so tk h = either P (is_attached s.plain m) _ _
    (λ att. by att (s.places.place (proc_of s.plain (op_who o)) (touch_page o Touch.Sole)) refl)
    (λ att. tk.fail Cause.Outside (subst (λ x. may_fail s.plain x (touch_page o Touch.Sole) Cause.Outside ≡ true) (sym tk.who) (outside s.plain (op_mirror o) (touch_page o Touch.Sole) (not_attached s.plain (op_mirror o) (touch_page o Touch.Sole) att))) (not_short c s Cause.Outside refl))
  where
    m : ℕ
    m = op_mirror o

    P : Next → Type 0
    P = Good c s t a o xs (Phase.Decide Touch.Sole) []

    ok : Allowed c s t a (start_entry s (proc_of s.plain (op_who o)) (one_page (touch_page o Touch.Sole)))
    ok = (few, start_takes s a (proc_of s.plain (op_who o)) (one_page (touch_page o Touch.Sole)) h.1.1.0)

    faults : is_attached s.plain (op_mirror o) ≡ true → suits true (s.places.place (proc_of s.plain (op_who o)) (touch_page o Touch.Sole)) ≡ false → P (fault c s a o 0 (suits true) (proc_of s.plain (op_who o)) (touch_page o Touch.Sole))
    faults att n = fault_ok c s t a o xs Touch.Sole (suits true) few (record {
      fail = tk.fail;
      suit = λ w. absurd (true_false (suits true (s.places.place (proc_of s.plain (op_who o)) (touch_page o Touch.Sole))) w n);
      inside = subst (λ x. outside_cause s.plain x (touch_page o Touch.Sole) ≡ false) (sym tk.who) (ap not (within_window s.plain (op_mirror o) (touch_page o Touch.Sole) att h.0.1));
      suits_core = λ x co. ap (λ b. suits b x) (sym tk.writes);
    }) so h

    answers : (n b : ℕ) → is_attached s.plain (op_mirror o) ≡ true → is_invalidating s (op_mirror o) ≡ false → (a == b) ≡ true → s.places.place (proc_of s.plain (op_who o)) (touch_page o Touch.Sole) ≡ Place.Exclusive n b → P (Do (Kind.Set (op_mirror o) (touch_page o Touch.Sole) (Some (sys_frame n)) TableRight.Sole s.length))
    answers n b att e mine is = (
      sets_ok c s t a (op_mirror o) (touch_page o Touch.Sole) n so h.0.1 att e (ap (λ x. s.places.place (proc_of s.plain x) (touch_page o Touch.Sole)) (sym tk.who) ∙ is ∙ ap (Place.Exclusive n) (sym (eqb-true a b mine))),
      tt,
      (h.1.1.0, (h.1.1.1.0, subst (λ l. HoldsAll (next s a k) (past_next t s.length a k) a l) (sym tk.answers) (h.1.0, tt))),
    )
      where
        k : Kind
        k = Kind.Set (op_mirror o) (touch_page o Touch.Sole) (Some (sys_frame n)) TableRight.Sole s.length

    by : is_attached s.plain (op_mirror o) ≡ true → (x : Place) → s.places.place (proc_of s.plain (op_who o)) (touch_page o Touch.Sole) ≡ x → P (due_sole c s a o (op_mirror o) (proc_of s.plain (op_who o)) (touch_page o Touch.Sole) x)
    by att (Place.Exclusive n b) e = either P (a == b) _ _
        (λ mine. either P (is_invalidating s (op_mirror o)) _ _ (λ i. tt) (λ i. answers n b att i mine e))
        (λ other. faults att (ap (suits true) e))
    by att (Place.Sys n true) e = (
      ok,
      tt,
      subst (λ y. HoldsAll (next s a (start_entry s (proc_of s.plain (op_who o)) (one_page (touch_page o Touch.Sole)))) t a (facts o xs (Phase.Guard (proc_of s.plain (op_who o)) (one_page (touch_page o Touch.Sole)) (some_overlap s.sequences (proc_of s.plain (op_who o)) (one_page (touch_page o Touch.Sole))) None (body_of_fault y) ∷ Phase.Decide Touch.Sole ∷ []))) (sym e)
          (started s a (proc_of s.plain (op_who o)) (one_page (touch_page o Touch.Sole)) (seq_started s.sequences (proc_of s.plain (op_who o)) (one_page (touch_page o Touch.Sole))), (h.1.1.1.0, ((h.1.0.0, refl, refl), (touches_own c s t a (start_entry s (proc_of s.plain (op_who o)) (one_page (touch_page o Touch.Sole))) so ok refl o Touch.Sole h.0, (h.1.0, tt))))),
    )
    by att (Place.Sys n false) e = faults att (ap (suits true) e)
    by att Place.Empty e = faults att (ap (suits true) e)
    by att Place.Zero e = faults att (ap (suits true) e)
    by att (Place.Own d n w) e = faults att (ap (suits true) e)
    by att (Place.Moving f w) e = faults att (ap (suits true) e)

pub exclusive_ok : (c : Program) (s : After) (t : Past) (a m v : ℕ) (xs : List Migrating) → a < 16 → Sound c s t → HoldsAll s t a (deciding (Op.Exclusive m v) Touch.Sole) → Good c s t a (Op.Exclusive m v) xs (Phase.Decide Touch.Sole) [] (due_decide c s a (Op.Exclusive m v) Touch.Sole (mirror_proc s.plain m) v)
exclusive_ok c s t a m v xs few so h = sole_touch_ok c s t a (Op.Exclusive m v) xs few so (record {
  who = refl;
  writes = refl;
  answers = refl;
  fail = λ n f sh. (release_locked s a (mirror_proc s.plain m) h.1.0.1, sh, (here_at s.locks.map a None, h.1.1));
}) h

pub add_touch_ok : (c : Program) (s : After) (t : Past) (a m at n : ℕ) (xs : List Migrating) → a < 16 → Sound c s t → HoldsAll s t a (deciding (Op.Add m at n) Touch.Sole) → Good c s t a (Op.Add m at n) xs (Phase.Decide Touch.Sole) [] (due_decide c s a (Op.Add m at n) Touch.Sole (mirror_proc s.plain m) (touch_page (Op.Add m at n) Touch.Sole))
add_touch_ok c s t a m at n xs few so h = sole_touch_ok c s t a (Op.Add m at n) xs few so (record {
  who = refl;
  writes = refl;
  answers = refl;
  fail = λ i f sh. ((release_locked s a (mirror_proc s.plain m) h.1.0.1, f), sh, ends_ok (Op.Add m at n) xs 0 (next s a (failed (Op.Add m at n) 0 i)) t a (here_at s.locks.map a None, h.1.1));
}) h

-- the table entry is set: the operation answers, or adds
pub excluded_ok : (c : Program) (s : After) (t : Past) (a m v : ℕ) (xs : List Migrating) → HoldsAll s t a (No_guard ∷ Locks_only [] ∷ answering (Op.Exclusive m v)) → Good c s t a (Op.Exclusive m v) xs Phase.Answer [] (Do (Kind.Excluded m v))
excluded_ok c s t a m v xs h = (release_locked s a (mirror_proc s.plain m) h.1.1.0.1, tt, (here_at s.locks.map a None, (h.0, (h.1.0, tt))))

pub taken_alone_ok : (c : Program) (s : After) (t : Past) (a m at n : ℕ) (xs : List Migrating) → HoldsAll s t a (No_guard ∷ Locks_only [] ∷ answering (Op.Add m at n)) → Good c s t a (Op.Add m at n) xs Phase.Answer [] (Do (Kind.Runlock (mirror_proc s.plain m)))
taken_alone_ok c s t a m at n xs h = (release_locked s a (mirror_proc s.plain m) h.1.1.0.1, tt, (refl, (here_at s.locks.map a None, (h.0, (h.1.0, tt)))))

-- a fault is given up for want of a frame
pub give_up_exclusive : (c : Program) (s : After) (t : Past) (a m v : ℕ) (xs : List Migrating) → HoldsAll s t a (No_guard ∷ Locks_only [] ∷ under (Op.Exclusive m v) (Phase.GiveUp (Some Touch.Sole) ∷ [])) → Good c s t a (Op.Exclusive m v) xs (Phase.GiveUp (Some Touch.Sole)) [] (Do (Kind.Refused Cause.NoFrame))
give_up_exclusive c s t a m v xs h = (release_locked s a (mirror_proc s.plain m) h.1.1.1.0.1.0, tt, (here_at s.locks.map a None, (h.0, (h.1.0, tt))))
