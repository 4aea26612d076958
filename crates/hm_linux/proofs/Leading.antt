-- Where the entries lead: those of the definitions as they do, and the others to what their actor knows there.
use Rattle.std.proofs.Common.{◌≡◌, ◌⊎◌, inl, inr, ℕ, ◌+◌, Bool, true, false, ◌==◌, nat_lt, is_some, Option, Some, None, List, [], ◌∷◌, length, refl, sym, ap, ◌∙◌, subst, arith, if◌then◌else◌}
use Rattle.std.proofs.lemmas.Bool.{and_parts, or_left}
use Rattle.hm_base.specs.Pages.{Pages}
use Rattle.hm_base.specs.Program.{Program}
use Rattle.hm_base.specs.declared.Frame.{Frame}
use Rattle.hm_base.specs.declared.Place.{Place}
use Rattle.hm_base.specs.declared.cause.Cause.{Cause}
use Rattle.hm_base.specs.declared.ops.Op.{Op}
use Rattle.hm_history.specs.Memory.Words.{first_len, dev_frame, names, writable}
use Rattle.hm_history.specs.Memory.Plain.{rights_of, proc_of, mirror_proc, mirror_dev}
use Rattle.hm_history.specs.Memory.Places.{is_for_device}
use Rattle.hm_history.specs.Memory.After.{After}
use Rattle.hm_history.specs.Memory.Sequences.{seq_ended}
use Rattle.hm_history.specs.Kernel.Operation.{op_mirror, op_who, op_piece}
use Rattle.hm_history.specs.Kernel.Stacks.{first_phase, piece_ends, after_migration, after_body}
use Rattle.hm_history.specs.Kernel.Legal.{is_own_of}
use Rattle.hm_history.specs.Kernel.Going.{Going, op_at, first_stack, going_from, going_on, going_next, going_top, touch_page, touch_proc, coming, coming_page, recorded, recorded_body, seen_at}
use Rattle.hm_history.specs.Kernel.Due.{fails, to_tell, due_phase, due_top, progress, failed, repeats, right_of}
use Rattle.hm_history.specs.declared.KeptAt.{KeptAt}
use Rattle.hm_history.specs.declared.KeptWhy.{KeptWhy}
use Rattle.hm_history.specs.declared.Kind.{Kind}
use Rattle.hm_history.specs.declared.Who.{Who}
use Rattle.hm_history.specs.declared.Progress.{Progress}
use Rattle.hm_history.specs.declared.phases.Body.{Body}
use Rattle.hm_history.specs.declared.phases.Migrating.{Migrating}
use Rattle.hm_history.specs.declared.phases.MoveStep.{MoveStep}
use Rattle.hm_history.specs.declared.phases.MoveStep.TheVariants.{TakeAndCopy}
use Rattle.hm_history.specs.declared.phases.Touch.{Touch}
use Rattle.hm_history.specs.declared.phases.Touch.TheVariants.{Walk, Sole}
use Rattle.hm_history.specs.declared.phases.Phase.{Phase}
use Rattle.hm_history.specs.declared.phases.Next.{Next}
use Rattle.hm_history.specs.declared.phases.Next.TheVariants.{Do, Wait}
use Rattle.hm_history.proofs.Updates.{here_at}
use Rattle.hm_history.proofs.Tests.{no_test}
use Rattle.hm_laws.specs.Stood.{is_moving, Matches}
use Rattle.hm_laws.specs.Past.{Past, past_next}
use Rattle.hm_laws.specs.Sound.{Sound}
use Rattle.hm_laws.specs.Allowed.{next, Allowed}
use Rattle.hm_laws.specs.Facts.{Touching, Within, at_page, Read_locked, Locks_only, No_guard, nothing_held, deciding, facts, facts_of, Holds, HoldsAll, Knows}
use Rattle.hm_laws.proofs.Due.Good.{Fair, Good, either, ends_ok, release_none}
use Rattle.hm_laws.proofs.Due.Faults.{nothing_at}
use Rattle.hm_laws.proofs.Due.Mirrors.{release_locked}
use Rattle.hm_laws.proofs.Other.Noted.{matches_right}
use Rattle.hm_laws.proofs.Own.Records.{migrating_on}
use Rattle.hm_laws.proofs.Migration.Coming.{Came, came_to}
use Rattle.hm_laws.proofs.Migration.TakingFacts.{same_held, all_further}
use Rattle.hm_linux.specs.declared.variant.Variant.{Variant}
use Rattle.hm_linux.specs.Variants.{is_other_kind}
use Rattle.hm_linux.specs.Noted.{Noted}
use Rattle.hm_linux.specs.Instead.{going_varied}
use Rattle.hm_linux.specs.OwnReadOnly.{led_failed}
use Rattle.hm_linux.specs.WholeSnapshot.{led_anew}
use Rattle.hm_linux.proofs.Differing.{entry_or, told_or, TakesOwn, OtherAt, Other}

-- ---- what the definitions say leads as they say

not_failed : (c : Program) (s : After) (a i : ℕ) (o : Op) (xs : List Migrating) (top : Phase) (below : List Phase)
    (k : Kind) (g : Going) → due_phase c s a o xs top ≡ Do k → led_failed c a i (Some o) (top ∷ below) k g ≡ g
not_failed c s a i o xs (Phase.Noted j since q x) below k g = either
    (λ n. n ≡ Do k → led_failed c a i (Some o) (Phase.Noted j since q x ∷ below) k g ≡ g) (repeats s (op_mirror o) q) _ _
    (λ e d. subst (λ z. led_failed c a i (Some o) (Phase.Noted j since q x ∷ below) z g ≡ g) (ap (entry_or k) d) refl)
    (λ e d. subst (λ z. led_failed c a i (Some o) (Phase.Noted j since q x ∷ below) z g ≡ g) (ap (entry_or k) d) refl)
not_failed c s a i o xs top below k g = λ d. refl

not_anew : (c : Program) (s : After) (a i : ℕ) (o : Op) (xs : List Migrating) (top : Phase) (below : List Phase)
    (k : Kind) (g : Going) → due_phase c s a o xs top ≡ Do k → led_anew c a i (top ∷ below) k g ≡ g
not_anew c s a i (Op.Snap m r) xs (Phase.Pages v) below k g = either
    (λ z. Do z ≡ Do k → led_anew c a i (Phase.Pages v ∷ below) k g ≡ g) (nat_lt v (r.first + r.count)) _ _
    (λ e d. subst (λ z. led_anew c a i (Phase.Pages v ∷ below) z g ≡ g) (ap (entry_or k) d) refl)
    (λ e d. subst (λ z. led_anew c a i (Phase.Pages v ∷ below) z g ≡ g) (ap (entry_or k) d) refl)
not_anew c s a i o xs (Phase.Pages v) below k g =
    λ d. subst (λ z. led_anew c a i (Phase.Pages v ∷ below) z g ≡ g) (ap (entry_or k) d) refl
not_anew c s a i o xs top below k g = λ d. refl

pub leads_same : (l : Variant) (c : Program) (s : After) (a : ℕ) (was : Going) (k : Kind) (g : Going)
    → due_top c s a (op_at c a was.index) was.pages was.stack ≡ Progress.Did (record { actor = a; kind = k })
    → going_varied l c a was k g ≡ g
leads_same l c s a was k g = at (op_at c a was.index) was.stack
  where
    i : ℕ
    i = was.index

    both : (x : Option Op) (st : List Phase) → led_failed c a i x st k g ≡ g → led_anew c a i st k g ≡ g → (b d : Bool)
        → (let h = if b then led_failed c a i x st k g else g in if d then led_anew c a i st k h else h) ≡ g
    both x st e f true true = ap (λ h. led_anew c a i st k h) e ∙ f
    both x st e f true false = e
    both x st e f false true = f
    both x st e f false false = refl

    at : (x : Option Op) (st : List Phase)
        → due_top c s a x was.pages st ≡ Progress.Did (record { actor = a; kind = k })
        → (let h = if l.own_read_only then led_failed c a i x st k g else g in
        if l.whole_snapshot then led_anew c a i st k h else h) ≡ g
    at (Some o) (top ∷ below) d = by (due_phase c s a o was.pages top) refl d
      where
        by : (n : Next) → due_phase c s a o was.pages top ≡ n
            → progress a n ≡ Progress.Did (record { actor = a; kind = k })
            → (let h = if l.own_read_only then led_failed c a i (Some o) (top ∷ below) k g else g in
            if l.whole_snapshot then led_anew c a i (top ∷ below) k h else h) ≡ g
        by (Wait y) e p = cc
        by (Do z) e p = both (Some o) (top ∷ below)
            (not_failed c s a i o was.pages top below k g (e ∙ ap Do (ap (told_or z) p)))
            (not_anew c s a i o was.pages top below k g (e ∙ ap Do (ap (told_or z) p))) l.own_read_only l.whole_snapshot
    at None st d = cc
    at (Some o) [] d = cc

-- ---- the turn of an actor

-- the entry is a failure that the definitions do not have
pub record FailsHere (l : Variant) (k : Kind) : Type 0 where
  pub other : is_other_kind l k ≡ true
  pub who : Who
  pub addr : ℕ
  pub len : ℕ
  pub why : Cause
  pub is : k ≡ Kind.Failed who addr len why

-- an entry of an actor that was here: it does to the state what one does that is allowed, and then the actor knows what
-- stands there
pub record TurnAs (l : Variant) (c : Program) (s : After) (t : Past) (a : ℕ) (k : Kind) (was : Going) : Type 0 where
  pub stand : Kind
  pub same_state : next s a stand ≡ next s a k
  pub same_past : past_next t s.length a stand ≡ past_next t s.length a k
  pub op : Op
  pub top : Phase
  pub allowed : Allowed c s t a stand
  pub fair : Fair c s a op was.pages stand top
  pub own_kind : Allowed c s t a k ⊎ FailsHere l k
  pub knows : Knows c (next s a k) (past_next t s.length a k) a (going_varied l c a was k (going_next c s a was k))

-- where the actor goes, by its operation
abbrev led : Variant → Program → After → ℕ → Going → Kind → Option Op → Going
led l c s a was k x =
    let g : Going = elim x [ None ↦ was | Some o ↦ going_top c s a was o was.stack k ] in
    let h : Going = if l.own_read_only then led_failed c a was.index x was.stack k g else g in
    if l.whole_snapshot then led_anew c a was.index was.stack k h else h

known_led : (l : Variant) (c : Program) (s : After) (t : Past) (a : ℕ) (was : Going) (k : Kind) (o : Op)
    → op_at c a was.index ≡ Some o → Knows c (next s a k) (past_next t s.length a k) a (led l c s a was k (Some o))
    → Knows c (next s a k) (past_next t s.length a k) a (going_varied l c a was k (going_next c s a was k))
known_led l c s a2 a was k o e h =
    subst (λ x. Knows c (next s a k) (past_next a2 s.length a k) a (led l c s a was k x)) (sym e) h

-- what an actor knows that holds nothing, at the beginning of an operation
some_there : (b : Bool) (x y z : ℕ × ℕ) → nat_lt 0 (length {A = ℕ × ℕ} (if b then x ∷ [] else (y ∷ z ∷ []))) ≡ true
some_there true x y z = refl
some_there false x y z = refl

first_known : (s : After) (t : Past) (a : ℕ) (o : Op) → HoldsAll s t a nothing_held
    → HoldsAll s t a (facts o [] (first_phase o ∷ []))
first_known s t a (Op.Map p r w) h = (refl, h)
first_known s t a (Op.Unmap p r) h = (refl, h)
first_known s t a (Op.Protect p r w) h = (refl, h)
first_known s t a (Op.Exit p) h = (refl, h)
first_known s t a (Op.Fork p d) h = (refl, h)
first_known s t a (Op.Attach m d p r) h = (refl, h)
first_known s t a (Op.Detach m) h = (refl, h)
first_known s t a (Op.Snap m r) h = (refl, h)
first_known s t a (Op.Exclusive m v) h = (refl, h)
first_known s t a (Op.Add m at n) h = (refl, h)
first_known s t a (Op.Evict d) h = (refl, (tt, (omega arith, h)))
first_known s t a (Op.Remove d) h = (refl, ((λ i l. absurd (omega (arith, l))), (omega arith, h)))
first_known s t a (Op.DeviceLoad m at n) h = (some_there (first_len at n == n) _ _ _, h)
first_known s t a (Op.DeviceStore m at bs) h = (some_there (first_len at (length bs) == (length bs)) _ _ _, h)
first_known s t a (Op.Load p at n) h = (some_there (first_len at n == n) _ _ _, h)
first_known s t a (Op.Store p at bs) h = (some_there (first_len at (length bs) == (length bs)) _ _ _, h)
first_known s t a (Op.ToDevice m r) h = (refl, h)
first_known s t a (Op.ToSystem m r) h = (refl, h)

start_known : (c : Program) (s : After) (t : Past) (a i : ℕ) → HoldsAll s t a nothing_held
    → Knows c s t a (going_from c a i)
start_known c s t a i h = by (op_at c a i)
  where
    by : (x : Option Op) → HoldsAll s t a (facts_of x [] (first_stack x))
    by None = h
    by (Some o) = first_known s t a o h

on_held : (c : Program) (s : After) (t : Past) (a i : ℕ) (o : Op) (xs : List Migrating) → op_at c a i ≡ Some o
    → (st : List Phase) → HoldsAll s t a (facts o xs st) → Knows c s t a (going_on c a i st xs)
on_held c s t a i o xs e [] h = start_known c s t a (i + 1) h
on_held c s t a i o xs e (top ∷ below) h = subst (λ x. HoldsAll s t a (facts_of x xs (top ∷ below))) (sym e) h

-- ---- the other entries

-- a snapshot begins anew
retried : (l : Variant) (c : Program) (s : After) (t : Past) (a i v : ℕ) (xs : List Migrating) (o : Op)
    → op_at c a i ≡ Some o → HoldsAll s t a (facts o xs (Phase.Pages v ∷ [])) → l.whole_snapshot ≡ true
    → TurnAs l c s t a (Kind.Retry (op_mirror o)) (record { index = i; stack = Phase.Pages v ∷ []; pages = xs })
retried l c s t a i v xs (Op.Snap m r) e h on = record {
  stand = k;
  same_state = refl;
  same_past = refl;
  op = Op.Snap m r;
  top = Phase.Pages v;
  allowed = release_locked s a (mirror_proc s.plain m) h.1.0.1;
  fair = tt;
  own_kind = inl (release_locked s a (mirror_proc s.plain m) h.1.0.1);
  knows = known_led l c s t a was k (Op.Snap m r) e (by l.own_read_only l.whole_snapshot on);
}
  where
    k : Kind
    k = Kind.Retry m

    was : Going
    was = record { index = i; stack = Phase.Pages v ∷ []; pages = xs }

    g : Going
    g = going_top c s a was (Op.Snap m r) was.stack k

    begun : Knows c (next s a k) (past_next t s.length a k) a (going_on c a i (Phase.Begin ∷ []) [])
    begun = on_held c (next s a k) (past_next t s.length a k) a i (Op.Snap m r) [] e (Phase.Begin ∷ [])
        (refl, (here_at s.locks.map a None, h.1.1))

    by : (b d : Bool) → d ≡ true → Knows c (next s a k) (past_next t s.length a k) a
        (let h : Going = if b then led_failed c a i (Some (Op.Snap m r)) (Phase.Pages v ∷ []) k g else g in
        if d then led_anew c a i (Phase.Pages v ∷ []) k h else h)
    by b true f = begun
    by b false f = cc
retried l c s t a i v xs o e h on = no_test h.0

-- a write that fails at its commit
not_set : (l : Variant) (c : Program) (s : After) (t : Past) (a i j since q : ℕ) (x : Place) (xs : List Migrating)
    (o : Op) → op_at c a i ≡ Some o → HoldsAll s t a (facts o xs (Phase.Noted j since q x ∷ []))
    → l.own_read_only ≡ true
    → TurnAs l c s t a (failed o j Cause.Unmapped)
    (record { index = i; stack = Phase.Noted j since q x ∷ []; pages = xs })
not_set l c s t a i j since q x xs o e h on = record {
  stand = Kind.Retry (op_mirror o);
  same_state = refl;
  same_past = refl;
  op = o;
  top = Phase.Noted j since q x;
  allowed = release_none s a h.1.1.0;
  fair = tt;
  own_kind = inr (record {
    other = or_left l.own_read_only l.unmap_lets_in on;
    who = op_who o;
    addr = (op_piece o j).0;
    len = (op_piece o j).1;
    why = Cause.Unmapped;
    is = refl;
  });
  knows = known_led l c s t a was k o e (by l.own_read_only l.whole_snapshot on);
}
  where
    k : Kind
    k = failed o j Cause.Unmapped

    was : Going
    was = record { index = i; stack = Phase.Noted j since q x ∷ []; pages = xs }

    g : Going
    g = going_top c s a was o was.stack k

    ends : Knows c (next s a k) (past_next t s.length a k) a (going_on c a i (piece_ends o j) [])
    ends = on_held c (next s a k) (past_next t s.length a k) a i o [] e (piece_ends o j)
        (ends_ok o [] j (next s a k) (past_next t s.length a k) a (here_at s.locks.map a None, h.1.1.1))

    by : (b d : Bool) → b ≡ true → Knows c (next s a k) (past_next t s.length a k) a
        (let h : Going = if b then led_failed c a i (Some o) (Phase.Noted j since q x ∷ []) k g else g in
        if d then led_anew c a i (Phase.Noted j since q x ∷ []) k h else h)
    by true true f = ends
    by true false f = ends
    by false d f = cc

-- a page of the operation's own device stands for what is noted of it
own_stands : (to : Frame → Option Frame) (d : ℕ) (x : Place) → is_own_of x d ≡ true
    → Matches to (names x) (right_of (writable x)) x × (is_moving x ≡ false) × (is_for_device (names x) d ≡ true)
own_stands to d (Place.Own e n z) h = (matches_right to (Some (dev_frame e n)) z (Place.Own e n z) (refl, λ i. i), refl, h)
own_stands to d Place.Empty h = no_test h
own_stands to d Place.Zero h = no_test h
own_stands to d (Place.Sys n z) h = no_test h
own_stands to d (Place.Moving f z) h = no_test h
own_stands to d (Place.Exclusive n b) h = no_test h

-- the going of an entry that neither fails at a commit nor begins a snapshot anew
same_led : (l : Variant) (c : Program) (s : After) (a : ℕ) (was : Going) (k : Kind) (o : Op)
    → ((g : Going) → led_failed c a was.index (Some o) was.stack k g ≡ g)
    → ((g : Going) → led_anew c a was.index was.stack k g ≡ g)
    → led l c s a was k (Some o) ≡ going_top c s a was o was.stack k
same_led l c s a was k o e f = by l.own_read_only l.whole_snapshot
  where
    g : Going
    g = going_top c s a was o was.stack k

    by : (b d : Bool) → (let h : Going = if b then led_failed c a was.index (Some o) was.stack k g else g in
        if d then led_anew c a was.index was.stack k h else h) ≡ g
    by true true = ap (λ h. led_anew c a was.index was.stack k h) (e g) ∙ f g
    by true false = e g
    by false true = f g
    by false false = refl

-- a walk takes such a page
noted_own : (l : Variant) (c : Program) (s : After) (t : Past) (a i j since q : ℕ) (xs : List Migrating) (o : Op)
    → op_at c a i ≡ Some o → op_who o ≡ Who.Mirror (op_mirror o)
    → touch_page o (Walk j since q) ≡ at_page o j → HoldsAll s t a (deciding o (Walk j since q))
    → TakesOwn s o j since q (Kind.Runlock (touch_proc s o))
    → HoldsAll s t a (Touching o (Walk j since q) ∷ Read_locked (Who.Mirror (op_mirror o)) ∷ No_guard ∷ Locks_only [] ∷ [])
    → TurnAs l c s t a (Kind.Runlock (touch_proc s o))
    (record { index = i; stack = Phase.Decide (Walk j since q) ∷ []; pages = xs })
noted_own l c s t a i j since q xs o e who page h own h2 = record {
  stand = k;
  same_state = refl;
  same_past = refl;
  op = o;
  top = Phase.Decide (Walk j since q);
  allowed = release_locked s a (mirror_proc s.plain (op_mirror o)) h2.1.0.1;
  fair = tt;
  own_kind = inl (release_locked s a (mirror_proc s.plain (op_mirror o)) h2.1.0.1);
  knows = known_led l c s t a was k o e (subst (Knows c (next s a k) (past_next t s.length a k) a)
      (sym (same_led l c s a was k o (λ g. refl) (λ g. refl)))
      (subst (λ y. HoldsAll (next s a k) t a (facts_of y xs (Phase.Noted j since q x ∷ []))) (sym e) known));
}
  where
    k : Kind
    k = Kind.Runlock (touch_proc s o)

    was : Going
    was = record { index = i; stack = Phase.Decide (Walk j since q) ∷ []; pages = xs }

    x : Place
    x = s.places.place (touch_proc s o) (touch_page o (Walk j since q))

    st : Matches s.places.committed_to (names x) (right_of (writable x)) x × (is_moving x ≡ false)
        × (is_for_device (names x) (mirror_dev s.plain (op_mirror o)) ≡ true)
    st = own_stands s.places.committed_to (mirror_dev s.plain (op_mirror o)) x
        (and_parts (is_some (rights_of s.plain (touch_proc s o) (touch_page o (Walk j since q)))) _ own.own).1

    there : x ≡ s.places.place (mirror_proc s.plain (op_mirror o)) (at_page o j)
    there = ap (λ w. s.places.place (proc_of s.plain w) (touch_page o (Walk j since q))) who
        ∙ ap (s.places.place (mirror_proc s.plain (op_mirror o))) page

    known : HoldsAll (next s a k) t a (facts o xs (Phase.Noted j since q x ∷ []))
    known = (
      h.0,
      (
        (
          subst (Within s.plain (op_mirror o)) page h.0.1,
          h.0.2.1,
          st.2,
          λ at same. subst (λ y. Matches s.places.committed_to (names x) (right_of (writable x)) y × (is_moving y ≡ false))
              there (st.0, st.1),
        ),
        (here_at s.locks.map a None, h.1.1),
      ),
    )

took_own : (l : Variant) (c : Program) (s : After) (t : Past) (a i j since q : ℕ) (xs : List Migrating) (o : Op)
    → op_at c a i ≡ Some o → HoldsAll s t a (deciding o (Walk j since q))
    → TakesOwn s o j since q (Kind.Runlock (touch_proc s o))
    → TurnAs l c s t a (Kind.Runlock (touch_proc s o))
    (record { index = i; stack = Phase.Decide (Walk j since q) ∷ []; pages = xs })
took_own l c s t a i j since q xs (Op.DeviceLoad m at n) e h own =
    noted_own l c s t a i j since q xs (Op.DeviceLoad m at n) e refl refl h own h
took_own l c s t a i j since q xs (Op.DeviceStore m at bs) e h own =
    noted_own l c s t a i j since q xs (Op.DeviceStore m at bs) e refl refl h own h
took_own l c s t a i j since q xs o e h own = no_test h.0.0

-- a migration keeps a page
pub came_there : (c : Program) (s : After) (t : Past) (a : ℕ) (o : Op) (xs : List Migrating) (step : MoveStep) (v : ℕ)
    (x : Migrating) → Sound c s t → HoldsAll s t a (facts o xs (Phase.Moves step v ∷ []))
    → coming s o xs (Phase.Moves step v) ≡ Some (TakeAndCopy, x) → Came s t a o xs TakeAndCopy x
came_there c s t a o xs step v x so h = came_to c s t a o xs step v
    (λ r. r ≡ Some (TakeAndCopy, x) → Came s t a o xs TakeAndCopy x) so h.1.1 h.1.0 (record { here = here; ended = λ m e. cc })
  where
    step_of : MoveStep → Option (MoveStep × Migrating) → MoveStep
    step_of i r = elim r [ None ↦ i | Some z ↦ z.0 ]

    page_of_it : Migrating → Option (MoveStep × Migrating) → Migrating
    page_of_it i r = elim r [ None ↦ i | Some z ↦ z.1 ]

    here : (i : MoveStep) (y : Migrating) → Came s t a o xs i y → ◌≡◌ {A = Option (MoveStep × Migrating)} (Some (i, y)) (Some (TakeAndCopy, x))
        → Came s t a o xs TakeAndCopy x
    here i y m e = subst (λ z. Came s t a o xs z x) (ap (step_of i) e) (subst (λ z. Came s t a o xs i z) (ap (page_of_it y) e) m)

kept_on : (c : Program) (s : After) (t : Past) (a : ℕ) (o : Op) (xs : List Migrating) (x : Migrating) (b : ℕ)
    → Sound c s t → Holds s t a No_guard → Came s t a o xs TakeAndCopy x
    → HoldsAll (next s a (Kind.Kept (KeptAt.Page x.page) (KeptWhy.LockedBy b))) t a
    (facts o xs (Phase.Moves TakeAndCopy (x.page + 1) ∷ []))
kept_on c s t a o xs x b so free came = (
  free,
  (
    same_held s t a o x.page (x.page + 1) None None xs came.locks,
    migrating_on c s t a (Kind.Kept (KeptAt.Page x.page) (KeptWhy.LockedBy b)) so tt
        (record { map = refl; there = λ p. refl; areas = λ p. refl }) o xs TakeAndCopy (x.page + 1) None (λ i m. tt)
        (all_further s t a o xs x.page came.knows),
  ),
)

kept_page : (l : Variant) (c : Program) (s : After) (t : Past) (a i v b : ℕ) (step : MoveStep) (x : Migrating)
    (xs : List Migrating) (o : Op) → Sound c s t → op_at c a i ≡ Some o
    → HoldsAll s t a (facts o xs (Phase.Moves step v ∷ []))
    → coming s o xs (Phase.Moves step v) ≡ Some (TakeAndCopy, x)
    → TurnAs l c s t a (Kind.Kept (KeptAt.Page x.page) (KeptWhy.LockedBy b))
    (record { index = i; stack = Phase.Moves step v ∷ []; pages = xs })
kept_page l c s t a i v b step x xs o so e h comes = record {
  stand = Kind.Seen 0 0 0;
  same_state = refl;
  same_past = refl;
  op = o;
  top = Phase.Moves step v;
  allowed = tt;
  fair = tt;
  own_kind = inl tt;
  knows = known_led l c s t a was k o e (subst (Knows c (next s a k) (past_next t s.length a k) a)
      (sym (same_led l c s a was k o (λ g. refl) (λ g. refl) ∙ leads))
      (subst (λ y. HoldsAll (next s a k) t a (facts_of y xs (Phase.Moves TakeAndCopy (x.page + 1) ∷ []))) (sym e)
      (kept_on c s t a o xs x b so h.0 (came_there c s t a o xs step v x so h comes))));
}
  where
    k : Kind
    k = Kind.Kept (KeptAt.Page x.page) (KeptWhy.LockedBy b)

    was : Going
    was = record { index = i; stack = Phase.Moves step v ∷ []; pages = xs }

    on : Option (MoveStep × Migrating) → Going
    on r = going_on c a i (after_migration step (coming_page r) k (record (seen_at s o xs (Phase.Moves step v) k) { page = coming_page r }))
        (recorded (Phase.Moves step v) (coming_page r) xs k)

    leads : going_top c s a was o was.stack k
        ≡ record { index = i; stack = Phase.Moves TakeAndCopy (x.page + 1) ∷ []; pages = xs }
    leads = ap on comes

-- a page that an actor wants alone is busy: of `exclusive`, and of an addition
busy_refused : (l : Variant) (c : Program) (s : After) (t : Past) (a i m v : ℕ) (xs : List Migrating)
    → op_at c a i ≡ Some (Op.Exclusive m v) → HoldsAll s t a (deciding (Op.Exclusive m v) Sole)
    → TurnAs l c s t a (Kind.Refused Cause.Never)
    (record { index = i; stack = Phase.Decide Sole ∷ []; pages = xs })
busy_refused l c s t a i m v xs e h = record {
  stand = k;
  same_state = refl;
  same_past = refl;
  op = Op.Exclusive m v;
  top = Phase.Decide Sole;
  allowed = release_locked s a (mirror_proc s.plain m) h.1.0.1;
  fair = λ w. no_test w;
  own_kind = inl (release_locked s a (mirror_proc s.plain m) h.1.0.1);
  knows = known_led l c s t a was k (Op.Exclusive m v) e (subst (Knows c (next s a k) (past_next t s.length a k) a)
      (sym (same_led l c s a was k (Op.Exclusive m v) (λ g. refl) (λ g. refl)))
      (on_held c (next s a k) (past_next t s.length a k) a i (Op.Exclusive m v) xs e [] (here_at s.locks.map a None, h.1.1)));
}
  where
    k : Kind
    k = Kind.Refused Cause.Never

    was : Going
    was = record { index = i; stack = Phase.Decide Sole ∷ []; pages = xs }

busy_failed : (l : Variant) (c : Program) (s : After) (t : Past) (a i m at n : ℕ) (xs : List Migrating)
    → op_at c a i ≡ Some (Op.Add m at n) → HoldsAll s t a (deciding (Op.Add m at n) Sole) → l.exclusive_busy ≡ true
    → TurnAs l c s t a (failed (Op.Add m at n) 0 Cause.Never)
    (record { index = i; stack = Phase.Decide Sole ∷ []; pages = xs })
busy_failed l c s t a i m at n xs e h on = record {
  stand = Kind.Retry m;
  same_state = refl;
  same_past = refl;
  op = o;
  top = Phase.Decide Sole;
  allowed = release_locked s a (mirror_proc s.plain m) h.1.0.1;
  fair = tt;
  own_kind = inr (record {
    other = on;
    who = op_who o;
    addr = (op_piece o 0).0;
    len = (op_piece o 0).1;
    why = Cause.Never;
    is = refl;
  });
  knows = known_led l c s t a was k o e (subst (Knows c (next s a k) (past_next t s.length a k) a)
      (sym (same_led l c s a was k o (λ g. refl) (λ g. refl)))
      (on_held c (next s a k) (past_next t s.length a k) a i o xs e (piece_ends o 0)
      (ends_ok o xs 0 (next s a k) (past_next t s.length a k) a (here_at s.locks.map a None, h.1.1))));
}
  where
    o : Op
    o = Op.Add m at n

    k : Kind
    k = failed o 0 Cause.Never

    was : Going
    was = record { index = i; stack = Phase.Decide Sole ∷ []; pages = xs }

was_busy : (l : Variant) (c : Program) (s : After) (t : Past) (a i : ℕ) (xs : List Migrating) (o : Op)
    → op_at c a i ≡ Some o → HoldsAll s t a (deciding o Sole) → l.exclusive_busy ≡ true
    → TurnAs l c s t a (fails o 0 Cause.Never) (record { index = i; stack = Phase.Decide Sole ∷ []; pages = xs })
was_busy l c s t a i xs (Op.Exclusive m v) e h on = busy_refused l c s t a i m v xs e h
was_busy l c s t a i xs (Op.Add m at n) e h on = busy_failed l c s t a i m at n xs e h on
was_busy l c s t a i xs o e h on = no_test h.0.0

-- a guard ends, and has not placed its page
ended_with : (c : Program) (s : After) (t : Past) (a : ℕ) (o : Op) (xs : List Migrating) (q : ℕ) (r : Pages) (met : Bool)
    (told : Option ℕ) (touch : Touch) → Sound c s t
    → HoldsAll s t a (facts o xs (Phase.Guard q r met told Body.Nothing ∷ Phase.Decide touch ∷ []))
    → to_tell s q r met told ≡ None
    → Good c s t a o xs (Phase.Guard q r met told Body.Nothing) (Phase.Decide touch ∷ [])
    (Do (Kind.End q r (seq_ended s.sequences q)))
ended_with c s t a o xs q r met told touch so h all = subst
    (λ m. Good c s t a o xs (Phase.Guard q r met told Body.Nothing) (Phase.Decide touch ∷ []) (Do (elim m [
      | Some i ↦ Kind.Told i r (s.sequences.seq q)
      | None ↦ Kind.End q r (seq_ended s.sequences q)
    ]))) all (nothing_at c s t a o xs touch q r met told so h)

unplaced : (l : Variant) (c : Program) (s : After) (t : Past) (a i q : ℕ) (r : Pages) (met : Bool) (told : Option ℕ)
    (body : Body) (touch : Touch) (xs : List Migrating) (o : Op) → op_at c a i ≡ Some o
    → ((g : Going) → going_on c a i (after_body body r (Phase.Decide touch ∷ [])) xs
    ≡ going_on c a i (Phase.Decide touch ∷ []) xs)
    → recorded_body body xs (Kind.End q r (seq_ended s.sequences q)) ≡ xs
    → Good c s t a o xs (Phase.Guard q r met told Body.Nothing) (Phase.Decide touch ∷ [])
    (Do (Kind.End q r (seq_ended s.sequences q)))
    → TurnAs l c s t a (Kind.End q r (seq_ended s.sequences q))
    (record { index = i; stack = Phase.Guard q r met told body ∷ Phase.Decide touch ∷ []; pages = xs })
unplaced l c s t a i q r met told body touch xs o e leads records good = record {
  stand = k;
  same_state = refl;
  same_past = refl;
  op = o;
  top = Phase.Guard q r met told body;
  allowed = good.0;
  fair = tt;
  own_kind = inl good.0;
  knows = known_led l c s t a was k o e (subst (Knows c (next s a k) (past_next t s.length a k) a)
      (sym (same_led l c s a was k o (λ g. refl) (λ g. refl)
      ∙ (ap (λ ys. going_on c a i (after_body body r (Phase.Decide touch ∷ [])) ys) records ∙ leads was)))
      (subst (λ y. HoldsAll (next s a k) (past_next t s.length a k) a (facts_of y xs (Phase.Decide touch ∷ []))) (sym e)
      good.2));
}
  where
    k : Kind
    k = Kind.End q r (seq_ended s.sequences q)

    was : Going
    was = record { index = i; stack = Phase.Guard q r met told body ∷ Phase.Decide touch ∷ []; pages = xs }

-- ---- all of them

other_at : (l : Variant) (c : Program) (n : Noted) (s : After) (t : Past) (a i : ℕ) (k : Kind) (xs : List Migrating) (o : Op)
    (top : Phase) (below : List Phase) → Sound c s t → op_at c a i ≡ Some o
    → HoldsAll s t a (facts o xs (top ∷ below)) → OtherAt l n s a o xs top k
    → TurnAs l c s t a k (record { index = i; stack = top ∷ below; pages = xs })
other_at l c n s t a i k xs o (Phase.Pages v) [] so e h p =
    subst (λ z. TurnAs l c s t a z (record { index = i; stack = Phase.Pages v ∷ []; pages = xs })) (sym p.1)
    (retried l c s t a i v xs o e h p.0)
other_at l c n s t a i k xs o (Phase.Decide (Walk j since q)) [] so e h p =
    subst (λ z. TurnAs l c s t a z (record { index = i; stack = Phase.Decide (Walk j since q) ∷ []; pages = xs }))
    (sym p.is) (took_own l c s t a i j since q xs o e h (subst (TakesOwn s o j since q) p.is p))
other_at l c n s t a i k xs o (Phase.Decide Sole) [] so e h p =
    subst (λ z. TurnAs l c s t a z (record { index = i; stack = Phase.Decide Sole ∷ []; pages = xs })) (sym p.1)
    (was_busy l c s t a i xs o e h p.0)
other_at l c n s t a i k xs o (Phase.Guard q r met told Body.Restore) (Phase.Decide touch ∷ []) so e h p =
    subst (λ z. TurnAs l c s t a z
    (record { index = i; stack = Phase.Guard q r met told Body.Restore ∷ Phase.Decide touch ∷ []; pages = xs })) (sym p.is)
    (unplaced l c s t a i q r met told Body.Restore touch xs o e (λ g. refl) refl
    (ended_with c s t a o xs q r met told touch so h p.all_told))
other_at l c n s t a i k xs o (Phase.Guard q r met told (Body.Seize f)) (Phase.Decide touch ∷ []) so e h p =
    subst (λ z. TurnAs l c s t a z
    (record { index = i; stack = Phase.Guard q r met told (Body.Seize f) ∷ Phase.Decide touch ∷ []; pages = xs }))
    (sym p.is)
    (unplaced l c s t a i q r met told (Body.Seize f) touch xs o e (λ g. refl) refl
    (ended_with c s t a o xs q r met told touch so h p.all_told))
other_at l c n s t a i k xs o (Phase.Noted j since q x) [] so e h p =
    subst (λ z. TurnAs l c s t a z (record { index = i; stack = Phase.Noted j since q x ∷ []; pages = xs })) (sym p.1)
    (not_set l c s t a i j since q x xs o e h p.0)
other_at l c n s t a i k xs o (Phase.Moves step v) [] so e h p =
    subst (λ z. TurnAs l c s t a z (record { index = i; stack = Phase.Moves step v ∷ []; pages = xs })) (sym p.is)
    (kept_page l c s t a i v p.by step p.page xs o so e h p.comes)
other_at l c n s t a i k xs o (Phase.Pages v) (y ∷ below) so e h p = absurd h.0
other_at l c n s t a i k xs o (Phase.Decide (Walk j since q)) (y ∷ below) so e h p = absurd h.0
other_at l c n s t a i k xs o (Phase.Noted j since q x) (y ∷ below) so e h p = absurd h.0
other_at l c n s t a i k xs o (Phase.Moves step v) (y ∷ below) so e h p = absurd h.0
other_at l c n s t a i k xs o (Phase.Decide Sole) (y ∷ below) so e h p = absurd h.0
other_at l c n s t a i k xs o (Phase.Guard q r met told Body.Restore) below so e h p = absurd h.0
other_at l c n s t a i k xs o (Phase.Guard q r met told (Body.Seize f)) below so e h p = absurd h.0
other_at l c n s t a i k xs o (Phase.Guard q r met told body) below so e h p = no_test p.kind
other_at l c n s t a i k xs o top below so e h p = absurd p

-- another entry of an actor that knows where it is
pub other_turn : (l : Variant) (c : Program) (n : Noted) (s : After) (t : Past) (a : ℕ) (k : Kind) (was : Going) → Sound c s t
    → Knows c s t a was → Other l n s a (op_at c a was.index) was.pages was.stack k → TurnAs l c s t a k was
other_turn l c n s t a k was so knows p = subst
    (λ z. TurnAs l c s t a k (record { index = was.index; stack = z; pages = was.pages })) (sym p.is_stack)
    (other_at l c n s t a was.index k was.pages p.op p.top p.below so p.is_op
    (subst (λ z. HoldsAll s t a (facts p.op was.pages z)) p.is_stack
    (subst (λ x. HoldsAll s t a (facts_of x was.pages was.stack)) p.is_op knows)) p.other)
