-- Somebody always goes on, with variants that leave the state as it is found, but for `exclusive-busy`: a new wait is
-- for an actor that invalidates, and that one never waits.
use Rattle.std.proofs.Common.{◌≡◌, ◌⊎◌, inl, inr, ℕ, zero, suc, ◌+◌, Bool, true, false, ◌||◌, nat_lt, is_some, Option}
use Rattle.std.proofs.Common.{Some, None, List, [], ◌∷◌, refl, sym, ap, ◌∙◌, subst, arith, if◌then◌else◌}
use Rattle.std.proofs.lemmas.Bool.Decides.{nat_tests}
use Rattle.hm_base.specs.Program.{Program}
use Rattle.hm_base.specs.declared.ops.Op.{Op}
use Rattle.hm_history.specs.Memory.Words.{least}
use Rattle.hm_history.specs.Memory.Sequences.{Guarded}
use Rattle.hm_history.specs.Memory.After.{After}
use Rattle.hm_history.specs.Kernel.Going.{Going, op_at, first_stack, going_on, going_next, going_top, state_of}
use Rattle.hm_history.specs.Kernel.Due.{due_phase, progress}
use Rattle.hm_history.specs.declared.Kind.{Kind}
use Rattle.hm_history.specs.declared.Entry.{Entry}
use Rattle.hm_history.specs.declared.Why.{Why}
use Rattle.hm_history.specs.declared.phases.Migrating.{Migrating}
use Rattle.hm_history.specs.declared.phases.Phase.{Phase}
use Rattle.hm_history.specs.declared.phases.Next.{Next}
use Rattle.hm_history.specs.declared.phases.Next.TheVariants.{Do, Wait}
use Rattle.hm_history.proofs.Tests.{no_test, true_false}
use Rattle.hm_history.proofs.Updates.{with_case}
use Rattle.hm_laws.specs.Past.{Past}
use Rattle.hm_laws.specs.Sound.{Sound, guards, count_guards}
use Rattle.hm_laws.specs.Facts.{nothing_held, facts, facts_of, HoldsAll}
use Rattle.hm_laws.specs.Stands.{Standing}
use Rattle.hm_laws.proofs.State.Search.{least_some}
use Rattle.hm_laws.proofs.Waits.WaitsFor.{IsBusy, HasMapLock, NoWait, ForBusy, ForHolder}
use Rattle.hm_laws.proofs.Waits.BusyGoesOn.{waits_for_holder, busy_goes, locker_goes, idle_busy, idle_lock}
use Rattle.hm_laws.proofs.Waits.NeverStuck.{HasPhase, HavePhases, phases_of, idle}
use Rattle.hm_linux.specs.declared.variant.Variant.{Variant}
use Rattle.hm_linux.specs.Noted.{Noted, Varied, varied_from}
use Rattle.hm_linux.specs.OwnReadOnly.{led_failed}
use Rattle.hm_linux.specs.FirstAttach.{is_in_guard, has_had_mirror, attaches}
use Rattle.hm_linux.specs.UnmapLetsIn.{sees_mapped}
use Rattle.hm_linux.specs.WholeSnapshot.{begins_snap, ends_snap, led_anew}
use Rattle.hm_linux.specs.Instead.{if_on, due_varied, due_varied_top, due_as, going_varied, varied_next, varied_on}
use Rattle.hm_linux.specs.Instead.{varied_after}
use Rattle.hm_linux.specs.Variants.{LeaveState, Stays}
use Rattle.hm_linux.specs.Laws.{GoesOnAs, NeverStuckAs}
use Rattle.hm_linux.proofs.Others.{varied_stays}
use Rattle.hm_linux.proofs.Standing.{same_found, stands_after}

-- ---- what is put in place of what is due: after the first phase no new wait

-- what is new is what was due, or an entry
abbrev Onward : Next → Next → Type 0
Onward next new = (new ≡ next) ⊎ NoWait new

onward_keeps : (P : Next → Type 0) → ((k : Kind) → P (Do k)) → (next new : Next) → Onward next new → P next → P new
onward_keeps P each next new (inl e) h = subst P (sym e) h
onward_keeps P each next (Do k) (inr g) h = each k
onward_keeps P each next (Wait y) (inr g) h = absurd g

chosen_onward : (b : Bool) (k : Kind) (next : Next) → Onward next (if b then Do k else next)
chosen_onward true k next = inr tt
chosen_onward false k next = inl refl

on_onward : (b : Bool) (f : Next → Next) (first next : Next) → ((x : Next) → Onward x (f x)) → Onward first next
    → Onward first (if_on b f next)
on_onward false f first next h x = x
on_onward true f first next h x = by (h next) x
  where
    by : Onward next (f next) → Onward first next → Onward first (f next)
    by (inr g) y = inr g
    by (inl e) (inl i) = inl (e ∙ i)
    by (inl e) (inr g) = inr (subst NoWait (sym e) g)

seen_onward : (s : After) (next : Next) → Onward next (sees_mapped s next)
seen_onward s (Do (Kind.Seen m v x)) = chosen_onward _ (Kind.Seen m v 0) (Do (Kind.Seen m v x))
seen_onward s next = inl refl

snap_onward : (n : Noted) (a : ℕ) (o : Op) (next : Next) → Onward next (ends_snap n a o next)
snap_onward n a o (Do (Kind.Runlock p)) = chosen_onward (n.torn a) _ (Do (Kind.Runlock p))
snap_onward n a o next = inl refl

-- the variants that wait at the first phase, off
abbrev quiet : Variant → Variant
quiet l = record l { first_attach = false; whole_snapshot = false }

stays_onward : (l : Variant) (next new : Next) → l.exclusive_busy ≡ false → Stays (quiet l) next new → Onward next new
stays_onward l next new off (inl e) = inl e
stays_onward l next (Do k) off (inr o) = inr tt
stays_onward l next (Wait y) off (inr o) =
    absurd (true_false (l.exclusive_busy || (false || false)) o (ap (λ b. b || (false || false)) off))

abbrev is_begin : Phase → Bool
is_begin Phase.Begin = true
is_begin top = false

phase_onward : (l : Variant) (c : Program) (n : Noted) (s : After) (a : ℕ) (o : Op) (xs : List Migrating) (top : Phase)
    (next : Next) → l.exclusive_busy ≡ false → is_begin top ≡ false
    → Onward next (due_varied l c n s a o xs top next)
phase_onward l c n s a o xs Phase.Begin next off e = no_test (sym e)
phase_onward l c n s a o xs (Phase.Pages v) next off e =
    on_onward l.unmap_lets_in (sees_mapped s) next _ (seen_onward s)
    (on_onward l.whole_snapshot (ends_snap n a o) next next (snap_onward n a o) (inl refl))
phase_onward l c n s a o xs (Phase.Decide touch) next off e =
    stays_onward l next _ off (varied_stays (quiet l) c n s a o xs (Phase.Decide touch) next)
phase_onward l c n s a o xs (Phase.Noted k since q x) next off e =
    stays_onward l next _ off (varied_stays (quiet l) c n s a o xs (Phase.Noted k since q x) next)
phase_onward l c n s a o xs (Phase.Guard p r met told body) next off e =
    stays_onward l next _ off (varied_stays (quiet l) c n s a o xs (Phase.Guard p r met told body) next)
phase_onward l c n s a o xs (Phase.Moves step v) next off e =
    stays_onward l next _ off (varied_stays (quiet l) c n s a o xs (Phase.Moves step v) next)
phase_onward l c n s a o xs top next off e = inl refl

-- ---- at the first phase: a new wait is for an actor that invalidates

in_guard : (p : ℕ) (x : Option Guarded) → is_in_guard p x ≡ true → x ≡ None → ⊥
in_guard p None h e = cc
in_guard p (Some g) h e = cc

attach_for : (s : After) (next : Next) → ForHolder s next → ForHolder s (attaches s next)
attach_for s (Do (Kind.Attached m d p r q)) h = by (least (λ b. is_in_guard p (s.sequences.guard b)) 0 16) refl
  where
    first : Next
    first = Do (Kind.Attached m d p r q)

    at : (b : ℕ) (had : Bool) → (s.sequences.guard b ≡ None → ⊥)
        → ForHolder s (if had then first else Wait (Why.MapLock p b))
    at b true g = tt
    at b false g = (b, inl (inl g))

    by : (x : Option ℕ) → least (λ b. is_in_guard p (s.sequences.guard b)) 0 16 ≡ x → ForHolder s (elim x [
      | None ↦ first
      | Some b ↦ if has_had_mirror s p then first else Wait (Why.MapLock p b)
    ])
    by None e = tt
    by (Some b) e = at b (has_had_mirror s p)
        (in_guard p (s.sequences.guard b) (least_some (λ d. is_in_guard p (s.sequences.guard d)) 0 16 b e))
attach_for s next h = h

-- a count of invalidations: somebody invalidates
guarding : (guard : ℕ → Option Guarded) (p n : ℕ) → nat_lt 0 (count_guards guard p n) ≡ true
    → (b : ℕ) × (guard b ≡ None → ⊥)
guarding guard p zero h = cc
guarding guard p (suc n) h = by (λ i. guarding guard p n i) (guards (guard n) p) refl h
  where
    some : (x : Option Guarded) → guards x p ≡ true → x ≡ None → ⊥
    some None i e = cc
    some (Some g) i e = cc

    fewer : nat_lt 0 (count_guards guard p n + 0) ≡ true → nat_lt 0 (count_guards guard p n) ≡ true
    fewer i = grind (arith, nat_tests)

    by : (nat_lt 0 (count_guards guard p n) ≡ true → (b : ℕ) × (guard b ≡ None → ⊥)) → (b : Bool)
        → guards (guard n) p ≡ b → nat_lt 0 (count_guards guard p n + (if b then 1 else 0)) ≡ true
        → (d : ℕ) × (guard d ≡ None → ⊥)
    by below true e i = (n, some (guard n) e)
    by below false e i = below (fewer i)

snap_for : (c : Program) (s : After) (t : Past) (o : Op) (next : Next) → Sound c s t → ForHolder s next
    → ForHolder s (begins_snap s o next)
snap_for c s t (Op.Snap m r) (Do (Kind.Rlock p)) so h = by (nat_lt 0 (s.sequences.active p)) refl
  where
    by : (b : Bool) → nat_lt 0 (s.sequences.active p) ≡ b
        → ForHolder s (if b then Wait (Why.Invalidating m (s.sequences.seq p)) else Do (Kind.Rlock p))
    by false e = tt
    by true e = let g : (b : ℕ) × (s.sequences.guard b ≡ None → ⊥) = guarding s.sequences.guard p 16
        (subst (λ n. nat_lt 0 n ≡ true) (so.sequences.counted p) e) in (g.0, inl (inl g.1))
snap_for c s t o next so h = h

on_for : (s : After) (b : Bool) (f : Next → Next) (next : Next) → ((x : Next) → ForHolder s x → ForHolder s (f x))
    → ForHolder s next → ForHolder s (if_on b f next)
on_for s false f next h x = x
on_for s true f next h x = h next x

begin_for : (l : Variant) (c : Program) (n : Noted) (s : After) (t : Past) (a : ℕ) (o : Op) (xs : List Migrating)
    (top : Phase) (next : Next) → Sound c s t → is_begin top ≡ true → ForHolder s next
    → ForHolder s (due_varied l c n s a o xs top next)
begin_for l c n s t a o xs Phase.Begin next so e h = on_for s l.first_attach (attaches s) _ (attach_for s)
    (on_for s l.whole_snapshot (begins_snap s o) next (λ x i. snap_for c s t o x so i) h)
begin_for l c n s t a o xs top next so e h = no_test e

-- there the actor holds nothing
begin_free : (s : After) (t : Past) (a : ℕ) (o : Op) (xs : List Migrating) (top : Phase) (below : List Phase)
    → is_begin top ≡ true → HoldsAll s t a (facts o xs (top ∷ below)) → HoldsAll s t a nothing_held
begin_free s t a o xs Phase.Begin [] e h = h.1
begin_free s t a o xs Phase.Begin (y ∷ below) e h = absurd h.0
begin_free s t a o xs top below e h = no_test e

-- ---- who waits for whom

-- what is due to an actor at a phase
abbrev due_there : Variant → Program → Noted → After → ℕ → Op → List Migrating → Phase → Next
due_there l c n s a o xs top = due_varied l c n s a o xs top (due_phase c s a o xs top)

any_waits : (l : Variant) (c : Program) (n : Noted) (s : After) (t : Past) (a : ℕ) (o : Op) (xs : List Migrating)
    (top : Phase) (below : List Phase) → l.exclusive_busy ≡ false → Sound c s t
    → HoldsAll s t a (facts o xs (top ∷ below)) → ForHolder s (due_there l c n s a o xs top)
any_waits l c n s t a o xs top below off so h = by (is_begin top) refl
  where
    next : Next
    next = due_phase c s a o xs top

    by : (b : Bool) → is_begin top ≡ b → ForHolder s (due_varied l c n s a o xs top next)
    by true e = begin_for l c n s t a o xs top next so e (waits_for_holder c s t a o xs top below so h)
    by false e = onward_keeps (ForHolder s) (λ k. tt) next (due_varied l c n s a o xs top next)
        (phase_onward l c n s a o xs top next off e) (waits_for_holder c s t a o xs top below so h)

lock_waits : (l : Variant) (c : Program) (n : Noted) (s : After) (t : Past) (a : ℕ) (o : Op) (xs : List Migrating)
    (top : Phase) (below : List Phase) → l.exclusive_busy ≡ false → Sound c s t
    → HoldsAll s t a (facts o xs (top ∷ below)) → HasMapLock s a → ForBusy s (due_there l c n s a o xs top)
lock_waits l c n s t a o xs top below off so h held = by (is_begin top) refl
  where
    next : Next
    next = due_phase c s a o xs top

    by : (b : Bool) → is_begin top ≡ b → ForBusy s (due_varied l c n s a o xs top next)
    by true e = absurd (idle_lock s t a (begin_free s t a o xs top below e h) held)
    by false e = onward_keeps (ForBusy s) (λ k. tt) next (due_varied l c n s a o xs top next)
        (phase_onward l c n s a o xs top next off e) (locker_goes c s t a o xs top below so h held)

busy_never : (l : Variant) (c : Program) (n : Noted) (s : After) (t : Past) (a : ℕ) (o : Op) (xs : List Migrating)
    (top : Phase) (below : List Phase) → l.exclusive_busy ≡ false → HoldsAll s t a (facts o xs (top ∷ below))
    → IsBusy s a → NoWait (due_there l c n s a o xs top)
busy_never l c n s t a o xs top below off h busy = by (is_begin top) refl
  where
    next : Next
    next = due_phase c s a o xs top

    by : (b : Bool) → is_begin top ≡ b → NoWait (due_varied l c n s a o xs top next)
    by true e = absurd (idle_busy s t a (begin_free s t a o xs top below e h) busy)
    by false e = onward_keeps NoWait (λ k. tt) next (due_varied l c n s a o xs top next)
        (phase_onward l c n s a o xs top next off e) (busy_goes c s t a o xs top below h busy)

-- ---- an actor with an operation has a phase of it

led_phase : (l : Variant) (c : Program) (s : After) (a : ℕ) (g : Going) (k : Kind) → HasPhase c a g
    → HasPhase c a (going_varied l c a g k (going_next c s a g k))
led_phase l c s a g k h = by l.own_read_only l.whole_snapshot
  where
    first : (x : Option Op) (o : Op) → x ≡ Some o → first_stack x ≡ [] → ⊥
    first None o e i = cc
    first (Some z) o e i = cc

    on : (i : ℕ) (st : List Phase) (xs : List Migrating) → HasPhase c a (going_on c a i st xs)
    on i [] xs = first (op_at c a (i + 1))
    on i (x ∷ st) xs = λ o e z. cc

    top : (o : Op) (st : List Phase) → HasPhase c a (going_top c s a g o st k)
    top o [] = h
    top o (x ∷ st) = on g.index _ _

    next : (x : Option Op) → HasPhase c a (elim x as (λ y. Going) [ None ↦ g | Some o ↦ going_top c s a g o g.stack k ])
    next None = h
    next (Some o) = top o g.stack

    failed : (x : Option Op) (st : List Phase) (i : Kind) (z : Going) → HasPhase c a z
        → HasPhase c a (led_failed c a g.index x st i z)
    failed (Some o) (Phase.Noted j since q y ∷ below) (Kind.Failed w at n why) z d = on g.index _ []
    failed x st i z d = d

    anew : (st : List Phase) (i : Kind) (z : Going) → HasPhase c a z → HasPhase c a (led_anew c a g.index st i z)
    anew (Phase.Pages v ∷ below) (Kind.Retry m) z d = on g.index (Phase.Begin ∷ []) []
    anew st i z d = d

    x : Option Op
    x = op_at c a g.index

    going : Going
    going = going_next c s a g k

    by : (b d : Bool) → HasPhase c a (let z : Going = if b then led_failed c a g.index x g.stack k going else going in
        if d then led_anew c a g.index g.stack k z else z)
    by true true = anew g.stack k (led_failed c a g.index x g.stack k going) (failed x g.stack k going (next x))
    by true false = failed x g.stack k going (next x)
    by false true = anew g.stack k going (next x)
    by false false = next x

phases_on : (l : Variant) (c : Program) (t : Varied) (es : List Entry) → HavePhases c t.state
    → HavePhases c (varied_on l c t es).state
phases_on l c t [] p = p
phases_on l c t (e ∷ es) p = phases_on l c (varied_next l c t e) es (λ a. with_case (HasPhase c) t.state.going e.actor
    (going_varied l c e.actor was e.kind (going_next c t.state.after e.actor was e.kind)) a
    (λ here. led_phase l c t.state.after e.actor was e.kind (p e.actor)) (λ ne. p a))
  where
    was : Going
    was = t.state.going e.actor

-- ---- some actor goes on

-- what is known of a state that the entries come to
record Stood (l : Variant) (c : Program) (t : Varied) (past : Past) : Type 0 where
  leave : LeaveState l
  off : l.exclusive_busy ≡ false
  phases : HavePhases c t.state
  standing : Standing c t.state past

-- an actor under way, and what is due to it
record Under (l : Variant) (c : Program) (t : Varied) (a : ℕ) (P : Next → Type 0) : Type 0 where
  next : Next
  says : P next
  under_way : is_some (op_at c a (t.state.going a).index) ≡ true
  is_due : due_as l c t a ≡ progress a next

under : (l : Variant) (c : Program) (t : Varied) (past : Past) (a : ℕ) (P : Next → Type 0) → Stood l c t past
    → (op_at c a (t.state.going a).index ≡ None → ⊥)
    → ((o : Op) (xs : List Migrating) (top : Phase) (below : List Phase)
    → HoldsAll t.state.after past a (facts o xs (top ∷ below))
    → P (due_there l c t.noted t.state.after a o xs top)) → Under l c t a P
under l c t past a P st some each = by (op_at c a g.index) refl g.stack refl (st.standing.known a)
  where
    s : After
    s = t.state.after

    g : Going
    g = t.state.going a

    by : (x : Option Op) → op_at c a g.index ≡ x → (y : List Phase) → g.stack ≡ y
        → HoldsAll s past a (facts_of x g.pages y) → Under l c t a P
    by None e y i h = absurd (some e)
    by (Some o) e [] i h = absurd (st.phases a o e i)
    by (Some o) e (top ∷ below) i h = record {
      next = due_there l c t.noted s a o g.pages top;
      says = each o g.pages top below h;
      under_way = ap is_some e;
      is_due = ap (λ z. due_varied_top l c t.noted z a (op_at c a g.index) g.pages g.stack) (same_found l c t st.leave)
          ∙ (ap (λ x. due_varied_top l c t.noted s a x g.pages g.stack) e
          ∙ ap (due_varied_top l c t.noted s a (Some o) g.pages) i);
    }

goes : (l : Variant) (c : Program) (t : Varied) (a : ℕ) (P : Next → Type 0) → Under l c t a P
    → ((y : Why) → P (Wait y) → GoesOnAs l c t) → GoesOnAs l c t
goes l c t a P w waiting = by w.next w.says w.is_due
  where
    by : (n : Next) → P n → due_as l c t a ≡ progress a n → GoesOnAs l c t
    by (Do k) h e = record { entry = record { actor = a; kind = k }; under_way = w.under_way; is_due = e }
    by (Wait y) h e = waiting y h

busy_one : (l : Variant) (c : Program) (t : Varied) (past : Past) (a : ℕ) → Stood l c t past → IsBusy t.state.after a
    → GoesOnAs l c t
busy_one l c t past a st busy = goes l c t a NoWait (under l c t past a NoWait st
    (λ e. idle_busy t.state.after past a (idle c t.state past a st.standing e) busy)
    (λ o xs top below h. busy_never l c t.noted t.state.after past a o xs top below st.off h busy)) (λ y n. absurd n)

lock_holder : (l : Variant) (c : Program) (t : Varied) (past : Past) (a : ℕ) → Stood l c t past
    → HasMapLock t.state.after a → GoesOnAs l c t
lock_holder l c t past a st held = goes l c t a (ForBusy t.state.after) (under l c t past a (ForBusy t.state.after) st
    (λ e. idle_lock t.state.after past a (idle c t.state past a st.standing e) held)
    (λ o xs top below h. lock_waits l c t.noted t.state.after past a o xs top below st.off st.standing.sound h held))
    (λ y n. busy_one l c t past n.0 st n.1)

any_one : (l : Variant) (c : Program) (t : Varied) (past : Past) (a : ℕ) → Stood l c t past
    → is_some (op_at c a (t.state.going a).index) ≡ true → GoesOnAs l c t
any_one l c t past a st i = goes l c t a (ForHolder t.state.after) (under l c t past a (ForHolder t.state.after) st
    (λ e. some (op_at c a (t.state.going a).index) i e)
    (λ o xs top below h. any_waits l c t.noted t.state.after past a o xs top below st.off st.standing.sound h))
    (λ y n. one n.0 n.1)
  where
    some : (x : Option Op) → is_some x ≡ true → x ≡ None → ⊥
    some x j e = cc

    one : (b : ℕ) → IsBusy t.state.after b ⊎ HasMapLock t.state.after b → GoesOnAs l c t
    one b (inl h) = busy_one l c t past b st h
    one b (inr h) = lock_holder l c t past b st h

pub never_stuck_as : NeverStuckAs
never_stuck_as l leave off c sc h d es due a i = any_one l c (varied_after l c h es) st.0 a (record {
  leave = leave;
  off = off;
  phases = phases_on l c (varied_from (state_of c h)) es (phases_of c h);
  standing = st.1;
}) i
  where
    st : (p : Past) × Standing c (varied_after l c h es).state p
    st = stands_after l c h es leave sc d due
