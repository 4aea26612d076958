-- With any variants, what is due is what the definitions say, or one of few others.
use Rattle.std.proofs.Common.{◌≡◌, ◌⊎◌, inl, inr, ℕ, Bool, true, false, ◌||◌, nat_lt}
use Rattle.std.proofs.Common.{Option, Some, None, List, ◌∷◌, refl, sym, ap, subst, if◌then◌else◌}
use Rattle.hm_base.specs.Pages.{Pages}
use Rattle.hm_base.specs.Program.{Program}
use Rattle.hm_base.specs.declared.Place.{Place}
use Rattle.hm_base.specs.declared.cause.Cause.{Cause}
use Rattle.hm_base.specs.declared.ops.Op.{Op}
use Rattle.hm_history.specs.Memory.After.{After}
use Rattle.hm_history.specs.Kernel.Going.{op_at, touch_page, touch_proc, coming}
use Rattle.hm_history.specs.Memory.Words.{least, sys_frame}
use Rattle.hm_history.specs.declared.Why.{Why}
use Rattle.hm_history.specs.Kernel.Operation.{is_exclusive_op}
use Rattle.hm_history.specs.Kernel.Due.{due_phase, due_top, progress, fails, failed}
use Rattle.hm_history.specs.declared.KeptAt.{KeptAt}
use Rattle.hm_history.specs.declared.KeptWhy.{KeptWhy}
use Rattle.hm_history.specs.declared.Kind.{Kind}
use Rattle.std.proofs.lemmas.Bool.{and_from, or_left, or_right}
use Rattle.hm_history.specs.declared.phases.Body.{Body}
use Rattle.hm_history.specs.declared.phases.Migrating.{Migrating}
use Rattle.hm_history.specs.declared.phases.MoveStep.{MoveStep}
use Rattle.hm_history.specs.declared.phases.Touch.{Touch}
use Rattle.hm_history.specs.declared.phases.Touch.TheVariants.{Sole, Walk}
use Rattle.hm_history.specs.declared.phases.Phase.{Phase}
use Rattle.hm_history.specs.declared.phases.Next.{Next}
use Rattle.hm_history.specs.declared.phases.Next.TheVariants.{Do, Wait}
use Rattle.hm_linux.specs.declared.variant.Variant.{Variant}
use Rattle.hm_linux.specs.Noted.{Noted}
use Rattle.hm_linux.specs.HeldPage.{referrer, kept_step, kept_coming, keeps_referred}
use Rattle.hm_linux.specs.OwnReadOnly.{takes_own, set_fails}
use Rattle.hm_linux.specs.ExclusiveBusy.{place_locker, waits_for_locked, busy_fails, decides_busy, spares_locked}
use Rattle.hm_linux.specs.UnmapLetsIn.{area_first, selects_mapped, sees_mapped}
use Rattle.hm_linux.specs.FirstAttach.{is_in_guard, has_had_mirror, attaches}
use Rattle.hm_linux.specs.WholeSnapshot.{begins_snap, ends_snap}
use Rattle.hm_linux.specs.Instead.{found, if_on, decides_as, due_varied, due_varied_top}
use Rattle.hm_linux.specs.Variants.{is_other, is_other_turn, Stays}
use Rattle.hm_linux.specs.Laws.{OthersAreFew}

-- ---- one entry in place of another

either : (l : Variant) (b : Bool) (k : Kind) (next : Next) → is_other l (Do k) ≡ true
    → Stays l next (if b then Do k else next)
either l true k next o = inr o
either l false k next o = inl refl

fails_other : (l : Variant) (o : Op) (k : ℕ) (why : Cause) → is_other l (Do (Kind.Refused why)) ≡ true
    → is_other l (Do (fails o k why)) ≡ true
fails_other l o k why h = by (is_exclusive_op o)
  where
    by : (b : Bool) → is_other l (Do (elim b [ true ↦ Kind.Refused why | false ↦ failed o k why ])) ≡ true
    by true = h
    by false = h

-- ---- each variant

held_stays : (l : Variant) (n : Noted) (a : ℕ) (at : Option (MoveStep × Migrating)) (next : Next)
    → (l.held_page || l.exclusive_pins) ≡ true → Stays l next (kept_coming n a at next)
held_stays l n a None next h = inl refl
held_stays l n a (Some at) next h = step at.0
  where
    by : (r : Option ℕ) → Stays l next
        (elim r [ None ↦ next | Some b ↦ Do (Kind.Kept (KeptAt.Page at.1.page) (KeptWhy.LockedBy b)) ])
    by None = inl refl
    by (Some b) = inr h

    step : (m : MoveStep) → Stays l next (kept_step n a m at.1 next)
    step MoveStep.TakeAndCopy = by (referrer n a at.1.source)
    step m = inl refl

own_stays : (l : Variant) (s : After) (o : Op) (touch : Touch) (next : Next) → l.own_read_only ≡ true
    → Stays l next (takes_own s o touch next)
own_stays l s o (Walk k since q) next h = either l _ _ next h
own_stays l s o touch next h = inl refl

set_stays : (l : Variant) (o : Op) (k : ℕ) (x : Place) (next : Next) → l.own_read_only ≡ true
    → Stays l next (set_fails o k x next)
set_stays l o k x (Do (Kind.Set m v f w from)) h =
    either l _ _ (Do (Kind.Set m v f w from)) (or_left l.own_read_only l.unmap_lets_in h)
set_stays l o k x next h = inl refl

locked_stays : (l : Variant) (n : Noted) (s : After) (a : ℕ) (x : Place) (next : Next) → l.exclusive_busy ≡ true
    → Stays l next (waits_for_locked n s a x next)
locked_stays l n s a (Place.Exclusive i b) next h = by (place_locker n s a (Place.Exclusive i b))
  where
    by : (r : Option ℕ) → Stays l next
        (elim r [ None ↦ next | Some d ↦ Wait (Why.FrameLocked (sys_frame i) d) ])
    by None = inl refl
    by (Some d) = inr (or_left l.exclusive_busy (l.first_attach || l.whole_snapshot) h)
locked_stays l n s a x next h = inl refl

spared_stays : (l : Variant) (n : Noted) (s : After) (a p : ℕ) (r : Pages) (body : Body) (next : Next) → l.exclusive_busy ≡ true
    → Stays l next (spares_locked n s a p r body next)
spared_stays l n s a p r body (Do (Kind.Place q v x)) h = either l _ _ (Do (Kind.Place q v x)) h
spared_stays l n s a p r body next h = inl refl

area_stays : (l : Variant) (s : After) (o : Op) (touch : Touch) (next : Next) → l.unmap_lets_in ≡ true
    → Stays l next (area_first s o touch next)
area_stays l s o Sole next h =
    either l _ _ next (fails_other l o 0 Cause.Unmapped (or_right l.own_read_only l.unmap_lets_in h))
area_stays l s o touch next h = inl refl

selected_stays : (l : Variant) (s : After) (body : Body) (next : Next) → l.unmap_lets_in ≡ true
    → Stays l next (selects_mapped s body next)
selected_stays l s (Body.Select n) (Do (Kind.Place p v x)) h = either l _ _ (Do (Kind.Place p v x)) h
selected_stays l s body next h = inl refl

seen_stays : (l : Variant) (s : After) (next : Next) → l.unmap_lets_in ≡ true → Stays l next (sees_mapped s next)
seen_stays l s (Do (Kind.Seen m v x)) h = either l _ _ (Do (Kind.Seen m v x)) (and_from l.unmap_lets_in true h refl)
seen_stays l s next h = inl refl

may_wait : (l : Variant) → (l.first_attach || l.whole_snapshot) ≡ true
    → (l.exclusive_busy || (l.first_attach || l.whole_snapshot)) ≡ true
may_wait l h = or_right l.exclusive_busy (l.first_attach || l.whole_snapshot) h

attach_stays : (l : Variant) (s : After) (next : Next) → l.first_attach ≡ true → Stays l next (attaches s next)
attach_stays l s (Do (Kind.Attached m d p r q)) h = by (least (λ b. is_in_guard p (s.sequences.guard b)) 0 16)
  where
    waits : (x : Option ℕ) → (b : ℕ) → (t : Bool) → Stays l (Do (Kind.Attached m d p r q))
        (if t then Do (Kind.Attached m d p r q) else Wait (Why.MapLock p b))
    waits x b true = inl refl
    waits x b false = inr (may_wait l (or_left l.first_attach l.whole_snapshot h))

    by : (x : Option ℕ) → Stays l (Do (Kind.Attached m d p r q)) (elim x [
      | None ↦ Do (Kind.Attached m d p r q)
      | Some b ↦ if has_had_mirror s p then Do (Kind.Attached m d p r q) else Wait (Why.MapLock p b)
    ])
    by None = inl refl
    by (Some b) = waits (Some b) b (has_had_mirror s p)
attach_stays l s next h = inl refl

begun_stays : (l : Variant) (s : After) (o : Op) (next : Next) → l.whole_snapshot ≡ true
    → Stays l next (begins_snap s o next)
begun_stays l s (Op.Snap m r) (Do (Kind.Rlock p)) h = by (nat_lt 0 (s.sequences.active p))
  where
    by : (b : Bool) → Stays l (Do (Kind.Rlock p))
        (if b then Wait (Why.Invalidating m (s.sequences.seq p)) else Do (Kind.Rlock p))
    by true = inr (may_wait l (or_right l.first_attach l.whole_snapshot h))
    by false = inl refl
begun_stays l s o next h = inl refl

ended_stays : (l : Variant) (n : Noted) (a : ℕ) (o : Op) (next : Next) → l.whole_snapshot ≡ true
    → Stays l next (ends_snap n a o next)
ended_stays l n a o (Do (Kind.Runlock p)) h = either l _ _ (Do (Kind.Runlock p)) h
ended_stays l n a o next h = inl refl

-- ---- one after the other

both : (l : Variant) (first second third : Next) → Stays l first second → Stays l second third → Stays l first third
both l first second third x (inr o) = inr o
both l first second third x (inl e) = subst (λ y. Stays l first y) (sym e) x

on_stays : (l : Variant) (b : Bool) (f : Next → Next) (first next : Next)
    → ((x : Next) → b ≡ true → Stays l x (f x)) → Stays l first next → Stays l first (if_on b f next)
on_stays l false f first next h x = x
on_stays l true f first next h x = both l first next (f next) x (h next refl)

busy_stays : (l : Variant) (n : Noted) (s : After) (a : ℕ) (o : Op) (touch : Touch) (next : Next)
    → l.exclusive_busy ≡ true → Stays l next (decides_busy n s a o touch next)
busy_stays l n s a o Sole next h = let x : Place = s.places.place (touch_proc s o) (touch_page o Sole) in
    both l next (waits_for_locked n s a x next) (busy_fails n s a o x (waits_for_locked n s a x next))
    (locked_stays l n s a x next h)
    (either l _ _ (waits_for_locked n s a x next) (fails_other l o 0 Cause.Never h))
busy_stays l n s a o touch next h =
    locked_stays l n s a (s.places.place (touch_proc s o) (touch_page o touch)) next h

decided_stays : (l : Variant) (n : Noted) (s : After) (a : ℕ) (o : Op) (touch : Touch) (next : Next)
    → Stays l next (decides_as l n s a o touch next)
decided_stays l n s a o touch next =
    on_stays l l.unmap_lets_in (area_first s o touch) next _ (area_stays l s o touch)
    (on_stays l l.own_read_only (takes_own s o touch) next _ (own_stays l s o touch)
    (on_stays l l.exclusive_busy (decides_busy n s a o touch) next next (busy_stays l n s a o touch) (inl refl)))

pub varied_stays : (l : Variant) (c : Program) (n : Noted) (s : After) (a : ℕ) (o : Op) (xs : List Migrating)
    (top : Phase) (next : Next) → Stays l next (due_varied l c n s a o xs top next)
varied_stays l c n s a o xs Phase.Begin next =
    on_stays l l.first_attach (attaches s) next _ (attach_stays l s)
    (on_stays l l.whole_snapshot (begins_snap s o) next next (begun_stays l s o) (inl refl))
varied_stays l c n s a o xs (Phase.Pages v) next =
    on_stays l l.unmap_lets_in (sees_mapped s) next _ (seen_stays l s)
    (on_stays l l.whole_snapshot (ends_snap n a o) next next (ended_stays l n a o) (inl refl))
varied_stays l c n s a o xs (Phase.Decide touch) next = decided_stays l n s a o touch next
varied_stays l c n s a o xs (Phase.Noted k since q x) next =
    on_stays l l.own_read_only (set_fails o k x) next next (set_stays l o k x) (inl refl)
varied_stays l c n s a o xs (Phase.Guard p r met told body) next =
    on_stays l l.unmap_lets_in (selects_mapped s body) next _ (selected_stays l s body)
    (on_stays l l.exclusive_busy (spares_locked n s a p r body) next next (spared_stays l n s a p r body) (inl refl))
varied_stays l c n s a o xs (Phase.Moves step v) next =
    on_stays l (l.held_page || l.exclusive_pins) (keeps_referred n s a o xs (Phase.Moves step v)) next next
    (held_stays l n a (coming s o xs (Phase.Moves step v))) (inl refl)
varied_stays l c n s a o xs top next = inl refl

turn_stays : (l : Variant) (a : ℕ) (next new : Next) → Stays l next new
    → (progress a new ≡ progress a next) ⊎ (is_other_turn l (progress a new) ≡ true)
turn_stays l a next new (inl e) = inl (ap (progress a) e)
turn_stays l a next (Do k) (inr o) = inr o
turn_stays l a next (Wait why) (inr o) = inr o

top_stays : (l : Variant) (c : Program) (n : Noted) (s : After) (a : ℕ) (o : Option Op) (xs : List Migrating)
    (stack : List Phase)
    → (due_varied_top l c n s a o xs stack ≡ due_top c s a o xs stack)
    ⊎ (is_other_turn l (due_varied_top l c n s a o xs stack) ≡ true)
top_stays l c n s a (Some o) xs (top ∷ below) = let next : Next = due_phase c s a o xs top in
    turn_stays l a next (due_varied l c n s a o xs top next) (varied_stays l c n s a o xs top next)
top_stays l c n s a o xs stack = inl refl

pub others_are_few : OthersAreFew
others_are_few l c t a = let g = t.state.going a in
    top_stays l c t.noted (found l c t) a (op_at c a g.index) g.pages g.stack
