-- Where what is due differs from the definitions, for variants that leave the state as it is found.
use Rattle.std.proofs.Common.{◌≡◌, ◌⊎◌, inl, inr, ℕ, Bool, true, false, ◌&&◌, ◌||◌, not, nat_lt, Option, Some, None}
use Rattle.std.proofs.Common.{List, [], ◌∷◌, refl, sym, ap, ◌∙◌, subst, if◌then◌else◌}
use Rattle.std.proofs.lemmas.Bool.{and_parts}
use Rattle.hm_base.specs.Pages.{Pages}
use Rattle.hm_base.specs.Program.{Program}
use Rattle.hm_base.specs.declared.Place.{Place}
use Rattle.hm_base.specs.declared.cause.Cause.{Cause}
use Rattle.hm_base.specs.declared.ops.Op.{Op}
use Rattle.hm_history.specs.Memory.Words.{least, sys_frame}
use Rattle.hm_history.specs.Memory.Sequences.{seq_ended}
use Rattle.hm_history.specs.Memory.After.{After}
use Rattle.hm_history.specs.Memory.Words.{writable}
use Rattle.hm_history.specs.Kernel.Operation.{op_mirror, op_writes}
use Rattle.hm_history.specs.Kernel.Going.{touch_page, touch_proc, coming}
use Rattle.hm_history.specs.Kernel.Due.{due_phase, due_top, due_guard, due_body, body_or_end, to_tell, progress, failed}
use Rattle.hm_history.specs.Kernel.Due.{fails, repeats}
use Rattle.hm_history.specs.declared.KeptAt.{KeptAt}
use Rattle.hm_history.specs.declared.KeptWhy.{KeptWhy}
use Rattle.hm_history.specs.declared.Kind.{Kind}
use Rattle.hm_history.specs.declared.Why.{Why}
use Rattle.hm_history.specs.declared.Progress.{Progress}
use Rattle.hm_history.specs.declared.phases.Body.{Body}
use Rattle.hm_history.specs.declared.phases.Migrating.{Migrating}
use Rattle.hm_history.specs.declared.phases.MoveStep.{MoveStep}
use Rattle.hm_history.specs.declared.phases.Touch.{Touch}
use Rattle.hm_history.specs.declared.phases.Touch.TheVariants.{Cpu, Walk, Sole}
use Rattle.hm_history.specs.declared.phases.Phase.{Phase}
use Rattle.hm_history.specs.declared.phases.Next.{Next}
use Rattle.hm_history.specs.declared.phases.Next.TheVariants.{Do, Wait}
use Rattle.hm_linux.specs.declared.variant.Variant.{Variant}
use Rattle.hm_linux.specs.Noted.{Noted}
use Rattle.hm_linux.specs.HeldPage.{referrer, kept_step, kept_coming, keeps_referred}
use Rattle.hm_linux.specs.OwnReadOnly.{is_own_page, takes_own, set_fails}
use Rattle.hm_linux.specs.ExclusiveBusy.{place_locker, waits_for_locked, is_of_exclusive, decides_busy, spares_locked}
use Rattle.hm_linux.specs.UnmapLetsIn.{area_first, selects_mapped, sees_mapped}
use Rattle.hm_linux.specs.FirstAttach.{is_in_guard, has_had_mirror, attaches}
use Rattle.hm_linux.specs.WholeSnapshot.{begins_snap, ends_snap}
use Rattle.hm_linux.specs.Variants.{LeaveState}
use Rattle.hm_linux.specs.Instead.{if_on, decides_as, guards_as, due_varied, due_varied_top}

-- the other entry at a page of the operation's own device
pub record TakesOwn (s : After) (o : Op) (j since q : ℕ) (k : Kind) : Type 0 where
  pub is : k ≡ Kind.Runlock (touch_proc s o)
  pub stays : repeats s (op_mirror o) q ≡ false
  pub own : is_own_page s o (touch_proc s o) (touch_page o (Walk j since q)) ≡ true

-- the other entry of a migration, of the page to which it has come: another actor has a reference to its frame
pub record KeepsPage (l : Variant) (n : Noted) (s : After) (a : ℕ) (o : Op) (xs : List Migrating) (top : Phase)
    (k : Kind) : Type 0 where
  pub on : (l.held_page || l.exclusive_pins) ≡ true
  pub page : Migrating
  pub by : ℕ
  pub refers : referrer n a page.source ≡ Some by
  pub comes : coming s o xs top ≡ Some (MoveStep.TakeAndCopy, page)
  pub is : k ≡ Kind.Kept (KeptAt.Page page.page) (KeptWhy.LockedBy by)

-- the other entry in a guard that makes a page exclusive or an ordinary one
pub record EndsUnplaced (s : After) (p : ℕ) (r : Pages) (met : Bool) (told : Option ℕ) (body : Body)
    (k : Kind) : Type 0 where
  pub kind : is_of_exclusive body ≡ true
  pub all_told : to_tell s p r met told ≡ None
  pub is : k ≡ Kind.End p r (seq_ended s.sequences p)

-- which entries are put in place of others at a phase
abbrev pub OtherAt : Variant → Noted → After → ℕ → Op → List Migrating → Phase → Kind → Type 0
OtherAt l n s a o xs (Phase.Pages v) k = (l.whole_snapshot ≡ true) × (k ≡ Kind.Retry (op_mirror o))
OtherAt l n s a o xs (Phase.Decide (Walk j since q)) k = TakesOwn s o j since q k
OtherAt l n s a o xs (Phase.Decide Sole) k = (l.exclusive_busy ≡ true) × (k ≡ fails o 0 Cause.Never)
OtherAt l n s a o xs (Phase.Guard p r met told body) k = EndsUnplaced s p r met told body k
OtherAt l n s a o xs (Phase.Noted j since q x) k = (l.own_read_only ≡ true) × (k ≡ failed o j Cause.Unmapped)
OtherAt l n s a o xs (Phase.Moves step v) k = KeepsPage l n s a o xs (Phase.Moves step v) k
OtherAt l n s a o xs top k = ⊥

-- what is new, if it is an entry, was due, or is one of which this holds
abbrev pub Given : (Kind → Type 0) → Next → Next → Type 0
Given P next new = (k : Kind) → new ≡ Do k → (next ≡ Do k) ⊎ P k

-- the entry that is due, or this one at a wait; and of a turn
abbrev pub entry_or : Kind → Next → Kind
entry_or i (Do k) = k
entry_or i (Wait y) = i

abbrev pub told_or : Kind → Progress → Kind
told_or i (Progress.Did e) = e.kind
told_or i p = i

stays : (P : Kind → Type 0) (next : Next) → Given P next next
stays P next k e = inl e

waits : (P : Kind → Type 0) (next : Next) (why : Why) → Given P next (Wait why)
waits P next why k e = cc

chosen : (P : Kind → Type 0) (b : Bool) (i : Kind) (next : Next) → (b ≡ true → P i)
    → Given P next (if b then Do i else next)
chosen P true i next h k e = inr (subst P (ap (entry_or i) e) (h refl))
chosen P false i next h k e = inl e

joined : (P : Kind → Type 0) (first second third : Next) → Given P first second → Given P second third
    → Given P first third
joined P first second third f g k e = by (g k e)
  where
    by : (second ≡ Do k) ⊎ P k → (first ≡ Do k) ⊎ P k
    by (inl i) = f k i
    by (inr p) = inr p

switched : (P : Kind → Type 0) (b : Bool) (f : Next → Next) (first next : Next)
    → ((x : Next) → b ≡ true → Given P x (f x)) → Given P first next → Given P first (if_on b f next)
switched P false f first next h g = g
switched P true f first next h g = joined P first next (f next) g (h next refl)

off : (P : Kind → Type 0) (b : Bool) (f : Next → Next) (first next : Next) → b ≡ false → Given P first next
    → Given P first (if_on b f next)
off P false f first next e g = g
off P true f first next e g = cc

-- ---- each phase

attach_given : (s : After) (next : Next) → Given (λ k. ⊥) next (attaches s next)
attach_given s (Do (Kind.Attached m d p r q)) = by (least (λ b. is_in_guard p (s.sequences.guard b)) 0 16)
  where
    first : Next
    first = Do (Kind.Attached m d p r q)

    later : (b : ℕ) (had : Bool) → Given (λ k. ⊥) first (if had then first else Wait (Why.MapLock p b))
    later b true = stays (λ k. ⊥) first
    later b false = waits (λ k. ⊥) first (Why.MapLock p b)

    by : (x : Option ℕ) → Given (λ k. ⊥) first (elim x [
      | None ↦ first
      | Some b ↦ if has_had_mirror s p then first else Wait (Why.MapLock p b)
    ])
    by None = stays (λ k. ⊥) first
    by (Some b) = later b (has_had_mirror s p)
attach_given s next = stays (λ k. ⊥) next

begun_given : (s : After) (o : Op) (next : Next) → Given (λ k. ⊥) next (begins_snap s o next)
begun_given s (Op.Snap m r) (Do (Kind.Rlock p)) = by (nat_lt 0 (s.sequences.active p))
  where
    by : (b : Bool) → Given (λ k. ⊥) (Do (Kind.Rlock p))
        (if b then Wait (Why.Invalidating m (s.sequences.seq p)) else Do (Kind.Rlock p))
    by true = waits (λ k. ⊥) (Do (Kind.Rlock p)) (Why.Invalidating m (s.sequences.seq p))
    by false = stays (λ k. ⊥) (Do (Kind.Rlock p))
begun_given s o next = stays (λ k. ⊥) next

-- a snapshot that is repeated
abbrev Repeats : Variant → Op → Kind → Type 0
Repeats l o k = (l.whole_snapshot ≡ true) × (k ≡ Kind.Retry (op_mirror o))

ended_given : (l : Variant) (n : Noted) (a : ℕ) (o : Op) (next : Next) → l.whole_snapshot ≡ true
    → Given (Repeats l o) next (ends_snap n a o next)
ended_given l n a o (Do (Kind.Runlock p)) h =
    chosen (Repeats l o) (n.torn a) (Kind.Retry (op_mirror o)) (Do (Kind.Runlock p)) (λ e. (h, refl))
ended_given l n a o next h = stays (Repeats l o) next

own_given : (s : After) (o : Op) (j since q : ℕ) (next : Next)
    → Given (TakesOwn s o j since q) next (takes_own s o (Walk j since q) next)
own_given s o j since q next =
    chosen (TakesOwn s o j since q) _ (Kind.Runlock (touch_proc s o)) next (λ e. record {
      is = refl;
      stays = not_true (repeats s (op_mirror o) q) (and_parts (not (repeats s (op_mirror o) q)) _ e).0;
      own = (and_parts (not (repeats s (op_mirror o) q)) _ e).1;
    })
  where
    not_true : (b : Bool) → not b ≡ true → b ≡ false
    not_true true e = cc
    not_true false e = refl

-- a write that fails at its commit
abbrev FailsSet : Variant → Op → ℕ → Kind → Type 0
FailsSet l o j k = (l.own_read_only ≡ true) × (k ≡ failed o j Cause.Unmapped)

set_given : (l : Variant) (o : Op) (j : ℕ) (x : Place) (next : Next) → l.own_read_only ≡ true
    → Given (FailsSet l o j) next (set_fails o j x next)
set_given l o j x (Do (Kind.Set m v f w from)) h =
    chosen (FailsSet l o j) (op_writes o && not (writable x)) (failed o j Cause.Unmapped) (Do (Kind.Set m v f w from))
    (λ e. (h, refl))
set_given l o j x next h = stays (FailsSet l o j) next

kept_given : (l : Variant) (n : Noted) (s : After) (a : ℕ) (o : Op) (xs : List Migrating) (top : Phase) (next : Next)
    → (l.held_page || l.exclusive_pins) ≡ true
    → Given (KeepsPage l n s a o xs top) next (keeps_referred n s a o xs top next)
kept_given l n s a o xs top next on = come (coming s o xs top) refl
  where
    P : Kind → Type 0
    P = KeepsPage l n s a o xs top

    step : (m : MoveStep) (x : Migrating) → coming s o xs top ≡ Some (m, x) → Given P next (kept_step n a m x next)
    step MoveStep.TakeAndCopy x e = by (referrer n a x.source) refl
      where
        kept : ℕ → Kind
        kept b = Kind.Kept (KeptAt.Page x.page) (KeptWhy.LockedBy b)

        by : (r : Option ℕ) → referrer n a x.source ≡ r
            → Given P next (elim r [ None ↦ next | Some b ↦ Do (kept b) ])
        by None f = stays P next
        by (Some b) f = λ k i. inr (record {
          on = on;
          page = x;
          by = b;
          refers = f;
          comes = e;
          is = sym (ap (entry_or (kept b)) i);
        })
    step m x e = stays P next

    come : (r : Option (MoveStep × Migrating)) → coming s o xs top ≡ r → Given P next (kept_coming n a r next)
    come None e = stays P next
    come (Some at) e = step at.0 at.1 e

-- ---- all of them

waiting_given : (P : Kind → Type 0) (n : Noted) (s : After) (a : ℕ) (x : Place) (next : Next)
    → Given P next (waits_for_locked n s a x next)
waiting_given P n s a (Place.Exclusive i b) next = by (place_locker n s a (Place.Exclusive i b))
  where
    by : (r : Option ℕ) → Given P next (elim r [ None ↦ next | Some d ↦ Wait (Why.FrameLocked (sys_frame i) d) ])
    by None = stays P next
    by (Some d) = waits P next (Why.FrameLocked (sys_frame i) d)
waiting_given P n s a x next = stays P next

-- a page that is busy
abbrev IsBusy : Variant → Op → Kind → Type 0
IsBusy l o k = (l.exclusive_busy ≡ true) × (k ≡ fails o 0 Cause.Never)

sole_given : (l : Variant) (n : Noted) (s : After) (a : ℕ) (o : Op) (next : Next) → l.exclusive_busy ≡ true
    → Given (IsBusy l o) next (decides_busy n s a o Sole next)
sole_given l n s a o next on = let x : Place = s.places.place (touch_proc s o) (touch_page o Sole) in
    joined (IsBusy l o) next (waits_for_locked n s a x next) (decides_busy n s a o Sole next)
    (waiting_given (IsBusy l o) n s a x next)
    (chosen (IsBusy l o) _ (fails o 0 Cause.Never) (waits_for_locked n s a x next) (λ e. (on, refl)))

decided_given : (l : Variant) (n : Noted) (s : After) (a : ℕ) (o : Op) (xs : List Migrating) (touch : Touch)
    (next : Next) → LeaveState l
    → Given (OtherAt l n s a o xs (Phase.Decide touch)) next (decides_as l n s a o touch next)
decided_given l n s a o xs (Walk j since q) next leave =
    off _ l.unmap_lets_in (area_first s o (Walk j since q)) next _ leave.lets_in
    (switched _ l.own_read_only (takes_own s o (Walk j since q)) next _ (λ x e. own_given s o j since q x)
    (switched _ l.exclusive_busy (decides_busy n s a o (Walk j since q)) next next
    (λ x e. waiting_given _ n s a _ x) (stays _ next)))
decided_given l n s a o xs Sole next leave =
    off _ l.unmap_lets_in (area_first s o Sole) next _ leave.lets_in
    (switched _ l.own_read_only (takes_own s o Sole) next _ (λ x e. stays _ x)
    (switched _ l.exclusive_busy (decides_busy n s a o Sole) next next
    (λ x e. sole_given l n s a o x e) (stays _ next)))
decided_given l n s a o xs (Cpu j) next leave =
    off _ l.unmap_lets_in (area_first s o (Cpu j)) next _ leave.lets_in
    (switched _ l.own_read_only (takes_own s o (Cpu j)) next _ (λ x e. stays _ x)
    (switched _ l.exclusive_busy (decides_busy n s a o (Cpu j)) next next
    (λ x e. waiting_given _ n s a _ x) (stays _ next)))

placed_told : (s : After) (a : ℕ) (o : Op) (p : ℕ) (r : Pages) (met : Bool) (told : Option ℕ) (body : Body)
    (q v : ℕ) (x : Place) → due_guard s a o p r met told body ≡ Kind.Place q v x → to_tell s p r met told ≡ None
placed_told s a o p r met told body q v x = by (to_tell s p r met told) refl
  where
    by : (m : Option ℕ) → to_tell s p r met told ≡ m → elim m [
      | Some i ↦ Kind.Told i r (s.sequences.seq p)
      | None ↦ body_or_end s p r (due_body s a o p r (s.places.place p r.first) body)
    ] ≡ Kind.Place q v x → to_tell s p r met told ≡ None
    by (Some i) e d = cc
    by None e d = e

spared_given : (n : Noted) (s : After) (a : ℕ) (o : Op) (p : ℕ) (r : Pages) (met : Bool) (told : Option ℕ) (body : Body)
    (i : Kind) → due_guard s a o p r met told body ≡ i
    → Given (EndsUnplaced s p r met told body) (Do i) (spares_locked n s a p r body (Do i))
spared_given n s a o p r met told body (Kind.Place q v x) d =
    chosen (EndsUnplaced s p r met told body) _ (Kind.End p r (seq_ended s.sequences p)) (Do (Kind.Place q v x))
    (λ e. record {
      kind = (and_parts (is_of_exclusive body) _ e).0;
      all_told = placed_told s a o p r met told body q v x d;
      is = refl;
    })
spared_given n s a o p r met told body i d = stays (EndsUnplaced s p r met told body) (Do i)

guarded_given : (l : Variant) (n : Noted) (s : After) (a : ℕ) (o : Op) (p : ℕ) (r : Pages) (met : Bool)
    (told : Option ℕ) (body : Body) → LeaveState l
    → Given (EndsUnplaced s p r met told body) (Do (due_guard s a o p r met told body))
    (guards_as l n s a p r body (Do (due_guard s a o p r met told body)))
guarded_given l n s a o p r met told body leave = off P l.unmap_lets_in (selects_mapped s body) next _ leave.lets_in
    (by l.exclusive_busy)
  where
    P : Kind → Type 0
    P = EndsUnplaced s p r met told body

    next : Next
    next = Do (due_guard s a o p r met told body)

    by : (b : Bool) → Given P next (if_on b (spares_locked n s a p r body) next)
    by true = spared_given n s a o p r met told body (due_guard s a o p r met told body) refl
    by false = stays P next

phase_given : (l : Variant) (c : Program) (n : Noted) (s : After) (a : ℕ) (o : Op) (xs : List Migrating) (top : Phase)
    → LeaveState l → Given (OtherAt l n s a o xs top) (due_phase c s a o xs top)
    (due_varied l c n s a o xs top (due_phase c s a o xs top))
phase_given l c n s a o xs Phase.Begin leave = let next : Next = due_phase c s a o xs Phase.Begin in
    switched (λ k. ⊥) l.first_attach (attaches s) next _ (λ x e. attach_given s x)
    (switched (λ k. ⊥) l.whole_snapshot (begins_snap s o) next next (λ x e. begun_given s o x) (stays (λ k. ⊥) next))
phase_given l c n s a o xs (Phase.Pages v) leave = let next : Next = due_phase c s a o xs (Phase.Pages v) in
    off _ l.unmap_lets_in (sees_mapped s) next _ leave.lets_in
    (switched _ l.whole_snapshot (ends_snap n a o) next next (λ x e. ended_given l n a o x e) (stays _ next))
phase_given l c n s a o xs (Phase.Decide touch) leave =
    decided_given l n s a o xs touch (due_phase c s a o xs (Phase.Decide touch)) leave
phase_given l c n s a o xs (Phase.Noted k since q x) leave =
    let next : Next = due_phase c s a o xs (Phase.Noted k since q x) in
    switched _ l.own_read_only (set_fails o k x) next next (λ y e. set_given l o k x y e) (stays _ next)
phase_given l c n s a o xs (Phase.Guard p r met told body) leave = guarded_given l n s a o p r met told body leave
phase_given l c n s a o xs (Phase.Moves step v) leave =
    let next : Next = due_phase c s a o xs (Phase.Moves step v) in
    switched _ (l.held_page || l.exclusive_pins) (keeps_referred n s a o xs (Phase.Moves step v)) next next
    (λ x e. kept_given l n s a o xs (Phase.Moves step v) x e) (stays _ next)
phase_given l c n s a o xs top leave = stays _ (due_phase c s a o xs top)

-- at a stack: the operation, and the phase at its top
pub record Other (l : Variant) (n : Noted) (s : After) (a : ℕ) (x : Option Op) (xs : List Migrating)
    (stack : List Phase) (k : Kind) : Type 0 where
  pub op : Op
  pub top : Phase
  pub below : List Phase
  pub is_op : x ≡ Some op
  pub is_stack : stack ≡ top ∷ below
  pub other : OtherAt l n s a op xs top k

-- what is due is what the definitions say, or such an entry
pub due_or_other : (l : Variant) (c : Program) (n : Noted) (s : After) (a : ℕ) (x : Option Op) (xs : List Migrating)
    (stack : List Phase) (k : Kind) → LeaveState l
    → due_varied_top l c n s a x xs stack ≡ Progress.Did (record { actor = a; kind = k })
    → (due_top c s a x xs stack ≡ Progress.Did (record { actor = a; kind = k })) ⊎ Other l n s a x xs stack k
due_or_other l c n s a (Some o) xs (top ∷ below) k leave d =
    by (due_varied l c n s a o xs top (due_phase c s a o xs top)) (phase_given l c n s a o xs top leave) d
  where
    by : (new : Next) → Given (OtherAt l n s a o xs top) (due_phase c s a o xs top) new
        → progress a new ≡ Progress.Did (record { actor = a; kind = k })
        → (due_top c s a (Some o) xs (top ∷ below) ≡ Progress.Did (record { actor = a; kind = k }))
        ⊎ Other l n s a (Some o) xs (top ∷ below) k
    by (Wait y) g e = cc
    by (Do i) g e = at (g i refl)
      where
        same : i ≡ k
        same = ap (told_or i) e

        at : (due_phase c s a o xs top ≡ Do i) ⊎ OtherAt l n s a o xs top i
            → (due_top c s a (Some o) xs (top ∷ below) ≡ Progress.Did (record { actor = a; kind = k }))
            ⊎ Other l n s a (Some o) xs (top ∷ below) k
        at (inl j) = inl (ap (progress a) (j ∙ ap Do same))
        at (inr p) = inr (record {
          op = o;
          top = top;
          below = below;
          is_op = refl;
          is_stack = refl;
          other = subst (OtherAt l n s a o xs top) same p;
        })
due_or_other l c n s a None xs stack k leave d = cc
due_or_other l c n s a (Some o) xs [] k leave d = cc
