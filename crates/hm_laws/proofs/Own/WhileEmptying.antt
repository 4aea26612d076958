-- What stands below while a frame is emptied stays, and is taken up again afterwards.
use Rattle.std.proofs.Common.{◌≡◌, ◌≢◌, ℕ, ◌+◌, ◌≤◌, Bool, true, false, ◌||◌, if◌then◌else◌, not, ◌⊎◌, inl, inr, arith, is_some, Some, None, List, [], ◌∷◌, ◌++◌, append-nil, refl, sym, ap, ◌∙◌, subst}
use Rattle.std.proofs.lemmas.Bool.{and_parts, not-true}
use Rattle.hm_base.specs.Areas.{rights_at}
use Rattle.hm_base.specs.Program.{Program}
use Rattle.hm_base.specs.declared.Frame.{Frame}
use Rattle.hm_base.specs.declared.ops.Op.{Op}
use Rattle.hm_history.specs.Memory.Plain.{proc_of, rights_of}
use Rattle.hm_history.specs.Memory.After.{After}
use Rattle.hm_history.specs.Kernel.Operation.{is_remove, is_evicting}
use Rattle.hm_history.specs.Kernel.Stacks.{with_one_more, gives_up, frames_past}
use Rattle.hm_history.specs.declared.Who.{Who}
use Rattle.hm_history.specs.declared.Kind.{Kind}
use Rattle.hm_history.specs.declared.phases.Migrating.{Migrating}
use Rattle.hm_history.specs.declared.phases.Phase.{Phase}
use Rattle.hm_laws.specs.Past.{Past, past_next}
use Rattle.hm_laws.specs.Sound.{Sound}
use Rattle.hm_laws.specs.Allowed.{next, ReadsThere, Allowed}
use Rattle.hm_laws.specs.Records.{apart_from}
use Rattle.hm_laws.proofs.Own.Facts.{Keeping}
use Rattle.hm_laws.proofs.Own.Records.{migrating_on}
use Rattle.hm_laws.proofs.Other.Cleared.{gone_for, clearing_own, clear_past}
use Rattle.hm_history.specs.Memory.Words.{dev_frame}
use Rattle.hm_laws.specs.Facts.{Clear, catches, keeps_on, of_system, returns_to, No_guard, Locks_only, May_read, Holds, under, held, held_under, beneath, facts, HoldsAll}
use Rattle.std.specs.List.{list_any}
use Rattle.hm_history.specs.Memory.Words.{same_frame}
use Rattle.hm_laws.specs.Spares.{Apart}
use Rattle.hm_laws.proofs.Other.Mirrors.{who_keeps}
use Rattle.hm_laws.proofs.Other.Lookups.{is_begin, touches_own}
use Rattle.hm_history.proofs.Tests.{true_false}
use Rattle.hm_history.proofs.Frames.{frame_tells}

-- an entry of the actor that leaves its mmap lock and the areas as they are
pub record Steady (s : After) (a : ℕ) (k : Kind) : Type 0 where
  pub clear : (f : Frame) → Clear s a f → (k ≡ Kind.Done f → ⊥) → Clear (next s a k) a f
  pub no_begin : is_begin k ≡ false
  pub map : (next s a k).locks.map a ≡ s.locks.map a
  pub there : (p : ℕ) → (next s a k).plain.there p ≡ s.plain.there p
  pub areas : (p : ℕ) → (next s a k).plain.areas p ≡ s.plain.areas p

pub one_more : (n m : ℕ) → n ≤ m → n ≤ m + 1
one_more n m h = omega (arith, h)

may_read_own : (c : Program) (s : After) (t : Past) (a : ℕ) (k : Kind) → Allowed c s t a k → Steady s a k → (x : Who) (v : ℕ) → Holds s t a (May_read x v) → Holds (next s a k) (past_next t s.length a k) a (May_read x v)
may_read_own c s t a k ok st x v h = let w = who_keeps c s t a k ok x h.0 in
    (w.0, subst (ReadsThere (next s a k) a) (sym w.1) (st.map ∙ h.1.0, st.there (proc_of s.plain x) ∙ h.1.1), ap (λ p. is_some (rights_of (next s a k).plain p v)) w.1 ∙ ap (λ as_. is_some (rights_at as_ v)) (st.areas (proc_of s.plain x)) ∙ h.2)

pub under_on : (c : Program) (s : After) (t : Past) (a : ℕ) (k : Kind) → Sound c s t → Allowed c s t a k → Steady s a k → (o : Op) → (below : List Phase) → ((d j v n : ℕ) → k ≡ Kind.Done (dev_frame d j) → below ≡ Phase.Frames v n ∷ [] → is_remove o ≡ false) → HoldsAll s t a (under o below) → HoldsAll (next s a k) (past_next t s.length a k) a (under o below)
under_on c s t a k so ok st o (Phase.Decide touch ∷ []) done h = (touches_own c s t a k so ok st.no_begin o touch h.0, (may_read_own c s t a k ok st _ _ h.1.0, tt))
under_on c s t a k so ok st o (Phase.GiveUp (Some touch) ∷ []) done h = (touches_own c s t a k so ok st.no_begin o touch h.0, (may_read_own c s t a k ok st _ _ h.1.0, tt))
under_on c s t a k so ok st o (Phase.Frames v n ∷ []) done h = (h.0, (clearing_own c s t a k ok st.clear o (λ d j e. done d j v n e refl) v h.1.0, (gone_for s a k o h.1.1.0, (st.map ∙ h.1.1.1.0, (one_more n s.length h.1.1.1.1.0, tt)))))
under_on c s t a k so ok st o (Phase.GiveUp None ∷ []) done h = (h.0, (st.map ∙ h.1.0, tt))
under_on c s t a k so ok st o below done h = absurd h.0

-- the frame is emptied, or is not to be
pub resting : (s : After) (t : Past) (a : ℕ) (o : Op) (xs : List Migrating) (below : List Phase) → HoldsAll s t a (under o below) → Holds s t a No_guard → Holds s t a (Locks_only []) → HoldsAll s t a (facts o xs below)
resting s t a o xs (Phase.Decide touch ∷ []) h g l = (h.0, ((h.1.0.0, h.1.0.1.0), (g, (l, tt))))
resting s t a o xs (Phase.GiveUp (Some touch) ∷ []) h g l = (g, (l, h))
resting s t a o xs (Phase.GiveUp None ∷ []) h g l = (g, (l, h))
resting s t a o xs (Phase.Frames v n ∷ []) h g l = (h.0, (h.1.0, (h.1.1.1.1.0, (h.1.1.1.0, (g, (l, tt))))))
resting s t a o xs below h g l = absurd h.0

-- with one more frame counted, after an entry
both_more : (n m k : ℕ) → k ≡ m + 1 → n ≤ m → n + 1 ≤ k
both_more n m k e h = omega (arith, e, h)

pub under_counted : (r s : After) (t : Past) (a : ℕ) (o : Op) (below : List Phase) → s.length ≡ r.length + 1 → HoldsAll r t a (under o below) → HoldsAll s t a (under o below) → HoldsAll s t a (under o (with_one_more below))
under_counted r s t a o (Phase.Decide touch ∷ []) e old h = h
under_counted r s t a o (Phase.GiveUp (Some touch) ∷ []) e old h = h
under_counted r s t a o (Phase.GiveUp None ∷ []) e old h = h
under_counted r s t a o (Phase.Frames v n ∷ []) e old h = (h.0, (h.1.0, (h.1.1.0, (h.1.1.1.0, (both_more n r.length s.length e old.1.1.1.1.0, tt)))))
under_counted r s t a o below e old h = absurd h.0

pub under_past : (s : After) (t : Past) (a : ℕ) (o : Op) (f : Frame) (below : List Phase) → s.locks.frame f ≡ Some a → catches o f below ≡ true → HoldsAll s t a (under o below) → HoldsAll s t a (under o (frames_past f below))
under_past s t a o f (Phase.Decide touch ∷ []) m e h = h
under_past s t a o f (Phase.GiveUp (Some touch) ∷ []) m e h = h
under_past s t a o f (Phase.GiveUp None ∷ []) m e h = h
under_past s t a o f (Phase.Frames v n ∷ []) m e h = (h.0, (clear_past s a o f v m e h.1.1.0 h.1.0, h.1.1))
under_past s t a o f below m e h = absurd h.0

-- a removal does not go on after a frame that is kept
pub kept_on : (s : After) (t : Past) (a : ℕ) (o : Op) (below : List Phase) → HoldsAll s t a (under o below) → keeps_on o (gives_up o below) ≡ true
kept_on s t a o (Phase.Decide touch ∷ []) h = refl
kept_on s t a o (Phase.GiveUp (Some touch) ∷ []) h = refl
kept_on s t a o (Phase.GiveUp None ∷ []) h = refl
kept_on s t a o (Phase.Frames v n ∷ []) h = by (is_remove o) refl
  where
    by : (b : Bool) → is_remove o ≡ b → keeps_on o (elim (if b then Some (Phase.GiveUp None) else None) as (λ x. List Phase) [ Some y ↦ y ∷ [] | None ↦ Phase.Frames v n ∷ [] ]) ≡ true
    by true e = refl
    by false e = ap not e
kept_on s t a o below h = absurd h.0

-- so that who is done with a frame is no removal, where that goes on
pub not_removing : (s : After) (t : Past) (a : ℕ) (o : Op) (xs : List Migrating) (l : List Frame) (below : List Phase) → HoldsAll s t a (beneath o xs l below) → keeps_on o below ≡ true → (is_remove o ≡ false) ⊎ ((v n : ℕ) → below ≡ Phase.Frames v n ∷ [] → ⊥)
not_removing s t a o xs l (Phase.Decide touch ∷ []) h k = inr (λ v n e. cc)
not_removing s t a o xs l (Phase.GiveUp None ∷ []) h k = inr (λ v n e. cc)
not_removing s t a o xs l (Phase.GiveUp (Some touch) ∷ []) h k = inr (λ v n e. cc)
not_removing s t a o xs l (Phase.Frames v n ∷ []) h k = inl (not-true (is_remove o) k)
not_removing s t a o xs l (Phase.Moves step v ∷ []) h k = inr (λ v n e. cc)
not_removing s t a o xs l below h k = absurd h.0

pub under_given_up : (s : After) (t : Past) (a : ℕ) (o : Op) (below : List Phase) → HoldsAll s t a (under o below) → HoldsAll s t a (under o (gives_up o below))
under_given_up s t a o (Phase.Decide touch ∷ []) h = h
under_given_up s t a o (Phase.GiveUp (Some touch) ∷ []) h = h
under_given_up s t a o (Phase.GiveUp None ∷ []) h = h
under_given_up s t a o (Phase.Frames v n ∷ []) h = by (is_remove o) refl
  where
    by : (b : Bool) → is_remove o ≡ b → HoldsAll s t a (under o (elim (if b then Some (Phase.GiveUp None) else None) as (λ x. List Phase) [ Some y ↦ y ∷ [] | None ↦ Phase.Frames v n ∷ [] ]))
    by true e = (e, (h.1.1.1.0, tt))
    by false e = h
under_given_up s t a o below h = absurd h.0

-- what stands below while pages return
pub no_held : (s : After) (t : Past) (a : ℕ) (o : Op) (xs : List Migrating) (below : List Phase) → HoldsAll s t a (under o below) → held_under o xs below ≡ []
no_held s t a o xs (Phase.Decide touch ∷ []) h = refl
no_held s t a o xs (Phase.GiveUp (Some touch) ∷ []) h = refl
no_held s t a o xs (Phase.GiveUp None ∷ []) h = refl
no_held s t a o xs (Phase.Frames v n ∷ []) h = refl
no_held s t a o xs below h = absurd h.0

pub still_only : (s : After) (t : Past) (a : ℕ) (o : Op) (xs : List Migrating) (l : List Frame) (below : List Phase) → HoldsAll s t a (under o below) → Holds s t a (Locks_only l) → Holds s t a (Locks_only (l ++ held_under o xs below))
still_only s t a o xs l below h k = subst (λ z. Holds s t a (Locks_only (l ++ z))) (sym (no_held s t a o xs below h)) (subst (λ z. Holds s t a (Locks_only z)) (sym (append-nil l)) k)

pub to_beneath : (s : After) (t : Past) (a : ℕ) (o : Op) (xs : List Migrating) (l : List Frame) (below : List Phase) → HoldsAll s t a (under o below) → HoldsAll s t a (beneath o xs l below)
to_beneath s t a o xs l (Phase.Decide touch ∷ []) h = h
to_beneath s t a o xs l (Phase.GiveUp (Some touch) ∷ []) h = h
to_beneath s t a o xs l (Phase.GiveUp None ∷ []) h = h
to_beneath s t a o xs l (Phase.Frames v n ∷ []) h = h
to_beneath s t a o xs l below h = absurd h.0

pub beneath_less : (s : After) (t : Past) (a : ℕ) (o : Op) (xs : List Migrating) (f : Frame) (l : List Frame) (below : List Phase) → HoldsAll s t a (beneath o xs (f ∷ l) below) → HoldsAll s t a (beneath o xs l below)
beneath_less s t a o xs f l (Phase.Decide touch ∷ []) h = h
beneath_less s t a o xs f l (Phase.GiveUp (Some touch) ∷ []) h = h
beneath_less s t a o xs f l (Phase.GiveUp None ∷ []) h = h
beneath_less s t a o xs f l (Phase.Frames v n ∷ []) h = h
beneath_less s t a o xs f l (Phase.Moves step v ∷ []) h = (h.0, ((and_parts _ (apart_from l (held o xs step v None)) h.1.0).1, h.1.1))
beneath_less s t a o xs f l below h = absurd h.0

-- the frames in hand are none of those that are locked below
off_each : (l fs : List Frame) → apart_from l fs ≡ true → (f i : Frame) → list_any (same_frame f) l ≡ true → list_any (same_frame i) fs ≡ true → i ≡ f → ⊥
off_each [] fs h f i m n e = cc
off_each (g ∷ l) fs h f i m n e = by (λ k. off_each l fs (and_parts (not (list_any (same_frame g) fs)) _ h).1 f i k n e) (frame_tells f g)
  where
    rest : (b : Bool) → b ≡ false → (b || list_any (same_frame f) l) ≡ true → list_any (same_frame f) l ≡ true
    rest b z k = grind arith

    by : (list_any (same_frame f) l ≡ true → ⊥) → ((same_frame f g ≡ true) × (f ≡ g)) ⊎ ((same_frame f g ≡ false) × (f ≢ g)) → ⊥
    by go (inl k) = true_false (list_any (same_frame g) fs) (subst (λ j. list_any (same_frame j) fs ≡ true) (e ∙ k.1) n) (not-true (list_any (same_frame g) fs) (and_parts _ (apart_from l fs) h).0)
    by go (inr k) = go (rest (same_frame f g) k.0 m)

pub apart_below : (s : After) (t : Past) (a : ℕ) (o : Op) (xs : List Migrating) (l : List Frame) (below : List Phase) → HoldsAll s t a (beneath o xs l below) → (f i : Frame) → list_any (same_frame f) l ≡ true → list_any (same_frame i) (held_under o xs below) ≡ true → i ≡ f → ⊥
apart_below s t a o xs l (Phase.Decide touch ∷ []) h f i m n e = cc
apart_below s t a o xs l (Phase.GiveUp (Some touch) ∷ []) h f i m n e = cc
apart_below s t a o xs l (Phase.GiveUp None ∷ []) h f i m n e = cc
apart_below s t a o xs l (Phase.Frames v n ∷ []) h f i m k e = cc
apart_below s t a o xs l (Phase.Moves step v ∷ []) h f i m n e = off_each l (held o xs step v None) h.1.0 f i m n e
apart_below s t a o xs l below h f i m n e = absurd h.0

keeping : (s : After) (a : ℕ) (k : Kind) → Steady s a k → Keeping s a k
keeping s a k st = record { map = st.map; there = st.there; areas = st.areas }

pub beneath_on : (c : Program) (s : After) (t : Past) (a : ℕ) (k : Kind) → Sound c s t → Allowed c s t a k → Steady s a k → (o : Op) (xs : List Migrating) (l : List Frame) (below : List Phase) → ((d j v n : ℕ) → k ≡ Kind.Done (dev_frame d j) → below ≡ Phase.Frames v n ∷ [] → is_remove o ≡ false) →
    ((i : Frame) → list_any (same_frame i) (held_under o xs below) ≡ true → Apart s k i) → HoldsAll s t a (beneath o xs l below) → HoldsAll (next s a k) (past_next t s.length a k) a (beneath o xs l below)
beneath_on c s t a k so ok st o xs l (Phase.Decide touch ∷ []) done spare h = under_on c s t a k so ok st o (Phase.Decide touch ∷ []) done h
beneath_on c s t a k so ok st o xs l (Phase.GiveUp (Some touch) ∷ []) done spare h = under_on c s t a k so ok st o (Phase.GiveUp (Some touch) ∷ []) done h
beneath_on c s t a k so ok st o xs l (Phase.GiveUp None ∷ []) done spare h = under_on c s t a k so ok st o (Phase.GiveUp None ∷ []) done h
beneath_on c s t a k so ok st o xs l (Phase.Frames v n ∷ []) done spare h = under_on c s t a k so ok st o (Phase.Frames v n ∷ []) done h
beneath_on c s t a k so ok st o xs l (Phase.Moves step v ∷ []) done spare h = (h.0, (h.1.0, migrating_on c s t a k so ok (keeping s a k st) o xs step v None spare h.1.1))
beneath_on c s t a k so ok st o xs l below done spare h = absurd h.0

pub resting_beneath : (s : After) (t : Past) (a : ℕ) (o : Op) (xs : List Migrating) (l : List Frame) (below : List Phase) → HoldsAll s t a (beneath o xs l below) → Holds s t a No_guard → Holds s t a (Locks_only (held_under o xs below)) → HoldsAll s t a (facts o xs below)
resting_beneath s t a o xs l (Phase.Decide touch ∷ []) h g k = resting s t a o xs (Phase.Decide touch ∷ []) h g k
resting_beneath s t a o xs l (Phase.GiveUp (Some touch) ∷ []) h g k = resting s t a o xs (Phase.GiveUp (Some touch) ∷ []) h g k
resting_beneath s t a o xs l (Phase.GiveUp None ∷ []) h g k = resting s t a o xs (Phase.GiveUp None ∷ []) h g k
resting_beneath s t a o xs l (Phase.Frames v n ∷ []) h g k = resting s t a o xs (Phase.Frames v n ∷ []) h g k
resting_beneath s t a o xs l (Phase.Moves step v ∷ []) h g k = (g, (k, h.1.1))
resting_beneath s t a o xs l below h g k = absurd h.0

-- a frame to which pages return while a device is emptied is the system's
pub to_system : (s : After) (t : Past) (a : ℕ) (o : Op) (xs : List Migrating) (l : List Frame) (g : Frame) (v n : ℕ) (below : List Phase) → HoldsAll s t a (beneath o xs l below) → returns_to o g ≡ true → below ≡ Phase.Frames v n ∷ [] → of_system g ≡ true
to_system s t a o xs l g v n below h r e = by o (subst (λ z. HoldsAll s t a (beneath o xs l z)) e h).0 r
  where
    sure : (b : Bool) → (b || false) ≡ true → b ≡ true
    sure b k = grind arith

    by : (o : Op) → is_evicting o ≡ true → returns_to o g ≡ true → of_system g ≡ true
    by (Op.Evict d) i k = sure (of_system g) k
    by (Op.Remove d) i k = sure (of_system g) k
    by o i k = cc
