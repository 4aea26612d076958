-- Who is inside a guard, has an mmap lock for writing or a frame locked goes on at once.
use Rattle.std.proofs.Common.{◌≡◌, ◌⊎◌, ℕ, inl, inr, Bool, true, false, is_some, Option, None, List, [], ◌∷◌, refl, sym, ap, ◌∙◌, subst}
use Rattle.std.specs.List.{list_any}
use Rattle.hm_base.specs.Program.{Program}
use Rattle.hm_base.specs.declared.ops.Op.{Op}
use Rattle.hm_history.specs.Memory.After.{After}
use Rattle.hm_history.specs.Kernel.Going.{state_of}
use Rattle.hm_history.specs.Kernel.Due.{due_in, due_phase, progress}
use Rattle.hm_history.specs.declared.Entry.{Entry}
use Rattle.hm_history.specs.declared.phases.Migrating.{Migrating}
use Rattle.hm_history.specs.declared.phases.Phase.{Phase}
use Rattle.hm_history.specs.declared.phases.Next.{Next}
use Rattle.hm_history.specs.declared.phases.Next.TheVariants.{Do, Wait}
use Rattle.hm_laws.specs.Past.{Past, past_start}
use Rattle.hm_laws.specs.Facts.{Fact, No_map_lock, Read_locked, Never, Holds, HoldsAll, facts, nothing_held}
use Rattle.hm_laws.specs.Stands.{Standing}
use Rattle.hm_laws.proofs.Histories.Sound.{small, at_start, standing_after, after_is}
use Rattle.hm_laws.proofs.Waits.WaitsFor.{IsBusy as IsBusyNow, NoWait}
use Rattle.hm_laws.proofs.Waits.BusyGoesOn.{may_wait, goes_at_once, one_says, busy_goes, idle_busy}
use Rattle.hm_laws.proofs.Waits.NeverStuck.{phases_of, UnderWay, under_way, idle}
use Rattle.hm_underway_laws.specs.Busy.{writes_map, IsBusy, Guards, Writes, Locks, HasEntry, BusyGoesOn}
use Rattle.hm_history.proofs.Tests.{no_test}

-- a fact that says that the actor has no mmap lock for writing
abbrev is_no_writer : Fact → Bool
is_no_writer No_map_lock = true
is_no_writer (Read_locked who) = true
is_no_writer Never = true
is_no_writer x = false

no_writer : (s : After) (t : Past) (a : ℕ) (x : Fact) → is_no_writer x ≡ true → Holds s t a x → writes_map (s.locks.map a) ≡ false
no_writer s t a No_map_lock e h = ap writes_map h
no_writer s t a (Read_locked who) e h = ap writes_map h.1
no_writer s t a Never e h = absurd h
no_writer s t a x e h = no_test e

-- each stack that may wait says so
waits_unlocked : (o : Op) (xs : List Migrating) (top : Phase) (below : List Phase) → may_wait top ≡ true → list_any is_no_writer (facts o xs (top ∷ below)) ≡ true
waits_unlocked o xs Phase.Begin [] h = refl
waits_unlocked o xs Phase.Begin (y ∷ ys) h = refl
waits_unlocked o xs (Phase.Detaching q) [] h = refl
waits_unlocked o xs (Phase.Detaching q) (y ∷ ys) h = refl
waits_unlocked o xs (Phase.Piece k) [] h = refl
waits_unlocked o xs (Phase.Piece k) (y ∷ ys) h = refl
waits_unlocked o xs (Phase.Fetched old) [] h = refl
waits_unlocked o xs (Phase.Fetched old) (y ∷ ys) h = refl
waits_unlocked o xs (Phase.Begun k at q) [] h = refl
waits_unlocked o xs (Phase.Begun k at q) (y ∷ ys) h = refl
waits_unlocked o xs (Phase.Decide touch) [] h = refl
waits_unlocked o xs (Phase.Decide touch) (y ∷ ys) h = refl
waits_unlocked o xs (Phase.Frames v n) [] h = refl
waits_unlocked o xs (Phase.Frames v n) (y ∷ ys) h = refl
waits_unlocked o xs top below h = no_test h

abbrev IsWriter : After → ℕ → Type 0
IsWriter s a = writes_map (s.locks.map a) ≡ true

clash : (b : Bool) → b ≡ true → b ≡ false → {X : Type 0} → X
clash b t f = no_test (sym f ∙ t)

writer_goes : (c : Program) (s : After) (t : Past) (a : ℕ) (o : Op) (xs : List Migrating) (top : Phase) (below : List Phase) → HoldsAll s t a (facts o xs (top ∷ below)) → IsWriter s a → NoWait (due_phase c s a o xs top)
writer_goes c s t a o xs top below h w = by (may_wait top) refl
  where
    by : (b : Bool) → may_wait top ≡ b → NoWait (due_phase c s a o xs top)
    by true i = clash (writes_map (s.locks.map a)) w (one_says s t a is_no_writer _ (no_writer s t a) (facts o xs (top ∷ below)) (waits_unlocked o xs top below i) h)
    by false i = goes_at_once c s a o xs top i

-- in a guard, with a frame locked, or with the lock for writing
abbrev Holding : After → ℕ → Type 0
Holding s a = IsBusyNow s a ⊎ IsWriter s a

some_guard : {X : Type 0} (x : Option X) → is_some x ≡ true → x ≡ None → ⊥
some_guard x e n = cc

holding : (s : After) (a : ℕ) → IsBusy s a → Holding s a
holding s a (Guards g) = inl (inl (some_guard (s.sequences.guard a) g))
holding s a (Writes w) = inr w
holding s a (Locks f l) = inl (inr (f, l))

goes : (c : Program) (s : After) (t : Past) (a : ℕ) → Holding s a → (o : Op) (xs : List Migrating) (top : Phase) (below : List Phase) → HoldsAll s t a (facts o xs (top ∷ below)) → NoWait (due_phase c s a o xs top)
goes c s t a (inl b) o xs top below h = busy_goes c s t a o xs top below h b
goes c s t a (inr w) o xs top below h = writer_goes c s t a o xs top below h w

-- between operations an actor holds nothing
not_idle : (s : After) (t : Past) (a : ℕ) → Holding s a → HoldsAll s t a nothing_held → ⊥
not_idle s t a (inl b) h = idle_busy s t a h b
not_idle s t a (inr w) h = clash (writes_map (s.locks.map a)) w (ap writes_map h.0)

entry_of : (c : Program) (h : List Entry) (a : ℕ) → UnderWay c (state_of c h) a NoWait → HasEntry c h a
entry_of c h a w = by w.next w.says w.is_due
  where
    by : (n : Next) → NoWait n → due_in c (state_of c h) a ≡ progress a n → HasEntry c h a
    by (Do k) y e = record { entry = record { actor = a; kind = k }; is_due = e }
    by (Wait y) n e = absurd n

pub busy_goes_on : BusyGoesOn
busy_goes_on c sc h d a b =
    let st : (t : Past) × Standing c (state_of c h) t = standing_after c [] h past_start (small c sc) (at_start c (small c sc)) d in
    let has : Holding (state_of c h).after a = holding (state_of c h).after a (subst (λ s. IsBusy s a) (sym (after_is c h)) b) in
    entry_of c h a (under_way c (state_of c h) st.0 a NoWait (phases_of c h) st.1 (λ e. not_idle (state_of c h).after st.0 a has (idle c (state_of c h) st.0 a st.1 e)) (goes c (state_of c h).after st.0 a has))
