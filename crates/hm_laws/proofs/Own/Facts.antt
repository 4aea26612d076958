-- What an actor knows of its frames stays so after its own entries about other frames.
use Rattle.std.proofs.Common.{◌≡◌, ℕ, Bool, true, false, ◌||◌, ◌⊎◌, inl, inr, is_some, Some, List, [], ◌∷◌, ◌++◌, sym, ap, ◌∙◌, subst, arith}
use Rattle.std.specs.Bool.{⊤}
use Rattle.std.specs.List.{list_any}
use Rattle.hm_base.specs.Areas.{rights_at}
use Rattle.hm_base.specs.Program.{Program}
use Rattle.hm_base.specs.declared.Frame.{Frame}
use Rattle.hm_history.specs.Memory.Words.{same_frame}
use Rattle.hm_history.specs.Memory.Plain.{proc_of, rights_of}
use Rattle.hm_history.specs.Memory.After.{After}
use Rattle.hm_history.specs.declared.Who.{Who}
use Rattle.hm_history.specs.declared.Kind.{Kind}
use Rattle.hm_laws.specs.Stood.{lock_on}
use Rattle.hm_laws.specs.Past.{Past, past_next}
use Rattle.hm_laws.specs.Sound.{Sound}
use Rattle.hm_laws.specs.Allowed.{next, ReadsThere, Allowed}
use Rattle.hm_laws.specs.Spares.{Apart, Own}
use Rattle.hm_laws.specs.Facts.{Fact, Is, Read_locked, Windowed_all, Listed, Owns, Zeroed, Sourced, Copying, Coming_back, Back, May_read, Frozen, Frozen_at, Own_at, Framed, Lands_on, Windowed, fact_frames, frames_of, HasProc, Holds, HoldsAll}
use Rattle.hm_laws.proofs.Other.Frames.{owns_other, contents_other}
use Rattle.hm_laws.proofs.Other.Emptied.{source_other, frozen_other, parts_other, returning_other, returned_other}
use Rattle.hm_laws.proofs.Other.Mirrors.{who_keeps}
use Rattle.hm_laws.proofs.Other.Lookups.{within_keeps}
use Rattle.hm_laws.proofs.Other.KnownPages.{frozen_at_on, own_at_on, touched_on, lands_on}
use Rattle.hm_history.proofs.Frames.{frame_tells}

-- the entry is not about the frames that the fact speaks of; of the other facts nothing is said
abbrev pub Spared : After → Kind → Fact → Type 0
Spared s k (Is b) = ⊤
Spared s k (Read_locked x) = ⊤
Spared s k (Windowed_all m r) = ⊤
Spared s k (Listed xs) = ⊤
Spared s k (Owns f) = Apart s k f
Spared s k (Zeroed f) = Apart s k f
Spared s k (Sourced f) = Apart s k f
Spared s k (Frozen f) = Apart s k f
Spared s k (Back f) = Apart s k f
Spared s k (Copying f g n) = Apart s k f × Apart s k g
Spared s k (Coming_back f g) = Apart s k f × Apart s k g
Spared s k (Frozen_at x v f) = Apart s k f
Spared s k (Own_at x v g) = Apart s k g
Spared s k (May_read x v) = ⊤
Spared s k (Framed x v) = ⊤
Spared s k (Lands_on o g) = ⊤
Spared s k (Windowed m v) = ⊤
Spared s k x = ⊥

abbrev pub SparedAll : After → Kind → List Fact → Type 0
SparedAll s k [] = ⊤
SparedAll s k (x ∷ l) = Spared s k x × SparedAll s k l

-- an entry of the actor that leaves its mmap lock, the processes and the areas as they are
pub record Keeping (s : After) (a : ℕ) (k : Kind) : Type 0 where
  pub map : (next s a k).locks.map a ≡ s.locks.map a
  pub there : (p : ℕ) → (next s a k).plain.there p ≡ s.plain.there p
  pub areas : (p : ℕ) → (next s a k).plain.areas p ≡ s.plain.areas p

reads_own : (s : After) (a : ℕ) (k : Kind) → Keeping s a k → (p : ℕ) → ReadsThere s a p → ReadsThere (next s a k) a p
reads_own s a k st p h = (st.map ∙ h.0, st.there p ∙ h.1)

may_read_own : (c : Program) (s : After) (t : Past) (a : ℕ) (k : Kind) → Allowed c s t a k → Keeping s a k → (x : Who) (v : ℕ) → Holds s t a (May_read x v) → Holds (next s a k) (past_next t s.length a k) a (May_read x v)
may_read_own c s t a k ok st x v h = let w : HasProc (next s a k).plain x × (proc_of (next s a k).plain x ≡ proc_of s.plain x) = who_keeps c s t a k ok x h.0 in (
  w.0,
  subst (ReadsThere (next s a k) a) (sym w.1) (reads_own s a k st (proc_of s.plain x) h.1),
  ap (λ p. is_some (rights_of (next s a k).plain p v)) w.1 ∙ ap (λ as_. is_some (rights_at as_ v)) (st.areas (proc_of s.plain x)) ∙ h.2,
)

pub own_fact : (c : Program) (s : After) (t : Past) (a : ℕ) (k : Kind) → Sound c s t → Allowed c s t a k → Keeping s a k → (x : Fact) → Spared s k x → Holds s t a x → Holds (next s a k) (past_next t s.length a k) a x
own_fact c s t a k so ok st (Is b) sp h = h
own_fact c s t a k so ok st (Read_locked x) sp h = let w = who_keeps c s t a k ok x h.0 in (w.0, st.map ∙ h.1 ∙ ap (λ p. lock_on p false) (sym w.1))
own_fact c s t a k so ok st (Windowed_all m r) sp h = λ v cv. within_keeps c s t a k ok m v (h v cv)
own_fact c s t a k so ok st (Listed xs) sp h = h
own_fact c s t a k so ok st (Owns f) sp h = owns_other c s t a a so k ok f (Own sp) h
own_fact c s t a k so ok st (Zeroed f) sp h = (owns_other c s t a a so k ok f (Own sp) h.0, contents_other c s t a a so k ok f (Own sp) h.0.0 ∙ h.1)
own_fact c s t a k so ok st (Sourced f) sp h = source_other c s t a a so k ok f (Own sp) h
own_fact c s t a k so ok st (Frozen f) sp h = frozen_other c s t a a so k ok f (Own sp) h
own_fact c s t a k so ok st (Back f) sp h = returned_other c s t a a so k ok f (Own sp) h
own_fact c s t a k so ok st (Copying f g n) sp h = (frozen_other c s t a a so k ok f (Own sp.0) h.0, owns_other c s t a a so k ok g (Own sp.1) h.1, parts_other c s t a a so k ok f g n (Own sp.0) (Own sp.1) h.0 h.1.0 h.2, h.3)
own_fact c s t a k so ok st (Coming_back f g) sp h = returning_other c s t a a so k ok f g (Own sp.0) (Own sp.1) h
own_fact c s t a k so ok st (Frozen_at x v f) sp h = frozen_at_on c s t a a so k ok (reads_own s a k st) x v f (Own sp) h
own_fact c s t a k so ok st (Own_at x v g) sp h = own_at_on c s t a a so k ok (reads_own s a k st) x v g (Own sp) h
own_fact c s t a k so ok st (May_read x v) sp h = may_read_own c s t a k ok st x v h
own_fact c s t a k so ok st (Framed x v) sp h = touched_on c s t a a so k ok (reads_own s a k st) x v h
own_fact c s t a k so ok st (Lands_on o g) sp h = lands_on c s t a a k ok o g h
own_fact c s t a k so ok st (Windowed m v) sp h = within_keeps c s t a k ok m v h
own_fact c s t a k so ok st x sp h = absurd sp

pub own_all : (c : Program) (s : After) (t : Past) (a : ℕ) (k : Kind) → Sound c s t → Allowed c s t a k → Keeping s a k → (l : List Fact) → SparedAll s k l → HoldsAll s t a l → HoldsAll (next s a k) (past_next t s.length a k) a l
own_all c s t a k so ok st [] sp h = tt
own_all c s t a k so ok st (x ∷ l) sp h = (own_fact c s t a k so ok st x sp.0 h.0, own_all c s t a k so ok st l sp.1 h.1)

-- the frames that a fact speaks of are locked by who knows it
locked_one : (s : After) (a : ℕ) (f g : Frame) → list_any (same_frame f) (g ∷ []) ≡ true → s.locks.frame g ≡ Some a → s.locks.frame f ≡ Some a
locked_one s a f g e h = ap s.locks.frame is ∙ h
  where
    is : f ≡ g
    is = grind (arith, frame_tells f g)

locked_two : (s : After) (a : ℕ) (f g i : Frame) → list_any (same_frame f) (g ∷ i ∷ []) ≡ true → s.locks.frame g ≡ Some a → s.locks.frame i ≡ Some a → s.locks.frame f ≡ Some a
locked_two s a f g i e h k = grind (arith, locked_one s a f g, locked_one s a f i)

pub held_by : (s : After) (t : Past) (a : ℕ) (f : Frame) (x : Fact) → list_any (same_frame f) (fact_frames x) ≡ true → Holds s t a x → s.locks.frame f ≡ Some a
held_by s t a f (Owns g) e h = locked_one s a f g e h.0.mine
held_by s t a f (Zeroed g) e h = locked_one s a f g e h.0.0.mine
held_by s t a f (Sourced g) e h = locked_one s a f g e h.mine
held_by s t a f (Frozen g) e h = locked_one s a f g e h.0.mine
held_by s t a f (Back g) e h = locked_one s a f g e h.dest
held_by s t a f (Copying g i n) e h = locked_two s a f g i e h.0.0.mine h.1.0.mine
held_by s t a f (Coming_back g i) e h = locked_two s a f g i e h.mine h.dest
held_by s t a f x e h = cc

pub any_joined : (f : Frame) (xs ys : List Frame) → list_any (same_frame f) (xs ++ ys) ≡ true → (list_any (same_frame f) xs ≡ true) ⊎ (list_any (same_frame f) ys ≡ true)
any_joined f [] ys h = inr h
any_joined f (x ∷ xs) ys h = by (same_frame f x) (any_joined f xs ys) h
  where
    by : (b : Bool) → (list_any (same_frame f) (xs ++ ys) ≡ true → (list_any (same_frame f) xs ≡ true) ⊎ (list_any (same_frame f) ys ≡ true)) → (b || list_any (same_frame f) (xs ++ ys)) ≡ true → ((b || list_any (same_frame f) xs) ≡ true) ⊎ (list_any (same_frame f) ys ≡ true)
    by true k h = inl h
    by false k h = k h

pub held_by_all : (s : After) (t : Past) (a : ℕ) (f : Frame) (l : List Fact) → list_any (same_frame f) (frames_of l) ≡ true → HoldsAll s t a l → s.locks.frame f ≡ Some a
held_by_all s t a f [] e h = cc
held_by_all s t a f (x ∷ l) e h = by (λ k. held_by_all s t a f l k h.1) (any_joined f (fact_frames x) (frames_of l) e)
  where
    by : (list_any (same_frame f) (frames_of l) ≡ true → s.locks.frame f ≡ Some a) → (list_any (same_frame f) (fact_frames x) ≡ true) ⊎ (list_any (same_frame f) (frames_of l) ≡ true) → s.locks.frame f ≡ Some a
    by rest (inl k) = held_by s t a f x k h.0
    by rest (inr k) = rest k
