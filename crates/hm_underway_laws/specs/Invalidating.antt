-- What stays empty in mirrors' tables as long as an invalidation is under way.
use Rattle.std.specs.Prelude.{◌≡◌, ℕ, true, Option, Some, None, List, [], ◌∷◌, ◌==◌, if◌then◌else◌, fold}
use Rattle.std.specs.List.{list_any}
use Rattle.hm_base.specs.Pages.{covers}
use Rattle.hm_base.specs.Program.{Program, IsScript}
use Rattle.hm_history.specs.Memory.Sequences.{Interval, Guarded, is_odd, deferred_state}
use Rattle.hm_history.specs.Laws.{DueFrom}
use Rattle.hm_history.specs.Memory.After.{After, after}
use Rattle.hm_history.specs.declared.Entry.{Entry}
use Rattle.hm_history.specs.declared.Kind.{Kind}

-- the mirror's interval is of this process and has its sequence, which is odd: no look-up of it can begin
pub record IsStill (s : After) (m p : ℕ) : Type 0 where
  pub interval : Interval
  pub is : s.sequences.interval m ≡ Some interval
  pub proc : interval.proc ≡ p
  pub same : interval.seq ≡ s.sequences.seq p
  pub odd : is_odd (s.sequences.seq p) ≡ true

-- the mirror is one of these
abbrev pub IsOneOf : ℕ → List ℕ → Type 0
IsOneOf m ms = list_any (λ k. k == m) ms ≡ true

-- a mirror that was told in a guard under way: no table entry in the guard's span
pub record ToldInGuard (s : After) (m : ℕ) (g : Guarded) : Type 0 where
  pub still : IsStill s m g.proc
  pub empty : (v : ℕ) → covers g.span v ≡ true → s.places.table m v ≡ None

-- after each history of entries that were due, for each guard under way and each mirror told in it
abbrev pub ToldStaysEmpty : Type 0
ToldStaysEmpty =
    (c : Program) → IsScript c → (h : List Entry) → DueFrom c [] h → (a : ℕ) (g : Guarded)
    → (after h).sequences.guard a ≡ Some g → (m : ℕ) → IsOneOf m g.told → ToldInGuard (after h) m g

-- a mirror with no table entry at all, which cannot get one
pub record IsEmptied (s : After) (m p : ℕ) : Type 0 where
  pub still : IsStill s m p
  pub empty : (v : ℕ) → s.places.table m v ≡ None

-- after each history of entries that were due, for each mirror whose insert is deferred
abbrev pub DeferredStaysEmpty : Type 0
DeferredStaysEmpty =
    (c : Program) → IsScript c → (h : List Entry) → DueFrom c [] h → (m : ℕ) (y : Interval)
    → (after h).sequences.interval m ≡ Some y → deferred_state y.stage ≡ true → IsEmptied (after h) m y.proc

-- the mirrors that were attached to the process of an actor's guard since its start; none if it has no guard
pub record Since : Type 0 where
  pub proc : ℕ
  pub mirrors : List ℕ

-- after an attachment to a process
abbrev pub with_newcomer : ℕ → ℕ → Option Since → Option Since
with_newcomer m p None = None
with_newcomer m p (Some x) = if x.proc == p then Some (record x { mirrors = m ∷ x.mirrors }) else Some x

-- after an entry of this actor, and after one of any
abbrev pub since_own : Option Since → Kind → Option Since
since_own x (Kind.Start p r q) = Some (record { proc = p; mirrors = [] })
since_own x (Kind.End p r q) = None
since_own x (Kind.Attached m d p r q) = with_newcomer m p x
since_own x k = x

-- who was attached since the start, after an entry of another actor
abbrev pub since_other : Option Since → Kind → Option Since
since_other x (Kind.Attached m d p r q) = with_newcomer m p x
since_other x k = x

-- who was attached since the start, after an entry of any actor
abbrev pub since_next : ℕ → Option Since → Entry → Option Since
since_next a x e = if e.actor == a then since_own x e.kind else since_other x e.kind

-- since the start of the actor's guard under way
abbrev pub since_start : ℕ → List Entry → Option Since
since_start a h = fold (since_next a) None h

-- after each history of entries that were due, for each mirror attached since the start of a guard under way
abbrev pub NewcomerStaysEmpty : Type 0
NewcomerStaysEmpty =
    (c : Program) → IsScript c → (h : List Entry) → DueFrom c [] h → (a : ℕ) (g : Guarded)
    → (after h).sequences.guard a ≡ Some g
    → (x : Since) × (since_start a h ≡ Some x) × (x.proc ≡ g.proc)
    × ((m : ℕ) → IsOneOf m x.mirrors → IsEmptied (after h) m g.proc)
