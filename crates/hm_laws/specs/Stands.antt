-- What stands after each history of entries that were due, for a program that keeps a state of it.
use Rattle.std.specs.Prelude.{◌≡◌, ℕ, ◌<◌, ◌≤◌, true, Some, None, List, length, ⊤}
use Rattle.hm_base.specs.Program.{Program}
use Rattle.hm_history.specs.Memory.Locks.{writer, lowest_other}
use Rattle.hm_history.specs.Kernel.Going.{State, state_of}
use Rattle.hm_history.specs.Memory.After.{After, after}
use Rattle.hm_history.specs.Kernel.Due.{due}
use Rattle.hm_history.specs.declared.Kind.{Kind}
use Rattle.hm_history.specs.declared.Entry.{Entry}
use Rattle.hm_history.specs.declared.Progress.{Progress}
use Rattle.hm_laws.specs.Past.{Past}
use Rattle.hm_laws.specs.Stood.{IsNamed}
use Rattle.hm_laws.specs.Sound.{Sound}
use Rattle.hm_laws.specs.Allowed.{Allowed}
use Rattle.hm_laws.specs.Facts.{Knows}
use Rattle.hm_laws.specs.Order.{OrderRules}

-- the rules hold, and each actor knows what its stack says
pub record Standing (c : Program) (t : State) (past : Past) : Type 0 where
  pub sound : Sound c t.after past
  pub order : OrderRules t.after.plain.areas
  pub known : (a : ℕ) → Knows c t.after past a (t.going a)

-- one actor meets nobody at a process's mmap lock
pub record MeetsNobody (s : After) : Type 0 where
  pub no_holder : (p : ℕ) → lowest_other s.locks p 0 ≡ None
  pub no_writer : (p : ℕ) → s.locks.map 0 ≡ None → writer s.locks p ≡ None

-- a frame is copied whole, and some page names it; or, a held one, by one of eight parts into another
abbrev pub CopiesRightly : After → Kind → Type 0
CopiesRightly s (Kind.Copied f g None) = IsNamed s.places.place f
CopiesRightly s (Kind.Copied f g (Some part)) = (s.places.held f ≡ true) × (f ≡ g → ⊥) × (part < 8)
CopiesRightly s k = ⊤

-- all that a program may use of the state after a history of entries that were due
pub record Stands (c : Program) (h : List Entry) : Type 0 where
  pub past : Past
  pub rules : Sound c (after h) past
  pub order : OrderRules (after h).plain.areas
  pub known : (a : ℕ) → Knows c (after h) past a ((state_of c h).going a)
  pub same_after : (state_of c h).after ≡ after h
  -- so what is due may be added
  pub allows : (e : Entry) → due c h e.actor ≡ Progress.Did e → Allowed c (after h) past e.actor e.kind
  pub copies : (e : Entry) → due c h e.actor ≡ Progress.Did e → CopiesRightly (after h) e.kind
  pub meets_nobody : length c.actors ≤ 1 → MeetsNobody (after h)
