-- A race of a driver with a flaw as a system that is searched. A point of it is a state of the driver with the marks of
-- the history, until a part of legality is broken.
use Rattle.std.specs.Prelude.{ℕ, ◌+◌, Bool, true, ◌&&◌, ◌||◌, Option, Some, None, is_none, is_some, List, [], ◌∷◌}
use Rattle.std.specs.Prelude.{length}
use Rattle.hm_base.specs.Program.{Program}
use Rattle.hm_history.specs.Memory.After.{After, after_nothing, after_entry}
use Rattle.hm_history.specs.Kernel.Going.{state_of}
use Rattle.hm_history.specs.Kernel.Run.{is_entry}
use Rattle.hm_history.specs.declared.Entry.{Entry}
use Rattle.hm_history.specs.declared.Progress.{Progress}
use Rattle.hm_flaws.specs.declared.flaws.Flaw.{Flaw}
use Rattle.hm_flaws.specs.declared.parts.Part.{Part}
use Rattle.hm_flaws.specs.Flawed.{Flawed, flawed_from, flawed_next, due_by}
use Rattle.hm_flaws.specs.Races.{is_stuck}
use Rattle.hm_flaws.specs.Recalled.{broken_part_in}
use Rattle.hm_flaw_parts.specs.Marks.{Marked, marked_start, marked_next, recalled_by}
use Rattle.hm_search.specs.Systems.{SystemValue}

-- ---- points

-- a state of the driver, the marks of its history, and the part that was broken, if one was: then the other two are
-- those before the entry that broke it
pub record FlawPoint : Type 0 where
  pub flawed : Flawed
  pub marked : Marked
  pub broken : Option Part

-- the marks after these entries; s is the state before them
abbrev pub marked_along : Program → After → Marked → List Entry → Marked
marked_along c s x [] = x
marked_along c s x (e ∷ es) = marked_along c (after_entry s e) (marked_next c s x e) es

-- the marks of a history
abbrev pub marked_of : Program → List Entry → Marked
marked_of c h = marked_along c after_nothing marked_start h

-- the point at which the race begins, after its set-up
abbrev pub point_from : Program → List Entry → FlawPoint
point_from c h = record { flawed = flawed_from (state_of c h); marked = marked_of c h; broken = None }

-- ---- turns

-- the first of these parts that an entry breaks at a point
abbrev pub broken_at : List Part → Program → FlawPoint → Entry → Option Part
broken_at parts c x e =
    broken_part_in parts c (recalled_by x.flawed.state.after x.marked) x.flawed.state.going e

-- the point after an entry that breaks this part, or none
abbrev pub point_entry : Flaw → Program → FlawPoint → Entry → Option Part → FlawPoint
point_entry l c x e (Some part) = record x { broken = Some part }
point_entry l c x e None = record {
  flawed = flawed_next l c x.flawed e;
  marked = marked_next c x.flawed.state.after x.marked e;
  broken = None;
}

-- the point after a turn that comes to this; one that waits or is idle changes nothing
abbrev pub point_turned : List Part → Flaw → Program → FlawPoint → Progress → FlawPoint
point_turned parts l c x (Progress.Did e) = point_entry l c x e (broken_at parts c x e)
point_turned parts l c x p = x

-- the point after a turn of an actor, if this part was broken before it, or none: a broken part ends the race
abbrev pub point_on : List Part → Flaw → Program → Option Part → FlawPoint → ℕ → FlawPoint
point_on parts l c (Some part) x a = x
point_on parts l c None x a = point_turned parts l c x (due_by l c x.flawed a)

-- the point after a turn of an actor
abbrev pub point_turn : List Part → Flaw → Program → FlawPoint → ℕ → FlawPoint
point_turn parts l c x a = point_on parts l c x.broken x a

-- no part was broken, and an entry is due to the actor
abbrev pub is_due_at : Flaw → Program → FlawPoint → ℕ → Bool
is_due_at l c x a = is_none x.broken && is_entry (due_by l c x.flawed a)

-- ---- the system

-- how many entries broke a part
abbrev pub broken_count : Option Part → ℕ
broken_count None = 0
broken_count (Some part) = 1

-- how many entries led to a point, with the one that broke a part
abbrev pub entries_at : FlawPoint → ℕ
entries_at x = x.flawed.state.after.length + broken_count x.broken

-- the race of a script after a set-up, if the driver has this flaw and is judged by these parts
abbrev pub flaw_system : List Part → Flaw → Program → List Entry → SystemValue FlawPoint FlawPoint
flaw_system parts l c h = record {
  actors = length c.actors;
  start = point_from c h;
  is_due = is_due_at l c;
  turn = point_turn parts l c;
  form = λ x. x;
  ended = λ x. true;
  entries = entries_at;
}

-- a part was broken, or nobody can go on and some operation has not ended
abbrev pub is_found : Flaw → Program → FlawPoint → Bool
is_found l c x = is_some x.broken || is_stuck l c x.flawed
