-- A race of a driver with a flaw as a system in which actors are held.
use Rattle.std.specs.Prelude.{ℕ, Bool, true, false, not, ◌&&◌, is_none, Option, Some, None, List, length, map, fold}
use Rattle.std.specs.List.{list_all, list_any}
use Rattle.hm_base.specs.Program.{Program}
use Rattle.hm_history.specs.Kernel.Run.{actors_of}
use Rattle.hm_history.specs.declared.Entry.{Entry}
use Rattle.hm_history.specs.declared.Progress.{Progress}
use Rattle.hm_flaws.specs.Flawed.{due_by}
use Rattle.hm_flaws.specs.Judged.{Judged}
use Rattle.hm_flaws.specs.declared.flaws.Flaw.{Flaw}
use Rattle.hm_flaws.specs.declared.parts.Part.{Part}
use Rattle.hm_flaw_parts.specs.Races.Judging.{point_of}
use Rattle.hm_flaw_parts.specs.Races.Races.{FlawPoint, broken_at, entries_at, is_due_at, point_entry, point_from}
use Rattle.hm_search.specs.Systems.{SystemValue}
use Rattle.hm_holds.specs.declared.holds.Hold.{Hold}
use Rattle.hm_holds.specs.declared.holds.HoldState.{HoldState}
use Rattle.hm_holds.specs.Holds.{hold_next, hold_start, stops_now}

-- a point of the race, and how far the holds are
pub record HeldPoint : Type 0 where
  pub point : FlawPoint
  pub holds : List HoldState

-- the point after the set-up
abbrev pub held_from : Program → List Entry → List Hold → HeldPoint
held_from c h ds = record { point = point_from c h; holds = map hold_start ds }

-- an entry is due to the actor, and no hold keeps it from making it
abbrev pub held_go : Flaw → Program → HeldPoint → ℕ → Bool
held_go l c x a = is_due_at l c x.point a && not (list_any (λ s. stops_now s a) x.holds)

-- how far the holds are after an entry that breaks this part, or none
abbrev pub holds_after : List HoldState → Entry → Option Part → List HoldState
holds_after ss e (Some part) = ss
holds_after ss e None = map (λ s. hold_next s e) ss

-- the point after an entry that breaks this part, or none
abbrev pub held_entry : Flaw → Program → HeldPoint → Entry → Option Part → HeldPoint
held_entry l c x e o = record { point = point_entry l c x.point e o; holds = holds_after x.holds e o }

-- the point after a turn that comes to this
abbrev pub held_turned : List Part → Flaw → Program → HeldPoint → Progress → HeldPoint
held_turned parts l c x (Progress.Did e) = held_entry l c x e (broken_at parts c x.point e)
held_turned parts l c x p = x

-- the point after a turn of an actor, if it may go; else nothing changes
abbrev pub held_on : List Part → Flaw → Program → HeldPoint → ℕ → Bool → HeldPoint
held_on parts l c x a true = held_turned parts l c x (due_by l c x.point.flawed a)
held_on parts l c x a false = x

-- the point after a turn of an actor
abbrev pub held_turn : List Part → Flaw → Program → HeldPoint → ℕ → HeldPoint
held_turn parts l c x a = held_on parts l c x a (held_go l c x a)

-- the race of a script after a set-up, if the driver has this flaw, is judged by these parts, and keeps these holds
abbrev pub held_system : List Part → Flaw → Program → List Entry → List Hold → SystemValue HeldPoint HeldPoint
held_system parts l c h ds = record {
  actors = length c.actors;
  start = held_from c h ds;
  is_due = held_go l c;
  turn = held_turn parts l c;
  form = λ x. x;
  ended = λ x. true;
  entries = λ x. entries_at x.point;
}

-- no part was broken, and no actor may go
abbrev pub is_dead : Flaw → Program → HeldPoint → Bool
is_dead l c x = is_none x.point.broken && list_all (λ a. not (held_go l c x a)) (actors_of c)

-- a hold after these entries
abbrev pub hold_of : List Entry → Hold → HoldState
hold_of es d = fold hold_next (hold_start d) es

-- the point of turns that are judged to come to this
abbrev pub held_of : Program → List Entry → List Hold → Judged → HeldPoint
held_of c h ds x = record { point = point_of c h x; holds = map (hold_of x.entries) ds }
