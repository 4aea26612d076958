-- A race of a driver with a flaw is a system.
use Rattle.std.proofs.Common.{◌≡◌, ℕ, ◌+◌, ◌<◌, ◌≤◌, ◌⊎◌, inl, inr, true, false, ◌&&◌, Option, Some, None, List, [], ◌∷◌, length, refl, sym, ap, ◌∙◌, arith}
use Rattle.std.specs.Prelude.{is_none}
use Rattle.std.proofs.lemmas.Bool.{and_parts, cases_lt, false≢true}
use Rattle.hm_base.specs.Program.{Program}
use Rattle.hm_base.specs.declared.ops.Op.{Op}
use Rattle.hm_history.specs.Kernel.Going.{op_at, state_start}
use Rattle.hm_history.specs.Kernel.Run.{is_entry}
use Rattle.hm_history.specs.declared.Entry.{Entry}
use Rattle.hm_history.specs.declared.Progress.{Progress}
use Rattle.hm_history.specs.declared.phases.Phase.{Phase}
use Rattle.hm_history.proofs.Going.{no_op, lengths}
use Rattle.hm_flaws.specs.declared.flaws.Flaw.{Flaw}
use Rattle.hm_flaws.specs.declared.parts.Part.{Part}
use Rattle.hm_flaws.specs.Flawed.{Flawed, due_by, due_flawed_top, found}
use Rattle.hm_flaw_parts.specs.Races.Races.{FlawPoint, broken_at, broken_count, entries_at, is_due_at, point_entry, point_on, point_turned, point_turn}
use Rattle.hm_flaw_parts.specs.Races.Laws.{FlawRacesAreSystems}

-- only the script's actors have anything to do
is_of_script : (l : Flaw) (c : Program) (t : Flawed) (a : ℕ) → is_entry (due_by l c t a) ≡ true → a < length c.actors
is_of_script l c t a d = by (cases_lt a (length c.actors))
  where
    idle : (o : Option Op) (stack : List Phase) → o ≡ None → is_entry (due_flawed_top l c t.driver (found l c t) a o (t.state.going a).pages stack) ≡ true → ⊥
    idle None [] n k = false≢true k
    idle None (x ∷ stack) n k = false≢true k
    idle (Some o) stack n k = cc

    by : (a < length c.actors) ⊎ (length c.actors ≤ a) → a < length c.actors
    by (inl k) = k
    by (inr k) = absurd (idle (op_at c a (t.state.going a).index) (t.state.going a).stack (no_op c a (t.state.going a).index k) d)

entry_adds : (l : Flaw) (c : Program) (x : FlawPoint) (e : Entry) (o : Option Part) → x.broken ≡ None → entries_at (point_entry l c x e o) ≡ entries_at x + 1
entry_adds l c x e (Some part) n = omega (arith, ap broken_count n)
entry_adds l c x e None n = omega (arith, ap broken_count n)

-- a turn adds an entry if one is due
turn_adds : (parts : List Part) (l : Flaw) (c : Program) (x : FlawPoint) (a : ℕ) (o : Option Part) (p : Progress) → x.broken ≡ o → due_by l c x.flawed a ≡ p → (is_none o && is_entry p) ≡ true → entries_at (point_on parts l c o x a) ≡ entries_at x + 1
turn_adds parts l c x a (Some part) p b d is = absurd (false≢true is)
turn_adds parts l c x a None (Progress.Did e) b d is = ap (λ q. entries_at (point_turned parts l c x q)) d ∙ entry_adds l c x e (broken_at parts c x e) b
turn_adds parts l c x a None (Progress.Waiting why) b d is = absurd (false≢true is)
turn_adds parts l c x a None Progress.Idle b d is = absurd (false≢true is)

-- or it changes nothing
pub turn_stays : (parts : List Part) (l : Flaw) (c : Program) (x : FlawPoint) (a : ℕ) (o : Option Part) (p : Progress) → due_by l c x.flawed a ≡ p → (is_none o && is_entry p) ≡ false → point_on parts l c o x a ≡ x
turn_stays parts l c x a (Some part) p d is = refl
turn_stays parts l c x a None (Progress.Did e) d is = absurd (false≢true (sym is))
turn_stays parts l c x a None (Progress.Waiting why) d is = ap (point_turned parts l c x) d
turn_stays parts l c x a None Progress.Idle d is = ap (point_turned parts l c x) d

pub flaw_races_are_systems : FlawRacesAreSystems
flaw_races_are_systems parts l c sc h few = record {
  few = sc.few_actors;
  alike = λ these those same a. (ap (λ (x : FlawPoint). is_due_at l c x a) same, ap (λ (x : FlawPoint). point_turn parts l c x a) same);
  own = λ x a is. is_of_script l c x.flawed a (and_parts (is_none x.broken) (is_entry (due_by l c x.flawed a)) is).1;
  adds = λ x a is. turn_adds parts l c x a x.broken (due_by l c x.flawed a) refl refl is;
  stays = λ x a is. turn_stays parts l c x a x.broken (due_by l c x.flawed a) refl is;
  room = omega (arith, lengths c (state_start c) h, few);
}
