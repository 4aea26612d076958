-- A race in which actors are held is a system.
use Rattle.std.proofs.Common.{◌≡◌, ℕ, true, not, Option, Some, None, List, refl, ap, ◌∙◌}
use Rattle.std.specs.Prelude.{is_none}
use Rattle.std.specs.List.{list_any}
use Rattle.std.proofs.lemmas.Bool.{and_parts, false≢true}
use Rattle.hm_base.specs.Program.{Program}
use Rattle.hm_history.specs.Kernel.Run.{is_entry}
use Rattle.hm_history.specs.declared.Progress.{Progress}
use Rattle.hm_flaws.specs.declared.flaws.Flaw.{Flaw}
use Rattle.hm_flaws.specs.declared.parts.Part.{Part}
use Rattle.hm_flaws.specs.Flawed.{due_by}
use Rattle.hm_flaw_parts.specs.Races.Laws.{FlawRacesAreSystems}
use Rattle.hm_flaw_parts.specs.Races.Races.{FlawPoint, entries_at, is_due_at, point_on, point_turn, point_turned}
use Rattle.hm_holds.specs.Holds.{stops_now}
use Rattle.hm_holds.specs.Held.{HeldPoint, held_go, held_on, held_turn, held_turned}
use Rattle.hm_holds.specs.Laws.{HeldRacesAreSystems}

turned_point : (parts : List Part) (l : Flaw) (c : Program) (x : HeldPoint) (p : Progress) → (held_turned parts l c x p).point ≡ point_turned parts l c x.point p
turned_point parts l c x (Progress.Did e) = refl
turned_point parts l c x (Progress.Waiting why) = refl
turned_point parts l c x Progress.Idle = refl

unbroken_on : (parts : List Part) (l : Flaw) (c : Program) (x : FlawPoint) (a : ℕ) (o : Option Part) → is_none o ≡ true → point_turned parts l c x (due_by l c x.flawed a) ≡ point_on parts l c o x a
unbroken_on parts l c x a None k = refl
unbroken_on parts l c x a (Some part) k = absurd (false≢true k)

-- a turn of an actor that may go is one of the race
pub gone_point : (parts : List Part) (l : Flaw) (c : Program) (x : HeldPoint) (a : ℕ) → held_go l c x a ≡ true → (held_turn parts l c x a).point ≡ point_turn parts l c x.point a
gone_point parts l c x a go =
    ap (λ b. (held_on parts l c x a b).point) go
    ∙ (turned_point parts l c x (due_by l c x.point.flawed a)
    ∙ unbroken_on parts l c x.point a x.point.broken (and_parts (is_none x.point.broken) (is_entry (due_by l c x.point.flawed a)) due).0)
  where
    due : is_due_at l c x.point a ≡ true
    due = (and_parts (is_due_at l c x.point a) (not (list_any (λ s. stops_now s a) x.holds)) go).0

pub held_races_are_systems : FlawRacesAreSystems → HeldRacesAreSystems
held_races_are_systems law parts l c sc h few ds =
    let y = law parts l c sc h few in
    let due : (x : HeldPoint) (a : ℕ) → held_go l c x a ≡ true → is_due_at l c x.point a ≡ true = λ x a go. (and_parts (is_due_at l c x.point a) (not (list_any (λ s. stops_now s a) x.holds)) go).0 in
    record {
      few = y.few;
      alike = λ these those same a. (ap (λ (x : HeldPoint). held_go l c x a) same, ap (λ (x : HeldPoint). held_turn parts l c x a) same);
      own = λ x a go. y.own x.point a (due x a go);
      adds = λ x a go. ap entries_at (gone_point parts l c x a go) ∙ y.adds x.point a (due x a go);
      stays = λ x a go. ap (held_on parts l c x a) go;
      room = y.room;
    }
