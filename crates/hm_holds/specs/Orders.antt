-- Orders of turns that keep holds: whether each of them goes wrong.
use Rattle.std.specs.Prelude.{◌≡◌, ℕ, ◌+◌, ◌≤◌, Bool, true, false, not, ◌&&◌, is_none, List, [], ◌∷◌, ◌++◌, length, ⊤}
use Rattle.std.specs.List.{list_all}
use Rattle.hm_base.specs.Program.{Program}
use Rattle.hm_history.specs.Kernel.Run.{actors_of, is_entry}
use Rattle.hm_history.specs.declared.Entry.{Entry}
use Rattle.hm_flaws.specs.Flawed.{due_by}
use Rattle.hm_flaws.specs.Judged.{Judged, judged}
use Rattle.hm_flaws.specs.declared.flaws.Flaw.{Flaw}
use Rattle.hm_flaws.specs.declared.parts.Part.{Part}
use Rattle.hm_flaw_parts.specs.Races.Judging.{TurnsBreak}
use Rattle.hm_holds.specs.declared.holds.Hold.{Hold}
use Rattle.hm_holds.specs.Holds.{is_held}

-- no part was broken, an entry is due to the actor, and no hold keeps it from making it
abbrev pub may_go : Flaw → Program → List Hold → Judged → ℕ → Bool
may_go l c ds x a = is_none x.broken && is_entry (due_by l c x.flawed a) && not (is_held ds x.entries a)

-- after these turns, each of those that come then is of an actor that may go
abbrev pub KeepsAfter : List Part → Flaw → Program → List Entry → List Hold → List ℕ → List ℕ → Type 0
KeepsAfter parts l c h ds before [] = ⊤
KeepsAfter parts l c h ds before (a ∷ turns) =
    (may_go l c ds (judged parts l c h before) a ≡ true) × KeepsAfter parts l c h ds (before ++ a ∷ []) turns

-- the turns keep the holds, after the set-up h: each of them is of an actor that may go
abbrev pub Keeps : List Part → Flaw → Program → List Entry → List Hold → List ℕ → Type 0
Keeps parts l c h ds turns = KeepsAfter parts l c h ds [] turns

-- no part was broken, and no actor may go: all operations have ended, or what is left to do waits, or is held
abbrev pub is_dead_end : Flaw → Program → List Hold → Judged → Bool
is_dead_end l c ds x = is_none x.broken && list_all (λ a. not (may_go l c ds x a)) (actors_of c)

-- every order of turns that keeps the holds goes wrong: none comes to a dead end, and none goes on for ever
pub record AreSure (parts : List Part) (l : Flaw) (c : Program) (h : List Entry) (ds : List Hold) : Type 0 where
  pub goes_on : (turns : List ℕ) → Keeps parts l c h ds turns → is_dead_end l c ds (judged parts l c h turns) ≡ false
  pub most : ℕ
  pub ends : (turns : List ℕ) → Keeps parts l c h ds turns → length turns ≤ most

-- the turns keep the holds, and come to a dead end
pub record TurnsFail (parts : List Part) (l : Flaw) (c : Program) (h : List Entry) (ds : List Hold) (turns : List ℕ)
    : Type 0 where
  pub keeps : Keeps parts l c h ds turns
  pub dead_end : is_dead_end l c ds (judged parts l c h turns) ≡ true

-- an order of turns that keeps the holds, and the race that it is: the driver breaks a part with the last of them
pub record OrderBreaks (parts : List Part) (l : Flaw) (c : Program) (h : List Entry) (ds : List Hold) : Type 0 where
  pub turns : List ℕ
  pub keeps : Keeps parts l c h ds turns
  pub part : Part
  pub breaks : TurnsBreak parts l c h turns part
  pub long : length (judged parts l c h turns).entries + 1 ≡ length turns
