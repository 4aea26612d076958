-- What is found among the states that a search knows.
use Rattle.std.specs.Prelude.{◌≡◌, ℕ, ◌+◌, ◌<◌, ◌≤◌, Bool, true, false, Option, Some, None, List, length, get_or}
use Rattle.hm_base.specs.Program.{Program}
use Rattle.hm_history.specs.declared.Entry.{Entry}
use Rattle.hm_flaws.specs.declared.flaws.Flaw.{Flaw}
use Rattle.hm_flaws.specs.declared.parts.Part.{Part}
use Rattle.hm_flaws.specs.Judged.{judged}
use Rattle.hm_search.specs.Known.{KnownValue, turns_at}
use Rattle.hm_search.specs.declared.search.End.{End}
use Rattle.hm_flaw_parts.specs.Races.Races.{FlawPoint}
use Rattle.hm_flaw_parts.specs.Races.Judging.{breaks_at, sticks_at}
use Rattle.hm_flaw_search.specs.declared.answer.Found.{Found}
use Rattle.hm_flaw_search.specs.Played.{found_by}

-- the place of the first of these that is true; none if none is
abbrev pub IsFirstTrue : List Bool → Option ℕ → Type 0
IsFirstTrue bs None = (i : ℕ) → get_or bs i false ≡ false
IsFirstTrue bs (Some at) = (get_or bs at false ≡ true) × ((i : ℕ) → i < at → get_or bs i false ≡ false)

-- the entries of each known state, and those of the set-up before them, are not too many
abbrev pub HaveRoom : List Entry → List (KnownValue FlawPoint) → Type 0
HaveRoom h known = (at : ℕ) → length h + length (turns_at known at) ≤ 2000000

-- what is looked for among the known states, by how the search ended: that a part was broken, or nobody can go on
abbrev pub goal_of : Flaw → Program → End → FlawPoint → Bool
goal_of l c End.Reached x = breaks_at x
goal_of l c end x = sticks_at l c x

-- what is found at the known state at this place; nothing if there is none
abbrev pub found_at : List Part → Flaw → Program → List Entry → List (KnownValue FlawPoint) → Option ℕ → Found
found_at parts l c h known None = Found.Nothing
found_at parts l c h known (Some at) = found_by (judged parts l c h (turns_at known at))

-- it is what is found at the first known state of which the answer is true
pub record IsFoundFirst (parts : List Part) (l : Flaw) (c : Program) (h : List Entry)
    (known : List (KnownValue FlawPoint)) (answers : List Bool) (f : Found) : Type 0 where
  pub place : Option ℕ
  pub first : IsFirstTrue answers place
  pub same : f ≡ found_at parts l c h known place
