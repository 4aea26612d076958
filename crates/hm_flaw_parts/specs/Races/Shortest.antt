-- The first known state of a search at its goal, and what it says of all races.
use Rattle.std.specs.Prelude.{◌≡◌, ℕ, ◌+◌, ◌≤◌, Bool, true, Some, None, List, ◌∷◌, ◌++◌, length}
use Rattle.hm_base.specs.Program.{Program}
use Rattle.hm_history.specs.declared.Entry.{Entry}
use Rattle.hm_flaws.specs.declared.flaws.Flaw.{Flaw}
use Rattle.hm_flaws.specs.declared.parts.Part.{Part}
use Rattle.hm_flaws.specs.Judged.{Breaks, judged}
use Rattle.hm_search.specs.Goals.{AreMissed}
use Rattle.hm_search.specs.Known.{KnownValue}
use Rattle.hm_flaw_parts.specs.Races.Judging.{Sticks}

-- the goal holds of this known state, and of none that stands before it
pub record IsFirst {F : Type 0} (goal : F → Bool) (known : List (KnownValue F)) (n : KnownValue F) : Type 0 where
  pub before : List (KnownValue F)
  pub rest : List (KnownValue F)
  pub all : known ≡ before ++ n ∷ rest
  pub missed : AreMissed goal before
  pub reached : goal n.form ≡ true

-- no race breaks a part with fewer than n entries
abbrev pub BreakLater : List Part → Flaw → Program → List Entry → ℕ → Type 0
BreakLater parts l c h n =
    (es : List Entry) (e : Entry) (part : Part) → Breaks parts l c h es e part → n ≤ length es + 1

-- after fewer than n entries nobody is stuck
abbrev pub StickLater : List Part → Flaw → Program → List Entry → ℕ → Type 0
StickLater parts l c h n = (es : List Entry) → Sticks parts l c h es → n ≤ length es

-- turns, each of which adds an entry, are a race in which the driver breaks a part with the last of them, and no race
-- that breaks one is shorter
pub record BreaksSoonest (parts : List Part) (l : Flaw) (c : Program) (h : List Entry) (turns : List ℕ)
    : Type 0 where
  pub entry : Entry
  pub part : Part
  pub broken : (judged parts l c h turns).broken ≡ Some (entry, part)
  pub breaks : Breaks parts l c h (judged parts l c h turns).entries entry part
  pub long : length (judged parts l c h turns).entries + 1 ≡ length turns
  pub later : BreakLater parts l c h (length turns)

-- turns, each of which adds an entry, are a race after which nobody can go on, and no such race is shorter
pub record SticksSoonest (parts : List Part) (l : Flaw) (c : Program) (h : List Entry) (turns : List ℕ)
    : Type 0 where
  pub unbroken : (judged parts l c h turns).broken ≡ None
  pub sticks : Sticks parts l c h (judged parts l c h turns).entries
  pub long : length (judged parts l c h turns).entries ≡ length turns
  pub later : StickLater parts l c h (length turns)
