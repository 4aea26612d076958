-- What the right driver owed: where a driver first does otherwise in a race, and what was due there.
use Rattle.std.specs.Prelude.{◌≡◌, ℕ, ◌+◌, Option, Some, None, List, [], ◌∷◌, ◌++◌, length, ⊤}
use Rattle.hm_base.specs.Program.{Program}
use Rattle.hm_history.specs.Kernel.Going.{state_of}
use Rattle.hm_history.specs.declared.Entry.{Entry}
use Rattle.hm_history.specs.declared.Progress.{Progress}
use Rattle.hm_flaws.specs.declared.flaws.Flaw.{Flaw}
use Rattle.hm_flaws.specs.Flawed.{Flawed, due_by, flawed_after, flawed_from, flawed_next}
use Rattle.hm_flaw_parts.specs.Races.Races.{FlawPoint}
use Rattle.hm_flaw_search.specs.declared.answer.Found.{Found}
use Rattle.hm_flaw_search.specs.declared.answer.Owed.{Owed}

-- all entries of a race, the one that breaks a part among them
abbrev pub race_entries : Found → List Entry
race_entries (Found.Broken es e part) = es ++ e ∷ []
race_entries (Found.Stuck es) = es
race_entries Found.Nothing = []

-- from this state on each of the entries is one that the right driver would have made in the same state
abbrev pub AreRightFrom : Flaw → Program → Flawed → List Entry → Type 0
AreRightFrom l c t [] = ⊤
AreRightFrom l c t (e ∷ es) =
    (due_by Flaw.NoFlaw c t e.actor ≡ Progress.Did e) × AreRightFrom l c (flawed_next l c t e) es

-- so it is after the set-up h
abbrev pub AreRight : Flaw → Program → List Entry → List Entry → Type 0
AreRight l c h es = AreRightFrom l c (flawed_from (state_of c h)) es

-- this was due in place of the first of the entries that the right driver would not have made in the same state
pub record IsFirstOwed (l : Flaw) (c : Program) (h es : List Entry) (w : Owed) : Type 0 where
  pub before : List Entry
  pub entry : Entry
  pub rest : List Entry
  pub all : es ≡ before ++ entry ∷ rest
  pub right : AreRight l c h before
  pub made : due_by l c (flawed_after l c h before) w.actor ≡ Progress.Did entry
  pub otherwise : ¬ (due_by Flaw.NoFlaw c (flawed_after l c h before) w.actor ≡ Progress.Did entry)
  pub position : w.at ≡ length h + length before
  pub due : w.due ≡ due_by Flaw.NoFlaw c (flawed_after l c h before) w.actor

-- what was owed in a race; nothing if the right driver would have made each entry in the same state
abbrev pub IsOwed : Flaw → Program → List Entry → List Entry → Option Owed → Type 0
IsOwed l c h es None = AreRight l c h es
IsOwed l c h es (Some w) = IsFirstOwed l c h es w

-- ---- at a point

-- no part was broken, an entry is due to the actor, the right driver would not make it, and this is due by that one
pub record IsOwedNow (l : Flaw) (c : Program) (x : FlawPoint) (a : ℕ) (w : Owed) : Type 0 where
  pub entry : Entry
  pub none : x.broken ≡ None
  pub made : due_by l c x.flawed a ≡ Progress.Did entry
  pub otherwise : ¬ (due_by Flaw.NoFlaw c x.flawed a ≡ Progress.Did entry)
  pub position : w.at ≡ x.flawed.state.after.length
  pub actor : w.actor ≡ a
  pub due : w.due ≡ due_by Flaw.NoFlaw c x.flawed a

-- what is owed at a turn of the actor; nothing if a part was broken, no entry is due, or the right driver would make
-- the same one
abbrev pub IsOwedAt : Flaw → Program → FlawPoint → ℕ → Option Owed → Type 0
IsOwedAt l c x a None =
    (e : Entry) → x.broken ≡ None → due_by l c x.flawed a ≡ Progress.Did e
    → due_by Flaw.NoFlaw c x.flawed a ≡ Progress.Did e
IsOwedAt l c x a (Some w) = IsOwedNow l c x a w

-- the earlier of two
abbrev pub earlier : Option Owed → Option Owed → Option Owed
earlier None now = now
earlier (Some w) now = Some w
