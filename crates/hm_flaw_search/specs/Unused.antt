-- Whether a rule was used: whether a driver without it ever does otherwise than the right one.
use Rattle.std.specs.Prelude.{◌≡◌, ◌≤◌, Option, Some, None, List, ⊤}
use Rattle.hm_base.specs.Program.{Program}
use Rattle.hm_history.specs.declared.Entry.{Entry}
use Rattle.hm_flaws.specs.declared.flaws.Flaw.{Flaw}
use Rattle.hm_flaws.specs.declared.parts.Part.{Part}
use Rattle.hm_race_laws.specs.Closed.{IsListed}
use Rattle.hm_search.specs.declared.known.Known.{Known}
use Rattle.hm_search.specs.declared.search.End.{End}
use Rattle.hm_flaw_states.specs.Keyed.{form_in}
use Rattle.hm_flaw_states.specs.declared.key.FlawKey.{FlawKey}
use Rattle.hm_flaw_search.specs.Alike.{AllTurnAlike, NeverDiffers}
use Rattle.hm_flaw_search.specs.declared.answer.Found.{Found}

-- ---- states that are known

-- a turn of each actor at each of these states adds what it adds with the right driver, and leads to the same
abbrev pub KnownTurnAlike : Flaw → Program → List (Known FlawKey) → Type 0
KnownTurnAlike l c ns = (n : Known FlawKey) → IsListed ns n → AllTurnAlike l c (form_in n.key)

-- the history of each of these states is not too long
abbrev pub HaveEntries : List (Known FlawKey) → Type 0
HaveEntries ns = (n : Known FlawKey) → IsListed ns n → n.key.state.value.entries ≤ 2000000

-- two keys, or neither of them, of one form
abbrev pub AreSameNext : Option FlawKey → Option FlawKey → Type 0
AreSameNext (Some n) (Some m) = form_in n ≡ form_in m
AreSameNext None None = ⊤
AreSameNext _ _ = ⊥

-- ---- what is said of a rule

-- a rule is left out, all states are known, and nothing was found
pub record MayBeUnused (l : Flaw) (end : End) (f : Found) : Type 0 where
  pub rule : ¬ (l ≡ Flaw.NoFlaw)
  pub whole : end ≡ End.Whole
  pub nothing : f ≡ Found.Nothing

-- and the driver never does otherwise than the right one
pub record IsUnused (parts : List Part) (l : Flaw) (c : Program) (h : List Entry) (end : End) (f : Found) : Type 0 where
  pub may : MayBeUnused l end f
  pub never : NeverDiffers parts l c h

-- the same, by the states that are known
pub record LooksUnused (l : Flaw) (c : Program) (ns : List (Known FlawKey)) (end : End) (f : Found) : Type 0 where
  pub may : MayBeUnused l end f
  pub alike : KnownTurnAlike l c ns
