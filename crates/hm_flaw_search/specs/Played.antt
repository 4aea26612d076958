-- What turns lead to: a key with their entries, and what is found there.
use Rattle.std.specs.Prelude.{◌≡◌, ℕ, Option, Some, None, List}
use Rattle.hm_base.specs.Program.{Program}
use Rattle.hm_history.specs.declared.Entry.{Entry}
use Rattle.hm_flaws.specs.declared.flaws.Flaw.{Flaw}
use Rattle.hm_flaws.specs.declared.parts.Part.{Part}
use Rattle.hm_flaws.specs.Judged.{Judged, judged}
use Rattle.hm_flaw_states.specs.Keyed.{form_in, entries_in, broken_in}
use Rattle.hm_flaw_states.specs.declared.key.FlawKey.{FlawKey}
use Rattle.hm_flaw_parts.specs.Races.Judging.{point_after}
use Rattle.hm_flaw_search.specs.Owing.{IsOwed, race_entries}
use Rattle.hm_flaw_search.specs.declared.answer.Found.{Found}
use Rattle.hm_flaw_search.specs.declared.answer.Owed.{Owed}

-- the key is that of the point after these turns, with the entries that they are judged to come to, and the one that
-- breaks a part
pub record IsPlayed (parts : List Part) (l : Flaw) (c : Program) (h : List Entry) (turns : List ℕ) (k : FlawKey)
    : Type 0 where
  pub form : form_in k ≡ point_after parts l c h turns
  pub entries : entries_in k ≡ (judged parts l c h turns).entries
  pub broken : broken_in k ≡ (judged parts l c h turns).broken

-- these entries, and the one that breaks a part, if one does
abbrev pub found_with : List Entry → Option (Entry × Part) → Found
found_with es None = Found.Stuck es
found_with es (Some y) = Found.Broken es y.0 y.1

-- what was found after turns that are judged to come to this, if they break a part or nobody can go on
abbrev pub found_by : Judged → Found
found_by x = found_with x.entries x.broken

-- this is owed in the race to which the turns lead
abbrev pub IsOwedAfter : List Part → Flaw → Program → List Entry → List ℕ → Option Owed → Type 0
IsOwedAfter parts l c h turns o = IsOwed l c h (race_entries (found_by (judged parts l c h turns))) o
