-- The race of a driver with a flaw, as contracts see it.
use Rattle.std.specs.Prelude.{◌≡◌, ℕ, ◌≤◌, List, [], length}
use Rattle.hm_base.specs.Program.{Program}
use Rattle.hm_history.specs.Laws.{DueFrom}
use Rattle.hm_history.specs.declared.Entry.{Entry}
use Rattle.hm_flaws.specs.declared.flaws.Flaw.{Flaw}
use Rattle.hm_flaw_parts.specs.declared.judged.Judging.{Judging}
use Rattle.hm_flaw_parts.specs.Races.Races.{point_from}
use Rattle.hm_flaw_states.specs.Keyed.{entries_in, form_in}
use Rattle.hm_flaw_states.specs.Turns.{IsKept}
use Rattle.hm_flaw_states.specs.declared.key.FlawKey.{FlawKey}

-- the key after a set-up, whichever parts are judged
pub record IsFirst (c : Program) (h : List Entry) (k : FlawKey) : Type 0 where
  pub form : form_in k ≡ point_from c h
  pub trail : entries_in k ≡ []
  pub kept : (j : Judging) → IsKept j k

-- a copy of a key
pub record IsCopy (k n : FlawKey) : Type 0 where
  pub form : form_in n ≡ form_in k
  pub trail : entries_in n ≡ entries_in k
  pub state : n.state.value ≡ k.state.value

-- a script, the entries of its set-up and the key after them, the flaw of the driver, and which parts it is judged by
pub record FlawRaceValue : Type 0 where
  pub script : Program
  pub set_up : List Entry
  pub first : FlawKey
  pub flaw : Flaw
  pub judging : Judging

-- the set-up is a history of entries that were due, and not too long
pub record IsFlawRace (r : FlawRaceValue) : Type 0 where
  pub due : DueFrom r.script [] r.set_up
  pub few : length r.set_up ≤ 2000000
  pub first : IsFirst r.script r.set_up r.first

-- a key of the race whose state has at most n entries
pub record IsKeyOf (r : FlawRaceValue) (k : FlawKey) (n : ℕ) : Type 0 where
  pub kept : IsKept r.judging k
  pub few : k.state.value.entries ≤ n
