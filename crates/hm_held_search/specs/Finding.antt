-- Holds of which none can be left out.
use Rattle.std.specs.Prelude.{◌≡◌, ℕ, ◌+◌, ◌<◌, List, length, remove, ⊤}
use Rattle.hm_flaw_search.specs.Races.{FlawRaceValue}
use Rattle.hm_history.specs.declared.StepError.{StepError}
use Rattle.hm_holds.specs.declared.holds.Hold.{Hold}
use Rattle.hm_search.specs.Known.{MayFail}
use Rattle.hm_held_search.specs.Races.{held_value}
use Rattle.hm_held_search.specs.Tried.{ArePast, FailBy, IsSure}
use Rattle.hm_held_search.specs.declared.finding.FoundHolds.{FoundHolds}
use Rattle.hm_held_search.specs.declared.finding.Less.{Less}

-- without the hold at a place some order does not go wrong
pub record IsNeeded (r : FlawRaceValue) (ds : List Hold) (i : ℕ) : Type 0 where
  pub turns : List ℕ
  pub fail : FailBy r (remove ds i) turns

-- so it is with each of them
abbrev pub AreNeeded : FlawRaceValue → List Hold → Type 0
AreNeeded r ds = (i : ℕ) → i < length ds → IsNeeded r ds i

-- what is found when one of the holds is left out
abbrev pub IsLess : FlawRaceValue → List Hold → ℕ → Less → Type 0
IsLess r ds most (Less.Sure rest n) = IsSure r rest.items most n × (length rest.items + 1 ≡ length ds)
IsLess r ds most Less.Nothing = AreNeeded r ds
IsLess r ds most Less.Cut = ArePast r most

-- what a search for holds comes to that begins with these: every order goes wrong with those that are left, and each of
-- them is needed; or an order keeps those that it began with and does not go wrong; or a search was cut
abbrev pub IsFound : FlawRaceValue → List Hold → ℕ → FoundHolds → Type 0
IsFound r first most (FoundHolds.Needed holds n) = IsSure r holds.items most n × AreNeeded r holds.items
IsFound r first most (FoundHolds.NotSure turns) = FailBy r first turns.items
IsFound r first most FoundHolds.Cut = ArePast r most

-- why a search for holds fails: memory; or with some holds a search fails since the history is full
abbrev pub MayFailBy : FlawRaceValue → StepError → Type 0
MayFailBy r StepError.NoMemory = ⊤
MayFailBy r (StepError.Full n) = (ds : List Hold) × MayFail (held_value r ds) (StepError.Full n)
