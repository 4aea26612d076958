-- What a search says of its goal.
use Rattle.std.specs.Prelude.{◌≡◌, ℕ, ◌≤◌, ◌⊎◌, Bool, true, false, List, ◌++◌, length}
use Rattle.hm_race_laws.specs.Closed.{IsListed}
use Rattle.hm_search.specs.Known.{KnownValue}

-- the goal holds of the form of a known state that counts as ended
pub record Reaches {F : Type 0} (goal : F → Bool) (known : List (KnownValue F)) : Type 0 where
  pub state : KnownValue F
  pub listed : IsListed known state
  pub ended : state.ended ≡ true
  pub reached : goal state.form ≡ true

-- the goal holds of the form of no known state that counts as ended
abbrev pub AreMissed : {F : Type 0} → (F → Bool) → List (KnownValue F) → Type 0
AreMissed goal known = (n : KnownValue _) → IsListed known n → n.ended ≡ true → goal n.form ≡ false

-- only the states that were found last, by one turn of each actor, can have reached the goal; or the first, alone
pub record IsSoon {F : Type 0} (actors : ℕ) (goal : F → Bool) (known : List (KnownValue F)) : Type 0 where
  pub before : List (KnownValue F)
  pub last : List (KnownValue F)
  pub all : known ≡ before ++ last
  pub few : (length last ≤ actors) ⊎ (length known ≡ 1)
  pub missed : AreMissed goal before
