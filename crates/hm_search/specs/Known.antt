-- What a search knows of a system: the states that it has come to, and which of them it has still to go on from.
use Rattle.std.specs.Prelude.{◌≡◌, ℕ, ◌+◌, ◌<◌, ◌≤◌, ◌⊎◌, Bool, true, ⊤}
use Rattle.std.specs.Prelude.{List, [], ◌∷◌, ◌++◌, length, map, nat_lt, get_or}
use Rattle.std.specs.List.{list_all}
use Rattle.hm_history.specs.declared.StepError.{StepError}
use Rattle.hm_race_laws.specs.Closed.{IsListed}
use Rattle.hm_search.specs.Systems.{SystemValue, point_at, form_after}

-- a state that is known: its form, turns that lead to it, and whether it counts as ended
pub record KnownValue (F : Type 0) : Type 0 where
  pub form : F
  pub turns : List ℕ
  pub ended : Bool

-- turns of actors that there are
abbrev pub AreActors : ℕ → List ℕ → Type 0
AreActors actors turns = list_all (λ a. nat_lt a actors) turns ≡ true

-- it is what its turns lead to; each of them adds an entry, and the history had room for them
pub record IsKnown {X F : Type 0} (y : SystemValue X F) (n : KnownValue F) : Type 0 where
  pub form : n.form ≡ form_after y n.turns
  pub ended : n.ended ≡ y.ended (point_at y n.turns)
  pub actors : AreActors y.actors n.turns
  pub room : y.entries (point_at y n.turns) ≤ 2000000
  pub adds : y.entries (point_at y n.turns) ≡ y.entries y.start + length n.turns

-- the forms of what is known
abbrev pub forms : {F : Type 0} → List (KnownValue F) → List F
forms ns = map (λ n. n.form) ns

-- the turns that lead to the known state at a place; none if there is no such state
abbrev pub turns_at : {F : Type 0} → List (KnownValue F) → ℕ → List ℕ
turns_at ns at = get_or (map (λ n. n.turns) ns) at []

-- a known state has this form, and at most this many turns lead to it
pub record Within {F : Type 0} (ns : List (KnownValue F)) (f : F) (most : ℕ) : Type 0 where
  pub state : KnownValue F
  pub listed : IsListed ns state
  pub form : state.form ≡ f
  pub few : length state.turns ≤ most

-- if something is due to an actor, the state after its turn is known, with at most this many turns
abbrev pub GoesOn : {X F : Type 0} → SystemValue X F → List (KnownValue F) → X → ℕ → ℕ → Type 0
GoesOn y ns x most a = y.is_due x a ≡ true → Within ns (y.form (y.turn x a)) most

-- a search has gone on from a point by each actor below a number
abbrev pub GoneOnBelow : {X F : Type 0} → SystemValue X F → List (KnownValue F) → X → ℕ → ℕ → Type 0
GoneOnBelow y ns x most k = (a : ℕ) → a < k → GoesOn y ns x most a

-- a search has gone on from a point by every actor
abbrev pub GoneOn : {X F : Type 0} → SystemValue X F → List (KnownValue F) → X → ℕ → Type 0
GoneOn y ns x most = (a : ℕ) → GoesOn y ns x most a

-- the states stand in the order of how many turns lead to them
abbrev pub AreRising : {F : Type 0} → List (KnownValue F) → Type 0
AreRising ns =
    (i j : ℕ) → i ≤ j → j < length ns → length (turns_at ns i) ≤ length (turns_at ns j)

-- a search: the states that are known, and the place of the first from which it has not gone on yet
pub record Explores {X F : Type 0} (y : SystemValue X F) (ns : List (KnownValue F)) (at : ℕ) : Type 0 where
  pub each : (n : KnownValue F) → IsListed ns n → IsKnown y n
  pub from : Within ns (y.form y.start) 0
  pub onward : (i : ℕ) → i < at → i < length ns
      → GoneOn y ns (point_at y (turns_at ns i)) (length (turns_at ns i) + 1)
  pub rising : AreRising ns
  pub near : (i : ℕ) → i < length ns → at < length ns → length (turns_at ns i) ≤ length (turns_at ns at) + 1

-- one turn of an actor at a known state leads to a state with this form, and adds an entry, for which there is room
pub record LeadsOn {X F : Type 0} (y : SystemValue X F) (turns : List ℕ) (a : ℕ) (f : F) : Type 0 where
  pub form : f ≡ form_after y (turns ++ a ∷ [])
  pub adds : y.entries (point_at y (turns ++ a ∷ [])) ≡ y.entries y.start + (length turns + 1)
  pub room : y.entries y.start + (length turns + 1) ≤ 2000000

-- why a search fails: memory; or after some turns the history is full, and an entry is due
abbrev pub MayFail : {X F : Type 0} → SystemValue X F → StepError → Type 0
MayFail y StepError.NoMemory = ⊤
MayFail y (StepError.Full n) =
    (n ≡ 2000000) × (turns : List ℕ) × (a : ℕ)
    × (y.entries (point_at y turns) ≡ 2000000) × (y.is_due (point_at y turns) a ≡ true)

-- each is what its turns lead to
abbrev pub AreKnown : {X F : Type 0} → SystemValue X F → List (KnownValue F) → Type 0
AreKnown y known = (n : KnownValue _) → IsListed known n → IsKnown y n

-- the form after any turns is known
abbrev pub HaveForms : {X F : Type 0} → SystemValue X F → List (KnownValue F) → Type 0
HaveForms y known = (turns : List ℕ) → IsListed (forms known) (form_after y turns)

-- no turns lead to the form of a known state that are fewer than its own
abbrev pub AreFewest : {X F : Type 0} → SystemValue X F → List (KnownValue F) → Type 0
AreFewest y known =
    (n : KnownValue _) → IsListed known n → (turns : List ℕ) → form_after y turns ≡ n.form
    → length n.turns ≤ length turns

-- the form after turns that are fewer than those of some known state is known, with no more turns than these
abbrev pub HaveFewer : {X F : Type 0} → SystemValue X F → List (KnownValue F) → Type 0
HaveFewer y known =
    (n : KnownValue _) → IsListed known n → (turns : List ℕ) → length turns < length n.turns
    → Within known (form_after y turns) (length turns)

-- a search that stopped knows at most as many states beyond those asked for as there are actors; or it knows the first
-- alone
abbrev pub IsNear : ℕ → ℕ → ℕ → Type 0
IsNear actors most known = (known ≤ most + actors) ⊎ (known ≡ 1)

-- a search that was cut knows more states than were asked for, but not many more
abbrev pub IsCut : ℕ → ℕ → ℕ → Type 0
IsCut actors most known = (most < known) × IsNear actors most known
