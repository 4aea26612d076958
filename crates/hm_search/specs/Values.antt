-- What a search keeps, as its definitions see it.
use Rattle.std.specs.Prelude.{◌≡◌, ℕ, ◌+◌, ◌<◌, ◌≤◌, Bool, false, ◌&&◌, Option, Some, None, List, [], ◌∷◌, ◌++◌}
use Rattle.std.specs.Prelude.{map, fold, length, get_or, slice_get}
use Rattle.hm_race_laws.specs.Closed.{IsListed, AreDistinct}
use Rattle.hm_search.specs.Buckets.{BucketsValue}
use Rattle.hm_search.specs.Systems.{SystemValue}
use Rattle.hm_search.specs.Known.{KnownValue, turns_at, Explores, IsNear}
use Rattle.hm_search.specs.declared.known.Edge.{Edge}
use Rattle.hm_search.specs.declared.known.Known.{Known}

-- the turns that lead to a state after a turn at one of these
abbrev pub turns_by : {F : Type 0} → List (KnownValue F) → Option Edge → List ℕ
turns_by vs None = []
turns_by vs (Some turn) = turns_at vs turn.state ++ turn.actor ∷ []

-- the turn that led first to the state at a place
abbrev pub from_of : {K : Type 0} → List (Known K) → ℕ → Option Edge
from_of ns at = elim (slice_get ns at) as (λ z. Option Edge) [ None ↦ None | Some n ↦ n.from ]

-- what contracts see of a state that is known, after these; `form` reads its key
abbrev pub known_of : {K F : Type 0} → (K → F) → List (KnownValue F) → Known K → KnownValue F
known_of form vs n = record { form = form n.key; turns = turns_by vs n.from; ended = n.ended }

-- these and one more
abbrev pub with_known : {K F : Type 0} → (K → F) → List (KnownValue F) → Known K → List (KnownValue F)
with_known form vs n = vs ++ known_of form vs n ∷ []

-- the same of all that are known, each with the turns to the one that it was come to from, and one more
abbrev pub all_known : {K F : Type 0} → (K → F) → List (Known K) → List (KnownValue F)
all_known form ns = fold (with_known form) [] ns

-- the forms of all that are known
abbrev pub key_forms : {K F : Type 0} → (K → F) → List (Known K) → List F
key_forms form ns = map (λ n. form n.key) ns

-- it counts as ended, and the goal holds of its form
abbrev pub at_goal : {K F : Type 0} → (K → F) → (F → Bool) → Known K → Bool
at_goal form goal n = n.ended && goal (form n.key)

-- the table of buckets is that of these states, and no two of them have one form
pub record Fits {K F : Type 0} (form : K → F) (number : K → ℕ) (Valid : K → Type 0) (ns : List (Known K))
    (b : BucketsValue) : Type 0 where
  pub numbers : b.numbers ≡ map (λ n. number n.key) ns
  pub valid : (n : Known K) → IsListed ns n → Valid n.key
  pub distinct : AreDistinct (key_forms form ns)

-- of each it is noted how many turns lead to it
abbrev pub AreDeep : {K F : Type 0} → (K → F) → List (Known K) → Type 0
AreDeep form ns =
    (i : ℕ) → i < length ns → get_or (map (λ n. n.depth) ns) i 0 ≡ length (turns_at (all_known form ns) i)

-- of the key of each holds what is kept of keys, with the entries that led there: those at the start and its turns
abbrev pub AreKept : {K X F : Type 0} → SystemValue X F → (K → ℕ → Type 0) → List (Known K) → Type 0
AreKept y Kept ns = (n : Known _) → IsListed ns n → Kept n.key (y.entries y.start + n.depth)

-- a search that is to go on from the state at this place, with what is kept of it; `own` is the form by which keys are
-- compared
pub record Searching {K X F G : Type 0} (y : SystemValue X F) (form : K → F) (own : K → G) (number : K → ℕ)
    (Valid : K → Type 0) (ns : List (Known K)) (b : BucketsValue) (at : ℕ) : Type 0 where
  pub explores : Explores y (all_known form ns) at
  pub deep : AreDeep form ns
  pub fits : Fits own number Valid ns b

-- these states, and at most this many more
pub record HasGrown {K : Type 0} (old new : List (Known K)) (most : ℕ) : Type 0 where
  pub more : List (Known K)
  pub grown : new ≡ old ++ more
  pub few : length more ≤ most

-- a search at its end: it has gone on from all states, or knows more than were asked for, or has come to the goal
pub record HasSearched {K X F G : Type 0} (y : SystemValue X F) (form : K → F) (own : K → G) (number : K → ℕ)
    (Valid : K → Type 0) (ns : List (Known K)) (b : BucketsValue) (most : ℕ) (reached : Bool) : Type 0 where
  pub at : ℕ
  pub searching : Searching y form own number Valid ns b at
  pub all : reached ≡ false → length ns ≤ most → length ns ≤ at
  pub near : IsNear y.actors most (length ns)
