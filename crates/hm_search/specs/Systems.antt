-- What is searched: a system that actors' turns lead from point to point. Points are told apart by their forms.
use Rattle.std.specs.Prelude.{◌≡◌, ℕ, ◌+◌, ◌<◌, ◌≤◌, Bool, true, false, Option, Some, None, List, fold}

-- how many actors there are, and the point at which all begins; at a point, whether something is due to an actor, and
-- the point after its turn; the form of a point, whether it counts as ended, and how many entries led there
pub record SystemValue (X F : Type 0) : Type 0 where
  pub actors : ℕ
  pub start : X
  pub is_due : X → ℕ → Bool
  pub turn : X → ℕ → X
  pub form : X → F
  pub ended : X → Bool
  pub entries : X → ℕ

-- the point after turns of these actors, in this order
abbrev pub point_at : {X F : Type 0} → SystemValue X F → List ℕ → X
point_at y turns = fold y.turn y.start turns

-- the form after these turns
abbrev pub form_after : {X F : Type 0} → SystemValue X F → List ℕ → F
form_after y turns = y.form (point_at y turns)

-- after lists of turns that lead to one form, the same is due to an actor, and its turn leads to one form
abbrev pub GoAlike : {X F : Type 0} → SystemValue X F → Type 0
GoAlike y = (these those : List ℕ) → form_after y these ≡ form_after y those → (a : ℕ)
    → (y.is_due (point_at y these) a ≡ y.is_due (point_at y those) a)
    × (y.form (y.turn (point_at y these) a) ≡ y.form (y.turn (point_at y those) a))

-- what a search builds on: there are at most 16 actors, and only they have anything to do; a turn adds an entry if
-- something is due, and else changes nothing; and at the start the history has no more entries than it may
pub record IsSystem {X F : Type 0} (y : SystemValue X F) : Type 0 where
  pub few : y.actors ≤ 16
  pub alike : GoAlike y
  pub own : (x : X) (a : ℕ) → y.is_due x a ≡ true → a < y.actors
  pub adds : (x : X) (a : ℕ) → y.is_due x a ≡ true → y.entries (y.turn x a) ≡ y.entries x + 1
  pub stays : (x : X) (a : ℕ) → y.is_due x a ≡ false → y.turn x a ≡ x
  pub room : y.entries y.start ≤ 2000000

-- some turns lead to a point of this form
pub record Stands {X F : Type 0} (y : SystemValue X F) (f : F) : Type 0 where
  pub turns : List ℕ
  pub has_form : form_after y turns ≡ f

-- what a turn at a key comes to, by a point of the key's form: nothing is due, or the next key is that of the point
-- after the turn
abbrev pub IsNext : {X F K : Type 0} → (K → F) → SystemValue X F → X → ℕ → Option K → Type 0
IsNext form y x a None = y.is_due x a ≡ false
IsNext form y x a (Some k) = (y.is_due x a ≡ true) × (form k ≡ y.form (y.turn x a))
