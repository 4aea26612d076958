-- Orders of turns that are played to their end if a search was cut.
use Rattle.std.specs.Prelude.{◌≡◌, ◌⊎◌, ℕ, ◌+◌, ◌≤◌, Bool, true, false, ⊤, List, [], ◌∷◌, ◌++◌, length, map}
use Rattle.std.specs.Prelude.{Option, Some, None}
use Rattle.hm_base.specs.Program.{Program}
use Rattle.hm_history.specs.Kernel.Run.{run}
use Rattle.hm_race_laws.specs.Outcomes.{Point}
use Rattle.hm_race_states.specs.Keyed.{form_in}
use Rattle.hm_race_states.specs.declared.key.StateKey.{StateKey}
use Rattle.hm_search.specs.Known.{AreActors}
use Rattle.hm_search.specs.Systems.{SystemValue, form_after, point_at}
use Rattle.hm_race_top.specs.Run.Known.{KnownValue}
use Rattle.hm_race_top.specs.Run.Races.{RaceValue}
use Rattle.hm_race_top.specs.Run.Systems.{race_of}
use Rattle.hm_race_top.specs.Run.Turns.{IsShown}
use Rattle.hm_race_top.specs.declared.run.played.Played.{Played}
use Rattle.hm_race_top.specs.declared.run.played.Turn.{Turn}

-- as many turns as an order has at most
abbrev pub most_turns : ℕ
most_turns = 4096

-- what contracts see of an order that was played
abbrev pub played_of : Played → KnownValue
played_of p = record { form = form_in p.key; turns = p.turns; ended = p.ended }

-- the same of several
abbrev pub all_played : List Played → List KnownValue
all_played ps = map played_of ps

-- the turn after a point is the actor's, if something is due to it
abbrev pub Prefers : {X F : Type 0} → SystemValue X F → ℕ → X → ℕ → Type 0
Prefers y a x b = y.is_due x a ≡ true → b ≡ a

-- so is each of these turns, the first of which comes after this point
abbrev pub PrefersAll : {X F : Type 0} → SystemValue X F → ℕ → X → List ℕ → Type 0
PrefersAll y a x [] = ⊤
PrefersAll y a x (b ∷ bs) = Prefers y a x b × PrefersAll y a (y.turn x b) bs

-- nothing is due to anybody
abbrev pub NobodyGoes : {X F : Type 0} → SystemValue X F → X → Type 0
NobodyGoes y x = (a : ℕ) → y.is_due x a ≡ false

-- nobody can go on after these turns, or the history is full
abbrev pub IsOver : {X F : Type 0} → SystemValue X F → List ℕ → Type 0
IsOver y turns = NobodyGoes y (point_at y turns) ⊎ (2000000 ≤ y.entries y.start + length turns)

-- An order of turns: the actor has the turn as long as something is due to it, and else another one. It ends if nobody
-- can go on, if the history is full, or after so many turns.
pub record IsOrder {X F : Type 0} (y : SystemValue X F) (a : ℕ) (turns : List ℕ) : Type 0 where
  pub prefers : PrefersAll y a y.start turns
  pub far : IsOver y turns ⊎ (most_turns ≤ length turns)

-- these come from such orders: the first from one of this actor, the next from one of the next actor
abbrev pub AreOrders : {X F : Type 0} → SystemValue X F → ℕ → List KnownValue → Type 0
AreOrders y a [] = ⊤
AreOrders y a (n ∷ ns) = IsOrder y a n.turns × AreOrders y (a + 1) ns

-- there is one of each actor
pub record HaveOrders (c : Program) (more : List KnownValue) : Type 0 where
  pub each : length more ≡ length c.actors
  pub orders : AreOrders (race_of c (run c)) 0 more

-- ---- while one is played

-- it is the turn of an actor at a point, and the key after it
abbrev pub IsTurnAt : SystemValue Point Point → Point → Turn → Type 0
IsTurnAt y x t = (y.is_due x t.actor ≡ true) × (form_in t.key ≡ y.form (y.turn x t.actor))

-- the turn of this actor at a point, or none if nothing is due to it
abbrev pub IsTurnBy : SystemValue Point Point → Point → ℕ → Option Turn → Type 0
IsTurnBy y x a None = y.is_due x a ≡ false
IsTurnBy y x a (Some t) = IsTurnAt y x t

-- the next turn at a point of an order which prefers this actor, or none if nothing is due to anybody
abbrev pub IsNextTurn : SystemValue Point Point → Point → ℕ → Option Turn → Type 0
IsNextTurn y x a None = NobodyGoes y x
IsNextTurn y x a (Some t) = IsTurnAt y x t × Prefers y a x t.actor

-- an order with one turn more, which prefers this actor; or it is over
abbrev pub HasGone : SystemValue Point Point → ℕ → List ℕ → List ℕ → Bool → Type 0
HasGone y a old new true = (b : ℕ) × (new ≡ old ++ b ∷ []) × Prefers y a (point_at y old) b
HasGone y a old new false = (new ≡ old) × IsOver y old

-- the key stands after these turns
pub record IsAt (t : RaceValue) (k : StateKey) (turns : List ℕ) : Type 0 where
  pub form : form_in k ≡ form_after (race_of t.script t.set_up) turns
  pub kept : IsShown t.script k.state (length t.set_up + length turns)
  pub actors : AreActors (length t.script.actors) turns
  pub adds : (race_of t.script t.set_up).entries (point_at (race_of t.script t.set_up) turns)
      ≡ length t.set_up + length turns
  pub room : length t.set_up + length turns ≤ 2000000
