-- What the calls on a seat say.
use Rattle.std.specs.Prelude.{◌≡◌, ◌≢◌, ℕ, ◌<◌, true, false, List, [], ◌∷◌, Option, Some, None}
use Rattle.atomic_table.specs.Seated.{TableId}
use Rattle.atomic_table.specs.declared.shared.Seat.{Seat}
use Rattle.hm_history.specs.declared.Entry.{Entry}
use Rattle.hm_base.specs.Program.{Program}
use Rattle.hm_history.specs.declared.StepError.{StepError}
use Rattle.hm_turns.specs.declared.known.Knowledge.{Knowledge}
use Rattle.hm_turns.specs.Sights.{Sight, OwnsOnce, all_shares}
use Rattle.hm_turns.specs.Ruled.{Won, winner, kept_out, sight_of}

-- 34 words, and a slot
abbrev pub IsSized : TableId → Type 0
IsSized z = (z.words ≡ 34) × (z.slots ≡ 1)

-- a seat at the table of a shared value
abbrev pub Place : Type 0 → Type 0
Place S = Seat (Option S) Knowledge

module _ {S : Type 0} where
  -- the seat stays, and knows this and holds that
  pub record Becomes (old new : Place S) (v : Knowledge) (hand : List (ℕ × Option S)) : Type 0 where
    pub table_is : new.table_id ≡ old.table_id
    pub id_is : new.id ≡ old.id
    pub me_is : new.me ≡ (v, hand)

  -- the seat of a pass, between two calls
  pub record IsIdle (seat : Place S) : Type 0 where
    pub empty : seat.me.1 ≡ []
    pub free : seat.me.0.holds ≡ false
    pub alone : seat.me.0.other ≡ []
    pub live : 0 < seat.me.0.shares

  abbrev pub OwnsItsOwn : Place S → Type 0
  OwnsItsOwn seat = OwnsOnce seat.me.0.own seat.me.0.list

  abbrev pub sight : Place S → Sight
  sight seat = sight_of seat.table_id (seat.me.0 ∷ [])

module _ {S : Type 0} (script : S → Program) (history : S → List Entry) (halt : S → Option StepError) where
  abbrev pub Takes : Place S → Option S → Place S → Type 0
  Takes old None new = (old.me.0.shares ≢ all_shares) × Becomes old new (kept_out old.me.0) []
  Takes old (Some x) new =
      Won script history halt old.me.0 x × Becomes old new (winner old.me.0 (history x) (halt x)) ((0, None) ∷ [])

  -- the value that a seat gives back
  pub record IsGivable (seat : Place S) (x : S) : Type 0 where
    pub hand : seat.me.1 ≡ (0, None) ∷ []
    pub holds : seat.me.0.holds ≡ true
    pub level : seat.me.0.ahead ≡ false
    pub script_is : script x ≡ seat.me.0.script
    pub told : (e : StepError) → seat.me.0.told ≡ Some e → halt x ≡ Some e
