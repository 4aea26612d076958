-- Only a compare-exchange on the turn that finds it held raises a pass's count of held turns.
use Rattle.std.specs.Prelude.{◌≡◌, ◌≢◌, ℕ, ◌+◌, List, Option}
use Rattle.atomic_table.specs.Table.{Me, Step}
use Rattle.hm_base.specs.Program.{Program}
use Rattle.hm_history.specs.declared.Entry.{Entry}
use Rattle.hm_history.specs.declared.StepError.{StepError}
use Rattle.hm_turns.specs.declared.known.Knowledge.{Knowledge}
use Rattle.hm_turns.specs.Ruled.{took, noted, published_as, gave, raised_as, counted_as, marked_as, compared_as}
use Rattle.hm_turns.specs.Ruled.{left_of, right_of, both_of}

module _ {S : Type 0} (script : S → Program) (history : S → List Entry) (halt : S → Option StepError) where
  abbrev Tells : Type 1
  Tells = Step (Option S) → Me (Option S) Knowledge → ℕ → Me (Option S) Knowledge → Type 0

  -- a step that tells this leaves the count as it was
  abbrev KeepsCount : Tells → Type 0
  KeepsCount tells =
      (st : Step (Option S)) (m : Me (Option S) Knowledge) (n : ℕ) (m' : Me (Option S) Knowledge) → tells st m n m'
      → m'.0.busy ≡ m.0.busy

  -- each kind of step of the table, and a split and a join
  pub record OnlyHeldTurnsCount : Type 0 where
    pub take : (st : Step (Option S)) (m : Me (Option S) Knowledge) (n : ℕ) (m' : Me (Option S) Knowledge)
        → took script history halt st m n m' → m'.0.busy ≢ m.0.busy
        → (n ≢ 0) × (m'.0.busy ≡ m.0.busy + 1) × (st.word ≡ 1) × (st.first ≡ 0) × (st.second ≡ 1)
    pub note : KeepsCount (noted script history halt)
    pub raise : KeepsCount raised_as
    pub publish : KeepsCount (published_as script history halt)
    pub give : KeepsCount (gave script history halt)
    pub count : KeepsCount counted_as
    pub mark : KeepsCount marked_as
    pub compare : KeepsCount compared_as
    pub cut : (v : Knowledge) → ((left_of v).busy ≡ v.busy) × ((right_of v).busy ≡ 0)
    pub glue : (v w : Knowledge) → (both_of v w).busy ≡ v.busy + w.busy
