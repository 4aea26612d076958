-- A world as contracts see it: its script, its history, and why it goes no further. All else is a definition over
-- these.
use Rattle.std.specs.Prelude.{◌≡◌, ℕ, Option, None, Some, List, [], ◌∷◌, ◌++◌, length, ⊤}
use Rattle.hm_base.specs.Program.{Program}
use Rattle.hm_history.specs.Kernel.Due.{due}
use Rattle.hm_history.specs.Kernel.Going.{State, state_of}
use Rattle.hm_history.specs.declared.Kind.{Kind}
use Rattle.hm_history.specs.declared.Entry.{Entry}
use Rattle.hm_history.specs.declared.Progress.{Progress}
use Rattle.hm_history.specs.declared.StepError.{StepError}

-- all of a world that its history does not give is its script and why it goes no further
pub record WorldValue : Type 0 where
  pub script : Program
  pub history : List Entry
  pub halted : Option StepError

-- at the start
abbrev pub opening : Program → WorldValue
opening c = record { script = c; history = []; halted = None }

-- one more entry
abbrev pub grown : WorldValue → ℕ → Kind → WorldValue
grown t a k = record t { history = t.history ++ record { actor = a; kind = k } ∷ [] }

-- the world goes no further, for this cause
abbrev pub halted_by : WorldValue → StepError → WorldValue
halted_by t error = record t { halted = Some error }

-- it goes no further, and keeps the first cause that it was told
abbrev pub halted_first : WorldValue → StepError → WorldValue
halted_first t error = elim t.halted [ None ↦ halted_by t error | Some first ↦ t ]

-- what the history gives
unfoldable pub now : WorldValue → State
now t = state_of t.script t.history

-- some actor has an entry due
pub record HasDue (c : Program) (h : List Entry) : Type 0 where
  pub actor : ℕ
  pub entry : Entry
  pub is_due : due c h actor ≡ Progress.Did entry

-- a world goes no further where its history is full, and then an entry was due, or where memory ran out
abbrev pub MayHalt : Program → List Entry → StepError → Type 0
MayHalt c h (StepError.Full n) = (n ≡ 2000000) × (length h ≡ 2000000) × HasDue c h
MayHalt c h StepError.NoMemory = ⊤

-- a world that goes no further has a cause for it
abbrev pub HaltsRightly : Program → List Entry → Option StepError → Type 0
HaltsRightly c h None = ⊤
HaltsRightly c h (Some error) = MayHalt c h error
