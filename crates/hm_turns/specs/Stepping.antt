-- What a step of a stepped value does.
use Rattle.std.specs.Prelude.{◌≡◌, ℕ, ◌<◌, Bool, true, false, List, [], ◌∷◌, ◌++◌, length, Option, Some, None, Result}
use Rattle.std.specs.Prelude.{Ok, Err}
use Rattle.hm_history.specs.declared.Entry.{Entry}
use Rattle.hm_history.specs.declared.Progress.{Progress}
use Rattle.hm_history.specs.declared.Progress.TheVariants.{Did, Waiting, Idle}
use Rattle.hm_history.specs.declared.StepError.{StepError}
use Rattle.hm_history.specs.declared.StepError.TheVariants.{Full, NoMemory}

-- the most entries that a history has
abbrev pub most_entries : ℕ
most_entries = 2000000

-- the history after an answer
abbrev pub history_after : List Entry → Progress → List Entry
history_after h (Did e) = h ++ e ∷ []
history_after h (Waiting why) = h
history_after h Idle = h

-- an entry is due
abbrev pub IsEntry : Progress → Type 0
IsEntry (Did e) = Unit {0}
IsEntry (Waiting why) = ⊥
IsEntry Idle = ⊥

-- a history of n entries has no room for the entry that is due
abbrev pub HasNoRoom : Progress → List Entry → ℕ → Type 0
HasNoRoom due before n = (n ≡ most_entries) × (length before ≡ n) × IsEntry due

-- why a step failed
abbrev pub IsItsCause : Progress → List Entry → StepError → Type 0
IsItsCause due before (Full n) = HasNoRoom due before n
IsItsCause due before NoMemory = Unit {0}

-- a step of a value that is not halted answers what is due, and adds it if it is an entry; or it fails, adds
-- nothing, and the value is halted
abbrev pub Steps : Progress → List Entry → Result Progress StepError → List Entry → Option StepError → Type 0
Steps due before (Ok p) after halt =
    (p ≡ due) × (after ≡ history_after before p) × (halt ≡ None) × (IsEntry p → length before < most_entries)
Steps due before (Err e) after halt = IsItsCause due before e × (after ≡ before) × (halt ≡ Some e)

-- a value that is halted answers why, and stays as it is
abbrev pub StepsFrom : Option StepError → Progress → List Entry → Result Progress StepError → List Entry
    → Option StepError → Type 0
StepsFrom None due before result after halt = Steps due before result after halt
StepsFrom (Some e) due before result after halt = (result ≡ Err e) × (after ≡ before) × (halt ≡ Some e)

-- the value is halted, so that no step changes it any more
abbrev pub is_halted : Option StepError → Bool
is_halted None = false
is_halted (Some e) = true
