-- What reading a whole text does to a source.
use Rattle.std.specs.Prelude.{◌≡◌, ℕ, ◌<◌, ◌≤◌, List, [], ◌++◌, length, Option, Some, None}
use Rattle.hm_io.specs.Streams.{Rose}
use Rattle.hm_edge.specs.declared.input.Input.{Input}
use Rattle.hm_edge.specs.declared.input.Input.TheVariants as input

-- these bytes came from what was left, and the rest is left now
abbrev pub Came : Option (List ℕ) → Option (List ℕ) → List ℕ → Type 0
Came None after bytes = Unit {0}
Came (Some left) after bytes = (rest : List ℕ) × (left ≡ bytes ++ rest) × (after ≡ Some rest)

-- all that was left came, and it is these bytes
abbrev pub CameWhole : Option (List ℕ) → Option (List ℕ) → List ℕ → Type 0
CameWhole None after bytes = Unit {0}
CameWhole (Some left) after bytes = (left ≡ bytes) × (after ≡ Some [])

-- more was left than this
abbrev pub LeftOver : Option (List ℕ) → ℕ → Type 0
LeftOver None most = Unit {0}
LeftOver (Some left) most = most < length left

-- what was read of a source with a limit
abbrev pub ReadsText : ℕ → Option (List ℕ) → Option (List ℕ) → Input → Type 0
ReadsText most before after (input.Whole bytes) = (length bytes ≤ most) × CameWhole before after bytes
ReadsText most before after input.TooLong = LeftOver before most
ReadsText most before after input.Fault = Unit {0}
ReadsText most before after input.NoMemory = Unit {0}

-- a fault comes only if the count rose, and else it stays
abbrev pub ReadFaults : ℕ → ℕ → Input → Type 0
ReadFaults before now input.Fault = Rose before now
ReadFaults before now (input.Whole bytes) = now ≡ before
ReadFaults before now input.TooLong = now ≡ before
ReadFaults before now input.NoMemory = now ≡ before
