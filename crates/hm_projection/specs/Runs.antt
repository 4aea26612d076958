-- What the program hmmevents does with the words after its name.
use Rattle.std.specs.Prelude.{◌≡◌, ℕ, List, [], ◌∷◌, codes}
use Rattle.hm_edge.specs.Traffic.{IsUntouched, Traffic}
use Rattle.hm_edge.specs.declared.status.Status.{Status}
use Rattle.hm_projection.specs.Writes.{WritesTrace}

-- the name that its messages begin with
abbrev pub name : List ℕ
name = codes "hmmevents"

-- what it says if there are words
abbrev pub usage : List ℕ
usage = codes "usage: hmmevents"

-- there are words: nothing was read, and nothing written
pub record HasRefused (io : Traffic) (status : Status) : Type 0 where
  pub usage : status ≡ Status.Usage
  pub untouched : IsUntouched io

-- a report is read, and the trace of its history is written; it takes no words
abbrev pub Runs : List (List ℕ) → Traffic → Status → Type 0
Runs [] io status = WritesTrace io status
Runs (w ∷ ws) io status = HasRefused io status
