-- What the program hmmraces does with the words after its name.
use Rattle.std.specs.Prelude.{ℕ, List, codes}
use Rattle.hm_edge.specs.Traffic.{Traffic}
use Rattle.hm_edge.specs.declared.status.Status.{Status}
use Rattle.hm_race_top.specs.Races.{Races}

-- the name that its messages begin with
abbrev pub name : List ℕ
name = codes "hmmraces"

-- what it says if its words are none of the forms
abbrev pub usage : List ℕ
usage =
    codes "usage: hmmraces [[--most] MOST] [--table | --script N | [--strict] --expect CONDITION ..]"

-- what the words ask for was done
abbrev pub Runs : List (List ℕ) → Traffic → Status → Type 0
Runs = Races
