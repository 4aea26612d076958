-- What the program hmmjudge does with the words after its name.
use Rattle.std.specs.Prelude.{◌≡◌, ℕ, List, Option, Some, None, codes}
use Rattle.hm_edge.specs.Traffic.{IsUntouched, Traffic}
use Rattle.hm_edge.specs.declared.status.Status.{Status}
use Rattle.hm_judge.specs.Asked.{asked_of}
use Rattle.hm_judge.specs.Judging.{Judges}
use Rattle.hm_judge.specs.declared.asked.Asked.{Asked}

-- the name that its messages begin with
abbrev pub name : List ℕ
name = codes "hmmjudge"

-- what it says if its words are none of the forms
abbrev pub usage : List ℕ
usage = codes "usage: hmmjudge [--standing | --all]"

-- the words are no form: nothing was read, and nothing written
pub record HasRefused (io : Traffic) (status : Status) : Type 0 where
  pub usage : status ≡ Status.Usage
  pub untouched : IsUntouched io

-- what is asked for was done
abbrev pub RunsAsked : Option Asked → Traffic → Status → Type 0
RunsAsked None = HasRefused
RunsAsked (Some asked) = Judges asked

-- what the words ask for was done
abbrev pub Runs : List (List ℕ) → Traffic → Status → Type 0
Runs words = RunsAsked (asked_of words)
