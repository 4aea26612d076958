-- What the program hmmrun does with the words after its name.
use Rattle.std.specs.Prelude.{◌≡◌, ◌↔◌, ℕ, List, ◌++◌, None, codes}
use Rattle.hm_edge.specs.Traffic.{Traffic}
use Rattle.hm_edge.specs.declared.status.Status.{Status}
use Rattle.hm_top.specs.Commands.{command_of}
use Rattle.hm_top.specs.Does.{Does}
use Rattle.hm_top.specs.declared.ended.Ended.{Ended}

-- the name that its messages begin with
abbrev pub name : List ℕ
name = codes "hmmrun"

-- what it says if its words are none of the forms
abbrev pub usage : List ℕ
usage =
    codes "usage: hmmrun replay | threads | race | generate N | trial N | upgrade | check | "
    ++ codes "peek P ADDR LEN | advise | why"

-- A call was made, which ended with this status.
pub record Runs (words : List (List ℕ)) (io : Traffic) (status : Status) : Type 0 where
  pub ended : Ended
  pub status_is : ended.status ≡ status
  -- `Usage` comes exactly if the words are none of the forms.
  pub usage : (status ≡ Status.Usage) ↔ (command_of words ≡ None)
  -- What the words ask for was done.
  pub does : Does (command_of words) io ended
