-- Whether an actor could go on, waits, or is done.
use Rattle.std.specs.Prelude.{ℕ, List, [], ◌∷◌, ◌++◌, codes}
use Rattle.std.specs.List.{flat_map}
use Rattle.hm_base.specs.Program.{Program}
use Rattle.hm_history.specs.Kernel.Due.{due}
use Rattle.hm_history.specs.Kernel.Run.{actors_of}
use Rattle.hm_history.specs.declared.Entry.{Entry}
use Rattle.hm_history.specs.declared.Progress.{Progress}
use Rattle.hm_check.specs.Waiting.{why_text}

-- what is due, as one word: an entry, a wait, or nothing
abbrev pub standing_text : Progress → List ℕ
standing_text (Progress.Did e) = codes "+"
standing_text (Progress.Waiting why) = why_text (codes "/") why
standing_text Progress.Idle = codes "-"

-- an actor's word after a history, with a space before it
abbrev pub standing_of : Program → List Entry → ℕ → List ℕ
standing_of c h a = 32 ∷ standing_text (due c h a)

-- the line after a history: a word for each actor of the script, in their order
abbrev pub standing_line : Program → List Entry → List ℕ
standing_line c h = codes ":" ++ (flat_map (standing_of c h) (actors_of c) ++ 10 ∷ [])
