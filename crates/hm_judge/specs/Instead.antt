-- What could stand in the place of a bad line.
use Rattle.std.specs.Prelude.{◌≡◌, ℕ, List, length, map}
use Rattle.hm_base.specs.Program.{Program}
use Rattle.hm_check.specs.Parts.{tail_of}
use Rattle.hm_history.specs.Kernel.Due.{due}
use Rattle.hm_history.specs.Kernel.Run.{actors_of}
use Rattle.hm_history.specs.declared.Entry.{Entry}
use Rattle.hm_script.specs.Automaton.{lines}
use Rattle.hm_judge.specs.Judgements.{IsNear, line_or_none}
use Rattle.hm_judge.specs.Nearest.{could_stand}
use Rattle.hm_judge.specs.declared.behind.Instead.{Instead}
use Rattle.hm_judge.specs.declared.judgement.Fault.{Fault}

-- so after these entries, if these lines follow them, n of them end the report, and this is wrong with the next
pub record IsInstead (c : Program) (h : List Entry) (ls : List (List ℕ)) (n : ℕ) (fault : Fault)
    (x : Instead) : Type 0 where
  pub standing : x.standing.items ≡ map (due c h) (actors_of c)
  pub ending : x.ending ≡ line_or_none (lines (tail_of c h)) n
  pub nearest :
      IsNear fault (line_or_none ls n) (could_stand (length h) x.standing.items x.ending) x.nearest
