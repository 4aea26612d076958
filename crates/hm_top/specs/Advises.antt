-- The call with the word `advise`: a script is read, its schedule's turns are made, and an advice on its pages goes
-- out.
use Rattle.std.specs.Prelude.{ℕ, List}
use Rattle.hm_advisor.specs.Counts.{counts}
use Rattle.hm_advisor.specs.Moves.{moves_for}
use Rattle.hm_advisor.specs.Text.{advice_text}
use Rattle.hm_base.specs.Program.{Program}
use Rattle.hm_history.specs.declared.Entry.{Entry}
use Rattle.hm_top.specs.Replays.{TellsOfRun}
use Rattle.hm_edge.specs.Traffic.{Traffic}
use Rattle.hm_top.specs.declared.ended.Ended.{Ended}

-- the counts of the history and the moves that follow from them, as lines
abbrev pub advice_on : Program → List Entry → List ℕ
advice_on s h = advice_text (record { counts = counts h; moves = moves_for (counts h) })

-- what is read and run is as for `replay`; the text is the advice on that history
abbrev pub Advises : Traffic → Ended → Type 0
Advises = TellsOfRun advice_on
