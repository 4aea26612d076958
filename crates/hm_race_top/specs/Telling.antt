-- What is written of a race, by the states that a search knows, and how the call ends then.
use Rattle.std.specs.Prelude.{◌≡◌, ◌⊎◌, ℕ, ◌-◌, ◌==◌, Bool, false, if◌then◌else◌, Option, Some, None, List, [], ◌++◌}
use Rattle.std.specs.Prelude.{length, slice_get, ⊤}
use Rattle.hm_base.specs.Program.{Program}
use Rattle.hm_race_top.specs.Text.Conditions.Absent.{AreSeen, have_absent}
use Rattle.hm_race_top.specs.Text.Conditions.Rulings.{strictly, summary}
use Rattle.hm_race_top.specs.Text.Conditions.Texts.{rulings_text, is_whole}
use Rattle.hm_race_top.specs.declared.text.conditions.rulings.Ruling.{Ruling}
use Rattle.hm_race_top.specs.declared.text.conditions.question.Question.{Question}
use Rattle.hm_race_laws.specs.Closed.{IsListed}
use Rattle.hm_edge.specs.Writing.{HasWritten}
use Rattle.hm_edge.specs.declared.status.RaceEnd.{RaceEnd}
use Rattle.hm_edge.specs.declared.status.Status.{Status}
use Rattle.hm_io.specs.Streams.{Adds, SinkState}
use Rattle.hm_race_top.specs.Run.Known.{KnownValue}
use Rattle.hm_search.specs.declared.search.End.{End}
use Rattle.hm_race_top.specs.Text.Table.Text.{table_text}
use Rattle.hm_race_top.specs.Text.Laws.{lines_of}
use Rattle.hm_race_top.specs.Text.Schedule.{with_turns}
use Rattle.hm_race_top.specs.Text.Text.{outcomes_text}
use Rattle.hm_race_top.specs.declared.text.block.OutcomeBlock.{OutcomeBlock}
use Rattle.hm_script.specs.Spelling.{text}
use Rattle.hm_race_top.specs.declared.asked.Task.{Task}
use Rattle.hm_race_top.specs.declared.telling.Telling.{Telling}
use Rattle.hm_race_top.specs.Ways.{blocks_known}

-- a text after which all was done
abbrev pub done : List ℕ → Telling
done t = record { text = t; ends = Status.Done }

-- how a call ends that has found no outcome with the number that is asked for: there is none if all are known
abbrev pub missing : Bool → RaceEnd
missing whole = if whole then RaceEnd.NoOutcome else RaceEnd.NotFound

-- the script with the schedule of an outcome, if it was found; whether all outcomes are known
abbrev pub script_told : Program → Option OutcomeBlock → Bool → Telling
script_told c None whole = record { text = []; ends = Status.Race (missing whole) }
script_told c (Some b) whole = done (text (with_turns c b.turns))

-- the outcome with this number, from 1
abbrev pub numbered : List OutcomeBlock → ℕ → Option OutcomeBlock
numbered bs n = if n == 0 then None else slice_get bs (n - 1)

-- how a call ends that says this of its conditions
abbrev pub ending_of : Ruling → Status
ending_of Ruling.Holds = Status.Done
ending_of Ruling.Fails = Status.Race RaceEnd.Fails
ending_of Ruling.Open = Status.Race RaceEnd.Unsettled

-- what is said of conditions
abbrev pub rulings_told : List Question → List OutcomeBlock → ℕ → End → Telling
rulings_told qs bs states end =
    record { text = rulings_text qs bs states end; ends = ending_of (summary qs (lines_of bs) (is_whole end)) }

-- the same with `--strict`
abbrev pub strictly_told : List Question → List OutcomeBlock → ℕ → End → Telling
strictly_told qs bs states end = record {
  text = rulings_text qs bs states end;
  ends = ending_of (strictly (summary qs (lines_of bs) (is_whole end)) (have_absent qs (lines_of bs)) (is_whole end));
}

-- what is written for a task, of the outcomes and the number of states that a search knows
abbrev pub telling : Program → Task → List OutcomeBlock → ℕ → End → Telling
telling c Task.Outcomes bs states end = done (outcomes_text bs states end)
telling c Task.Table bs states end = done (table_text bs states end)
telling c (Task.Script n) bs states end = script_told c (numbered bs n) (is_whole end)
telling c (Task.Expect qs) bs states end = rulings_told qs bs states end
telling c (Task.Strict qs) bs states end = strictly_told qs bs states end

-- the same of the states that it knows, and of those to which orders came that were played after it
abbrev pub told : Program → Task → List KnownValue → List KnownValue → End → Telling
told c task known played end = telling c task (blocks_known c (known ++ played)) (length known) end

-- With `--strict` a call that ends as done has found an outcome with each line of a condition, unless the condition
-- says itself that there is none.
abbrev pub IsStrict : Program → Task → Status → Type 0
IsStrict c (Task.Strict qs) Status.Done = (q : Question) → IsListed qs q → AreSeen c q.condition
IsStrict c task status = ⊤

-- a call whose text goes out whole ends in one of these ways
abbrev pub IsEnding : Status → Type 0
IsEnding Status.Done = Unit {0}
IsEnding (Status.Race RaceEnd.NoOutcome) = Unit {0}
IsEnding (Status.Race RaceEnd.NotFound) = Unit {0}
IsEnding (Status.Race RaceEnd.Fails) = Unit {0}
IsEnding (Status.Race RaceEnd.Unsettled) = Unit {0}
IsEnding (Status.Race RaceEnd.Broken) = Unit {0}
IsEnding (Status.Race RaceEnd.Open) = Unit {0}
IsEnding _ = ⊥

-- how a text was written after which the call ends so: all of it; or a front of it, or nothing, if the sink failed or
-- memory ran out
abbrev pub HasToldBy : List ℕ → Status → SinkState → SinkState → Status → Type 0
HasToldBy t ends before after Status.WriteFault = HasWritten t (λ u. u ≡ t) before after Status.WriteFault
HasToldBy t ends before after Status.NoMemory =
    (after ≡ before) ⊎ HasWritten t (λ u. u ≡ t) before after Status.NoMemory
HasToldBy t ends before after status = (status ≡ ends) × Adds before.held after.held t

-- the same of a text with its ending
abbrev pub HasTold : Telling → SinkState → SinkState → Status → Type 0
HasTold t before after status = HasToldBy t.text t.ends before after status

-- if a text went out whole, the sink sent all of it on
abbrev pub IsSentOn : Bool → Status → Type 0
IsSentOn pending Status.Done = pending ≡ false
IsSentOn pending (Status.Race RaceEnd.NoOutcome) = pending ≡ false
IsSentOn pending (Status.Race RaceEnd.NotFound) = pending ≡ false
IsSentOn pending (Status.Race RaceEnd.Fails) = pending ≡ false
IsSentOn pending (Status.Race RaceEnd.Unsettled) = pending ≡ false
IsSentOn pending (Status.Race RaceEnd.Broken) = pending ≡ false
IsSentOn pending (Status.Race RaceEnd.Open) = pending ≡ false
IsSentOn pending _ = Unit {0}
