-- What a call comes to: what was read, and what was written of its race.
use Rattle.std.specs.Prelude.{◌≡◌, ◌⊎◌, ◌≤◌, ℕ, true, false, List, [], ◌++◌, length, Option, Some, None, IfSome}
use Rattle.hm_base.specs.Program.{Program}
use Rattle.hm_race_top.specs.Text.Conditions.Absent.{IsSeen, is_in}
use Rattle.hm_race_top.specs.Text.Conditions.Rulings.{ruling_of, IsRuled}
use Rattle.hm_race_top.specs.Text.Conditions.Texts.{is_whole}
use Rattle.hm_race_top.specs.declared.text.conditions.question.Question.{Question}
use Rattle.hm_history.specs.Kernel.Run.{run}
use Rattle.hm_history.specs.declared.StepError.{StepError}
use Rattle.hm_search.specs.Goals.{AreMissed, Reaches}
use Rattle.hm_race_top.specs.Run.Known.{KnownValue, AreFewest, AreKnown, HaveForms}
use Rattle.hm_search.specs.Known.{forms, AreRising}
use Rattle.hm_race_top.specs.Run.Known.{IsCut, IsNear, IsSoon, MayFail}
use Rattle.hm_race_top.specs.Run.Played.{HaveOrders}
use Rattle.hm_search.specs.declared.search.End.{End}
use Rattle.hm_race_laws.specs.Closed.{AreDistinct, IsListed}
use Rattle.hm_race_top.specs.Text.Laws.{lines_of}
use Rattle.hm_io.specs.Streams.{SinkState}
use Rattle.hm_edge.specs.Reading.{IsGiven, HasNotRead, IsTextOf, ReadAs, ReadFaulted}
use Rattle.hm_edge.specs.Traffic.{IsUntouched, NoFault, Traffic}
use Rattle.hm_edge.specs.Writing.{WriteFaulted}
use Rattle.hm_edge.specs.declared.status.RaceEnd.{RaceEnd}
use Rattle.hm_edge.specs.declared.status.Status.{Status}
use Rattle.hm_script.specs.Built.{has_drain}
use Rattle.hm_race_top.specs.Asked.{front, goals_in, questions_in, HasNoTask, IsTask}
use Rattle.hm_race_top.specs.Goals.{settled}
use Rattle.hm_race_top.specs.Text.Conditions.Asking.{unasked}
use Rattle.hm_race_top.specs.Telling.{told, HasTold, IsSentOn, IsStrict}
use Rattle.hm_race_top.specs.Ways.{blocks_known, AreTrue, HaveAll}
use Rattle.hm_race_top.specs.declared.asked.Task.{Task}

-- What holds of the states that a search of a script's race knows, by how it ended, and of those to which orders of
-- turns came that were played after it.
pub record Holds (most : ℕ) (c : Program) (task : Task) (known played : List KnownValue) (end : End) : Type 0 where
  -- Each state that is counted is what its turns lead to from the set-up.
  pub searched : AreKnown c (run c) known
  -- Each block is true: the script with its schedule is a script whose run has these answers, and is legal.
  pub real : AreTrue c (blocks_known c (known ++ played))
  -- If the search was `cut`, an order of turns was played for each actor, which goes as long as it can. Each came to
  -- what is written of it. No order was played after another search.
  pub orders : end ≡ End.Cut → HaveOrders c played
  pub led : AreKnown c (run c) played
  pub no_order : (end ≡ End.Cut → ⊥) → played ≡ []
  -- No two blocks have the same answers.
  pub distinct : AreDistinct (lines_of (blocks_known c (known ++ played)))
  -- If it is `whole`, every outcome that the race can come to is there.
  pub complete : end ≡ End.Whole → HaveAll c (blocks_known c (known ++ played))
  -- Then every state to which the race can come is counted, and they are at most as many as were asked for.
  pub all : end ≡ End.Whole → HaveForms c (run c) known
  pub few : end ≡ End.Whole → length known ≤ most
  -- No state is counted twice.
  pub once : AreDistinct (forms known)
  -- It is `cut` only if there are more states than were asked for, and then at most as many more are counted as there
  -- are actors.
  pub cut : end ≡ End.Cut → IsCut c most (length known)
  -- It is `stopped` only if an outcome settles the conditions; and if it is not, none of those that it knows does.
  pub stopped : end ≡ End.Reached → Reaches (settled (goals_in task) (length c.actors)) known
  -- Only the states that it came to last can settle them.
  pub soon : end ≡ End.Reached → IsSoon c (settled (goals_in task) (length c.actors)) known
  pub near : end ≡ End.Reached → IsNear c most (length known)
  pub missed : (end ≡ End.Reached → ⊥) → AreMissed (settled (goals_in task) (length c.actors)) known
  -- What is said of each condition is right of the race.
  pub right : (q : Question) → IsListed (questions_in task) q
      → IsRuled c q.condition (ruling_of q.condition (lines_of (blocks_known c (known ++ played))) (is_whole end))
  -- So is what is said of each line that a condition may have: that an outcome has it, or that none has.
  pub seen : (line : List ℕ) → IsSeen c line (is_in (lines_of (blocks_known c (known ++ played))) line) (is_whole end)
  -- With `--strict` a call ends as done only if outcomes have the lines of the conditions.
  pub strict : IsStrict c task (told c task known played end).ends
  -- The states stand in the order of how many turns lead to them, and no fewer turns lead to one of them.
  pub rising : AreRising known
  pub fewest : AreFewest c (run c) known

-- The race of a script was searched, and this was written.
pub record Found (most : ℕ) (c : Program) (task : Task) (before after : SinkState) (status : Status) : Type 0 where
  pub known : List KnownValue
  pub played : List KnownValue
  pub end : End
  pub holds : Holds most c task known played end
  -- The bytes written are the text of the task, and the call ends as it says; at `WriteFault` and `NoMemory` a front
  -- of them.
  pub written : HasTold (told c task known played end) before after status
  -- The schedule of the script does not end in `drain`.
  pub races : has_drain c.schedule ≡ false
  -- Its operations may end with each line of the conditions.
  pub asks : unasked c (questions_in task) ≡ None

-- how a call ends that has read a script, and what it has written; it ends in no other way
abbrev pub HasFound : ℕ → Program → Task → SinkState → SinkState → Status → Type 0
HasFound most c task before after Status.Done = Found most c task before after Status.Done
HasFound most c task before after Status.WriteFault = Found most c task before after Status.WriteFault
HasFound most c task before after Status.NoMemory = (after ≡ before) ⊎ Found most c task before after Status.NoMemory
HasFound most c task before after Status.HistoryFull =
    MayFail c (run c) (StepError.Full 2000000) × (after ≡ before)
HasFound most c task before after (Status.Race RaceEnd.Drained) = (has_drain c.schedule ≡ true) × (after ≡ before)
HasFound most c task before after (Status.Race (RaceEnd.NoCondition n word)) =
    (unasked c (questions_in task) ≡ Some (n, word)) × (after ≡ before)
HasFound most c task before after (Status.Race RaceEnd.Broken) = ⊥
HasFound most c task before after (Status.Race RaceEnd.Open) = ⊥
HasFound most c task before after (Status.Race end) = Found most c task before after (Status.Race end)
HasFound most c task before after _ = ⊥

-- a script was read, and its race searched
pub record Searched (most : ℕ) (task : Task) (io : Traffic) (status : Status) : Type 0 where
  pub script : Program
  pub read : ReadAs 4194304 (IsTextOf script) io.source io.source_after
  pub found : HasFound most script task io.sink io.sink_after status

-- no script was read, and nothing written
pub record HasStopped (io : Traffic) (status : Status) : Type 0 where
  pub read : HasNotRead io.source io.source_after status
  pub sink : io.sink_after ≡ io.sink

-- if a script is given and nothing fails, the text of the task is written, or memory runs out, or a history is full, or
-- the schedule ends in `drain`
abbrev pub IsSure : Status → Type 0
IsSure Status.Done = Unit {0}
IsSure Status.NoMemory = Unit {0}
IsSure Status.HistoryFull = Unit {0}
IsSure (Status.Race end) = Unit {0}
IsSure _ = ⊥

-- A script is read, and what is asked for is written of its race.
pub record Searches (most : ℕ) (task : Task) (io : Traffic) (status : Status) : Type 0 where
  -- One of the two. A script is refused if and only if no script has the bytes as its text.
  pub seen : Searched most task io status ⊎ HasStopped io status
  -- `ReadFault` comes only if the source counted a fault, and `WriteFault` if the sink did.
  pub read_faults : ReadFaulted io.source.faults io.source_after.faults status
  pub write_faults : WriteFaulted io.sink.faults io.sink_after.faults status
  -- If the text went out whole, the sink sent all of it on.
  pub flushed : IsSentOn io.sink_after.pending status
  -- If neither stream counted a fault, and the bytes are the text of a script.
  pub sure : NoFault io → IfSome io.source.left (λ bytes. (s : Program) → IsGiven s bytes → IsSure status)

-- the words are none of the forms: nothing was read, and nothing written
pub record HasRefused (io : Traffic) (status : Status) : Type 0 where
  pub usage : status ≡ Status.Usage
  pub source : io.source_after ≡ io.source
  pub sink : io.sink_after ≡ io.sink

-- a call was made for what the words say
pub record Does (most : ℕ) (words : List (List ℕ)) (io : Traffic) (status : Status) : Type 0 where
  pub task : Task
  pub is : IsTask words task
  pub searches : Searches most task io status

-- they say nothing, and nothing was read or written
pub record DoesNothing (words : List (List ℕ)) (io : Traffic) (status : Status) : Type 0 where
  pub why : HasNoTask words status
  pub untouched : IsUntouched io

-- by the number of states that may be known, and the words after it
abbrev pub RacesBy : Option (ℕ × List (List ℕ)) → Traffic → Status → Type 0
RacesBy None io status = HasRefused io status
RacesBy (Some p) io status = Does p.0 p.1 io status ⊎ DoesNothing p.1 io status

-- by the words after the program's name
abbrev pub Races : List (List ℕ) → Traffic → Status → Type 0
Races words = RacesBy (front words)
