-- The theorem of the program hmmraces: what its user is told.
use Rattle.std.specs.Prelude.{◌≡◌, ◌⊎◌, ℕ, ◌<◌, ◌≤◌, true, false, List, [], ◌++◌, length, Option, Some, None}
use Rattle.hm_base.specs.Program.{Program}
use Rattle.hm_edge.specs.Exits.{Arguments, Exits}
use Rattle.hm_edge.specs.Traffic.{IsUntouched, Traffic}
use Rattle.hm_edge.specs.Users.{CutShort, EndsSo, GoesOut, IsStarted, NothingOut, Spells, ToldNoScript, ToldUsage}
use Rattle.hm_edge.specs.declared.status.RaceEnd.{RaceEnd}
use Rattle.hm_edge.specs.declared.status.Status.{Status}
use Rattle.hm_history.specs.Kernel.Run.{run}
use Rattle.hm_history.specs.Laws.{DueFrom}
use Rattle.hm_history.specs.declared.Entry.{Entry}
use Rattle.hm_history.specs.declared.StepError.{StepError}
use Rattle.hm_io.specs.Streams.{SinkState}
use Rattle.hm_race_laws.specs.Blur.{form_of}
use Rattle.hm_race_laws.specs.Closed.{AreDistinct, IsListed}
use Rattle.hm_race_laws.specs.Outcomes.{Point, Reached, answers_of, ended, outcome}
use Rattle.hm_script.specs.Built.{has_drain}
use Rattle.hm_search.specs.Goals.{AreMissed, Reaches}
use Rattle.hm_search.specs.Known.{AreRising, forms}
use Rattle.hm_search.specs.declared.search.End.{End}
use Rattle.hm_race_top.specs.Asked.{HasNoTask, IsTask, front, goals_in, questions_in}
use Rattle.hm_race_top.specs.Goals.{settled}
use Rattle.hm_race_top.specs.Races.{IsSure}
use Rattle.hm_race_top.specs.Run.Known.{AreFewest, IsCut, IsKnown, IsNear, IsSoon, KnownValue, MayFail}
use Rattle.hm_race_top.specs.Run.Played.{IsOver, PrefersAll}
use Rattle.hm_race_top.specs.Run.Systems.{race_of}
use Rattle.hm_race_top.specs.Runs.{Runs, name, usage}
use Rattle.hm_race_top.specs.Telling.{IsStrict, told}
use Rattle.hm_race_lines.specs.Answers.{answer_lines}
use Rattle.hm_race_top.specs.Text.Conditions.Absent.{IsSeen, is_in}
use Rattle.hm_race_top.specs.Text.Conditions.Rulings.{IsRuled, ruling_of}
use Rattle.hm_race_top.specs.Text.Conditions.Asking.{NoneHas, unasked}
use Rattle.hm_race_top.specs.Text.Conditions.Texts.{is_whole}
use Rattle.hm_race_top.specs.Text.Laws.{lines_of}
use Rattle.hm_race_top.specs.Ways.{IsTrueOf, blocks_known}
use Rattle.hm_race_top.specs.declared.asked.Task.{Task}
use Rattle.hm_race_top.specs.declared.text.block.OutcomeBlock.{OutcomeBlock}
use Rattle.hm_race_top.specs.declared.text.conditions.question.Question.{Question}

-- An order of turns of the actor, and what it comes to: it has the turn as long as something is due to it, and else
-- another one, until nobody can go on, the history is full, or 4,096 turns were made.
pub record OrderOf (c : Program) (played : List KnownValue) (a : ℕ) : Type 0 where
  pub state : KnownValue
  pub listed : IsListed played state
  pub prefers : PrefersAll (race_of c (run c)) a (race_of c (run c)).start state.turns
  pub far : IsOver (race_of c (run c)) state.turns ⊎ (4096 ≤ length state.turns)

-- What is right of the outcomes and states that are told of a script's race.
pub record AreRight (most : ℕ) (c : Program) (task : Task) (known played : List KnownValue) (end : End) : Type 0 where
  -- **If the search ended `whole`, every outcome is there**: after every list of entries that are due one after the
  -- other from the set-up on, after which all operations have ended, the lines of its answers are those of a block.
  pub all : end ≡ End.Whole → (es : List Entry) → DueFrom c (run c) es → ended c (run c ++ es) ≡ true
      → IsListed (lines_of (blocks_known c (known ++ played))) (answer_lines (outcome c (answers_of es)))
  -- Every outcome that is there can come: its schedule leads to it, by a legal history. None is there twice.
  pub real : (b : OutcomeBlock) → IsListed (blocks_known c (known ++ played)) b → IsTrueOf c b
  pub once : AreDistinct (lines_of (blocks_known c (known ++ played)))
  -- **If the search was `cut`, an order of turns was played for each actor, and for nobody else.** If all operations
  -- have ended there, its outcome is there.
  pub orders : end ≡ End.Cut → (a : ℕ) → a < length c.actors → OrderOf c played a
  pub each : end ≡ End.Cut → length played ≡ length c.actors
  pub led : (n : KnownValue) → IsListed played n → IsKnown c (run c) n
  pub no_order : ¬ (end ≡ End.Cut) → played ≡ []
  -- What is said of each condition is right of the race.
  pub right : (q : Question) → IsListed (questions_in task) q
      → IsRuled c q.condition (ruling_of q.condition (lines_of (blocks_known c (known ++ played))) (is_whole end))
  -- So is what is said of a line: that it is in no outcome of the race, or, if that is not said, that it is in one. At
  -- `whole` one of the two is known of each line.
  pub seen : (line : List ℕ) → IsSeen c line (is_in (lines_of (blocks_known c (known ++ played))) line) (is_whole end)
  -- Each state that is counted is what its turns lead to, and none is counted twice; at `whole` all are counted, and
  -- they are no more than were asked for.
  pub states : (n : KnownValue) → IsListed known n → IsKnown c (run c) n
  pub states_once : AreDistinct (forms known)
  pub all_states : end ≡ End.Whole → (x : Point) → Reached c (run c) x → IsListed (forms known) (form_of c x)
  pub few : end ≡ End.Whole → length known ≤ most
  -- They stand in the order of how many turns lead to them, and no fewer lead to one of them.
  pub rising : AreRising known
  pub fewest : AreFewest c (run c) known
  -- A search is `cut` only if there are more states than were asked for.
  pub cut : end ≡ End.Cut → IsCut c most (length known)
  -- It is `stopped` only if an outcome settles the conditions, as soon as one does; else none that it knows does.
  pub stopped : end ≡ End.Reached → Reaches (settled (goals_in task) (length c.actors)) known
  pub soon : end ≡ End.Reached → IsSoon c (settled (goals_in task) (length c.actors)) known
  pub near : end ≡ End.Reached → IsNear c most (length known)
  pub missed : ¬ (end ≡ End.Reached) → AreMissed (settled (goals_in task) (length c.actors)) known

-- The bytes are the text of a script, its race was searched, and what is told of that went out. The call ends as it
-- says.
pub record TellsRace (most : ℕ) (task : Task) (bytes held : List ℕ) (io : Traffic) (status : Status) : Type 0 where
  pub script : Program
  pub spells : Spells script bytes
  pub read : io.source_after.left ≡ Some []
  pub races : has_drain script.schedule ≡ false
  pub asks : unasked script (questions_in task) ≡ None
  pub known : List KnownValue
  pub played : List KnownValue
  pub end : End
  pub are : AreRight most script task known played end
  pub ends : status ≡ (told script task known played end).ends
  pub out : GoesOut held (told script task known played end).text io
  -- With `--strict` it is 0 only if an outcome of the race has each line of each condition, unless the condition says
  -- itself that none has it.
  pub strict : IsStrict script task status

-- the text tells of a search of the race of a script with these bytes
pub record IsOfRace (most : ℕ) (task : Task) (bytes t : List ℕ) : Type 0 where
  pub script : Program
  pub spells : Spells script bytes
  pub known : List KnownValue
  pub played : List KnownValue
  pub end : End
  pub are : AreRight most script task known played end
  pub text_is : t ≡ (told script task known played end).text

-- The condition of this number has a line, whose first word has this number, that no operation of the script may end
-- with; and no outcome of its race has such a line.
pub record IsUnasked (c : Program) (qs : List Question) (n word : ℕ) : Type 0 where
  pub is : unasked c qs ≡ Some (n, word)
  pub none : NoneHas c

-- a script was read, of which this holds, and nothing is written
pub record NoRace (Is : Program → Type 0) (bytes held : List ℕ) (io : Traffic) : Type 0 where
  pub script : Program
  pub spells : Spells script bytes
  pub read : io.source_after.left ≡ Some []
  pub is : Is script
  pub nothing : NothingOut held io

-- by how it ends; it ends in no other way
abbrev pub ToldRace : ℕ → Task → List ℕ → List ℕ → Traffic → Status → Type 0
ToldRace most task bytes held io Status.Done = TellsRace most task bytes held io Status.Done
ToldRace most task bytes held io (Status.Race RaceEnd.Fails) =
    TellsRace most task bytes held io (Status.Race RaceEnd.Fails)
ToldRace most task bytes held io (Status.Race RaceEnd.Unsettled) =
    TellsRace most task bytes held io (Status.Race RaceEnd.Unsettled)
ToldRace most task bytes held io (Status.Race RaceEnd.NoOutcome) =
    TellsRace most task bytes held io (Status.Race RaceEnd.NoOutcome)
ToldRace most task bytes held io (Status.Race RaceEnd.NotFound) =
    TellsRace most task bytes held io (Status.Race RaceEnd.NotFound)
ToldRace most task bytes held io (Status.Race RaceEnd.Drained) =
    NoRace (λ c. has_drain c.schedule ≡ true) bytes held io
ToldRace most task bytes held io (Status.Race (RaceEnd.NoCondition n word)) =
    NoRace (λ c. IsUnasked c (questions_in task) n word) bytes held io
ToldRace most task bytes held io (Status.Race end) = ⊥
ToldRace most task bytes held io Status.HistoryFull =
    NoRace (λ c. MayFail c (run c) (StepError.Full 2000000)) bytes held io
ToldRace most task bytes held io Status.NoMemory = CutShort (IsOfRace most task bytes) held io
ToldRace most task bytes held io status = ToldNoScript bytes held io status

-- what is asked for of the race of a script
pub record ToldRacing (most : ℕ) (task : Task) (bytes held : List ℕ) (io : Traffic) (status : Status) : Type 0 where
  pub told : ToldRace most task bytes held io status
  -- The race of a script is searched, unless memory runs out, its history is full, or it ends in `drain`.
  pub sure : (s : Program) → Spells s bytes → IsSure status

-- words that ask for something, or for nothing that there is
pub record ToldTask (most : ℕ) (words : List (List ℕ)) (bytes held : List ℕ) (io : Traffic) (status : Status) : Type 0
  where
    pub task : Task
    pub asks : IsTask words task
    pub told : ToldRacing most task bytes held io status

-- by the number of states that may be known, and the words after it
abbrev pub ToldBy : Option (ℕ × List (List ℕ)) → List ℕ → List ℕ → Traffic → Status → Type 0
ToldBy None bytes held io status = ToldUsage io status
ToldBy (Some p) bytes held io status =
    ToldTask p.0 p.1 bytes held io status ⊎ (HasNoTask p.1 status × IsUntouched io)

-- Whoever starts the program with words after its name, an input and an output that do not fail, is told this.
abbrev pub Theorem : Type 0
Theorem = (words : List (List ℕ)) (bytes held : List ℕ) (args : Arguments) (io : Traffic)
    (errors errors_after : SinkState) (code : ℕ) → IsStarted words bytes held args io
    → Exits Runs name usage args io errors errors_after code
    → EndsSo (ToldBy (front words) bytes held io) name usage errors errors_after code
