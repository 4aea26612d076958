-- The theorem of the program hmmwithout: what its user is told.
use Rattle.std.specs.Prelude.{◌≡◌, ◌↔◌, ℕ, ◌+◌, ◌≤◌, true, false, List, [], length, Some, ◌<◌, remove, ⊤}
use Rattle.std.specs.Prelude.{Result, Ok, Err}
use Rattle.hm_base.specs.Program.{Program}
use Rattle.hm_edge.specs.Exits.{Arguments, Exits}
use Rattle.hm_edge.specs.Traffic.{Traffic}
use Rattle.hm_edge.specs.Users.{CutShort, EndsSo, GoesOut, IsStarted, Spells, ToldNoScript, ToldUsage}
use Rattle.hm_edge.specs.declared.status.RaceEnd.{RaceEnd}
use Rattle.hm_edge.specs.declared.status.Status.{Status}
use Rattle.hm_flaws.specs.Judged.{Breaks, BreaksNone}
use Rattle.hm_flaws.specs.declared.flaws.Flaw.{Flaw}
use Rattle.hm_flaws.specs.declared.parts.Part.{Part}
use Rattle.hm_flaw_parts.specs.Judged.{judged_parts}
use Rattle.hm_flaw_parts.specs.Races.Judging.{NeverSticks, Sticks, breaks_at, sticks_at}
use Rattle.hm_flaw_parts.specs.Races.Races.{FlawPoint, flaw_system}
use Rattle.hm_history.specs.Kernel.Run.{run}
use Rattle.hm_history.specs.declared.Entry.{Entry}
use Rattle.hm_history.specs.declared.StepError.{StepError}
use Rattle.hm_io.specs.Streams.{SinkState}
use Rattle.hm_race_laws.specs.Closed.{AreDistinct, IsListed}
use Rattle.hm_race_top.specs.Races.{IsSure}
use Rattle.hm_race_top.specs.Theorem.{NoRace}
use Rattle.hm_race_top.specs.declared.telling.Telling.{Telling}
use Rattle.hm_script.specs.Built.{has_drain}
use Rattle.hm_search.specs.Goals.{AreMissed, IsSoon, Reaches}
use Rattle.hm_search.specs.Known.{HaveForms, IsCut, IsKnown, IsNear, KnownValue, forms}
use Rattle.hm_search.specs.declared.search.End.{End}
use Rattle.hm_held_search.specs.Finding.{IsFound}
use Rattle.hm_held_search.specs.declared.finding.FoundHolds.{FoundHolds}
use Rattle.hm_holds.specs.Orders.{AreSure, TurnsFail}
use Rattle.hm_holds.specs.declared.holds.Hold.{Hold}
use Rattle.hm_flaw_top.specs.Runs.{Runs, name, usage}
use Rattle.hm_flaw_search.specs.Owing.{IsOwed, race_entries}
use Rattle.hm_flaw_search.specs.Unused.{IsUnused}
use Rattle.hm_flaw_search.specs.Outcomes.{race_length}
use Rattle.hm_flaw_search.specs.Races.{FlawRaceValue}
use Rattle.hm_flaw_top.specs.Text.Names.{all_flaws}
use Rattle.hm_flaw_top.specs.Text.Tasks.{task_in}
use Rattle.hm_flaw_top.specs.Told.{IsRaceOf, TellsMore, rules_in, told_all, told_more, told_one}
use Rattle.hm_flaw_top.specs.Withouts.{MayStop}
use Rattle.hm_flaw_search.specs.declared.answer.Answer.{Answer}
use Rattle.hm_flaw_search.specs.declared.answer.Found.{Found}
use Rattle.hm_flaw_top.specs.declared.text.table.RuleAnswer.{RuleAnswer}
use Rattle.hm_flaw_top.specs.declared.text.task.Task.{Task}
use Rattle.hm_flaw_top.specs.declared.text.task.Which.{Which}

-- ---- one driver

-- What is right of an answer on the races of a driver with this flaw, after the set-up h of a script.
pub record IsRight (parts : List Part) (l : Flaw) (c : Program) (h : List Entry) (most : ℕ) (a : Answer) : Type 0 where
  -- **A race that is told is one that the driver can come to, and no race that breaks a part has fewer entries.**
  pub race : (es : List Entry) (e : Entry) (part : Part) → a.found ≡ Found.Broken es e part
      → Breaks parts l c h es e part
  pub shortest : (es : List Entry) (e : Entry) (part : Part) → a.found ≡ Found.Broken es e part
      → (fs : List Entry) (f : Entry) (other : Part) → Breaks parts l c h fs f other → length es + 1 ≤ length fs + 1
  -- So of a race after which nobody can go on.
  pub stuck : (es : List Entry) → a.found ≡ Found.Stuck es → Sticks parts l c h es
  pub stuck_soonest : (es : List Entry) → a.found ≡ Found.Stuck es
      → (fs : List Entry) → Sticks parts l c h fs → length es ≤ length fs
  -- **If the search ended `whole`, the driver breaks no part, in whatever order the actors take turns**; and if nothing
  -- is told then, somebody can always go on, or all operations have ended.
  pub breaks_none : a.end ≡ End.Whole → BreaksNone parts l c h
  pub never_stuck : a.end ≡ End.Whole → a.found ≡ Found.Nothing → NeverSticks parts l c h
  -- Nothing is told of the right driver.
  pub right : l ≡ Flaw.NoFlaw → a.found ≡ Found.Nothing
  -- **It is told that a rule is unused if and only if all states are known, nothing was found, and without the rule the
  -- driver comes in all turns to what the right one comes to: the same entries, and the same state.**
  pub unused : (a.unused ≡ true) ↔ IsUnused parts l c h a.end a.found
  -- **What is told to be owed was due to that actor by the right driver, in the state after the entries before, and the
  -- entry that was made in its place is another, the first such; if nothing is told, the right driver would have made
  -- each entry in the same state.**
  pub owed : IsOwed l c h (race_entries a.found) a.owed
  -- A race in which a part is broken is told if and only if the search stopped at it. The histories are no longer than
  -- any.
  pub reached :
      (a.end ≡ End.Reached) ↔ ((es : List Entry) × (e : Entry) × (part : Part) × (a.found ≡ Found.Broken es e part))
  pub long : length h + race_length a.found ≤ 2000000
  -- The number of states is that of states that are known, each of which is what its turns lead to, and none of which
  -- is counted twice.
  pub known : List (KnownValue FlawPoint)
  pub states : a.states ≡ length known
  pub each : (n : KnownValue FlawPoint) → IsListed known n → IsKnown (flaw_system parts l c h) n
  pub once : AreDistinct (forms known)
  -- At `whole` all states are known, and they are no more than were asked for. At `cut` there are more than that.
  pub all : a.end ≡ End.Whole → HaveForms (flaw_system parts l c h) known
  pub few : a.end ≡ End.Whole → length known ≤ most
  pub cut : a.end ≡ End.Cut → IsCut (length c.actors) most (length known)
  -- If the search stopped at a race, one of the states is such a one, and only one of the last.
  pub came : a.end ≡ End.Reached → Reaches breaks_at known
  pub soon : a.end ≡ End.Reached → IsSoon (length c.actors) breaks_at known
  pub near : a.end ≡ End.Reached → IsNear (length c.actors) most (length known)
  -- Else no part is broken at a known state; and if nothing is told, at none of them nobody can go on. So of a search
  -- that was cut too.
  pub missed : ¬ (a.end ≡ End.Reached) → AreMissed breaks_at known
  pub seen : a.found ≡ Found.Nothing → AreMissed (sticks_at l c) known

-- ---- what is asked for

-- what is told of one driver, after the set-up h
pub record ToldOne (parts : List Part) (most : ℕ) (l : Flaw) (c : Program) (h : List Entry) (t : Telling) : Type 0 where
  pub answer : Answer
  pub is : IsRight parts l c h most answer
  pub told : t ≡ told_one (length h) answer

-- every order of turns that keeps the holds goes wrong, and without one of them some order does not
pub record AreRightHolds (parts : List Part) (l : Flaw) (c : Program) (h : List Entry) (ds : List Hold) : Type 0 where
  pub wrong : AreSure parts l c h ds
  pub needed : (i : ℕ) → i < length ds → (turns : List ℕ) × TurnsFail parts l c h (remove ds i) turns

-- what is right of holds that were found
abbrev pub AreRight : List Part → Flaw → Program → List Entry → FoundHolds → Type 0
AreRight parts l c h (FoundHolds.Needed holds n) = AreRightHolds parts l c h holds.items
AreRight parts l c h found = ⊤

-- what is told of one driver and of the holds of the race
pub record ToldHeld (parts : List Part) (most : ℕ) (l : Flaw) (c : Program) (h : List Entry) (t : Telling)
    : Type 0 where
  pub answer : Answer
  pub is : IsRight parts l c h most answer
  pub race : FlawRaceValue
  pub of_race : IsRaceOf parts l c h race
  pub more : List ℕ
  pub holds : TellsMore race most answer.found more
  -- **Every order of turns that keeps the holds goes wrong, and none of them can be left out.**
  pub right : (first : List Hold) (found : FoundHolds) → IsFound race first most found → AreRight parts l c h found
  pub told : t ≡ told_more (length h) answer more

-- what is told of all drivers: a line for each, in their order
pub record ToldAll (parts : List Part) (most : ℕ) (c : Program) (h : List Entry) (t : Telling) : Type 0 where
  pub rows : List RuleAnswer
  pub rules : rules_in rows ≡ all_flaws
  pub are : (row : RuleAnswer) → IsListed rows row → IsRight parts row.rule c h most row.answer
  pub told : t ≡ told_all rows

-- what is told of those that are asked for
abbrev pub ToldOf : Which → List Part → ℕ → Program → List Entry → Telling → Type 0
ToldOf (Which.One l) parts most c h t = ToldOne parts most l c h t
ToldOf (Which.Holds l) parts most c h t = ToldHeld parts most l c h t
ToldOf Which.All parts most c h t = ToldAll parts most c h t

-- The bytes are the text of a script, the races of drivers were searched after its run, and what is told of that went
-- out. The call ends as it says.
pub record TellsRaces (task : Task) (bytes held : List ℕ) (io : Traffic) (status : Status) : Type 0 where
  pub script : Program
  pub spells : Spells script bytes
  pub read : io.source_after.left ≡ Some []
  pub races : has_drain script.schedule ≡ false
  pub telling : Telling
  pub told : ToldOf task.which (judged_parts task.judging) task.most script (run script) telling
  pub ends : status ≡ telling.ends
  pub out : GoesOut held telling.text io

-- the text tells of searches of the races of a script with these bytes
pub record IsOfRaces (task : Task) (bytes t : List ℕ) : Type 0 where
  pub script : Program
  pub spells : Spells script bytes
  pub telling : Telling
  pub told : ToldOf task.which (judged_parts task.judging) task.most script (run script) telling
  pub text_is : t ≡ telling.text

-- by how it ends; it ends in no other way
abbrev pub ToldRaces : Task → List ℕ → List ℕ → Traffic → Status → Type 0
ToldRaces task bytes held io Status.Done = TellsRaces task bytes held io Status.Done
ToldRaces task bytes held io (Status.Race RaceEnd.Broken) = TellsRaces task bytes held io (Status.Race RaceEnd.Broken)
ToldRaces task bytes held io (Status.Race RaceEnd.Open) = TellsRaces task bytes held io (Status.Race RaceEnd.Open)
ToldRaces task bytes held io (Status.Race RaceEnd.Drained) = NoRace (λ c. has_drain c.schedule ≡ true) bytes held io
ToldRaces task bytes held io (Status.Race end) = ⊥
ToldRaces task bytes held io Status.HistoryFull =
    NoRace (λ c. MayStop task c (StepError.Full 2000000)) bytes held io
ToldRaces task bytes held io Status.NoMemory = CutShort (IsOfRaces task bytes) held io
ToldRaces task bytes held io status = ToldNoScript bytes held io status

-- what is asked for of the races of a script
pub record ToldWithout (task : Task) (bytes held : List ℕ) (io : Traffic) (status : Status) : Type 0 where
  pub told : ToldRaces task bytes held io status
  -- The races of a script are searched, unless memory runs out, a history is full, or it ends in `drain`.
  pub sure : (s : Program) → Spells s bytes → IsSure status

-- by what the words ask for; if a word is bad, nothing is read or written
abbrev pub ToldBy : {B : Type 0} → Result Task B → List ℕ → List ℕ → Traffic → Status → Type 0
ToldBy (Ok task) bytes held io status = ToldWithout task bytes held io status
ToldBy (Err bad) bytes held io status = ToldUsage io status

-- Whoever starts the program with words after its name, an input and an output that do not fail, is told this.
abbrev pub Theorem : Type 0
Theorem = (words : List (List ℕ)) (bytes held : List ℕ) (args : Arguments) (io : Traffic)
    (errors errors_after : SinkState) (code : ℕ) → IsStarted words bytes held args io
    → Exits Runs name usage args io errors errors_after code
    → EndsSo (ToldBy (task_in words) bytes held io) name usage errors errors_after code
