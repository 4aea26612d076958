-- What the user of the program is told.
use Rattle.std.proofs.Common.{◌≡◌, ◌⊎◌, inl, inr, ℕ, true, false, List, Some, refl, ap, subst}
use Rattle.std.specs.Prelude.{Result, Ok, Err}
use Rattle.std.proofs.lemmas.Bool.{false≢true}
use Rattle.hm_base.specs.Program.{Program}
use Rattle.hm_edge.specs.Reading.{HasNotRead, IsTextOf, ReadAs, ReadFaulted}
use Rattle.hm_edge.specs.Traffic.{IsUntouched, NoFault, Traffic}
use Rattle.hm_edge.specs.Users.{CutShort}
use Rattle.hm_edge.specs.Writing.{WriteFaulted}
use Rattle.hm_edge.specs.declared.status.RaceEnd.{RaceEnd}
use Rattle.hm_edge.specs.declared.status.Status.{Status}
use Rattle.hm_edge.proofs.Telling.{cut_short, ends_so, goes_out, is_given, known, none_left, nothing_out, spells, told_no_script}
use Rattle.hm_flaws.specs.declared.flaws.Flaw.{Flaw}
use Rattle.hm_flaws.specs.declared.parts.Part.{Part}
use Rattle.hm_flaw_parts.specs.Judged.{judged_parts}
use Rattle.hm_history.specs.Kernel.Run.{run}
use Rattle.hm_history.specs.declared.Entry.{Entry}
use Rattle.hm_history.specs.declared.StepError.{StepError}
use Rattle.hm_io.specs.Streams.{Adds, SinkState}
use Rattle.hm_race_top.specs.Races.{HasStopped}
use Rattle.hm_race_top.specs.Telling.{HasTold, IsSentOn}
use Rattle.hm_race_top.specs.Theorem.{NoRace}
use Rattle.hm_race_top.specs.declared.telling.Telling.{Telling}
use Rattle.hm_script.specs.Built.{has_drain}
use Rattle.std.specs.Prelude.{remove}
use Rattle.hm_flaw_search.specs.Races.{FlawRaceValue}
use Rattle.hm_held_search.specs.Finding.{IsFound as AreFound}
use Rattle.hm_held_search.specs.declared.finding.FoundHolds.{FoundHolds}
use Rattle.hm_holds.specs.Orders.{AreSure, TurnsFail}
use Rattle.hm_holds.specs.declared.holds.Hold.{Hold}
use Rattle.hm_flaw_top.specs.Runs.{Runs, name, usage}
use Rattle.hm_flaw_search.specs.Answers.{IsAnswer, IsFound, is_broken}
use Rattle.hm_flaw_top.specs.Text.Tasks.{task_in}
use Rattle.hm_flaw_top.specs.Theorem.{AreRight, IsOfRaces, IsRight, TellsRaces, Theorem, ToldBy, ToldOf, ToldRaces, ToldWithout}
use Rattle.hm_flaw_top.specs.Told.{IsRaceOf, Tells}
use Rattle.hm_flaw_top.specs.Withouts.{Found as Sought, HasFound, MayStop, Searched, Searches, WithoutsBy}
use Rattle.hm_flaw_search.specs.declared.answer.Answer.{Answer}
use Rattle.hm_flaw_search.specs.declared.answer.Found.{Found}
use Rattle.hm_flaw_top.specs.declared.text.task.BadWord.{BadWord}
use Rattle.hm_flaw_top.specs.declared.text.task.Task.{Task}
use Rattle.hm_flaw_top.specs.declared.text.task.Which.{Which}

-- ---- one driver

broken_is : (f : Found) → is_broken f ≡ true → (es : List Entry) × (e : Entry) × (part : Part) × (f ≡ Found.Broken es e part)
broken_is (Found.Broken es e part) is = (es, e, part, refl)
broken_is (Found.Stuck es) is = absurd (false≢true is)
broken_is Found.Nothing is = absurd (false≢true is)

is_right : (parts : List Part) (l : Flaw) (c : Program) (h : List Entry) (most : ℕ) (a : Answer) → IsAnswer parts l c h most a → IsRight parts l c h most a
is_right parts l c h most a x = record {
  race = λ es e part is. (subst (IsFound parts l c h) is x.found).0;
  shortest = λ es e part is. (subst (IsFound parts l c h) is x.found).1;
  stuck = λ es is. (subst (IsFound parts l c h) is x.found).0;
  stuck_soonest = λ es is. (subst (IsFound parts l c h) is x.found).1;
  breaks_none = λ e. (x.whole e).none;
  never_stuck = x.never;
  right = x.right;
  unused = x.unused;
  owed = x.owed;
  reached = (λ e. broken_is a.found (x.reached.0 e), λ p. x.reached.1 (ap is_broken p.3));
  long = x.long;
  known = x.known;
  states = x.states;
  each = x.searched;
  once = x.once;
  all = λ e. (x.whole e).all;
  few = λ e. (x.whole e).few;
  cut = x.cut;
  came = λ e. (x.stopped e).came;
  soon = λ e. (x.stopped e).soon;
  near = λ e. (x.stopped e).near;
  missed = x.missed;
  seen = x.seen;
}

-- what holds of the race by its fields holds of these
moved : (P : List Part → Flaw → Program → List Entry → Type 0) (parts : List Part) (l : Flaw) (c : Program) (h : List Entry) (r : FlawRaceValue) → IsRaceOf parts l c h r → P (judged_parts r.judging) r.flaw r.script r.set_up → P parts l c h
moved P parts l c h r z x =
    subst (λ (p : List Part). P p l c h) z.parts_are
    (subst (λ (f : Flaw). P (judged_parts r.judging) f c h) z.flaw
    (subst (λ (s : Program). P (judged_parts r.judging) r.flaw s h) z.script
    (subst (λ (g : List Entry). P (judged_parts r.judging) r.flaw r.script g) z.set_up x)))

right_holds : (parts : List Part) (l : Flaw) (c : Program) (h : List Entry) (most : ℕ) (r : FlawRaceValue) → IsRaceOf parts l c h r → (first : List Hold) (found : FoundHolds) → AreFound r first most found → AreRight parts l c h found
right_holds parts l c h most r z first (FoundHolds.Needed holds n) x = record {
  wrong = moved (λ p f s g. AreSure p f s g holds.items) parts l c h r z x.0.wrong;
  needed = λ i less. let y = x.1 i less in (y.turns, moved (λ p f s g. TurnsFail p f s g (remove holds.items i) y.turns) parts l c h r z y.fail);
}
right_holds parts l c h most r z first (FoundHolds.NotSure turns) x = tt
right_holds parts l c h most r z first FoundHolds.Cut x = tt

told_of : (which : Which) (parts : List Part) (most : ℕ) (c : Program) (h : List Entry) (t : Telling) → Tells which parts most c h t → ToldOf which parts most c h t
told_of (Which.One l) parts most c h t x = record { answer = x.answer; is = is_right parts l c h most x.answer x.is; told = x.told }
told_of (Which.Holds l) parts most c h t x = record { answer = x.answer; is = is_right parts l c h most x.answer x.is; race = x.race; of_race = x.of_race; more = x.more; holds = x.holds; right = right_holds parts l c h most x.race x.of_race; told = x.told }
told_of Which.All parts most c h t x = record { rows = x.rows; rules = x.rules; are = λ row listed. is_right parts row.rule c h most row.answer (x.are row listed); told = x.told }

-- ---- the streams of a call

module _ (task : Task) (bytes held : List ℕ) (io : Traffic) (left : io.source.left ≡ Some bytes) (holds : io.sink.held ≡ Some held) (none : NoFault io) where
  same_held : io.sink_after ≡ io.sink → io.sink_after.held ≡ io.sink.held
  same_held same = ap (λ (k : SinkState). k.held) same

  tells_races : (c : Program) (status : Status) → ReadAs 4194304 (IsTextOf c) io.source io.source_after → (f : Sought task c io.sink io.sink_after status) → status ≡ f.telling.ends
      → Adds io.sink.held io.sink_after.held f.telling.text → io.sink_after.pending ≡ false → TellsRaces task bytes held io status
  tells_races c status read f ends adds sent = record {
    script = c;
    spells = spells bytes held io left holds c read;
    read = none_left bytes held io left holds (IsTextOf c) 4194304 read;
    races = f.races;
    telling = f.telling;
    told = told_of task.which (judged_parts task.judging) task.most c (run c) f.telling f.tells;
    ends = ends;
    out = goes_out bytes held io left holds f.telling.text adds sent;
  }

  no_race : (Is : Program → Type 0) (c : Program) → ReadAs 4194304 (IsTextOf c) io.source io.source_after → Is c → io.sink_after ≡ io.sink → NoRace Is bytes held io
  no_race Is c read is same = record {
    script = c;
    spells = spells bytes held io left holds c read;
    read = none_left bytes held io left holds (IsTextOf c) 4194304 read;
    is = is;
    nothing = nothing_out bytes held io left holds (same_held same);
  }

  of_races : (c : Program) → ReadAs 4194304 (IsTextOf c) io.source io.source_after → Sought task c io.sink io.sink_after Status.NoMemory → CutShort (IsOfRaces task bytes) held io
  of_races c read f = by f.written
    where
      text_of : (t : List ℕ) → t ≡ f.telling.text → IsOfRaces task bytes t
      text_of t is = record {
        script = c;
        spells = spells bytes held io left holds c read;
        telling = f.telling;
        told = told_of task.which (judged_parts task.judging) task.most c (run c) f.telling f.tells;
        text_is = is;
      }

      by : HasTold f.telling io.sink io.sink_after Status.NoMemory → CutShort (IsOfRaces task bytes) held io
      by (inl same) = inl (nothing_out bytes held io left holds (same_held same))
      by (inr w) = cut_short bytes held io left holds (λ u. u ≡ f.telling.text) (IsOfRaces task bytes) text_of w

  searched : (c : Program) (status : Status) → ReadAs 4194304 (IsTextOf c) io.source io.source_after → HasFound task c io.sink io.sink_after status → WriteFaulted io.sink.faults io.sink_after.faults status → IsSentOn io.sink_after.pending status
      → ToldRaces task bytes held io status
  searched c Status.Done read f fault sent = tells_races c Status.Done read f f.written.0 f.written.1 sent
  searched c (Status.Race RaceEnd.Broken) read f fault sent = tells_races c (Status.Race RaceEnd.Broken) read f f.written.0 f.written.1 sent
  searched c (Status.Race RaceEnd.Open) read f fault sent = tells_races c (Status.Race RaceEnd.Open) read f f.written.0 f.written.1 sent
  searched c (Status.Race RaceEnd.Drained) read f fault sent = no_race (λ s. has_drain s.schedule ≡ true) c read f.0 f.1
  searched c (Status.Race RaceEnd.Fails) read f fault sent = absurd f
  searched c (Status.Race RaceEnd.Unsettled) read f fault sent = absurd f
  searched c (Status.Race RaceEnd.NoOutcome) read f fault sent = absurd f
  searched c (Status.Race RaceEnd.NotFound) read f fault sent = absurd f
  searched c (Status.Race (RaceEnd.NoCondition n word)) read f fault sent = absurd f
  searched c Status.HistoryFull read f fault sent = no_race (λ s. MayStop task s (StepError.Full 2000000)) c read f.0 f.1
  searched c Status.NoMemory read (inl same) fault sent = inl (nothing_out bytes held io left holds (same_held same))
  searched c Status.NoMemory read (inr f) fault sent = of_races c read f
  searched c Status.WriteFault read f fault sent = absurd (none.writes fault)
  searched c (Status.NotLegal n) read f fault sent = absurd f
  searched c Status.Usage read f fault sent = absurd f
  searched c (Status.Refused refused) read f fault sent = absurd f
  searched c Status.ReadFault read f fault sent = absurd f
  searched c Status.ScriptTooLong read f fault sent = absurd f
  searched c Status.ReportTooLong read f fault sent = absurd f
  searched c Status.NoRows read f fault sent = absurd f
  searched c Status.TooManyRows read f fault sent = absurd f

  stopped : (status : Status) → HasNotRead io.source io.source_after status → ReadFaulted io.source.faults io.source_after.faults status → io.sink_after ≡ io.sink → ToldRaces task bytes held io status
  stopped (Status.Refused refused) read fault same = told_no_script bytes held io left holds (Status.Refused refused) read (λ e. cc) (λ e. cc) (same_held same)
  stopped Status.ScriptTooLong read fault same = told_no_script bytes held io left holds Status.ScriptTooLong read (λ e. cc) (λ e. cc) (same_held same)
  stopped Status.NoMemory read fault same = inl (nothing_out bytes held io left holds (same_held same))
  stopped Status.ReadFault read fault same = absurd (none.reads fault)
  stopped Status.Done read fault same = absurd read
  stopped Status.HistoryFull read fault same = absurd read
  stopped Status.WriteFault read fault same = absurd read
  stopped (Status.NotLegal n) read fault same = absurd read
  stopped Status.Usage read fault same = absurd read
  stopped Status.ReportTooLong read fault same = absurd read
  stopped Status.NoRows read fault same = absurd read
  stopped Status.TooManyRows read fault same = absurd read
  stopped (Status.Race end) read fault same = absurd read

  without : (status : Status) → Searches task io status → ToldWithout task bytes held io status
  without status x = record {
    told = by x.seen;
    sure = λ s z. known _ io.source.left bytes left (x.sure none) s (is_given bytes held io left holds s z);
  }
    where
      by : Searched task io status ⊎ HasStopped io status → ToldRaces task bytes held io status
      by (inl y) = searched y.script status y.read y.found x.write_faults x.flushed
      by (inr y) = stopped status y.read x.read_faults y.sink

module _ (bytes held : List ℕ) (io : Traffic) (left : io.source.left ≡ Some bytes) (holds : io.sink.held ≡ Some held) (none : NoFault io) where
  by_words : (r : Result Task BadWord) (status : Status) → WithoutsBy r io status → ToldBy r bytes held io status
  by_words (Ok task) status x = without task bytes held io left holds none status x
  by_words (Err bad) status x = (inl x.usage, record { unread = x.source; unwritten = x.sink })

  short_by : (r : Result Task BadWord) → IsUntouched io → ToldBy r bytes held io Status.NoMemory
  short_by (Ok task) same = record { told = inl (nothing_out bytes held io left holds (ap (λ (k : SinkState). k.held) same.unwritten)); sure = λ s z. tt }
  short_by (Err bad) same = (inr refl, same)

pub theorem : Theorem
theorem words bytes held args io errors errors_after code start e =
    ends_so Runs (ToldBy (task_in words) bytes held io) name usage words bytes held args io errors errors_after code start e
    (λ status x. by_words bytes held io start.left start.holds start.faultless (task_in words) status x)
    (short_by bytes held io start.left start.holds start.faultless (task_in words))
