-- What the user of the program is told.
use Rattle.std.proofs.Common.{◌≡◌, ◌⊎◌, inl, inr, ℕ, zero, suc, ◌+◌, ◌<◌, arith, true, false, List, [], ◌∷◌, length, Option, Some, None, refl, sym, ap, subst}
use Rattle.hm_base.specs.Program.{Program}
use Rattle.hm_edge.specs.Reading.{HasNotRead, IsTextOf, ReadAs, ReadFaulted}
use Rattle.hm_edge.specs.Traffic.{IsUntouched, NoFault, Traffic}
use Rattle.hm_edge.specs.Users.{CutShort}
use Rattle.hm_edge.specs.Writing.{WriteFaulted}
use Rattle.hm_edge.specs.declared.status.RaceEnd.{RaceEnd}
use Rattle.hm_edge.specs.declared.status.Status.{Status}
use Rattle.hm_edge.proofs.Telling.{cut_short, ends_so, goes_out, is_given, known, none_left, nothing_out, spells, told_no_script}
use Rattle.hm_history.specs.Kernel.Run.{run}
use Rattle.hm_history.specs.declared.StepError.{StepError}
use Rattle.hm_io.specs.Streams.{Adds, SinkState}
use Rattle.hm_script.specs.Built.{has_drain}
use Rattle.hm_search.specs.declared.search.End.{End}
use Rattle.hm_race_top.specs.Asked.{HasNoTask, front, questions_in}
use Rattle.hm_race_top.specs.Races.{Found, HasFound, HasStopped, Holds, RacesBy, Searched, Searches}
use Rattle.hm_race_top.specs.Run.Known.{KnownValue, MayFail}
use Rattle.hm_race_top.specs.Run.Played.{AreOrders, HaveOrders, PrefersAll}
use Rattle.hm_race_top.specs.Run.Systems.{race_of}
use Rattle.hm_race_top.specs.Runs.{Runs, name, usage}
use Rattle.hm_race_top.proofs.Unasked.{none_has}
use Rattle.hm_race_top.specs.Telling.{HasTold, IsSentOn, IsStrict, told}
use Rattle.hm_race_top.specs.Theorem.{AreRight, IsOfRace, IsUnasked, NoRace, OrderOf, TellsRace, Theorem, ToldBy, ToldRace, ToldRacing}
use Rattle.hm_race_top.specs.declared.asked.Task.{Task}

-- the order of an actor
order_of : (c : Program) (played : List KnownValue) → HaveOrders c played → (a : ℕ) → a < length c.actors → OrderOf c played a
order_of c played have a below = subst (λ (m : ℕ). OrderOf c played m) (omega (arith)) (by 0 a played have.orders (omega (arith, below, have.each)))
  where
    by : (k b : ℕ) (ns : List KnownValue) → AreOrders (race_of c (run c)) k ns → b < length ns → OrderOf c ns (k + b)
    by k b [] all lt = absurd (omega (arith, lt))
    by k zero (n ∷ ns) all lt = record {
      state = n;
      listed = inl refl;
      prefers = subst (λ (m : ℕ). PrefersAll (race_of c (run c)) m (race_of c (run c)).start n.turns) (omega (arith)) all.0.prefers;
      far = all.0.far;
    }
    by k (suc b) (n ∷ ns) all lt = later (by (k + 1) b ns all.1 (omega (arith, lt)))
      where
        later : OrderOf c ns (k + 1 + b) → OrderOf c (n ∷ ns) (k + suc b)
        later o = record {
          state = o.state;
          listed = inr o.listed;
          prefers = subst (λ (m : ℕ). PrefersAll (race_of c (run c)) m (race_of c (run c)).start o.state.turns) (omega (arith)) o.prefers;
          far = o.far;
        }

are_right : (most : ℕ) (c : Program) (task : Task) (known played : List KnownValue) (end : End) → Holds most c task known played end → AreRight most c task known played end
are_right most c task known played end h = record {
  all = h.complete;
  real = h.real;
  once = h.distinct;
  orders = λ cut a below. order_of c played (h.orders cut) a below;
  each = λ cut. (h.orders cut).each;
  led = h.led;
  no_order = h.no_order;
  right = h.right;
  seen = h.seen;
  states = h.searched;
  states_once = h.once;
  all_states = h.all;
  few = h.few;
  rising = h.rising;
  fewest = h.fewest;
  cut = h.cut;
  stopped = h.stopped;
  soon = h.soon;
  near = h.near;
  missed = h.missed;
}

module _ (most : ℕ) (task : Task) (bytes held : List ℕ) (io : Traffic) (left : io.source.left ≡ Some bytes) (holds : io.sink.held ≡ Some held) (none : NoFault io) where
  same_held : io.sink_after ≡ io.sink → io.sink_after.held ≡ io.sink.held
  same_held same = ap (λ (k : SinkState). k.held) same

  -- a script was read, and what is told of its race went out
  tells_race : (c : Program) (status : Status) → ReadAs 4194304 (IsTextOf c) io.source io.source_after → (f : Found most c task io.sink io.sink_after status) → status ≡ (told c task f.known f.played f.end).ends
      → Adds io.sink.held io.sink_after.held (told c task f.known f.played f.end).text → io.sink_after.pending ≡ false → TellsRace most task bytes held io status
  tells_race c status read f ends adds sent = record {
    script = c;
    spells = spells bytes held io left holds c read;
    read = none_left bytes held io left holds (IsTextOf c) 4194304 read;
    races = f.races;
    asks = f.asks;
    known = f.known;
    played = f.played;
    end = f.end;
    are = are_right most c task f.known f.played f.end f.holds;
    ends = ends;
    out = goes_out bytes held io left holds (told c task f.known f.played f.end).text adds sent;
    strict = subst (IsStrict c task) (sym ends) f.holds.strict;
  }

  no_race : (Is : Program → Type 0) (c : Program) → ReadAs 4194304 (IsTextOf c) io.source io.source_after → Is c → io.sink_after ≡ io.sink → NoRace Is bytes held io
  no_race Is c read is same = record {
    script = c;
    spells = spells bytes held io left holds c read;
    read = none_left bytes held io left holds (IsTextOf c) 4194304 read;
    is = is;
    nothing = nothing_out bytes held io left holds (same_held same);
  }

  of_race : (c : Program) → ReadAs 4194304 (IsTextOf c) io.source io.source_after → Found most c task io.sink io.sink_after Status.NoMemory → CutShort (IsOfRace most task bytes) held io
  of_race c read f = by f.written
    where
      text_of : (t : List ℕ) → t ≡ (told c task f.known f.played f.end).text → IsOfRace most task bytes t
      text_of t is = record {
        script = c;
        spells = spells bytes held io left holds c read;
        known = f.known;
        played = f.played;
        end = f.end;
        are = are_right most c task f.known f.played f.end f.holds;
        text_is = is;
      }

      by : HasTold (told c task f.known f.played f.end) io.sink io.sink_after Status.NoMemory → CutShort (IsOfRace most task bytes) held io
      by (inl same) = inl (nothing_out bytes held io left holds (same_held same))
      by (inr w) = cut_short bytes held io left holds (λ u. u ≡ (told c task f.known f.played f.end).text) (IsOfRace most task bytes) text_of w

  searched : (c : Program) (status : Status) → ReadAs 4194304 (IsTextOf c) io.source io.source_after → HasFound most c task io.sink io.sink_after status → WriteFaulted io.sink.faults io.sink_after.faults status → IsSentOn io.sink_after.pending status
      → ToldRace most task bytes held io status
  searched c Status.Done read f fault sent = tells_race c Status.Done read f f.written.0 f.written.1 sent
  searched c (Status.Race RaceEnd.Fails) read f fault sent = tells_race c (Status.Race RaceEnd.Fails) read f f.written.0 f.written.1 sent
  searched c (Status.Race RaceEnd.Unsettled) read f fault sent = tells_race c (Status.Race RaceEnd.Unsettled) read f f.written.0 f.written.1 sent
  searched c (Status.Race RaceEnd.NoOutcome) read f fault sent = tells_race c (Status.Race RaceEnd.NoOutcome) read f f.written.0 f.written.1 sent
  searched c (Status.Race RaceEnd.NotFound) read f fault sent = tells_race c (Status.Race RaceEnd.NotFound) read f f.written.0 f.written.1 sent
  searched c (Status.Race RaceEnd.Drained) read f fault sent = no_race (λ s. has_drain s.schedule ≡ true) c read f.0 f.1
  searched c (Status.Race (RaceEnd.NoCondition n word)) read f fault sent = no_race (λ s. IsUnasked s (questions_in task) n word) c read (record { is = f.0; none = none_has c (spells bytes held io left holds c read).in_range }) f.1
  searched c (Status.Race RaceEnd.Broken) read f fault sent = absurd f
  searched c (Status.Race RaceEnd.Open) read f fault sent = absurd f
  searched c Status.HistoryFull read f fault sent = no_race (λ s. MayFail s (run s) (StepError.Full 2000000)) c read f.0 f.1
  searched c Status.NoMemory read (inl same) fault sent = inl (nothing_out bytes held io left holds (same_held same))
  searched c Status.NoMemory read (inr f) fault sent = of_race c read f
  searched c Status.WriteFault read f fault sent = absurd (none.writes fault)
  searched c (Status.NotLegal n) read f fault sent = absurd f
  searched c Status.Usage read f fault sent = absurd f
  searched c (Status.Refused refused) read f fault sent = absurd f
  searched c Status.ReadFault read f fault sent = absurd f
  searched c Status.ScriptTooLong read f fault sent = absurd f
  searched c Status.ReportTooLong read f fault sent = absurd f
  searched c Status.NoRows read f fault sent = absurd f
  searched c Status.TooManyRows read f fault sent = absurd f

  stopped : (status : Status) → HasNotRead io.source io.source_after status → ReadFaulted io.source.faults io.source_after.faults status → io.sink_after ≡ io.sink → ToldRace most task bytes held io status
  stopped (Status.Refused refused) read fault same = told_no_script bytes held io left holds (Status.Refused refused) read (λ e. cc) (λ e. cc) (same_held same)
  stopped Status.ScriptTooLong read fault same = told_no_script bytes held io left holds Status.ScriptTooLong read (λ e. cc) (λ e. cc) (same_held same)
  stopped Status.NoMemory read fault same = inl (nothing_out bytes held io left holds (same_held same))
  stopped Status.ReadFault read fault same = absurd (none.reads fault)
  stopped Status.Done read fault same = absurd read
  stopped Status.HistoryFull read fault same = absurd read
  stopped Status.WriteFault read fault same = absurd read
  stopped (Status.NotLegal n) read fault same = absurd read
  stopped Status.Usage read fault same = absurd read
  stopped Status.ReportTooLong read fault same = absurd read
  stopped Status.NoRows read fault same = absurd read
  stopped Status.TooManyRows read fault same = absurd read
  stopped (Status.Race end) read fault same = absurd read

  racing : (status : Status) → Searches most task io status → ToldRacing most task bytes held io status
  racing status x = record {
    told = by x.seen;
    sure = λ s z. known _ io.source.left bytes left (x.sure none) s (is_given bytes held io left holds s z);
  }
    where
      by : Searched most task io status ⊎ HasStopped io status → ToldRace most task bytes held io status
      by (inl y) = searched y.script status y.read y.found x.write_faults x.flushed
      by (inr y) = stopped status y.read x.read_faults y.sink

module _ (bytes held : List ℕ) (io : Traffic) (left : io.source.left ≡ Some bytes) (holds : io.sink.held ≡ Some held) (none : NoFault io) where
  by_words : (p : Option (ℕ × List (List ℕ))) (status : Status) → RacesBy p io status → ToldBy p bytes held io status
  by_words None status x = (inl x.usage, record { unread = x.source; unwritten = x.sink })
  by_words (Some p) status (inl x) = inl (record { task = x.task; asks = x.is; told = racing p.0 x.task bytes held io left holds none status x.searches })
  by_words (Some p) status (inr x) = inr (x.why, x.untouched)

  no_memory : (words : List (List ℕ)) → HasNoTask words Status.NoMemory
  no_memory [] = tt
  no_memory (w ∷ ws) = tt

  short_by : (p : Option (ℕ × List (List ℕ))) → IsUntouched io → ToldBy p bytes held io Status.NoMemory
  short_by None same = (inr refl, same)
  short_by (Some p) same = inr (no_memory p.1, same)

pub theorem : Theorem
theorem words bytes held args io errors errors_after code start e =
    ends_so Runs (ToldBy (front words) bytes held io) name usage words bytes held args io errors errors_after code start e
    (λ status x. by_words bytes held io start.left start.holds start.faultless (front words) status x)
    (short_by bytes held io start.left start.holds start.faultless (front words))
