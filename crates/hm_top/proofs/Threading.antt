-- What a call with the word `threads` comes to.
use Rattle.std.proofs.Common.{◌≡◌, ℕ, inl, inr, Bool, true, false, Some, List, refl, sym, ◌∙◌, ap, subst}
use Rattle.hm_base.specs.Program.{Program}
use Rattle.hm_history.specs.declared.Entry.{Entry}
use Rattle.hm_report.specs.Report.{report}
use Rattle.hm_edge.specs.Traffic.{NoFault, Traffic}
use Rattle.hm_top.specs.Ran.{HasAll, Shows, ShowsAt}
use Rattle.hm_edge.specs.Reading.{IsTextOf, ReadAs}
use Rattle.hm_top.specs.RunsThreads.{AllEnded, CameToEnd, HasReceipt, HasRunThreads, IsCompleteOrFull, IsThreadsReport, StoppedFull, TellsOfThreads}
use Rattle.hm_io.specs.Streams.{SourceState}
use Rattle.hm_edge.specs.Writing.{HasWritten, IsFlushed, WriteFaulted}
use Rattle.hm_top.specs.declared.ended.Ended.{Ended}
use Rattle.hm_top.specs.declared.schedule.Ran.{Ran}
use Rattle.hm_edge.specs.declared.status.Status.{Status}
use Rattle.hm_edge.proofs.Came.{given}
use Rattle.hm_top.proofs.Replaying.{answered, faults_shown, read_shown, text_shown}

pub came : (s : Program) (h : List Entry) (full : Bool) → (full ≡ false → AllEnded s h) → (full ≡ true → StoppedFull s h) → CameToEnd s h
came s h false whole over = inl (whole refl)
came s h true whole over = inr (over refl)

run_shown : (r : Ran) (e : Ended) (status : Status) → ShowsAt r e status → (r.full ≡ false → AllEnded r.script r.history.entries) → (r.full ≡ true → StoppedFull r.script r.history.entries) → HasRunThreads e.script e.history.entries status
run_shown r e Status.Done shows whole over = answered AllEnded r e shows.1 (whole shows.0)
run_shown r e Status.HistoryFull shows whole over = answered StoppedFull r e shows.1 (over shows.0)
run_shown r e Status.WriteFault shows whole over = answered CameToEnd r e shows (came r.script r.history.entries r.full whole over)
run_shown r e Status.NoMemory shows whole over = shows.none
run_shown r e Status.Usage shows whole over = absurd shows
run_shown r e (Status.NotLegal l) shows whole over = absurd shows
run_shown r e (Status.Refused x) shows whole over = absurd shows
run_shown r e Status.ScriptTooLong shows whole over = absurd shows
run_shown r e Status.ReportTooLong shows whole over = absurd shows
run_shown r e Status.NoRows shows whole over = absurd shows
run_shown r e Status.TooManyRows shows whole over = absurd shows
run_shown r e (Status.Race end) shows whole over = absurd shows
run_shown r e Status.ReadFault shows whole over = absurd shows

receipt_of : (r : Ran) (e : Ended) → HasAll r e → r.receipt ≡ Some r.history.entries → e.receipt ≡ Some e.history.entries
receipt_of r e all some = all.receipt_is ∙ some ∙ ap Some (sym all.history_is)

receipt_shown : (r : Ran) (e : Ended) (status : Status) → ShowsAt r e status → r.receipt ≡ Some r.history.entries → HasReceipt e.receipt e.history.entries status
receipt_shown r e Status.Done shows some = receipt_of r e shows.1 some
receipt_shown r e Status.HistoryFull shows some = receipt_of r e shows.1 some
receipt_shown r e Status.WriteFault shows some = receipt_of r e shows some
receipt_shown r e Status.NoMemory shows some = shows.receipt_is
receipt_shown r e Status.Usage shows some = absurd shows
receipt_shown r e (Status.NotLegal l) shows some = absurd shows
receipt_shown r e (Status.Refused x) shows some = absurd shows
receipt_shown r e Status.ScriptTooLong shows some = absurd shows
receipt_shown r e Status.ReportTooLong shows some = absurd shows
receipt_shown r e Status.NoRows shows some = absurd shows
receipt_shown r e Status.TooManyRows shows some = absurd shows
receipt_shown r e (Status.Race end) shows some = absurd shows
receipt_shown r e Status.ReadFault shows some = absurd shows

ends : (io : Traffic) (r : Ran) (e : Ended) (status : Status) → ShowsAt r e status → WriteFaulted io.sink.faults io.sink_after.faults status → NoFault io → IsCompleteOrFull status
ends io r e Status.Done shows w none = tt
ends io r e Status.NoMemory shows w none = tt
ends io r e Status.HistoryFull shows w none = tt
ends io r e Status.WriteFault shows w none = none.writes w
ends io r e Status.Usage shows w none = shows
ends io r e (Status.NotLegal l) shows w none = shows
ends io r e (Status.Refused x) shows w none = shows
ends io r e Status.ScriptTooLong shows w none = shows
ends io r e Status.ReportTooLong shows w none = shows
ends io r e Status.NoRows shows w none = shows
ends io r e Status.TooManyRows shows w none = shows
ends io r e (Status.Race end) shows w none = shows
ends io r e Status.ReadFault shows w none = shows

-- it has shown what its threads did
pub shown : (tell : Program → List Entry → List ℕ) (Own Goes : List ℕ → Type 0) (io : Traffic) (r : Ran) (e : Ended) → ReadAs 4194304 (IsTextOf r.script) io.source io.source_after → io.source_after.faults ≡ io.source.faults
    → (r.full ≡ false → AllEnded r.script r.history.entries) → (r.full ≡ true → StoppedFull r.script r.history.entries) → r.receipt ≡ Some r.history.entries → Shows r e → ((t : List ℕ) → Own t → Goes t)
    → HasWritten (tell r.script r.history.entries) Own io.sink io.sink_after e.status → WriteFaulted io.sink.faults io.sink_after.faults e.status → IsFlushed io.sink_after.pending e.status → TellsOfThreads tell Goes io e
shown tell Own Goes io r e read same whole over some shows goes w faults flushed = record {
  read = read_shown r e io.source io.source_after e.status shows read;
  read_faults = faults_shown r e io.source.faults io.source_after.faults e.status shows same;
  ran = run_shown r e e.status shows whole over;
  receipt = receipt_shown r e e.status shows some;
  written = text_shown tell Own Goes r e io.sink io.sink_after e.status shows goes w;
  write_faults = faults;
  flushed = flushed;
  complete = λ none. given io.source.left (λ bytes at s is_given. ends io r e e.status shows faults none);
}

-- so of the script that was read
pub shown_for : (tell : Program → List Entry → List ℕ) (Own Goes : List ℕ → Type 0) (io : Traffic) (r : Ran) (e : Ended) (s : Program) → r.script ≡ s → ReadAs 4194304 (IsTextOf s) io.source io.source_after → io.source_after.faults ≡ io.source.faults
    → (r.full ≡ false → AllEnded s r.history.entries) → (r.full ≡ true → StoppedFull s r.history.entries) → r.receipt ≡ Some r.history.entries → Shows r e → ((t : List ℕ) → Own t → Goes t)
    → HasWritten (tell r.script r.history.entries) Own io.sink io.sink_after e.status → WriteFaulted io.sink.faults io.sink_after.faults e.status → IsFlushed io.sink_after.pending e.status → TellsOfThreads tell Goes io e
shown_for tell Own Goes io r e s is read same whole over some shows goes w faults flushed =
    shown tell Own Goes io r e (subst (λ x. ReadAs 4194304 (IsTextOf x) io.source io.source_after) (sym is) read) same (λ f. subst (λ x. AllEnded x r.history.entries) (sym is) (whole f)) (λ f. subst (λ x. StoppedFull x r.history.entries) (sym is) (over f)) some shows goes w faults flushed

-- the report of what the threads did
pub reported : (from after : SourceState) (r : Ran) (s : Program) → r.script ≡ s → ReadAs 4194304 (IsTextOf s) from after → (r.full ≡ false → AllEnded s r.history.entries) → (r.full ≡ true → StoppedFull s r.history.entries) → (t : List ℕ) → t ≡ report r.script r.history.entries → IsThreadsReport from t
reported from after r s is read whole over t text = record {
  script = s;
  history = r.history.entries;
  read = read.bytes_are;
  ran = came s r.history.entries r.full whole over;
  text_is = text ∙ ap (λ x. report x r.history.entries) is;
}
