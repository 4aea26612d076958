-- What the calls with `generate N` and `trial N` come to.
use Rattle.std.proofs.Common.{◌≡◌, ℕ, Bool, true, false, Some, None, Option, List, refl, sym, ◌∙◌, ap, subst}
use Rattle.hm_base.specs.Program.{Program}
use Rattle.hm_history.specs.Kernel.Overrun.{overruns}
use Rattle.hm_history.specs.Kernel.Run.{run}
use Rattle.hm_history.specs.declared.Entry.{Entry}
use Rattle.hm_report.specs.Summary.{summary}
use Rattle.hm_script.specs.Generator.{generated}
use Rattle.hm_script.specs.Spelling.{text}
use Rattle.hm_top.specs.Generates.{Generates, HasMade, IsAlone, IsTried, Tries}
use Rattle.hm_top.specs.Ran.{IsRan}
use Rattle.hm_top.specs.Running.{Answered, RanFull, RanWhole}
use Rattle.hm_edge.specs.Traffic.{Traffic}
use Rattle.hm_edge.specs.Writing.{HasWritten, IsFlushed, WriteFaulted}
use Rattle.hm_top.specs.declared.ended.Ended.{Ended}
use Rattle.hm_top.specs.declared.schedule.Ran.{Ran}
use Rattle.hm_edge.specs.declared.status.Status.{Status}
use Rattle.hm_top.proofs.Trial.{trial_fits}

-- the script's text was written
pub texts : (n : ℕ) (io : Traffic) (e : Ended) (s : Program) → s ≡ generated n → io.source_after ≡ io.source → HasMade (IsAlone s) e.script e.history.entries e.status
    → HasWritten (text s) (λ t. t ≡ text s) io.sink io.sink_after e.status → WriteFaulted io.sink.faults io.sink_after.faults e.status → IsFlushed io.sink_after.pending e.status → e.receipt ≡ None → Generates n io e
texts n io e s is unread made written faults flushed receipt = record {
  unread = unread;
  made = subst (λ x. HasMade (IsAlone x) e.script e.history.entries e.status) is made;
  written = subst (λ x. HasWritten (text x) (λ t. t ≡ text x) io.sink io.sink_after e.status) is written;
  write_faults = faults;
  flushed = flushed;
  receipt = receipt;
}

-- a trial's history is never full
never_full : (s : Program) (h : List Entry) (n : ℕ) (full : Bool) → s ≡ generated n → (full ≡ false → RanWhole s h) → (full ≡ true → RanFull s h) → RanWhole s h
never_full s h n false is whole over = whole refl
never_full s h n true is whole over = let never : true ≡ false = sym (over refl).beyond ∙ ap overruns is ∙ trial_fits n in cc

answered : (r : Ran) (t : Program) (script : Option Program) (h : List Entry) → r.script ≡ t → RanWhole r.script r.history.entries → Answered (IsRan r) script h → Answered (IsTried t) script h
answered r t None h is ran a = a
answered r t (Some s) h is ran a = (a.0 ∙ is, subst (λ x. RanWhole x h) (sym a.0) (subst (RanWhole r.script) (sym a.1) ran))

tried : (r : Ran) (t : Program) (script : Option Program) (h : List Entry) (status : Status) → r.script ≡ t → RanWhole r.script r.history.entries → HasMade (IsRan r) script h status → HasMade (IsTried t) script h status
tried r t script h Status.Done is ran made = answered r t script h is ran made
tried r t script h Status.WriteFault is ran made = answered r t script h is ran made
tried r t script h Status.NoMemory is ran made = made
tried r t script h Status.Usage is ran made = made
tried r t script h (Status.NotLegal l) is ran made = made
tried r t script h (Status.Refused x) is ran made = made
tried r t script h Status.ReadFault is ran made = made
tried r t script h Status.HistoryFull is ran made = made
tried r t script h Status.ScriptTooLong is ran made = made
tried r t script h Status.ReportTooLong is ran made = made
tried r t script h Status.NoRows is ran made = made
tried r t script h Status.TooManyRows is ran made = made
tried r t script h (Status.Race end) is ran made = made

-- the summary was written
pub summaries : (n : ℕ) (io : Traffic) (e : Ended) (r : Ran) → r.script ≡ generated n → io.source_after ≡ io.source → (r.full ≡ false → RanWhole r.script r.history.entries) → (r.full ≡ true → RanFull r.script r.history.entries)
    → HasMade (IsRan r) e.script e.history.entries e.status → HasWritten (summary n r.script r.history.entries) (λ t. t ≡ summary n r.script r.history.entries) io.sink io.sink_after e.status
    → WriteFaulted io.sink.faults io.sink_after.faults e.status → IsFlushed io.sink_after.pending e.status → e.receipt ≡ None → Tries n io e
summaries n io e r is unread whole over made written faults flushed receipt =
    let ran = never_full r.script r.history.entries n r.full is whole over in
    let same : summary n r.script r.history.entries ≡ summary n (generated n) (run (generated n)) = ap (summary n r.script) (ran.ran.run_is) ∙ ap (λ s. summary n s (run s)) is in record {
      unread = unread;
      ran = tried r (generated n) e.script e.history.entries e.status is ran made;
      written = subst (λ x. HasWritten x (λ t. t ≡ x) io.sink io.sink_after e.status) same written;
      write_faults = faults;
      flushed = flushed;
      receipt = receipt;
    }

-- so of the script that was drawn
pub summaries_for : (n : ℕ) (io : Traffic) (e : Ended) (r : Ran) (s : Program) → r.script ≡ s → s ≡ generated n → io.source_after ≡ io.source → (r.full ≡ false → RanWhole s r.history.entries) → (r.full ≡ true → RanFull s r.history.entries)
    → HasMade (IsRan r) e.script e.history.entries e.status → HasWritten (summary n r.script r.history.entries) (λ t. t ≡ summary n r.script r.history.entries) io.sink io.sink_after e.status
    → WriteFaulted io.sink.faults io.sink_after.faults e.status → IsFlushed io.sink_after.pending e.status → e.receipt ≡ None → Tries n io e
summaries_for n io e r s is drawn unread whole over made written faults flushed none =
    summaries n io e r (is ∙ drawn) unread (λ f. subst (λ x. RanWhole x r.history.entries) (sym is) (whole f)) (λ f. subst (λ x. RanFull x r.history.entries) (sym is) (over f)) made written faults flushed none
