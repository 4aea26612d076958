-- What the user of the program is told.
use Rattle.std.proofs.Common.{◌≡◌, ◌⊎◌, inl, inr, ℕ, ◌<◌, ◌≤◌, Bool, true, false, List, [], ◌++◌, length, Option, Some, None, refl, sym, ap, ◌∙◌, subst}
use Rattle.std.specs.Prelude.{◌↔◌, IfSome}
use Rattle.hm_base.specs.Program.{Program, IsScript}
use Rattle.hm_check.specs.FirstBad.{IsFirstBad, IsLegalReport}
use Rattle.hm_check.specs.Judging.{IsLegalReportOf}
use Rattle.hm_edge.specs.Input.{LeftOver}
use Rattle.hm_edge.specs.Reading.{HasNotJudged, HasNotRead, HasRead, IsTextOf, ReadAs, ReadFaulted}
use Rattle.hm_edge.specs.Traffic.{IsUntouched, NoFault, Traffic}
use Rattle.hm_edge.specs.Users.{CutShort, EndsSo, GoesOut, IsDoneOrShort, IsStarted, NothingOut, Spells, ToldNoScript}
use Rattle.hm_edge.specs.Writing.{HasWritten, IsFlushed, WantedIn, WriteFaulted}
use Rattle.hm_edge.specs.declared.status.Status.{Status}
use Rattle.hm_edge.proofs.Telling.{cut_short, ends_so, goes_out, is_given, known, left_over, none_left, nothing_out, spells, told_no_script}
use Rattle.hm_history.specs.Kernel.Legal.{Legal}
use Rattle.hm_history.specs.Kernel.Run.{run}
use Rattle.hm_history.specs.declared.Entry.{Entry}
use Rattle.hm_io.specs.Streams.{Adds, SinkState, SourceState}
use Rattle.hm_report.specs.Report.{report}
use Rattle.hm_report.specs.Summary.{summary}
use Rattle.hm_script.specs.Generator.{generated}
use Rattle.hm_script.specs.Spelling.{text}
use Rattle.hm_why.specs.Loads.{why_text}
use Rattle.hm_workers.specs.declared.peeks.Peek.{Peek}
use Rattle.hm_top.specs.Advises.{advice_on}
use Rattle.hm_top.specs.Checks.{Finds, HasJudged, HasTold, IsItsReport, IsJudged, SaysOfReport, Tells, bad_line, legal_line}
use Rattle.hm_top.specs.Commands.{command_of}
use Rattle.hm_top.specs.Complete.{HasRoom, IsComplete}
use Rattle.hm_top.specs.Does.{Does}
use Rattle.hm_top.specs.Generates.{Generates, HasMade, Tries}
use Rattle.hm_top.specs.Peeks.{HasSeen, IsPeekedReport, RunsPeeked, SawAll, peeked_text}
use Rattle.hm_top.specs.Replays.{IsItsText, IsToldOfRun, TellsOfRun}
use Rattle.hm_top.specs.Running.{Answered, HasRun, RanFull, RanSo, RanWhole, told_of}
use Rattle.hm_top.specs.Runs.{Runs, name, usage}
use Rattle.hm_top.specs.RunsThreads.{AllEnded, CameToEnd, HasRunThreads, IsCompleteOrFull, IsThreadsReport, StoppedFull, TellsOfThreads}
use Rattle.hm_top.specs.Theorem.{Answers, AnswersSo, IsOfPeeks, IsOfReport, IsOfRun, IsOfUpgrade, RanByTurns, RanFromThreads, TellsBadReport, TellsLegalReport, TellsPeeks, TellsRun, TellsUpgrade, Theorem}
use Rattle.hm_top.specs.Theorem.{ToldBy, ToldByTurns, ToldChecking, ToldFromThreads, ToldPeeking, ToldPeeks, ToldReport, ToldRun, ToldText, ToldUpgrade, ToldUpgrading}
use Rattle.hm_top.specs.Upgrades.{HasUpgraded, IsItsUpgrade, IsUpgradedText, Upgrades, text_for, upgraded}
use Rattle.hm_top.specs.declared.command.Alone.{Alone}
use Rattle.hm_top.specs.declared.command.Command.{Command}
use Rattle.hm_top.specs.declared.ended.Ended.{Ended}

false≢true : false ≡ true → ⊥
false≢true e = cc

-- ---- runs

whole_by_turns : (s : Program) (h : List Entry) → RanWhole s h → RanByTurns s h false
whole_by_turns s h r = record { run_is = r.ran.run_is; legal = r.ran.legal; within = r.within; done = λ e. r.drained; stopped = λ e. absurd (false≢true e) }

full_by_turns : (s : Program) (h : List Entry) → RanFull s h → RanByTurns s h true
full_by_turns s h r = record { run_is = r.ran.run_is; legal = r.ran.legal; within = r.beyond; done = λ e. absurd (false≢true (sym e)); stopped = λ e. (r.full, r.has_due) }

whole_from_threads : (s : Program) (h : List Entry) → AllEnded s h → RanFromThreads s h false
whole_from_threads s h r = record { legal = r.legal; done = λ e. r.ended; stopped = λ e. absurd (false≢true e) }

full_from_threads : (s : Program) (h : List Entry) → StoppedFull s h → RanFromThreads s h true
full_from_threads s h r = record { legal = r.legal; done = λ e. absurd (false≢true (sym e)); stopped = λ e. (r.full, r.has_due) }

module _ (bytes held : List ℕ) (io : Traffic) (left : io.source.left ≡ Some bytes) (holds : io.sink.held ≡ Some held) (none : NoFault io) where
  -- a script ran so, and what is told of that went out
  tells_run : (Is : Program → List Entry → Type 0) (Ran : Program → List Entry → Bool → Type 0) (full : Bool) → ((s : Program) (h : List Entry) → Is s h → Ran s h full) → (tell : Program → List Entry → List ℕ) (script : Option Program) (h : List Entry)
      → ReadAs 4194304 (IsItsText script) io.source io.source_after → Answered Is script h → Adds io.sink.held io.sink_after.held (told_of tell script h) → io.sink_after.pending ≡ false → TellsRun Ran tell bytes held io full
  tells_run Is Ran full so tell None h read is w sent = absurd is
  tells_run Is Ran full so tell (Some s) h read is w sent = record {
    script = s;
    history = h;
    spells = spells bytes held io left holds s read;
    read = none_left bytes held io left holds (IsTextOf s) 4194304 read;
    ran = so s h is;
    out = goes_out bytes held io left holds (tell s h) w sent;
  }

  of_run : (tell : Program → List Entry → List ℕ) (t : List ℕ) → IsToldOfRun tell io.source t → IsOfRun RanByTurns tell bytes t
  of_run tell t x = by x.ran
    where
      is : IsTextOf x.script bytes
      is = known _ io.source.left bytes left x.read

      by : RanSo x.script x.history → IsOfRun RanByTurns tell bytes t
      by (inl r) = record { script = x.script; history = x.history; in_range = is.in_range; bytes_are = is.spells; full = false; ran = whole_by_turns x.script x.history r; text_is = x.text_is }
      by (inr r) = record { script = x.script; history = x.history; in_range = is.in_range; bytes_are = is.spells; full = true; ran = full_by_turns x.script x.history r; text_is = x.text_is }

  of_threads : (tell : Program → List Entry → List ℕ) (t : List ℕ) (s : Program) (h : List Entry) → IfSome io.source.left (IsTextOf s) → CameToEnd s h → t ≡ tell s h → IsOfRun RanFromThreads tell bytes t
  of_threads tell t s h read (inl r) e = let is = known _ io.source.left bytes left read in
      record { script = s; history = h; in_range = is.in_range; bytes_are = is.spells; full = false; ran = whole_from_threads s h r; text_is = e }
  of_threads tell t s h read (inr r) e = let is = known _ io.source.left bytes left read in
      record { script = s; history = h; in_range = is.in_range; bytes_are = is.spells; full = true; ran = full_from_threads s h r; text_is = e }

  -- what was told of a call that ran a script, or found none
  module _ (W F : Program → List Entry → Type 0) (Ran : Program → List Entry → Bool → Type 0) (so_whole : (s : Program) (h : List Entry) → W s h → Ran s h false) (so_full : (s : Program) (h : List Entry) → F s h → Ran s h true)
      (tell : Program → List Entry → List ℕ) (Goes : List ℕ → Type 0) (script : Option Program) (h : List Entry) where
    told_run : (to : (t : List ℕ) → Goes t → IsOfRun Ran tell bytes t) (status : Status) → HasRead (IsItsText script) io.source io.source_after status → ReadFaulted io.source.faults io.source_after.faults status
        → (status ≡ Status.Done → Answered W script h) → (status ≡ Status.HistoryFull → Answered F script h) → HasWritten (told_of tell script h) Goes io.sink io.sink_after status → WriteFaulted io.sink.faults io.sink_after.faults status
        → IsFlushed io.sink_after.pending status → ToldRun Ran tell bytes held io status
    told_run to Status.Done read faults whole full w fault sent = tells_run W Ran false so_whole tell script h read (whole refl) w sent
    told_run to Status.HistoryFull read faults whole full w fault sent = tells_run F Ran true so_full tell script h read (full refl) w sent
    told_run to Status.NoMemory read faults whole full w fault sent = cut_short bytes held io left holds Goes (IsOfRun Ran tell bytes) to w
    told_run to Status.WriteFault read faults whole full w fault sent = absurd (none.writes fault)
    told_run to Status.ReadFault read faults whole full w fault sent = absurd (none.reads faults)
    told_run to (Status.Refused refused) read faults whole full w fault sent = told_no_script bytes held io left holds (Status.Refused refused) read (λ e. cc) (λ e. cc) w
    told_run to Status.ScriptTooLong read faults whole full w fault sent = told_no_script bytes held io left holds Status.ScriptTooLong read (λ e. cc) (λ e. cc) w
    told_run to (Status.NotLegal n) read faults whole full w fault sent = absurd read
    told_run to Status.Usage read faults whole full w fault sent = absurd read
    told_run to Status.ReportTooLong read faults whole full w fault sent = absurd read
    told_run to Status.NoRows read faults whole full w fault sent = absurd read
    told_run to Status.TooManyRows read faults whole full w fault sent = absurd read
    told_run to (Status.Race end) read faults whole full w fault sent = absurd read

  sure_complete : (status : Status) → IsComplete status → IsDoneOrShort status
  sure_complete Status.Done i = inl refl
  sure_complete Status.NoMemory i = inr refl
  sure_complete Status.HistoryFull i = absurd i
  sure_complete Status.WriteFault i = absurd i
  sure_complete Status.ReadFault i = absurd i
  sure_complete (Status.Refused refused) i = absurd i
  sure_complete Status.ScriptTooLong i = absurd i
  sure_complete (Status.NotLegal n) i = absurd i
  sure_complete Status.Usage i = absurd i
  sure_complete Status.ReportTooLong i = absurd i
  sure_complete Status.NoRows i = absurd i
  sure_complete Status.TooManyRows i = absurd i
  sure_complete (Status.Race end) i = absurd i

  sure_or_full : (status : Status) → IsCompleteOrFull status → IsDoneOrShort status ⊎ (status ≡ Status.HistoryFull)
  sure_or_full Status.Done i = inl (inl refl)
  sure_or_full Status.NoMemory i = inl (inr refl)
  sure_or_full Status.HistoryFull i = inr refl
  sure_or_full Status.WriteFault i = absurd i
  sure_or_full Status.ReadFault i = absurd i
  sure_or_full (Status.Refused refused) i = absurd i
  sure_or_full Status.ScriptTooLong i = absurd i
  sure_or_full (Status.NotLegal n) i = absurd i
  sure_or_full Status.Usage i = absurd i
  sure_or_full Status.ReportTooLong i = absurd i
  sure_or_full Status.NoRows i = absurd i
  sure_or_full Status.TooManyRows i = absurd i
  sure_or_full (Status.Race end) i = absurd i

  by_turns : (tell : Program → List Entry → List ℕ) (ended : Ended) → TellsOfRun tell io ended → ToldByTurns tell bytes held io ended.status
  by_turns tell ended x = record {
    told = told_run RanWhole RanFull RanByTurns whole_by_turns full_by_turns tell (IsToldOfRun tell io.source) ended.script ended.history.entries (of_run tell) ended.status x.read x.read_faults
        (λ e. subst (HasRun ended.script ended.history.entries) e x.ran) (λ e. subst (HasRun ended.script ended.history.entries) e x.ran) x.written x.write_faults x.flushed;
    sure = λ s z room. sure_complete ended.status (known _ io.source.left bytes left (x.complete none) s (is_given bytes held io left holds s z) room);
  }

  from_threads : (ended : Ended) → TellsOfThreads report (IsThreadsReport io.source) io ended → ToldFromThreads bytes held io ended.status
  from_threads ended x = record {
    told = told_run AllEnded StoppedFull RanFromThreads whole_from_threads full_from_threads report (IsThreadsReport io.source) ended.script ended.history.entries (λ t z. of_threads report t z.script z.history z.read z.ran z.text_is) ended.status x.read x.read_faults
        (λ e. subst (HasRunThreads ended.script ended.history.entries) e x.ran) (λ e. subst (HasRunThreads ended.script ended.history.entries) e x.ran) x.written x.write_faults x.flushed;
    sure = λ s z. sure_or_full ended.status (known _ io.source.left bytes left (x.complete none) s (is_given bytes held io left holds s z));
  }

  -- ---- peeks

  of_peeks : (p at n : ℕ) (t : List ℕ) → IsPeekedReport p at n io.source t → IsOfPeeks p at n bytes t
  unfolding of_threads
  of_peeks p at n t z = by z.ran
    where
      is : IsTextOf z.script bytes
      is = known _ io.source.left bytes left z.read

      by : CameToEnd z.script z.history → IsOfPeeks p at n bytes t
      by (inl r) = record {
        peeks = z.peeks;
        run = record { script = z.script; history = z.history; in_range = is.in_range; bytes_are = is.spells; full = false; ran = whole_from_threads z.script z.history r; text_is = z.text_is };
        right = z.right;
      }
      by (inr r) = record {
        peeks = z.peeks;
        run = record { script = z.script; history = z.history; in_range = is.in_range; bytes_are = is.spells; full = true; ran = full_from_threads z.script z.history r; text_is = z.text_is };
        right = z.right;
      }

  tells_peeks : (p at n : ℕ) (xs : List Peek) (script : Option Program) (h : List Entry) → ReadAs 4194304 (IsItsText script) io.source io.source_after → Answered AllEnded script h
      → Adds io.sink.held io.sink_after.held (told_of (peeked_text xs) script h) → io.sink_after.pending ≡ false → SawAll p at n h xs → TellsPeeks p at n bytes held io
  tells_peeks p at n xs None h read is w sent saw = absurd is
  tells_peeks p at n xs (Some s) h read is w sent saw = record {
    peeks = xs;
    run = record {
      script = s;
      history = h;
      spells = spells bytes held io left holds s read;
      read = none_left bytes held io left holds (IsTextOf s) 4194304 read;
      ran = whole_from_threads s h is;
      out = goes_out bytes held io left holds (peeked_text xs s h) w sent;
    };
    saw = saw;
  }

  told_peeks : (p at n : ℕ) (xs : List Peek) (script : Option Program) (h : List Entry) (status : Status) → HasRead (IsItsText script) io.source io.source_after status → ReadFaulted io.source.faults io.source_after.faults status
      → HasRunThreads script h status → HasWritten (told_of (peeked_text xs) script h) (IsPeekedReport p at n io.source) io.sink io.sink_after status → WriteFaulted io.sink.faults io.sink_after.faults status
      → IsFlushed io.sink_after.pending status → HasSeen p at n script h xs status → ToldPeeks p at n bytes held io status
  told_peeks p at n xs script h Status.Done read faults ran w fault sent saw = tells_peeks p at n xs script h read ran w sent saw
  told_peeks p at n xs script h Status.HistoryFull read faults ran w fault sent saw =
      tells_run StoppedFull RanFromThreads true full_from_threads (peeked_text []) script h read ran (subst (λ (ys : List Peek). Adds io.sink.held io.sink_after.held (told_of (peeked_text ys) script h)) saw w) sent
  told_peeks p at n xs script h Status.NoMemory read faults ran w fault sent saw = cut_short bytes held io left holds (IsPeekedReport p at n io.source) (IsOfPeeks p at n bytes) (of_peeks p at n) w
  told_peeks p at n xs script h Status.WriteFault read faults ran w fault sent saw = absurd (none.writes fault)
  told_peeks p at n xs script h Status.ReadFault read faults ran w fault sent saw = absurd (none.reads faults)
  told_peeks p at n xs script h (Status.Refused refused) read faults ran w fault sent saw = told_no_script bytes held io left holds (Status.Refused refused) read (λ e. cc) (λ e. cc) w
  told_peeks p at n xs script h Status.ScriptTooLong read faults ran w fault sent saw = told_no_script bytes held io left holds Status.ScriptTooLong read (λ e. cc) (λ e. cc) w
  told_peeks p at n xs script h (Status.NotLegal l) read faults ran w fault sent saw = absurd read
  told_peeks p at n xs script h Status.Usage read faults ran w fault sent saw = absurd read
  told_peeks p at n xs script h Status.ReportTooLong read faults ran w fault sent saw = absurd read
  told_peeks p at n xs script h Status.NoRows read faults ran w fault sent saw = absurd read
  told_peeks p at n xs script h Status.TooManyRows read faults ran w fault sent saw = absurd read
  told_peeks p at n xs script h (Status.Race end) read faults ran w fault sent saw = absurd read

  peeking : (p at n : ℕ) (ended : Ended) → RunsPeeked p at n io ended → ToldPeeking p at n bytes held io ended.status
  peeking p at n ended x = let y = x.threads in record {
    told = told_peeks p at n ended.peeks ended.script ended.history.entries ended.status y.read y.read_faults y.ran y.written y.write_faults y.flushed x.peeks;
    sure = λ s z. sure_or_full ended.status (known _ io.source.left bytes left (y.complete none) s (is_given bytes held io left holds s z));
  }

  -- ---- texts of the program's own

  told_text : (t : List ℕ) (Is : Program → List Entry → Type 0) (script : Option Program) (h : List Entry) (status : Status) → io.source_after ≡ io.source → HasMade Is script h status → HasWritten t (λ u. u ≡ t) io.sink io.sink_after status
      → WriteFaulted io.sink.faults io.sink_after.faults status → IsFlushed io.sink_after.pending status → ToldText t held io status
  told_text t Is script h Status.Done unread made w fault sent = (unread, goes_out bytes held io left holds t w sent)
  told_text t Is script h Status.NoMemory unread made w fault sent = (unread, cut_short bytes held io left holds (λ u. u ≡ t) (λ u. u ≡ t) (λ u e. e) w)
  told_text t Is script h Status.WriteFault unread made w fault sent = absurd (none.writes fault)
  told_text t Is script h Status.HistoryFull unread made w fault sent = absurd made
  told_text t Is script h Status.ReadFault unread made w fault sent = absurd made
  told_text t Is script h (Status.Refused refused) unread made w fault sent = absurd made
  told_text t Is script h Status.ScriptTooLong unread made w fault sent = absurd made
  told_text t Is script h (Status.NotLegal n) unread made w fault sent = absurd made
  told_text t Is script h Status.Usage unread made w fault sent = absurd made
  told_text t Is script h Status.ReportTooLong unread made w fault sent = absurd made
  told_text t Is script h Status.NoRows unread made w fault sent = absurd made
  told_text t Is script h Status.TooManyRows unread made w fault sent = absurd made
  told_text t Is script h (Status.Race end) unread made w fault sent = absurd made

  -- ---- upgrades

  tells_upgrade : (script : Option Program) → ReadAs 4194304 (IsItsUpgrade script) io.source io.source_after → Adds io.sink.held io.sink_after.held (text_for script) → io.sink_after.pending ≡ false → TellsUpgrade bytes held io
  tells_upgrade None read w sent = absurd (known _ io.source.left bytes left read.bytes_are)
  tells_upgrade (Some u) read w sent = let is = known _ io.source.left bytes left read.bytes_are in record {
    script = is.script;
    spells = record { in_range = is.text_is.in_range; bytes_are = is.text_is.spells; short = known _ io.source.left bytes left read.whole.short };
    read = none_left bytes held io left holds (IsItsUpgrade (Some u)) 4194304 read;
    out = subst (λ (v : Program). GoesOut held (text v) io) is.upgrade (goes_out bytes held io left holds (text u) w sent);
  }

  of_upgrade : (t : List ℕ) → IsUpgradedText io.source t → IsOfUpgrade bytes t
  of_upgrade t z = let is = known _ io.source.left bytes left z.read in
      record { script = is.script; in_range = is.text_is.in_range; bytes_are = is.text_is.spells; text_is = z.text_is ∙ ap text is.upgrade }

  told_upgrade : (script : Option Program) (status : Status) → HasRead (IsItsUpgrade script) io.source io.source_after status → ReadFaulted io.source.faults io.source_after.faults status → HasUpgraded script status
      → HasWritten (text_for script) (IsUpgradedText io.source) io.sink io.sink_after status → WriteFaulted io.sink.faults io.sink_after.faults status → IsFlushed io.sink_after.pending status → ToldUpgrade bytes held io status
  told_upgrade script Status.Done read faults made w fault sent = tells_upgrade script read w sent
  told_upgrade script Status.NoMemory read faults made w fault sent = cut_short bytes held io left holds (IsUpgradedText io.source) (IsOfUpgrade bytes) of_upgrade w
  told_upgrade script Status.WriteFault read faults made w fault sent = absurd (none.writes fault)
  told_upgrade script Status.ReadFault read faults made w fault sent = absurd (none.reads faults)
  told_upgrade script (Status.Refused refused) read faults made w fault sent = told_no_script bytes held io left holds (Status.Refused refused) read (λ e. cc) (λ e. cc) w
  told_upgrade script Status.ScriptTooLong read faults made w fault sent = told_no_script bytes held io left holds Status.ScriptTooLong read (λ e. cc) (λ e. cc) w
  told_upgrade script Status.HistoryFull read faults made w fault sent = absurd made
  told_upgrade script (Status.NotLegal n) read faults made w fault sent = absurd made
  told_upgrade script Status.Usage read faults made w fault sent = absurd made
  told_upgrade script Status.ReportTooLong read faults made w fault sent = absurd read
  told_upgrade script Status.NoRows read faults made w fault sent = absurd read
  told_upgrade script Status.TooManyRows read faults made w fault sent = absurd read
  told_upgrade script (Status.Race end) read faults made w fault sent = absurd read

  upgrading : (ended : Ended) → Upgrades io ended → ToldUpgrading bytes held io ended.status
  upgrading ended x = record {
    told = told_upgrade ended.script ended.status x.read x.read_faults x.script x.written x.write_faults x.flushed;
    sure = λ s z. sure_complete ended.status (known _ io.source.left bytes left (x.complete none) s (is_given bytes held io left holds s z));
  }

  -- ---- reports

  some_same : (s c : Program) → Some s ≡ Some c → s ≡ c
  some_same s c e = cc

  tells_legal : (say : List Entry → List ℕ) (script : Option Program) (h : List Entry) → ReadAs 268435456 (IsItsReport script h) io.source io.source_after → Adds io.sink.held io.sink_after.held (say h) → io.sink_after.pending ≡ false
      → ((c : Program) (k : List Entry) → IsLegalReportOf c k bytes → (script ≡ Some c) × (h ≡ k)) → TellsLegalReport say bytes held io
  tells_legal say None h read w sent finds = absurd (known _ io.source.left bytes left read.bytes_are)
  tells_legal say (Some s) h read w sent finds = record {
    script = s;
    history = h;
    is = known _ io.source.left bytes left read.bytes_are;
    alone = λ c k is. (sym (some_same s c (finds c k is).0), sym (finds c k is).1);
    short = known _ io.source.left bytes left read.whole.short;
    read = none_left bytes held io left holds (IsItsReport (Some s) h) 268435456 read;
    out = goes_out bytes held io left holds (say h) w sent;
  }

  of_report : (say : List Entry → List ℕ) (t : List ℕ) → Tells say io.source t → IsOfReport say bytes t
  of_report say t (inl z) = inl (z.script, z.history, known _ io.source.left bytes left z.read, z.text_is)
  of_report say t (inr z) = inr (z.line, known _ io.source.left bytes left z.read, z.text_is)

  told_report : (say : List Entry → List ℕ) (ended : Ended) (status : Status) → HasJudged ended.script ended.history.entries io.source io.source_after status → ReadFaulted io.source.faults io.source_after.faults status
      → HasTold say io.source ended.script ended.history.entries io.sink io.sink_after status → WriteFaulted io.sink.faults io.sink_after.faults status → IsFlushed io.sink_after.pending status
      → (length bytes ≤ 268435456 → (c : Program) (h : List Entry) → IsLegalReportOf c h bytes → Finds c h ended status) → ToldReport say bytes held io status
  told_report say ended Status.Done read faults w fault sent finds = tells_legal say ended.script ended.history.entries read w sent (λ c h is. finds (known _ io.source.left bytes left read.whole.short) c h is)
  told_report say ended (Status.NotLegal line) read faults w fault sent finds = record {
    first = known _ io.source.left bytes left read.bytes_are;
    none = finds (known _ io.source.left bytes left read.whole.short);
    short = known _ io.source.left bytes left read.whole.short;
    read = none_left bytes held io left holds (λ (b : List ℕ). IsFirstBad b line) 268435456 read;
    out = goes_out bytes held io left holds (bad_line line) w sent;
  }
  told_report say ended Status.ReportTooLong read faults w fault sent finds = (left_over io.source.left bytes 268435456 left read, nothing_out bytes held io left holds w)
  told_report say ended Status.NoMemory read faults w fault sent finds = cut_short bytes held io left holds (Tells say io.source) (IsOfReport say bytes) (of_report say) w
  told_report say ended Status.WriteFault read faults w fault sent finds = absurd (none.writes fault)
  told_report say ended Status.ReadFault read faults w fault sent finds = absurd (none.reads faults)
  told_report say ended Status.HistoryFull read faults w fault sent finds = absurd read
  told_report say ended (Status.Refused refused) read faults w fault sent finds = absurd read
  told_report say ended Status.ScriptTooLong read faults w fault sent finds = absurd read
  told_report say ended Status.Usage read faults w fault sent finds = absurd read
  told_report say ended Status.NoRows read faults w fault sent finds = absurd read
  told_report say ended Status.TooManyRows read faults w fault sent finds = absurd read
  told_report say ended (Status.Race end) read faults w fault sent finds = absurd read

  sure_judged : (status : Status) → IsJudged status → IsDoneOrShort status ⊎ ((line : ℕ) × (status ≡ Status.NotLegal line))
  sure_judged Status.Done i = inl (inl refl)
  sure_judged Status.NoMemory i = inl (inr refl)
  sure_judged (Status.NotLegal n) i = inr (n, refl)
  sure_judged Status.HistoryFull i = absurd i
  sure_judged Status.WriteFault i = absurd i
  sure_judged Status.ReadFault i = absurd i
  sure_judged (Status.Refused refused) i = absurd i
  sure_judged Status.ScriptTooLong i = absurd i
  sure_judged Status.Usage i = absurd i
  sure_judged Status.ReportTooLong i = absurd i
  sure_judged Status.NoRows i = absurd i
  sure_judged Status.TooManyRows i = absurd i
  sure_judged (Status.Race end) i = absurd i

  checking : (say : List Entry → List ℕ) (ended : Ended) → SaysOfReport say io ended → ToldChecking say bytes held io ended.status
  checking say ended x = record {
    told = told_report say ended ended.status x.read x.read_faults x.written x.write_faults x.flushed (known _ io.source.left bytes left (x.finds none));
    sure = λ short. sure_judged ended.status (known _ io.source.left bytes left (x.complete none) short);
  }

  -- ---- all words

  not_usage : (command : Option Command) (c : Command) (status : Status) → command ≡ Some c → ((status ≡ Status.Usage) ↔ (command ≡ None)) → status ≡ Status.Usage → ⊥
  not_usage command c status e u is = let n = u.0 is in cc

  did : (command : Option Command) (ended : Ended) → ((ended.status ≡ Status.Usage) ↔ (command ≡ None)) → Does command io ended → ToldBy command bytes held io ended.status
  did None ended u x = (inl (u.1 refl), record { unread = x.unread; unwritten = x.unwritten })
  did (Some (Command.Alone Alone.Replay)) ended u x = by_turns report ended x
  did (Some (Command.Alone Alone.Advise)) ended u x = by_turns advice_on ended x
  did (Some (Command.Alone (Alone.Generate n))) ended u x = told_text (text (generated n)) _ ended.script ended.history.entries ended.status x.unread x.made x.written x.write_faults x.flushed
  did (Some (Command.Alone (Alone.Trial n))) ended u x = told_text (summary n (generated n) (run (generated n))) _ ended.script ended.history.entries ended.status x.unread x.ran x.written x.write_faults x.flushed
  did (Some (Command.Alone Alone.Upgrade)) ended u x = upgrading ended x
  did (Some (Command.Alone Alone.Check)) ended u x = checking (λ h. legal_line (length h)) ended x
  did (Some (Command.Alone Alone.Why)) ended u x = checking why_text ended x
  did (Some (Command.Threads begin)) ended u x = from_threads ended x
  did (Some (Command.Peek asked)) ended u x = peeking asked.proc asked.addr asked.len ended x

  -- memory ran out before the call: nothing was read or written
  short_by : (command : Option Command) → IsUntouched io → ToldBy command bytes held io Status.NoMemory
  short_by None same = (inr refl, same)
  short_by (Some (Command.Alone Alone.Replay)) same = record { told = inl (nothing_out bytes held io left holds (ap (λ (k : SinkState). k.held) same.unwritten)); sure = λ s z room. inr refl }
  short_by (Some (Command.Alone Alone.Advise)) same = record { told = inl (nothing_out bytes held io left holds (ap (λ (k : SinkState). k.held) same.unwritten)); sure = λ s z room. inr refl }
  short_by (Some (Command.Alone (Alone.Generate n))) same = (same.unread, inl (nothing_out bytes held io left holds (ap (λ (k : SinkState). k.held) same.unwritten)))
  short_by (Some (Command.Alone (Alone.Trial n))) same = (same.unread, inl (nothing_out bytes held io left holds (ap (λ (k : SinkState). k.held) same.unwritten)))
  short_by (Some (Command.Alone Alone.Upgrade)) same = record { told = inl (nothing_out bytes held io left holds (ap (λ (k : SinkState). k.held) same.unwritten)); sure = λ s z. inr refl }
  short_by (Some (Command.Alone Alone.Check)) same = record { told = inl (nothing_out bytes held io left holds (ap (λ (k : SinkState). k.held) same.unwritten)); sure = λ short. inl (inr refl) }
  short_by (Some (Command.Alone Alone.Why)) same = record { told = inl (nothing_out bytes held io left holds (ap (λ (k : SinkState). k.held) same.unwritten)); sure = λ short. inl (inr refl) }
  short_by (Some (Command.Threads begin)) same = record { told = inl (nothing_out bytes held io left holds (ap (λ (k : SinkState). k.held) same.unwritten)); sure = λ s z. inl (inr refl) }
  short_by (Some (Command.Peek asked)) same = record { told = inl (nothing_out bytes held io left holds (ap (λ (k : SinkState). k.held) same.unwritten)); sure = λ s z. inl (inr refl) }

pub theorem : Theorem
theorem words bytes held args io errors errors_after code start e =
    ends_so Runs (ToldBy (command_of words) bytes held io) name usage words bytes held args io errors errors_after code start e
    (λ status x. subst (ToldBy (command_of words) bytes held io) x.status_is
    (did bytes held io start.left start.holds start.faultless (command_of words) x.ended (subst (λ (z : Status). (z ≡ Status.Usage) ↔ (command_of words ≡ None)) (sym x.status_is) x.usage) x.does))
    (short_by bytes held io start.left start.holds start.faultless (command_of words))

-- ---- the answer of a call

pub answers : Answers
answers None io ended x = (x.none, x.receipt)
answers (Some (Command.Alone Alone.Replay)) io ended x = (x.ran, x.receipt)
answers (Some (Command.Alone Alone.Advise)) io ended x = (x.ran, x.receipt)
answers (Some (Command.Alone (Alone.Generate n))) io ended x = (x.made, x.receipt)
answers (Some (Command.Alone (Alone.Trial n))) io ended x = (x.ran, x.receipt)
answers (Some (Command.Alone Alone.Upgrade)) io ended x = (x.script, x.history, x.receipt)
answers (Some (Command.Alone Alone.Check)) io ended x = (x.answer, x.receipt)
answers (Some (Command.Alone Alone.Why)) io ended x = (x.answer, x.receipt)
answers (Some (Command.Threads begin)) io ended x = (x.ran, x.receipt)
answers (Some (Command.Peek asked)) io ended x = (x.threads.ran, x.threads.receipt, x.peeks)
