-- What the user of the program is told.
use Rattle.std.proofs.Common.{◌≡◌, ◌⊎◌, inl, inr, ℕ, ◌≤◌, false, List, length, Option, Some, None, refl, sym, ap, ◌∙◌, subst}
use Rattle.hm_base.specs.Program.{Program}
use Rattle.hm_check.specs.Judging.{IsLegalReportOf}
use Rattle.hm_edge.specs.Input.{LeftOver}
use Rattle.hm_edge.specs.Reading.{ReadFaulted}
use Rattle.hm_edge.specs.Traffic.{IsUntouched, NoFault, Traffic}
use Rattle.hm_edge.specs.Users.{CutShort, EndsSo, GoesOut, IsDoneOrShort, IsStarted, NothingOut}
use Rattle.hm_edge.specs.Writing.{HasWritten, IsFlushed, WriteFaulted}
use Rattle.hm_edge.specs.declared.status.Status.{Status}
use Rattle.hm_edge.proofs.Telling.{cut_short, ends_so, goes_out, known, left_over, nothing_out}
use Rattle.hm_history.specs.declared.Entry.{Entry}
use Rattle.hm_io.specs.Streams.{Adds, SinkState}
use Rattle.hm_parts.specs.declared.parts.Parts.{Parts}
use Rattle.hm_parts.specs.declared.shown.ShownParts.{ShownParts}
use Rattle.hm_judge.specs.Asked.{asked_of}
use Rattle.hm_judge.specs.Judgements.{HasBadHead, IsBadAfter, IsTold, IsWrongEntry}
use Rattle.hm_judge.specs.Judging.{Finds, HasTold, IsAnswerOn, Judges, Told}
use Rattle.hm_judge.specs.Later.{IsFollowedIn}
use Rattle.hm_judge.specs.LaterTexts.{answer_text}
use Rattle.hm_judge.specs.Runs.{Runs, RunsAsked, name, usage}
use Rattle.hm_judge.specs.Theorem.{IsOfJudgement, IsRight, TellsJudgement, Theorem, ToldBy, ToldJudgement, ToldJudging, ToldOf, ToldOfEntry, ToldOfHead, ToldOfLater, ToldOfLine}
use Rattle.hm_judge.specs.declared.answer.Answer.{Answer}
use Rattle.hm_judge.specs.declared.asked.Asked.{Asked}
use Rattle.hm_judge.specs.declared.followed.Followed.{Followed}
use Rattle.hm_judge.specs.declared.judgement.BadReport.{BadReport}
use Rattle.hm_judge.specs.declared.judgement.Judgement.{Judgement}

of_entry : (c : Program) (h : List Entry) (l : List ℕ) (e : Entry) (x : Parts) (y : ShownParts) → IsWrongEntry c h l e x y → ToldOfEntry c h l e x y
of_entry c h l e x y w = record { fits = w.fits; line_is = w.line_is; not_due = w.not_due; parts = w.parts; shown = w.shown }

of_head : (bytes : List ℕ) (b : BadReport) → HasBadHead bytes b → ToldOfHead bytes b
of_head bytes b x = record { head = x.head; fault = x.fault; at_line = x.at_line; nearest = x.nearest; standing = x.standing; ending = x.ending }

of_line : (bytes : List ℕ) (b : BadReport) → IsBadAfter bytes b → ToldOfLine bytes b
of_line bytes b x = record {
  script = x.script;
  history = x.history;
  left = x.left;
  in_range = x.read.script;
  dues = x.read.dues;
  few = x.read.few;
  lines_are = x.read.lines_are;
  same = x.same;
  differ = x.differ;
  line = x.said.line;
  at = x.said.at;
  fault = x.said.fault;
  entry = of_entry x.script x.history;
  nearest = x.said.nearest;
  standing = x.said.standing;
  ending = x.said.ending;
}

told_of : (bytes : List ℕ) (j : Judgement) → IsTold bytes j → ToldOf bytes j
told_of bytes (Judgement.Legal l) t = t
told_of bytes (Judgement.Bad b) (inl t) = inl (of_head bytes b t)
told_of bytes (Judgement.Bad b) (inr t) = inr (of_line bytes b t)

of_later : (bytes : List ℕ) (f : Followed) → IsFollowedIn bytes f → ToldOfLater bytes f
of_later bytes f x = record { script = x.script; unfinished = x.unfinished; has = x.has; text_is = x.text_is; first = x.first; rules = x.rules }

is_right : (asked : Asked) (bytes : List ℕ) (a : Answer) → IsAnswerOn asked bytes a → IsRight asked bytes a
is_right asked bytes a x = record {
  verdict = x.judgement.judged;
  only = x.judgement.only;
  told = told_of bytes a.judgement x.judgement.told;
  later = x.later;
  followed = of_later bytes;
}

module _ (asked : Asked) (bytes held : List ℕ) (io : Traffic) (left : io.source.left ≡ Some bytes) (holds : io.sink.held ≡ Some held) (none : NoFault io) where
  same_held : io.sink_after ≡ io.sink → io.sink_after.held ≡ io.sink.held
  same_held same = ap (λ (k : SinkState). k.held) same

  tells_judgement : (status : Status) → (t : Told asked io status) → Adds io.sink.held io.sink_after.held (answer_text asked t.answer) → io.sink_after.pending ≡ false → TellsJudgement asked bytes held io status
  tells_judgement status t adds sent = record {
    answer = t.answer;
    is = is_right asked bytes t.answer (known _ io.source.left bytes left t.read);
    sound = t.sound;
    ends = t.ends;
    out = goes_out bytes held io left holds (answer_text asked t.answer) adds sent;
  }

  of_judgement : (t : Told asked io Status.NoMemory) → CutShort (IsOfJudgement asked bytes) held io
  of_judgement t = cut_short bytes held io left holds (λ u. u ≡ answer_text asked t.answer) (IsOfJudgement asked bytes)
      (λ u is. (t.answer, is_right asked bytes t.answer (known _ io.source.left bytes left t.read), is)) t.written

  judgement : (status : Status) → HasTold asked io status → ReadFaulted io.source.faults io.source_after.faults status → WriteFaulted io.sink.faults io.sink_after.faults status → IsFlushed io.sink_after.pending status → ToldJudgement asked bytes held io status
  judgement Status.Done t read fault sent = tells_judgement Status.Done t t.written sent
  judgement (Status.NotLegal n) t read fault sent = tells_judgement (Status.NotLegal n) t t.written sent
  judgement Status.NoMemory (inl same) read fault sent = inl (nothing_out bytes held io left holds (same_held same))
  judgement Status.NoMemory (inr t) read fault sent = of_judgement t
  judgement Status.ReportTooLong t read fault sent = (left_over io.source.left bytes 268435456 left t.0, nothing_out bytes held io left holds (same_held t.1))
  judgement Status.WriteFault t read fault sent = absurd (none.writes fault)
  judgement Status.ReadFault t read fault sent = absurd (none.reads read)
  judgement Status.HistoryFull t read fault sent = absurd t
  judgement (Status.Refused refused) t read fault sent = absurd t
  judgement Status.ScriptTooLong t read fault sent = absurd t
  judgement Status.Usage t read fault sent = absurd t
  judgement Status.NoRows t read fault sent = absurd t
  judgement Status.TooManyRows t read fault sent = absurd t
  judgement (Status.Race end) t read fault sent = absurd t

  sure_found : (status : Status) → WriteFaulted io.sink.faults io.sink_after.faults status → Finds status → IsDoneOrShort status
  sure_found Status.Done fault f = inl refl
  sure_found Status.NoMemory fault f = inr refl
  sure_found Status.WriteFault fault f = absurd (none.writes fault)
  sure_found (Status.NotLegal n) fault f = absurd f
  sure_found Status.ReportTooLong fault f = absurd f
  sure_found Status.ReadFault fault f = absurd f
  sure_found Status.HistoryFull fault f = absurd f
  sure_found (Status.Refused refused) fault f = absurd f
  sure_found Status.ScriptTooLong fault f = absurd f
  sure_found Status.Usage fault f = absurd f
  sure_found Status.NoRows fault f = absurd f
  sure_found Status.TooManyRows fault f = absurd f
  sure_found (Status.Race end) fault f = absurd f

  judging : (status : Status) → Judges asked io status → ToldJudging asked bytes held io status
  judging status x = record {
    told = judgement status x.told x.read_faults x.write_faults x.flushed;
    sure = λ short c h is. sure_found status x.write_faults (known _ io.source.left bytes left (x.finds none.reads) short c h is);
  }

module _ (bytes held : List ℕ) (io : Traffic) (left : io.source.left ≡ Some bytes) (holds : io.sink.held ≡ Some held) (none : NoFault io) where
  by_words : (asked : Option Asked) (status : Status) → RunsAsked asked io status → ToldBy asked bytes held io status
  by_words None status x = (inl x.usage, x.untouched)
  by_words (Some asked) status x = judging asked bytes held io left holds none status x

  short_by : (asked : Option Asked) → IsUntouched io → ToldBy asked bytes held io Status.NoMemory
  short_by None same = (inr refl, same)
  short_by (Some asked) same = record { told = inl (nothing_out bytes held io left holds (ap (λ (k : SinkState). k.held) same.unwritten)); sure = λ short c h is. inr refl }

pub theorem : Theorem
theorem words bytes held args io errors errors_after code start e =
    ends_so Runs (ToldBy (asked_of words) bytes held io) name usage words bytes held args io errors errors_after code start e
    (λ status x. by_words bytes held io start.left start.holds start.faultless (asked_of words) status x)
    (short_by bytes held io start.left start.holds start.faultless (asked_of words))
