-- What a call comes to, by what was read and written.
use Rattle.std.proofs.Common.{◌≡◌, ℕ, ◌≤◌, inl, inr, Some, List, length, sym, subst, ap}
use Rattle.hm_io.specs.Streams.{Rose}
use Rattle.hm_base.specs.Program.{Program}
use Rattle.hm_check.specs.Judged.{IsYes}
use Rattle.hm_check.specs.Judging.{IsLegalReportOf, IsSound}
use Rattle.hm_check.proofs.NotJudged.{none_failed, none_flushed, short_of_memory}
use Rattle.hm_edge.specs.Reading.{HasNotJudged, ReadFaulted}
use Rattle.hm_edge.specs.Traffic.{Traffic}
use Rattle.hm_edge.specs.Writing.{HasWritten, IsFlushed, WriteFaulted}
use Rattle.hm_edge.specs.declared.status.Status.{Status}
use Rattle.hm_edge.proofs.Came.{came_as, came_bytes, given}
use Rattle.hm_history.specs.declared.Entry.{Entry}
use Rattle.hm_judge.specs.Judgements.{verdict_of}
use Rattle.hm_judge.specs.Judging.{EndsAs, Finds, HasTold, IsAnswerFrom, IsAnswerOn, Judges, Told}
use Rattle.hm_judge.specs.LaterTexts.{answer_text}
use Rattle.hm_judge.specs.declared.answer.Answer.{Answer}
use Rattle.hm_judge.specs.declared.asked.Asked.{Asked}
use Rattle.hm_judge.specs.declared.judgement.Judgement.{Judgement}

-- ---- a judgement

has_told : (asked : Asked) (io : Traffic) (status : Status) → Told asked io status → HasTold asked io status
has_told asked io Status.Done t = t
has_told asked io (Status.NotLegal n) t = t
has_told asked io Status.Usage t = absurd t.ends
has_told asked io (Status.Refused r) t = absurd t.ends
has_told asked io Status.ReadFault t = absurd t.ends
has_told asked io Status.WriteFault t = t
has_told asked io Status.NoMemory t = inr t
has_told asked io Status.HistoryFull t = absurd t.ends
has_told asked io Status.ScriptTooLong t = absurd t.ends
has_told asked io Status.ReportTooLong t = absurd t.ends
has_told asked io Status.NoRows t = absurd t.ends
has_told asked io Status.TooManyRows t = absurd t.ends
has_told asked io (Status.Race end) t = absurd t.ends

told_reads : (j : Judgement) (status : Status) → EndsAs j status → (a b : ℕ) → b ≡ a → ReadFaulted a b status
told_reads j Status.Done t a b same = same
told_reads j (Status.NotLegal n) t a b same = same
told_reads j Status.Usage t a b same = same
told_reads j (Status.Refused r) t a b same = same
told_reads j Status.ReadFault t a b same = absurd t
told_reads j Status.WriteFault t a b same = same
told_reads j Status.NoMemory t a b same = same
told_reads j Status.HistoryFull t a b same = same
told_reads j Status.ScriptTooLong t a b same = same
told_reads j Status.ReportTooLong t a b same = same
told_reads j Status.NoRows t a b same = same
told_reads j Status.TooManyRows t a b same = same
told_reads j (Status.Race end) t a b same = same

finds : (j : Judgement) (status : Status) (c : Program) (h : List Entry) → IsYes c h (verdict_of j) → EndsAs j status → Finds status
finds j Status.Done c h found ends = tt
finds (Judgement.Legal l) (Status.NotLegal n) c h found ends = absurd ends
finds (Judgement.Bad b) (Status.NotLegal n) c h found ends = absurd found
finds j Status.Usage c h found ends = absurd ends
finds j (Status.Refused r) c h found ends = absurd ends
finds j Status.ReadFault c h found ends = absurd ends
finds j Status.WriteFault c h found ends = tt
finds j Status.NoMemory c h found ends = tt
finds j Status.HistoryFull c h found ends = absurd ends
finds j Status.ScriptTooLong c h found ends = absurd ends
finds j Status.ReportTooLong c h found ends = absurd ends
finds j Status.NoRows c h found ends = absurd ends
finds j Status.TooManyRows c h found ends = absurd ends
finds j (Status.Race end) c h found ends = absurd ends

pub judges_told : (asked : Asked) (io : Traffic) (status : Status) (a : Answer) → IsSound (verdict_of a.judgement) → IsAnswerFrom asked io.source io.source_after a → io.source_after.faults ≡ io.source.faults → EndsAs a.judgement status
    → HasWritten (answer_text asked a) (λ t. t ≡ answer_text asked a) io.sink io.sink_after status → WriteFaulted io.sink.faults io.sink_after.faults status → IsFlushed io.sink_after.pending status → Judges asked io status
judges_told asked io status a sound from same ends written faults flushed = record {
  told = has_told asked io status told;
  read_faults = told_reads a.judgement status ends io.source.faults io.source_after.faults same;
  write_faults = faults;
  flushed = flushed;
  finds = λ none. given io.source.left (λ bytes is short c h legal. finds a.judgement status c h (is_found bytes is c h legal) ends);
}
  where
    told : Told asked io status
    told = record {
      answer = a;
      sound = sound;
      read = came_as (λ bytes. IsAnswerOn asked bytes a) io.source.left io.source_after.left from.bytes from.whole from.answer;
      ends = ends;
      written = written;
    }

    is_found : (bytes : List ℕ) → io.source.left ≡ Some bytes → (c : Program) (h : List Entry) → IsLegalReportOf c h bytes → IsYes c h (verdict_of a.judgement)
    is_found bytes is c h legal = from.answer.judgement.only c h (subst (IsLegalReportOf c h) (came_bytes io.source.left io.source_after.left from.bytes bytes from.whole is) legal)

-- ---- none

has_told_none : (asked : Asked) (io : Traffic) (status : Status) → HasNotJudged io.source io.source_after status → io.sink_after ≡ io.sink → HasTold asked io status
has_told_none asked io Status.Done n same = absurd n
has_told_none asked io (Status.NotLegal l) n same = absurd n
has_told_none asked io Status.Usage n same = absurd n
has_told_none asked io (Status.Refused r) n same = absurd n
has_told_none asked io Status.ReadFault n same = same
has_told_none asked io Status.WriteFault n same = absurd n
has_told_none asked io Status.NoMemory n same = inl same
has_told_none asked io Status.HistoryFull n same = absurd n
has_told_none asked io Status.ScriptTooLong n same = absurd n
has_told_none asked io Status.ReportTooLong n same = (n, same)
has_told_none asked io Status.NoRows n same = absurd n
has_told_none asked io Status.TooManyRows n same = absurd n
has_told_none asked io (Status.Race end) n same = absurd n

pub judges_none : (asked : Asked) (io : Traffic) (status : Status) → HasNotJudged io.source io.source_after status → ReadFaulted io.source.faults io.source_after.faults status → io.sink_after ≡ io.sink → Judges asked io status
judges_none asked io status n faults same = record {
  told = has_told_none asked io status n same;
  read_faults = faults;
  write_faults = none_failed io.source io.source_after io.sink.faults io.sink_after.faults status n (ap (λ k. k.faults) same);
  flushed = none_flushed io.source io.source_after io.sink_after.pending status n;
  finds = λ none. given io.source.left (λ bytes is short c h legal. subst Finds (memory bytes is short none) tt);
}
  where
    memory : (bytes : List ℕ) → io.source.left ≡ Some bytes → length bytes ≤ 268435456 → (Rose io.source.faults io.source_after.faults → ⊥) → Status.NoMemory ≡ status
    memory bytes is short none = sym (short_of_memory io.source io.source_after status bytes n faults none is short)
