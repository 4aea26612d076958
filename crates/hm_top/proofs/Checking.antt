-- What a call with the word `check` or `why` comes to.
use Rattle.std.proofs.Common.{◌≡◌, ℕ, ◌≤◌, ◌<◌, inl, inr, Some, None, Option, List, [], length, refl, sym, ◌∙◌, ap, subst}
use Rattle.std.specs.Prelude.{IfSome}
use Rattle.hm_base.specs.Program.{Program}
use Rattle.hm_check.specs.FirstBad.{IsFirstBad, IsLegalReport}
use Rattle.hm_check.specs.Judged.{IsYes}
use Rattle.hm_check.specs.declared.verdict.Report.{Report}
use Rattle.hm_check.specs.declared.verdict.Verdict.{Verdict}
use Rattle.hm_check.specs.declared.verdict.Verdict.TheVariants.{Yes, No}
use Rattle.hm_history.specs.declared.Entry.{Entry}
use Rattle.hm_io.specs.Streams.{Adds, AddsFront, SinkState, SourceState}
use Rattle.hm_top.specs.Checks.{SaysOfReport, Finds, HasJudged, HasReport, HasTold, IsAsAnswered, IsItsReport, IsJudged, Tells, TellsBad, WroteFrontFor, bad_line}
use Rattle.hm_check.specs.Judging.{IsLegalReportOf, IsVerdictOn}
use Rattle.hm_edge.specs.Traffic.{NoFault, Traffic}
use Rattle.hm_edge.specs.Reading.{ReadAs, ReadFaulted}
use Rattle.hm_top.specs.Running.{Answered}
use Rattle.hm_edge.specs.Input.{CameWhole}
use Rattle.hm_top.specs.Verdicts.{EndsAt, HasReportOf, verdict_text}
use Rattle.hm_edge.specs.Writing.{HasWritten, IsFlushed, WriteFaulted}
use Rattle.hm_top.specs.declared.ended.Ended.{Ended}
use Rattle.hm_edge.specs.declared.status.Status.{Status}
use Rattle.hm_edge.proofs.Came.{came_as, came_bytes, given}

came_rest : (left after : Option (List ℕ)) (bytes : List ℕ) → CameWhole left after bytes → IfSome left (λ l. after ≡ Some [])
came_rest None after bytes came = tt
came_rest (Some l) after bytes came = came.1

answered : (Is : Program → List Entry → Type 0) (r : Report) (e : Ended) → HasReportOf r e → Is r.script r.history.entries → Answered Is e.script e.history.entries
answered Is r e has is = subst (λ s. Answered Is s e.history.entries) (sym has.script_is) (subst (Is r.script) (sym has.history_is) is)

module _ (b a : SourceState) (e : Ended) where
  read_of : (P : List ℕ → Type 0) (v : Verdict) (x : IsVerdictOn b a v) → P x.bytes → ReadAs 268435456 P b a
  read_of P v x p = record {
    bytes_are = came_as P b.left a.left x.bytes x.whole p;
    whole = record {
      rest = came_rest b.left a.left x.bytes x.whole;
      short = came_as (λ bytes. length bytes ≤ 268435456) b.left a.left x.bytes x.whole x.short;
    };
  }

  its_report : (r : Report) (x : IsVerdictOn b a (Yes r)) → IsLegalReportOf r.script r.history.entries x.bytes
  its_report r x = record { legal = x.judged.0; text_is = x.judged.1 }

  as_answered : (r : Report) (bytes : List ℕ) → HasReportOf r e → IsLegalReportOf r.script r.history.entries bytes → IsAsAnswered e.script e.history.entries bytes
  as_answered r bytes has is = subst (λ s. IsAsAnswered s e.history.entries bytes) (sym has.script_is) (subst (λ h. IsLegalReportOf r.script h bytes) (sym has.history_is) is)

  read_judged : (v : Verdict) (status : Status) → EndsAt v e status → IsVerdictOn b a v → HasJudged e.script e.history.entries b a status
  read_judged (Yes r) Status.Done ends x = read_of (IsItsReport e.script e.history.entries) (Yes r) x (answered (λ c h. IsLegalReportOf c h x.bytes) r e ends.1 (its_report r x))
  read_judged (Yes r) (Status.NotLegal m) ends x = let never = ends.0 in cc
  read_judged (Yes r) Status.WriteFault ends x = read_of (IsAsAnswered e.script e.history.entries) (Yes r) x (as_answered r x.bytes ends (its_report r x))
  read_judged (No n) Status.Done ends x = let never = ends.0 in cc
  read_judged (No n) (Status.NotLegal m) ends x = let is = ends.0 in let same : n ≡ m = cc in read_of (λ bytes. IsFirstBad bytes m) (No n) x (subst (IsFirstBad x.bytes) same x.judged)
  read_judged (No n) Status.WriteFault ends x = read_of (IsAsAnswered e.script e.history.entries) (No n) x (subst (λ s. IsAsAnswered s e.history.entries x.bytes) (sym ends.none.script_is) (record { line = n; first = x.judged }))
  read_judged v Status.NoMemory ends x = tt
  read_judged v Status.HistoryFull ends x = ends
  read_judged v Status.Usage ends x = ends
  read_judged v (Status.Refused r) ends x = ends
  read_judged v Status.ReportTooLong ends x = absurd ends
  read_judged v Status.ScriptTooLong ends x = ends
  read_judged v Status.NoRows ends x = ends
  read_judged v Status.TooManyRows ends x = ends
  read_judged v (Status.Race end) ends x = ends
  read_judged v Status.ReadFault ends x = tt

  answer_judged : (v : Verdict) (status : Status) → EndsAt v e status → IsVerdictOn b a v → HasReport e.script e.history.entries status
  answer_judged (Yes r) Status.Done ends x = answered IsLegalReport r e ends.1 x.judged.0
  answer_judged (Yes r) (Status.NotLegal m) ends x = let never = ends.0 in cc
  answer_judged (Yes r) Status.WriteFault ends x = inl (answered IsLegalReport r e ends x.judged.0)
  answer_judged (No n) Status.Done ends x = let never = ends.0 in cc
  answer_judged (No n) (Status.NotLegal m) ends x = ends.1.none
  answer_judged (No n) Status.WriteFault ends x = inr ends.none
  answer_judged v Status.NoMemory ends x = ends.none
  answer_judged v Status.HistoryFull ends x = absurd ends
  answer_judged v Status.Usage ends x = absurd ends
  answer_judged v (Status.Refused r) ends x = absurd ends
  answer_judged v Status.ReportTooLong ends x = absurd ends
  answer_judged v Status.ScriptTooLong ends x = absurd ends
  answer_judged v Status.NoRows ends x = absurd ends
  answer_judged v Status.TooManyRows ends x = absurd ends
  answer_judged v (Status.Race end) ends x = absurd ends
  answer_judged v Status.ReadFault ends x = absurd ends

  tells_bad : (n : ℕ) → IsVerdictOn b a (No n) → TellsBad b (bad_line n)
  tells_bad n x = record { line = n; read = came_as (λ bytes. IsFirstBad bytes n) b.left a.left x.bytes x.whole x.judged; text_is = refl }

  tells : (say : List Entry → List ℕ) (v : Verdict) → IsVerdictOn b a v → Tells say b (verdict_text say v)
  tells say (Yes r) x = inl (record {
    script = r.script;
    history = r.history.entries;
    legal = x.judged.0;
    read = came_as (IsLegalReportOf r.script r.history.entries) b.left a.left x.bytes x.whole (its_report r x);
    text_is = refl;
  })
  tells say (No n) x = inr (tells_bad n x)

  told : (say : List Entry → List ℕ) (k k' : SinkState) (v : Verdict) (status : Status) → EndsAt v e status → IsVerdictOn b a v → HasWritten (verdict_text say v) (λ t. t ≡ verdict_text say v) k k' status → HasTold say b e.script e.history.entries k k' status
  told say k k' (Yes r) Status.Done ends x w = subst (λ h. Adds k.held k'.held (say h)) (sym ends.1.history_is) w
  told say k k' (Yes r) (Status.NotLegal m) ends x w = let never = ends.0 in cc
  told say k k' (Yes r) Status.WriteFault ends x w = subst (λ s. WroteFrontFor say b s e.history.entries k k') (sym ends.script_is) (subst (λ h. AddsFront k.held k'.held (say h)) (sym ends.history_is) w)
  told say k k' (No n) Status.Done ends x w = let never = ends.0 in cc
  told say k k' (No n) (Status.NotLegal m) ends x w = let is = ends.0 in let same : n ≡ m = cc in subst (λ l. Adds k.held k'.held (bad_line l)) same w
  told say k k' (No n) Status.WriteFault ends x w = subst (λ s. WroteFrontFor say b s e.history.entries k k') (sym ends.none.script_is) (record { text = bad_line n; goes = tells_bad n x; front = w })
  told say k k' v Status.NoMemory ends x (inl same) = inl same
  told say k k' v Status.NoMemory ends x (inr w) = inr (record { text = w.text; goes = subst (Tells say b) (sym w.goes) (tells say v x); front = w.front; wants = w.wants })
  told say k k' v Status.HistoryFull ends x w = absurd ends
  told say k k' v Status.Usage ends x w = absurd ends
  told say k k' v (Status.Refused r) ends x w = absurd ends
  told say k k' v Status.ReportTooLong ends x w = absurd ends
  told say k k' v Status.ScriptTooLong ends x w = absurd ends
  told say k k' v Status.NoRows ends x w = absurd ends
  told say k k' v Status.TooManyRows ends x w = absurd ends
  told say k k' v (Status.Race end) ends x w = absurd ends
  told say k k' v Status.ReadFault ends x w = absurd ends

  faults_judged : (n n' : ℕ) (v : Verdict) (status : Status) → EndsAt v e status → n' ≡ n → ReadFaulted n n' status
  faults_judged n n' v Status.Done ends same = same
  faults_judged n n' v (Status.NotLegal m) ends same = same
  faults_judged n n' v Status.WriteFault ends same = same
  faults_judged n n' v Status.NoMemory ends same = same
  faults_judged n n' v Status.HistoryFull ends same = same
  faults_judged n n' v Status.Usage ends same = same
  faults_judged n n' v (Status.Refused r) ends same = same
  faults_judged n n' v Status.ReportTooLong ends same = same
  faults_judged n n' v Status.ScriptTooLong ends same = same
  faults_judged n n' v Status.NoRows ends same = same
  faults_judged n n' v Status.TooManyRows ends same = same
  faults_judged n n' v (Status.Race end) ends same = same
  faults_judged n n' v Status.ReadFault ends same = absurd ends

  judged_whole : (io : Traffic) (v : Verdict) (status : Status) → EndsAt v e status → WriteFaulted io.sink.faults io.sink_after.faults status → NoFault io → IsJudged status
  judged_whole io v Status.Done ends w none = tt
  judged_whole io v (Status.NotLegal m) ends w none = tt
  judged_whole io v Status.NoMemory ends w none = tt
  judged_whole io v Status.WriteFault ends w none = none.writes w
  judged_whole io v Status.HistoryFull ends w none = ends
  judged_whole io v Status.Usage ends w none = ends
  judged_whole io v (Status.Refused r) ends w none = ends
  judged_whole io v Status.ReportTooLong ends w none = ends
  judged_whole io v Status.ScriptTooLong ends w none = ends
  judged_whole io v Status.NoRows ends w none = ends
  judged_whole io v Status.TooManyRows ends w none = ends
  judged_whole io v (Status.Race end) ends w none = ends
  judged_whole io v Status.ReadFault ends w none = ends

  found : (io : Traffic) (c : Program) (h : List Entry) (v : Verdict) (status : Status) → EndsAt v e status → IsYes c h v → WriteFaulted io.sink.faults io.sink_after.faults status → NoFault io → Finds c h e status
  found io c h (Yes r) Status.Done ends mine w none = (ends.1.script_is ∙ ap Some mine.0, ends.1.history_is ∙ mine.1)
  found io c h (No n) Status.Done ends mine w none = absurd mine
  found io c h (Yes r) (Status.NotLegal m) ends mine w none = let never = ends.0 in cc
  found io c h (No n) (Status.NotLegal m) ends mine w none = mine
  found io c h v Status.NoMemory ends mine w none = tt
  found io c h v Status.WriteFault ends mine w none = none.writes w
  found io c h v Status.HistoryFull ends mine w none = ends
  found io c h v Status.Usage ends mine w none = ends
  found io c h v (Status.Refused r) ends mine w none = ends
  found io c h v Status.ReportTooLong ends mine w none = ends
  found io c h v Status.ScriptTooLong ends mine w none = ends
  found io c h v Status.NoRows ends mine w none = ends
  found io c h v Status.TooManyRows ends mine w none = ends
  found io c h v (Status.Race end) ends mine w none = ends
  found io c h v Status.ReadFault ends mine w none = ends

-- it came to a verdict
pub judged : (say : List Entry → List ℕ) (io : Traffic) (e : Ended) (v : Verdict) → IsVerdictOn io.source io.source_after v → io.source_after.faults ≡ io.source.faults → EndsAt v e e.status
    → HasWritten (verdict_text say v) (λ t. t ≡ verdict_text say v) io.sink io.sink_after e.status → WriteFaulted io.sink.faults io.sink_after.faults e.status → IsFlushed io.sink_after.pending e.status → e.receipt ≡ None → SaysOfReport say io e
judged say io e v x same ends w faults flushed receipt = record {
  read = read_judged io.source io.source_after e v e.status ends x;
  read_faults = faults_judged io.source io.source_after e io.source.faults io.source_after.faults v e.status ends same;
  answer = answer_judged io.source io.source_after e v e.status ends x;
  written = told io.source io.source_after e say io.sink io.sink_after v e.status ends x w;
  write_faults = faults;
  flushed = flushed;
  receipt = receipt;
  complete = λ none. given io.source.left (λ bytes at short. judged_whole io.source io.source_after e io v e.status ends faults none);
  finds = λ none. given io.source.left (λ bytes at short c h is.
      let mine = x.only c h (subst (IsLegalReportOf c h) (came_bytes io.source.left io.source_after.left x.bytes bytes x.whole at) is) in
      found io.source io.source_after e io c h v e.status ends mine faults none);
}
