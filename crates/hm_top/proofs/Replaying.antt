-- What a call with the word `replay` comes to.
use Rattle.std.proofs.Common.{◌≡◌, ℕ, inl, inr, Bool, true, false, Some, None, Option, List, refl, sym, ◌∙◌, ap, subst}
use Rattle.hm_base.specs.Program.{Program, IsScript}
use Rattle.hm_history.specs.Kernel.Overrun.{overruns}
use Rattle.hm_history.specs.declared.Entry.{Entry}
use Rattle.hm_io.specs.Streams.{Adds, AddsFront, SinkState, SourceState}
use Rattle.hm_quiet_laws.specs.Quiet.{DrainAloneHasRoom}
use Rattle.hm_script.specs.Spelling.{text}
use Rattle.hm_top.specs.Complete.{IsComplete}
use Rattle.hm_edge.specs.Traffic.{NoFault, Traffic}
use Rattle.hm_top.specs.Ran.{HasAll, Shows, ShowsAt}
use Rattle.hm_edge.specs.Reading.{HasRead, IsTextOf, ReadAs, ReadFaulted}
use Rattle.hm_top.specs.Replays.{IsItsText, IsToldOfRun, TellsOfRun}
use Rattle.hm_top.specs.Running.{Answered, HasRun, RanFull, RanSo, RanWhole, told_of}
use Rattle.hm_edge.specs.Writing.{HasWritten, IsFlushed, WriteFaulted}
use Rattle.hm_top.specs.declared.ended.Ended.{Ended}
use Rattle.hm_top.specs.declared.schedule.Ran.{Ran}
use Rattle.hm_edge.specs.declared.status.Status.{Status}
use Rattle.hm_edge.proofs.Came.{given}
use Rattle.hm_edge.proofs.Telling.{known}
use Rattle.hm_top.proofs.Room.{room_fits}

pub read_shown : (r : Ran) (e : Ended) (b a : SourceState) (status : Status) → ShowsAt r e status → ReadAs 4194304 (IsTextOf r.script) b a → HasRead (IsItsText e.script) b a status
read_shown r e b a Status.Done shows read = subst (λ x. ReadAs 4194304 (IsItsText x) b a) (sym shows.1.script_is) read
read_shown r e b a Status.HistoryFull shows read = subst (λ x. ReadAs 4194304 (IsItsText x) b a) (sym shows.1.script_is) read
read_shown r e b a Status.WriteFault shows read = subst (λ x. ReadAs 4194304 (IsItsText x) b a) (sym shows.script_is) read
read_shown r e b a Status.NoMemory shows read = tt
read_shown r e b a Status.Usage shows read = absurd shows
read_shown r e b a (Status.NotLegal l) shows read = absurd shows
read_shown r e b a (Status.Refused x) shows read = absurd shows
read_shown r e b a Status.ScriptTooLong shows read = absurd shows
read_shown r e b a Status.ReportTooLong shows read = absurd shows
read_shown r e b a Status.NoRows shows read = absurd shows
read_shown r e b a Status.TooManyRows shows read = absurd shows
read_shown r e b a (Status.Race end) shows read = absurd shows
read_shown r e b a Status.ReadFault shows read = tt

pub faults_shown : (r : Ran) (e : Ended) (n n' : ℕ) (status : Status) → ShowsAt r e status → n' ≡ n → ReadFaulted n n' status
faults_shown r e n n' Status.ReadFault shows same = absurd shows
faults_shown r e n n' Status.Done shows same = same
faults_shown r e n n' Status.HistoryFull shows same = same
faults_shown r e n n' Status.WriteFault shows same = same
faults_shown r e n n' Status.NoMemory shows same = same
faults_shown r e n n' Status.Usage shows same = same
faults_shown r e n n' (Status.NotLegal l) shows same = same
faults_shown r e n n' (Status.Refused x) shows same = same
faults_shown r e n n' Status.ScriptTooLong shows same = same
faults_shown r e n n' Status.ReportTooLong shows same = same
faults_shown r e n n' Status.NoRows shows same = same
faults_shown r e n n' Status.TooManyRows shows same = same
faults_shown r e n n' (Status.Race end) shows same = same

pub answered : (Is : Program → List Entry → Type 0) (r : Ran) (e : Ended) → HasAll r e → Is r.script r.history.entries → Answered Is e.script e.history.entries
answered Is r e all is = subst (λ x. Answered Is x e.history.entries) (sym all.script_is) (subst (Is r.script) (sym all.history_is) is)

-- a run is one of the two
pub ran_so : (s : Program) (h : List Entry) (full : Bool) → (full ≡ false → RanWhole s h) → (full ≡ true → RanFull s h) → RanSo s h
ran_so s h false whole over = inl (whole refl)
ran_so s h true whole over = inr (over refl)

run_shown : (r : Ran) (e : Ended) (status : Status) → ShowsAt r e status → (r.full ≡ false → RanWhole r.script r.history.entries) → (r.full ≡ true → RanFull r.script r.history.entries) → HasRun e.script e.history.entries status
run_shown r e Status.Done shows whole over = answered RanWhole r e shows.1 (whole shows.0)
run_shown r e Status.HistoryFull shows whole over = answered RanFull r e shows.1 (over shows.0)
run_shown r e Status.WriteFault shows whole over = answered RanSo r e shows (ran_so r.script r.history.entries r.full whole over)
run_shown r e Status.NoMemory shows whole over = shows.none
run_shown r e Status.Usage shows whole over = absurd shows
run_shown r e (Status.NotLegal l) shows whole over = absurd shows
run_shown r e (Status.Refused x) shows whole over = absurd shows
run_shown r e Status.ScriptTooLong shows whole over = absurd shows
run_shown r e Status.ReportTooLong shows whole over = absurd shows
run_shown r e Status.NoRows shows whole over = absurd shows
run_shown r e Status.TooManyRows shows whole over = absurd shows
run_shown r e (Status.Race end) shows whole over = absurd shows
run_shown r e Status.ReadFault shows whole over = absurd shows

same_text : (tell : Program → List Entry → List ℕ) (r : Ran) (e : Ended) → HasAll r e → tell r.script r.history.entries ≡ told_of tell e.script e.history.entries
same_text tell r e all = ap (tell r.script) (sym all.history_is) ∙ ap (λ x. told_of tell x e.history.entries) (sym all.script_is)

pub text_shown : (tell : Program → List Entry → List ℕ) (Own Goes : List ℕ → Type 0) (r : Ran) (e : Ended) (k k' : SinkState) (status : Status) → ShowsAt r e status → ((t : List ℕ) → Own t → Goes t)
    → HasWritten (tell r.script r.history.entries) Own k k' status → HasWritten (told_of tell e.script e.history.entries) Goes k k' status
text_shown tell Own Goes r e k k' Status.Done shows goes w = subst (Adds k.held k'.held) (same_text tell r e shows.1) w
text_shown tell Own Goes r e k k' Status.HistoryFull shows goes w = subst (Adds k.held k'.held) (same_text tell r e shows.1) w
text_shown tell Own Goes r e k k' Status.WriteFault shows goes w = subst (AddsFront k.held k'.held) (same_text tell r e shows) w
text_shown tell Own Goes r e k k' Status.NoMemory shows goes (inl same) = inl same
text_shown tell Own Goes r e k k' Status.NoMemory shows goes (inr w) = inr (record { text = w.text; goes = goes w.text w.goes; front = w.front; wants = w.wants })
text_shown tell Own Goes r e k k' Status.Usage shows goes w = absurd shows
text_shown tell Own Goes r e k k' (Status.NotLegal l) shows goes w = absurd shows
text_shown tell Own Goes r e k k' (Status.Refused x) shows goes w = absurd shows
text_shown tell Own Goes r e k k' Status.ScriptTooLong shows goes w = absurd shows
text_shown tell Own Goes r e k k' Status.ReportTooLong shows goes w = absurd shows
text_shown tell Own Goes r e k k' Status.NoRows shows goes w = absurd shows
text_shown tell Own Goes r e k k' Status.TooManyRows shows goes w = absurd shows
text_shown tell Own Goes r e k k' (Status.Race end) shows goes w = absurd shows
text_shown tell Own Goes r e k k' Status.ReadFault shows goes w = absurd shows

abbrev pub OneText : Type 0
OneText = (s t : Program) → IsScript s → IsScript t → text s ≡ text t → s ≡ t

ends : (io : Traffic) (r : Ran) (e : Ended) (status : Status) (s : Program) → ShowsAt r e status → WriteFaulted io.sink.faults io.sink_after.faults status → NoFault io → s ≡ r.script → overruns s ≡ false → (r.full ≡ true → RanFull r.script r.history.entries) → IsComplete status
ends io r e Status.Done s shows w none same room over = tt
ends io r e Status.NoMemory s shows w none same room over = tt
ends io r e Status.WriteFault s shows w none same room over = none.writes w
ends io r e Status.HistoryFull s shows w none same room over = let b = (over shows.0).beyond in let never : true ≡ false = sym b ∙ sym (ap overruns same) ∙ room in cc
ends io r e Status.Usage s shows w none same room over = shows
ends io r e (Status.NotLegal l) s shows w none same room over = shows
ends io r e (Status.Refused x) s shows w none same room over = shows
ends io r e Status.ScriptTooLong s shows w none same room over = shows
ends io r e Status.ReportTooLong s shows w none same room over = shows
ends io r e Status.NoRows s shows w none same room over = shows
ends io r e Status.TooManyRows s shows w none same room over = shows
ends io r e (Status.Race end) s shows w none same room over = shows
ends io r e Status.ReadFault s shows w none same room over = shows

receipt_shown : (r : Ran) (e : Ended) (status : Status) → ShowsAt r e status → r.receipt ≡ None → e.receipt ≡ None
receipt_shown r e Status.Done shows none = shows.1.receipt_is ∙ none
receipt_shown r e Status.HistoryFull shows none = shows.1.receipt_is ∙ none
receipt_shown r e Status.WriteFault shows none = shows.receipt_is ∙ none
receipt_shown r e Status.NoMemory shows none = shows.receipt_is
receipt_shown r e Status.Usage shows none = absurd shows
receipt_shown r e (Status.NotLegal l) shows none = absurd shows
receipt_shown r e (Status.Refused x) shows none = absurd shows
receipt_shown r e Status.ScriptTooLong shows none = absurd shows
receipt_shown r e Status.ReportTooLong shows none = absurd shows
receipt_shown r e Status.NoRows shows none = absurd shows
receipt_shown r e Status.TooManyRows shows none = absurd shows
receipt_shown r e (Status.Race end) shows none = absurd shows
receipt_shown r e Status.ReadFault shows none = absurd shows

-- it has shown a run
pub shown : (tell : Program → List Entry → List ℕ) → OneText → DrainAloneHasRoom → (io : Traffic) (r : Ran) (e : Ended) → ReadAs 4194304 (IsTextOf r.script) io.source io.source_after → io.source_after.faults ≡ io.source.faults
    → (r.full ≡ false → RanWhole r.script r.history.entries) → (r.full ≡ true → RanFull r.script r.history.entries) → Shows r e
    → HasWritten (tell r.script r.history.entries) (λ t. t ≡ tell r.script r.history.entries) io.sink io.sink_after e.status → WriteFaulted io.sink.faults io.sink_after.faults e.status → IsFlushed io.sink_after.pending e.status → r.receipt ≡ None → TellsOfRun tell io e
shown tell one alone io r e read same whole over shows w faults flushed no_receipt = record {
  read = read_shown r e io.source io.source_after e.status shows read;
  read_faults = faults_shown r e io.source.faults io.source_after.faults e.status shows same;
  ran = run_shown r e e.status shows whole over;
  written = text_shown tell (λ t. t ≡ tell r.script r.history.entries) (IsToldOfRun tell io.source) r e io.sink io.sink_after e.status shows (λ t is. record {
    script = r.script;
    history = r.history.entries;
    read = read.bytes_are;
    ran = ran_so r.script r.history.entries r.full whole over;
    text_is = is;
  }) w;
  write_faults = faults;
  flushed = flushed;
  receipt = receipt_shown r e e.status shows no_receipt;
  complete = λ none. given io.source.left (λ bytes at s is_given room.
      let mine = known (IsTextOf r.script) io.source.left bytes at read.bytes_are in
      let same_script = one s r.script is_given.text_is.in_range mine.in_range (sym is_given.text_is.spells ∙ mine.spells) in
      ends io r e e.status s shows faults none same_script (room_fits alone s is_given.text_is.in_range room) over);
}

-- so of the script that was read
pub shown_for : (tell : Program → List Entry → List ℕ) → OneText → DrainAloneHasRoom → (io : Traffic) (r : Ran) (e : Ended) (s : Program) → r.script ≡ s → ReadAs 4194304 (IsTextOf s) io.source io.source_after → io.source_after.faults ≡ io.source.faults
    → (r.full ≡ false → RanWhole s r.history.entries) → (r.full ≡ true → RanFull s r.history.entries) → Shows r e
    → HasWritten (tell r.script r.history.entries) (λ t. t ≡ tell r.script r.history.entries) io.sink io.sink_after e.status → WriteFaulted io.sink.faults io.sink_after.faults e.status → IsFlushed io.sink_after.pending e.status → r.receipt ≡ None → TellsOfRun tell io e
shown_for tell one alone io r e s is read same whole over shows w faults flushed none =
    shown tell one alone io r e (subst (λ x. ReadAs 4194304 (IsTextOf x) io.source io.source_after) (sym is) read) same (λ f. subst (λ x. RanWhole x r.history.entries) (sym is) (whole f)) (λ f. subst (λ x. RanFull x r.history.entries) (sym is) (over f)) shows w faults flushed none
