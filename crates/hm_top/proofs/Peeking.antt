-- What a call with the word `peek` comes to.
use Rattle.std.proofs.Common.{◌≡◌, ◌∙◌, inl, inr, Bool, true, false, Option, Some, None, ℕ, List, [], ◌++◌, length, refl, sym, ap, subst, append_assoc}
use Rattle.hm_base.specs.Program.{Program, IsScript}
use Rattle.hm_history.specs.Memory.After.{after}
use Rattle.hm_history.specs.Laws.{DueFrom}
use Rattle.hm_history.specs.Memory.Locks.{writer}
use Rattle.hm_history.specs.declared.Entry.{Entry}
use Rattle.hm_io.specs.Streams.{Adds, AddsFront, SinkState}
use Rattle.hm_machine.proofs.Unlocked.{nobody_writes}
use Rattle.hm_report.specs.Written.{ReportWants, Writes}
use Rattle.hm_report.specs.declared.written.Written.{Written}
use Rattle.hm_turns.specs.Looking.{all_have_areas, looked_after}
use Rattle.hm_turns.specs.Stepping.{is_halted}
use Rattle.hm_turns.specs.declared.looks.Looked.{Looked}
use Rattle.hm_workers.specs.Peeking.{ArePeeks, IsPlain, ReachesEnd, last_count}
use Rattle.hm_workers.specs.declared.peeks.Peek.{Peek}
use Rattle.hm_world.specs.WorldValue.{WorldValue}
use Rattle.hm_top.specs.Peeks.{AnswersPeeks, HasSeen, IsPeekedReport, RunsPeeked, SawAll, SawSoFar, peeked_text}
use Rattle.hm_top.specs.Ran.{HasAll, Shows, ShowsAt, shown_status}
use Rattle.hm_edge.specs.Reading.{IsTextOf, ReadAs}
use Rattle.hm_top.specs.RunsThreads.{AllEnded, StoppedFull}
use Rattle.hm_edge.specs.Traffic.{Traffic}
use Rattle.hm_edge.specs.Writing.{HasWritten, IsFlushed, WriteFaulted}
use Rattle.hm_top.specs.declared.ended.Ended.{Ended}
use Rattle.hm_top.specs.declared.schedule.Ran.{Ran}
use Rattle.hm_edge.specs.declared.status.Status.{Status}
use Rattle.hm_top.proofs.Replaying.{answered}
use Rattle.hm_top.proofs.Threading.{came, shown_for}
use Rattle.hm_report.proofs.Sending.{adds_more}

-- ---- the texts

front_added : (k k' k'' : Option (List ℕ)) (xs ys : List ℕ) → Adds k k' xs → AddsFront k' k'' ys → AddsFront k k'' (xs ++ ys)
front_added k k' k'' xs ys one front = (xs ++ front.0, front.1, ap (λ l. xs ++ l) front.2 ∙ sym (append_assoc xs front.0 front.1), adds_more k k' k'' xs front.0 one front.3)

pub front_longer : (k k' : Option (List ℕ)) (xs ys : List ℕ) → AddsFront k k' xs → AddsFront k k' (xs ++ ys)
front_longer k k' xs ys front = (front.0, front.1 ++ ys, ap (λ l. l ++ ys) front.2 ∙ append_assoc front.0 front.1 ys, front.3)

-- one text after another
pub then_written : (k k' k'' : Option (List ℕ)) (xs ys : List ℕ) (w : Written) → Writes k k' xs Written.Done → Writes k' k'' ys w → Writes k k'' (xs ++ ys) w
then_written k k' k'' xs ys Written.Done one two = adds_more k k' k'' xs ys one two
then_written k k' k'' xs ys Written.Fault one two = front_added k k' k'' xs ys one two
then_written k k' k'' xs ys Written.NoMemory one two = front_added k k' k'' xs ys one two

-- the text of a run and what was seen of it was written so
pub peeked_so : (saw xs : List Peek) (s : Program) (h : List Entry) (k k' : SinkState) (w : Written) (full : Bool) (status : Status) → status ≡ shown_status w full → AnswersPeeks saw xs status
    → Writes k.held k'.held (peeked_text saw s h) w → ReportWants k k' w → HasWritten (peeked_text xs s h) (λ t. t ≡ peeked_text saw s h) k k' status
peeked_so saw xs s h k k' w full status is peeks writes wants = subst (HasWritten (peeked_text xs s h) (λ t. t ≡ peeked_text saw s h) k k') (sym is) (by w full (subst (AnswersPeeks saw xs) is peeks) writes wants)
  where
    by : (w : Written) (full : Bool) → AnswersPeeks saw xs (shown_status w full) → Writes k.held k'.held (peeked_text saw s h) w → ReportWants k k' w → HasWritten (peeked_text xs s h) (λ t. t ≡ peeked_text saw s h) k k' (shown_status w full)
    by Written.Done false same writes wants = subst (λ ys. Adds k.held k'.held (peeked_text ys s h)) (sym same) writes
    by Written.Done true same writes wants = subst (λ ys. Adds k.held k'.held (peeked_text ys s h)) (sym same) writes
    by Written.Fault full same writes wants = subst (λ ys. AddsFront k.held k'.held (peeked_text ys s h)) (sym same) writes
    by Written.NoMemory full same writes (inl stays) = inl (ap (λ x. x.held) stays)
    by Written.NoMemory full same writes (inr more) = inr (record { text = peeked_text saw s h; goes = refl; front = writes; wants = more.1 })

-- ---- what was seen

-- where nobody has the lock for writing, a look at the whole history finds the bytes exactly where they have areas
found : (h : List Entry) (p at n : ℕ) → writer (after h).locks p ≡ None → all_have_areas (after h).plain p at n ≡ true → looked_after h p at n ≡ Looked.Filled
found h p at n none areas = rw (none, areas, looked_after) refl

-- so the last peek is of the whole history exactly where all the bytes have areas at the end
pub saw_all : (s : Program) → IsScript s → (h : List Entry) → DueFrom s [] h → AllEnded s h → (p at n : ℕ) (xs : List Peek) → ArePeeks p at n (IsPlain h) xs → ReachesEnd p at n h xs
    → (last_count xs ≡ Some (length h) → all_have_areas (after h).plain p at n ≡ true) → SawAll p at n h xs
saw_all s script h due ended p at n xs right reaches areas = record {
  right = right;
  last = (areas, λ all. reaches (found h p at n (nobody_writes s script h due (λ a. (ended.ended a).0) p) all));
}

-- so of a value that came back from its workers, and is not halted
pub saw_so : (s : Program) → IsScript s → (w m : WorldValue) (r h : List Entry) (saw told : List Peek) (p at n : ℕ) → w ≡ m → m.script ≡ s → h ≡ m.history → m.history ≡ r → DueFrom w.script [] w.history → AllEnded s h → is_halted m.halted ≡ false → told ≡ saw
    → ArePeeks p at n (IsPlain r) saw → (is_halted m.halted ≡ false → ReachesEnd p at n r saw) → (last_count saw ≡ Some (length r) → all_have_areas (after r).plain p at n ≡ true) → SawAll p at n h told
saw_so s script w m r h saw told p at n world is_s is_h is_r due ended running same right reaches areas =
    let whole : h ≡ r = is_h ∙ is_r in
    let due_r : DueFrom s [] r = subst (λ x. DueFrom x [] r) (ap (λ x. x.script) world ∙ is_s) (subst (DueFrom w.script []) (ap (λ x. x.history) world ∙ is_r) due) in
    subst (λ x. SawAll p at n x told) (sym whole) (subst (SawAll p at n r) (sym same) (saw_all s script r due_r (subst (AllEnded s) whole ended) p at n saw right (reaches running) areas))

module _ (p at n : ℕ) (r : Ran) (saw : List Peek) (e : Ended) (whole : r.full ≡ false → SawAll p at n r.history.entries saw) (none : r.full ≡ true → saw ≡ []) (over : r.full ≡ false → AllEnded r.script r.history.entries) (stopped : r.full ≡ true → StoppedFull r.script r.history.entries) where
  all_seen : HasAll r e → e.peeks ≡ saw → r.full ≡ false → SawAll p at n e.history.entries e.peeks
  all_seen all same f = subst (λ h. SawAll p at n h e.peeks) (sym all.history_is) (subst (SawAll p at n r.history.entries) (sym same) (whole f))

  -- by how far the run came
  so_far : HasAll r e → e.peeks ≡ saw → (full : Bool) → r.full ≡ full → SawSoFar p at n e.script e.history.entries e.peeks
  so_far all same false f = inl (answered AllEnded r e all (over f), all_seen all same f)
  so_far all same true f = inr (answered StoppedFull r e all (stopped f), same ∙ none f)

  seen_at : (status : Status) → ShowsAt r e status → AnswersPeeks saw e.peeks status → HasSeen p at n e.script e.history.entries e.peeks status
  seen_at Status.Done shows same = all_seen shows.1 same shows.0
  seen_at Status.HistoryFull shows same = same ∙ none shows.0
  seen_at Status.WriteFault shows same = so_far shows same r.full refl
  seen_at Status.NoMemory shows same = same
  seen_at Status.Usage shows same = absurd shows
  seen_at (Status.NotLegal l) shows same = absurd shows
  seen_at (Status.Refused x) shows same = absurd shows
  seen_at Status.ScriptTooLong shows same = absurd shows
  seen_at Status.ReportTooLong shows same = absurd shows
  seen_at Status.NoRows shows same = absurd shows
  seen_at Status.TooManyRows shows same = absurd shows
  seen_at (Status.Race end) shows same = absurd shows
  seen_at Status.ReadFault shows same = absurd shows

no_peeks : (p at n : ℕ) (h : List Entry) → ArePeeks p at n (IsPlain h) []
no_peeks p at n h = record {
  each = λ i x got. cc;
  rise = λ i j x y less one two. cc;
}

right_so : (p at n : ℕ) (h : List Entry) (saw : List Peek) (full : Bool) → (full ≡ false → SawAll p at n h saw) → (full ≡ true → saw ≡ []) → ArePeeks p at n (IsPlain h) saw
right_so p at n h saw false whole none = (whole refl).right
right_so p at n h saw true whole none = subst (ArePeeks p at n (IsPlain h)) (sym (none refl)) (no_peeks p at n h)

-- it has shown what its threads did, and what was seen
pub peeked : (p at n : ℕ) (io : Traffic) (r : Ran) (saw : List Peek) (e : Ended) (s : Program) → r.script ≡ s → ReadAs 4194304 (IsTextOf s) io.source io.source_after → io.source_after.faults ≡ io.source.faults
    → (r.full ≡ false → AllEnded s r.history.entries) → (r.full ≡ true → StoppedFull s r.history.entries) → r.receipt ≡ Some r.history.entries
    → (r.full ≡ false → SawAll p at n r.history.entries saw) → (r.full ≡ true → saw ≡ []) → Shows r e → AnswersPeeks saw e.peeks e.status
    → HasWritten (peeked_text e.peeks r.script r.history.entries) (λ t. t ≡ peeked_text saw r.script r.history.entries) io.sink io.sink_after e.status → WriteFaulted io.sink.faults io.sink_after.faults e.status → IsFlushed io.sink_after.pending e.status → RunsPeeked p at n io e
peeked p at n io r saw e s is read same whole over some seen none shows answers w faults flushed = record {
  threads = shown_for (peeked_text e.peeks) (λ t. t ≡ peeked_text saw r.script r.history.entries) (IsPeekedReport p at n io.source) io r e s is read same whole over some shows (λ t text. record {
    script = s;
    history = r.history.entries;
    peeks = saw;
    read = read.bytes_are;
    ran = came s r.history.entries r.full whole over;
    right = right_so p at n r.history.entries saw r.full seen none;
    text_is = text ∙ ap (λ x. peeked_text saw x r.history.entries) is;
  }) w faults flushed;
  peeks = seen_at p at n r saw e seen none (λ f. subst (λ x. AllEnded x r.history.entries) (sym is) (whole f))
      (λ f. subst (λ x. StoppedFull x r.history.entries) (sym is) (over f)) e.status shows answers;
}
