-- What mirrors and their intervals have alike, entry by entry.
use Rattle.std.proofs.Common.{◌≡◌, ℕ, Bool, true, false, ◌==◌, if◌then◌else◌, Option, Some, None, refl, sym, ap, ◌∙◌}
use Rattle.std.proofs.Math.Path.{fun_ext}
use Rattle.hm_base.specs.Pages.{Pages}
use Rattle.hm_history.proofs.Updates.{with_case}
use Rattle.hm_history.specs.Memory.Words.{with_at}
use Rattle.hm_history.specs.Memory.Plain.{Plain, MirrorState, Attachment, Attached, Detaching, Gone, plain_next, with_attachment}
use Rattle.hm_history.specs.Memory.Places.{Places, places_next}
use Rattle.hm_history.specs.Memory.Sequences.{Sequences, Interval, Stage, RemoveDeferred, Out, sequences_next, with_seq, with_stage, applied, applied_stage, intervals_ended, is_last_end}
use Rattle.hm_history.specs.declared.Kind.{Kind}
use Rattle.hm_flaws.specs.Drivers.{first_within}
use Rattle.hm_flaw_states.specs.States.{device_of}
use Rattle.hm_flaw_states.specs.Windows.{window_of, window_in, first_in}

-- a mirror keeps its device and its window
same_device : (t : Attachment) (x : Option MirrorState) → device_of (with_attachment t x) ≡ device_of x
same_device t None = refl
same_device t (Some x) = refl

same_window : (t : Attachment) (x : Option MirrorState) → window_of (with_attachment t x) ≡ window_of x
same_window t None = refl
same_window t (Some x) = refl

device_stays : (f : ℕ → Option MirrorState) (m : ℕ) (t : Attachment) (j : ℕ) → device_of (with_at f m (with_attachment t (f m)) j) ≡ device_of (f j)
device_stays f m t j = with_case (λ i z. device_of z ≡ device_of (f i)) f m (with_attachment t (f m)) j (λ e. same_device t (f m)) (λ ne. refl)

-- the devices of mirrors, as places have them
pub devices_go : (s : Plain) (t : Places) (k : Kind) → (λ m. device_of (s.mirrors m)) ≡ t.device → (λ m. device_of ((plain_next s k).mirrors m)) ≡ (places_next t k).device
devices_go s t (Kind.Attached m d p r q) h = fun_ext (λ j. by j (j == m)) ∙ ap (λ f. with_at f m (Some d)) h
  where
    by : (j : ℕ) (b : Bool) → device_of (if b then Some (record { dev = d; proc = p; window = r; stage = Attached }) else s.mirrors j) ≡ (if b then Some d else device_of (s.mirrors j))
    by j true = refl
    by j false = refl
devices_go s t (Kind.Detaching m q) h = fun_ext (λ j. device_stays s.mirrors m Detaching j) ∙ h
devices_go s t (Kind.Detached m) h = fun_ext (λ j. device_stays s.mirrors m Gone j) ∙ h
devices_go s t _ h = h

-- an interval keeps its window
seq_window : (n : ℕ) (x : Option Interval) → window_in (with_seq n x) ≡ window_in x
seq_window n None = refl
seq_window n (Some x) = refl

stage_window : (t : Stage) (x : Option Interval) → window_in (with_stage t x) ≡ window_in x
stage_window t None = refl
stage_window t (Some x) = refl

applied_window : (p : ℕ) (x : Option Interval) → window_in (applied p x) ≡ window_in x
applied_window p None = refl
applied_window p (Some x) = by (x.proc == p)
  where
    by : (b : Bool) → window_in (if b then Some (record x { stage = applied_stage x.stage }) else Some x) ≡ Some x.window
    by true = refl
    by false = refl

ended_window : (s : Sequences) (p m : ℕ) → window_in (intervals_ended s p m) ≡ window_in (s.interval m)
ended_window s p m = by (is_last_end s p)
  where
    by : (b : Bool) → window_in (if b then applied p (s.interval m) else s.interval m) ≡ window_in (s.interval m)
    by true = applied_window p (s.interval m)
    by false = refl

-- both change their mirror alike
both : (f : ℕ → Option MirrorState) (g : ℕ → Option Interval) (m : ℕ) (x : Option MirrorState) (y : Option Interval) → ((j : ℕ) → window_of (f j) ≡ window_in (g j)) → window_of x ≡ window_in y → (j : ℕ) → window_of (with_at f m x j) ≡ window_in (with_at g m y j)
both f g m x y h e j = by (j == m)
  where
    by : (b : Bool) → window_of (if b then x else f j) ≡ window_in (if b then y else g j)
    by true = e
    by false = h j

-- the windows of mirrors are those of their intervals
pub windows_go : (s : Plain) (q : Sequences) (a : ℕ) (k : Kind) → ((m : ℕ) → window_of (s.mirrors m) ≡ window_in (q.interval m)) → (m : ℕ) → window_of ((plain_next s k).mirrors m) ≡ window_in ((sequences_next q a k).interval m)
windows_go s q a (Kind.Attached m d p r n) h j = both s.mirrors q.interval m _ _ h refl j
windows_go s q a (Kind.Detaching m n) h j = both s.mirrors q.interval m _ _ h (same_window Detaching (s.mirrors m) ∙ (h m ∙ sym (stage_window RemoveDeferred (q.interval m)))) j
windows_go s q a (Kind.Detached m) h j = both s.mirrors q.interval m _ _ h (same_window Gone (s.mirrors m) ∙ (h m ∙ sym (stage_window Out (q.interval m)))) j
windows_go s q a (Kind.Told m r n) h j = h j ∙ sym (with_case (λ i z. window_in z ≡ window_in (q.interval i)) q.interval m _ j (λ e. seq_window _ (q.interval m)) (λ ne. refl))
windows_go s q a (Kind.End p r n) h j = h j ∙ sym (ended_window q p j)
windows_go s q a _ h j = h j

-- the first page of a span within a window
pub first_there : (x : Option MirrorState) (w : Option Pages) (r : Pages) → window_of x ≡ w → first_in w r ≡ first_within x r
first_there None w r e = ap (λ z. first_in z r) (sym e)
first_there (Some m) w r e = ap (λ z. first_in z r) (sym e)
