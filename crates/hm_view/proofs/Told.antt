-- The changes of an entry lead from what is shown before it to what is shown after it.
use Rattle.std.proofs.Common.{◌≡◌, ◌==◌, ℕ, zero, suc, ◌+◌, ◌<◌, ◌≤◌, inl, inr, Bool, true, false, ◌&&◌, is_none, Option, Some, None, List, [], ◌∷◌, ◌++◌, length, get_or, take, refl, sym, ap, ◌∙◌, arith}
use Rattle.std.specs.Prelude.{if◌then◌else◌, ◌⊎◌, slice_get}
use Rattle.std.specs.List.{list_any}
use Rattle.std.proofs.Math.Path.{fun_ext}
use Rattle.std.proofs.lemmas.Bool.{or_parts}
use Rattle.std.proofs.lemmas.Bool.Decides.{nat_tests}
use Rattle.std.proofs.lemmas.List.{take_more}
use Rattle.std.proofs.lemmas.Option.{slice_get_cases}
use Rattle.hm_base.specs.Pages.{Pages}
use Rattle.hm_base.specs.Program.{Program}
use Rattle.hm_base.specs.declared.Frame.{Frame}
use Rattle.hm_base.specs.declared.Place.{Place}
use Rattle.hm_history.specs.Memory.Words.{with_at, with_frame, same_frame, sys_frame, names}
use Rattle.hm_history.specs.Memory.Plain.{owner, mirror_owner, written_for}
use Rattle.hm_history.specs.Memory.Places.{Places, lowest_named, places_next}
use Rattle.hm_history.specs.Memory.Sequences.{Sequences, Guarded, Stage, Interval, applied as settled, with_stage, with_told, is_last_end, interval_seq, overlapping, sequences_next}
use Rattle.hm_history.specs.Memory.Locks.{Locks, left_behind, with_lock, is_locker, frame_placed, frame_next, locks_next}
use Rattle.hm_history.specs.Memory.After.{After, after_entry}
use Rattle.hm_history.specs.Kernel.Going.{state_of, state_of-snoc}
use Rattle.hm_history.specs.declared.Kind.{Kind}
use Rattle.hm_history.specs.declared.Entry.{Entry}
use Rattle.hm_history.proofs.Frames.{frame_same}
use Rattle.hm_history.proofs.Intervals.{settled_seq, seq_in}
use Rattle.hm_view.specs.Laws.{ChangesAreTold, EachChangeIsTold}
use Rattle.hm_view.specs.Shown.{Shown, Change, applied, applied_all, blank, changes, byte_changes, entry_changes, guard_span, locker_changes, put_together, shown}

-- ---- a function that is changed at a point

-- what a function gives at equal numbers
alike : {X : Type 0} (f : ℕ → X) (k m : ℕ) → (k == m) ≡ true → f k ≡ f m
alike f k m h = ap f here
  where
    here : k ≡ m
    here = grind (arith, nat_tests)

-- a function that is another but for one point is that with its value there
put_at : {X : Type 0} (f g : ℕ → X) (m : ℕ) → ((k : ℕ) → (k == m) ≡ false → g k ≡ f k) → with_at f m (g m) ≡ g
put_at f g m other = fun_ext (λ k. by k (k == m) refl)
  where
    by : (k : ℕ) (t : Bool) → (k == m) ≡ t → (if t then g m else f k) ≡ g k
    by k true h = sym (alike g k m h)
    by k false h = sym (other k h)

-- the same of frames
put_frame : {X : Type 0} (f g : Frame → X) (m : Frame) → ((k : Frame) → same_frame k m ≡ false → g k ≡ f k) → with_frame f m (g m) ≡ g
put_frame f g m other = fun_ext (λ k. by k (same_frame k m) refl)
  where
    by : (k : Frame) (t : Bool) → same_frame k m ≡ t → (if t then g m else f k) ≡ g k
    by k true h = ap g (sym (frame_same k m h))
    by k false h = sym (other k h)

other_at : {X : Type 0} (f : ℕ → X) (k : ℕ) (x : X) (q : ℕ) → (q == k) ≡ false → with_at f k x q ≡ f q
other_at f k x q h = rw h refl

other_frame : {X : Type 0} (f : Frame → X) (k : Frame) (x : X) (q : Frame) → same_frame q k ≡ false → with_frame f k x q ≡ f q
other_frame f k x q h = rw h refl

-- the value there is what it was made
same_at : {X : Type 0} (f : ℕ → X) (m : ℕ) (x : X) → with_at f m (with_at f m x m) ≡ with_at f m x
same_at f m x = put_at f (with_at f m x) m (λ k h. other_at f m x k h)

-- ---- locks of frames

-- a frame, if there is one
abbrev listed : Option Frame → List Frame
listed None = []
listed (Some f) = f ∷ []

head_other : {X : Type 0} (test : X → Bool) (x : X) (xs : List X) → list_any test (x ∷ xs) ≡ false → test x ≡ false
head_other test x xs h = (or_parts (test x) (list_any test xs) h).0

with_orphan : (g : Frame → Option ℕ) (s : Locks) (after : Places) (y : Option Frame) (a : ℕ) (f : Frame) → list_any (same_frame f) (listed y) ≡ false → with_lock g (left_behind s after y) (Some a) f ≡ g f
with_orphan g s after None a f h = refl
with_orphan g s after (Some k) a f h = by (is_none (s.frame k) && is_none (lowest_named after k))
  where
    by : (t : Bool) → with_lock g (if t then Some k else None) (Some a) f ≡ g f
    by true = other_frame g k (Some a) f (head_other (same_frame f) k [] h)
    by false = refl

placed_stays : (s : Locks) (old : Place) (a : ℕ) (x : Place) (f : Frame) → list_any (same_frame f) (listed (names x)) ≡ false → frame_placed s old a x f ≡ s.frame f
placed_stays s (Place.Moving g y) a (Place.Sys n w) f h = refl
placed_stays s old a (Place.Sys n w) f h = by (is_locker (s.frame (sys_frame n)) a)
  where
    by : (t : Bool) → (if t then with_frame s.frame (sys_frame n) None else s.frame) f ≡ s.frame f
    by true = other_frame s.frame (sys_frame n) None f (head_other (same_frame f) (sys_frame n) [] h)
    by false = refl
placed_stays s old a (Place.Moving g w) f h = by (is_none (s.frame g))
  where
    by : (t : Bool) → (if t then with_frame s.frame g (Some a) else s.frame) f ≡ s.frame f
    by true = other_frame s.frame g (Some a) f (head_other (same_frame f) g [] h)
    by false = refl
placed_stays s old a x f h = refl

-- after a `place` only the frames that the two places name may be locked by another
frames_stay : (s : After) (a p v : ℕ) (x : Place) (f : Frame) → list_any (same_frame f) (listed (names (s.places.place p v))) ≡ false → list_any (same_frame f) (listed (names x)) ≡ false →
    frame_next s.locks s.places a (Kind.Place p v x) f ≡ s.locks.frame f
frames_stay s a p v x f h g =
    with_orphan (frame_placed s.locks (s.places.place p v) a x) s.locks (places_next s.places (Kind.Place p v x)) (names (s.places.place p v)) a f h
    ∙ placed_stays s.locks (s.places.place p v) a x f g

-- the lockers with those of a frame as they are now, if there is one
abbrev now_at : (Frame → Option ℕ) → (Frame → Option ℕ) → Option Frame → Frame → Option ℕ
now_at g f None = f
now_at g f (Some k) = with_frame f k (g k)

-- the changes of the lockers of two frames, and others after them
lockers_told : (l : Locks) (y z : Option Frame) (xs : List Change) (w : Shown) →
    applied_all (locker_changes l y ++ (locker_changes l z ++ xs)) w ≡ applied_all xs (record w { locker = now_at l.frame (now_at l.frame w.locker y) z })
lockers_told l None None xs w = refl
lockers_told l None (Some k) xs w = refl
lockers_told l (Some j) None xs w = refl
lockers_told l (Some j) (Some k) xs w = refl

not_listed : (f k : Frame) → same_frame f k ≡ false → list_any (same_frame f) (listed (Some k)) ≡ false
not_listed f k h = rw h refl

lockers_now : (f g : Frame → Option ℕ) (y z : Option Frame) → ((k : Frame) → list_any (same_frame k) (listed y) ≡ false → list_any (same_frame k) (listed z) ≡ false → g k ≡ f k) →
    now_at g (now_at g f y) z ≡ g
lockers_now f g None None other = fun_ext (λ k. sym (other k refl refl))
lockers_now f g None (Some j) other = put_frame f g j (λ k h. other k refl (not_listed k j h))
lockers_now f g (Some i) None other = put_frame f g i (λ k h. other k (not_listed k i h) refl)
lockers_now f g (Some i) (Some j) other = put_frame (with_frame f i (g i)) g j (λ k h. by k (same_frame k i) refl h)
  where
    by : (k : Frame) (t : Bool) → same_frame k i ≡ t → same_frame k j ≡ false → g k ≡ (if t then g i else f k)
    by k true e h = ap g (frame_same k i e)
    by k false e h = other k (not_listed k i e) (not_listed k j h)

-- ---- guards

guard_at : (f : ℕ → Option Guarded) (a : ℕ) (x : Option Guarded) → with_at (λ b. guard_span (f b)) a (guard_span x) ≡ (λ b. guard_span (with_at f a x b))
guard_at f a x = fun_ext (λ b. by b (b == a))
  where
    by : (b : ℕ) (t : Bool) → (if t then guard_span x else guard_span (f b)) ≡ guard_span (if t then x else f b)
    by b true = refl
    by b false = refl

told_span : (m : ℕ) (x : Option Guarded) → guard_span (with_told m x) ≡ guard_span x
told_span m None = refl
told_span m (Some g) = refl

guard_stays : (f : ℕ → Option Guarded) (a m : ℕ) → ◌≡◌ {A = ℕ → Option (ℕ × Pages)} (λ b. guard_span (f b)) (λ b. guard_span (with_at f a (with_told m (f a)) b))
guard_stays f a m = fun_ext (λ b. by b (b == a) refl)
  where
    by : (b : ℕ) (t : Bool) → (b == a) ≡ t → guard_span (f b) ≡ guard_span (if t then with_told m (f a) else f b)
    by b true h = alike (λ c. guard_span (f c)) b a h ∙ sym (told_span m (f a))
    by b false h = refl

-- ---- intervals

staged_seq : (t : Stage) (y : Option Interval) → seq_in (with_stage t y) ≡ seq_in y
staged_seq t None = refl
staged_seq t (Some x) = refl

staged_stays : (s : Sequences) (k : ℕ) (t : Stage) (m : ℕ) → seq_in (with_at s.interval k (with_stage t (s.interval k)) m) ≡ seq_in (s.interval m)
staged_stays s k t m = by (m == k) refl
  where
    by : (u : Bool) → (m == k) ≡ u → seq_in (if u then with_stage t (s.interval k) else s.interval m) ≡ seq_in (s.interval m)
    by true h = staged_seq t (s.interval k) ∙ sym (alike (λ i. seq_in (s.interval i)) m k h)
    by false h = refl

read_in : (y : Option Interval) → elim y as (λ x. ℕ) [ None ↦ 0 | Some x ↦ x.seq ] ≡ seq_in y
read_in None = refl
read_in (Some x) = refl

-- the sequence is that of the other, if it is in the interval
read_same : (s t : Sequences) (m : ℕ) → seq_in (t.interval m) ≡ seq_in (s.interval m) → interval_seq t m ≡ interval_seq s m
read_same s t m h = read_in (t.interval m) ∙ (h ∙ sym (read_in (s.interval m)))

ended_stays : (s : Sequences) (a p q : ℕ) (r : Pages) (m : ℕ) → interval_seq (sequences_next s a (Kind.End p r q)) m ≡ interval_seq s m
ended_stays s a p q r m = read_same s (sequences_next s a (Kind.End p r q)) m (by (is_last_end s p))
  where
    by : (t : Bool) → seq_in (if t then settled p (s.interval m) else s.interval m) ≡ seq_in (s.interval m)
    by true = settled_seq p (s.interval m)
    by false = refl

-- the interval of another mirror
other_interval : (s t : Sequences) (m : ℕ) (y : Option Interval) → t.interval ≡ with_at s.interval m y → (k : ℕ) → (k == m) ≡ false → interval_seq t k ≡ interval_seq s k
other_interval s t m y is k h = read_same s t k (ap (λ (f : ℕ → Option Interval). seq_in (f k)) is ∙ ap seq_in (other_at s.interval m y k h))

-- ---- an entry

-- what is shown, with these sequences, guards and sequences of intervals
abbrev build : Shown → (ℕ → ℕ) → (ℕ → Option (ℕ × Pages)) → (ℕ → ℕ) → Shown
build x n g i = record x { seq = n; guard = g; interval = i }

built : (x : Shown) (n m : ℕ → ℕ) (g h : ℕ → Option (ℕ × Pages)) (i j : ℕ → ℕ) → n ≡ m → g ≡ h → i ≡ j → build x n g i ≡ build x m h j
built x n m g h i j ns gs is = ap (λ (k : ℕ → ℕ). build x k g i) ns ∙ (ap (λ (k : ℕ → Option (ℕ × Pages)). build x m k i) gs ∙ ap (build x m h) is)

bytes_told : (y : Option ℕ) (at : ℕ) (bs : List ℕ) (w : Shown) → applied_all (byte_changes y at bs ++ []) w ≡ record w { bytes = written_for w.bytes y at bs }
bytes_told None at bs w = refl
bytes_told (Some p) at bs w = refl

at_entry : (s : After) (a : ℕ) (k : Kind) → applied_all (changes s (after_entry s (record { actor = a; kind = k })) (record { actor = a; kind = k })) (shown s) ≡ shown (after_entry s (record { actor = a; kind = k }))
at_entry s a (Kind.Stored x at bs) = bytes_told (owner s.plain x) at bs (applied (Change.Lock a None) (shown s))
at_entry s a (Kind.Added m at was now) = bytes_told (mirror_owner s.plain m) at (now ∷ []) (shown s)
at_entry s a (Kind.Named p c) =
    ap (λ (n : ℕ → ℕ). build (shown (after_entry s (record { actor = a; kind = Kind.Named p c }))) n (λ b. guard_span (s.sequences.guard b)) (λ m. interval_seq s.sequences m))
    (put_at s.sequences.seq s.sequences.seq c (λ k h. refl))
at_entry s a (Kind.Place p v x) =
    lockers_told (locks_next s.locks s.places a (Kind.Place p v x)) (names (s.places.place p v)) (names x) (Change.Placed p v x ∷ []) (shown s)
    ∙ ap (λ (f : Frame → Option ℕ). applied (Change.Placed p v x) (record (shown s) { locker = f }))
    (lockers_now s.locks.frame (frame_next s.locks s.places a (Kind.Place p v x)) (names (s.places.place p v)) (names x) (λ k h g. frames_stay s a p v x k h g))
at_entry s a (Kind.Start p r q) =
    built (shown s) _ _ _ _ _ _ (same_at s.sequences.seq p _)
    (guard_at s.sequences.guard a (Some (record { proc = p; span = r; met = overlapping s.sequences p r; told = [] }))) refl
at_entry s a (Kind.Told m r q) =
    ap (λ (w : Shown). record w { table = (shown (after_entry s (record { actor = a; kind = Kind.Told m r q }))).table })
    (built (shown s) s.sequences.seq s.sequences.seq _ _ _ _ refl (guard_stays s.sequences.guard a m)
    (put_at (λ k. interval_seq s.sequences k) (λ k. interval_seq (sequences_next s.sequences a (Kind.Told m r q)) k) m
    (other_interval s.sequences (sequences_next s.sequences a (Kind.Told m r q)) m _ refl)))
at_entry s a (Kind.End p r q) =
    built (shown s) _ _ _ _ _ _ (same_at s.sequences.seq p _) (guard_at s.sequences.guard a None) (fun_ext (λ m. sym (ended_stays s.sequences a p q r m)))
at_entry s a (Kind.Attached m d p r q) =
    ap (λ (w : Shown). record w { mirror = (shown (after_entry s (record { actor = a; kind = Kind.Attached m d p r q }))).mirror })
    (built (shown s) _ _ (λ b. guard_span (s.sequences.guard b)) (λ b. guard_span (s.sequences.guard b)) _ _ (same_at s.sequences.seq p _) refl
    (put_at (λ k. interval_seq s.sequences k) (λ k. interval_seq (sequences_next s.sequences a (Kind.Attached m d p r q)) k) m
    (other_interval s.sequences (sequences_next s.sequences a (Kind.Attached m d p r q)) m _ refl)))
at_entry s a (Kind.Detaching m q) =
    ap (build (shown (after_entry s (record { actor = a; kind = Kind.Detaching m q }))) s.sequences.seq (λ b. guard_span (s.sequences.guard b)))
    (fun_ext (λ k. sym (read_same s.sequences (sequences_next s.sequences a (Kind.Detaching m q)) k (staged_stays s.sequences m Stage.RemoveDeferred k))))
at_entry s a (Kind.Detached m) =
    ap (build (shown (after_entry s (record { actor = a; kind = Kind.Detached m }))) s.sequences.seq (λ b. guard_span (s.sequences.guard b)))
    (fun_ext (λ k. sym (read_same s.sequences (sequences_next s.sequences a (Kind.Detached m)) k (staged_stays s.sequences m Stage.Out k))))
at_entry s a k = refl

pub each_change_is_told : EachChangeIsTold
each_change_is_told s e = at_entry s e.actor e.kind

-- ---- the entries before a position

from_blank : applied_all (Change.There 0 true ∷ Change.Seq 0 2 ∷ []) blank ≡ record blank { there = λ p. p == 0 }
from_blank =
    ap (λ (n : ℕ → ℕ). record blank { there = with_at (λ p. false) 0 true; seq = n }) (put_at (λ p. 2) (λ p. 2) 0 (λ k h. refl))
    ∙ ap (λ (t : ℕ → Bool). record blank { there = t }) (fun_ext (λ p. by (p == 0)))
  where
    by : (t : Bool) → (if t then true else false) ≡ t
    by true = refl
    by false = refl

one_more : (c : Program) (h : List Entry) (i : ℕ) (e : Entry) → i < length h → slice_get h i ≡ Some e → get_or h i e ≡ e → put_together c h i ≡ shown (state_of c (take i h)).after → put_together c h (suc i) ≡ shown (state_of c (take (suc i) h)).after
one_more c h i e below is read so =
    ap (λ (y : Option Entry). applied_all (elim y as (λ _. List Change) [ None ↦ [] | Some e ↦ entry_changes c (take i h) e ]) (put_together c h i)) is
    ∙ ap (applied_all (entry_changes c (take i h) e)) so
    ∙ ap (λ (t : After). applied_all (changes (state_of c (take i h)).after t e) (shown (state_of c (take i h)).after)) next
    ∙ each_change_is_told (state_of c (take i h)).after e
    ∙ ap shown (sym next)
    ∙ ap (λ (g : List Entry). shown (state_of c g).after) (sym longer)
  where
    next : (state_of c (take i h ++ e ∷ [])).after ≡ after_entry (state_of c (take i h)).after e
    next = ap (λ s. s.after) (state_of-snoc c (take i h) e)

    one : suc i ≡ i + 1
    one = omega arith

    longer : take (suc i) h ≡ take i h ++ e ∷ []
    longer = ap (λ k. take k h) one ∙ take_more h i e below ∙ ap (λ (y : Entry). take i h ++ y ∷ []) read

pub changes_are_told : ChangesAreTold
changes_are_told c h zero most = from_blank
changes_are_told c h (suc i) most = by (slice_get_cases h i).1 (changes_are_told c h i (omega (arith, most)))
  where
    by : ((e : Entry) × (i < length h) × (slice_get h i ≡ Some e) × (get_or h i e ≡ e)) ⊎ ((length h ≤ i) × (slice_get h i ≡ None))
        → put_together c h i ≡ shown (state_of c (take i h)).after → put_together c h (suc i) ≡ shown (state_of c (take (suc i) h)).after
    by (inl w) so = one_more c h i w.0 w.1 w.2 w.3 so
    by (inr w) so = absurd (omega (arith, most, w.0))
