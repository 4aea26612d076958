-- What each entry leaves of the sequences that are kept.
use Rattle.std.proofs.Common.{◌≡◌, ℕ, ◌<◌, Bool, true, false, ◌==◌, ◌&&◌, nat_lt, nat_le, ◌||◌, if◌then◌else◌, Option, Some, None, is_none, List, length, slice_set, slice_index_or, replicate, [], inl, inr, refl, sym, ap, ◌∙◌, arith}
use Rattle.std.specs.List.{list_all, list_any}
use Rattle.std.proofs.lemmas.Bool.{and_parts, and_right, cases_lt}
use Rattle.std.proofs.lemmas.Bool.Decides.{nat_tests}
use Rattle.std.proofs.Math.Path.{fun_ext}
use Rattle.hm_base.specs.Pages.{Pages}
use Rattle.hm_history.specs.Memory.Words.{with_at}
use Rattle.hm_history.specs.Memory.Sequences.{Sequences, Interval, Guarded, sequences_start, sequences_next, sequences_accept, overlapping, guard_passes, with_told, with_seq, seq_started, seq_ended, seq_inserted, interval_inserted, interval_proc, intervals_ended, applied, is_last_end, overlaps, same_span, is_next_told, all_told, is_odd, InTree, InsertDeferred}
use Rattle.hm_history.specs.declared.Kind.{Kind}
use Rattle.hm_folds.specs.declared.guards.KeptGuard.{KeptGuard}
use Rattle.hm_folds.specs.declared.intervals.KeptInterval.{KeptInterval}
use Rattle.hm_folds.specs.declared.sequences.SeqState.{SeqState}
use Rattle.hm_folds.specs.Kept.{sequences_of, guard_of, interval_of, interval_at, mirrors_of, guards_proc}
use Rattle.std.proofs.lemmas.List.{length-replicate, get_or-replicate}
use Rattle.std.proofs.Math.ListN.{get_or-eq_default}
use Rattle.hm_folds.proofs.Writes.{shown}
use Rattle.hm_folds.proofs.Counts.{count_begun, count_ended, count_same, guard_was}
use Rattle.hm_history.proofs.Intervals.{made}

-- two states with the same parts
pub same_state : (s t : Sequences) → s.seq ≡ t.seq → s.active ≡ t.active → s.interval ≡ t.interval → s.guard ≡ t.guard → s ≡ t
same_state s t a b c d =
    ap (λ f. made f s.active s.interval s.guard) a ∙ ap (λ g. made t.seq g s.interval s.guard) b
    ∙ ap (λ h. made t.seq t.active h s.guard) c ∙ ap (λ i. made t.seq t.active t.interval i) d

pub equal_from : (q n : ℕ) → (q == n) ≡ true → q ≡ n
equal_from q n h = grind (arith, nat_tests)

pub start_kept : (x : SeqState) (i j p a q : ℕ) (r : Pages) (met : List Bool) → i ≡ p → j ≡ a → p < length x.seqs → a < length x.guards → mirrors_of met ≡ overlapping (sequences_of x) p r
    → sequences_accept (sequences_of x) a (Kind.Start p r q) ≡ true
    → sequences_of (record { seqs = slice_set x.seqs i q; intervals = x.intervals; guards = slice_set x.guards j (Some (record { proc = p; span = r; met = met; told = replicate 32 false })) }) ≡ sequences_next (sequences_of x) a (Kind.Start p r q)
start_kept x i j p a q r met ei ej lp la m h =
    let s = sequences_of x in
    let parts = and_parts (is_none (s.guard a)) (q == seq_started s p r) h in
    let g : KeptGuard = record { proc = p; span = r; met = met; told = replicate 32 false } in
    let seen : guard_of (Some g) ≡ Some (record { proc = p; span = r; met = overlapping s p r; told = [] }) = ap (λ (ms : List ℕ). Some (record { proc = p; span = r; met = ms; told = [] })) m in
    rw (ei, ej) (same_state _ _
    (shown (λ n. n) x.seqs p q 2 lp ∙ ap (with_at s.seq p) (equal_from q (seq_started s p r) parts.1))
    (fun_ext (λ k. count_begun x.guards a p g la parts.0 refl k))
    refl
    (shown guard_of x.guards a (Some g) None la ∙ ap (with_at s.guard a) seen))

-- before the first entry
pub all_alike : {X : Type 0} (x : X) (n k : ℕ) → slice_index_or (replicate n x) k x ≡ x
all_alike x n k = elim (cases_lt k n) [
  | inl l ↦ get_or-replicate n k x x l
  | inr l ↦ get_or-eq_default (replicate n x) x (omega (arith, length-replicate n x, l))
]

pub starts : sequences_of (record { seqs = replicate 32 2; intervals = replicate 32 None; guards = replicate 16 None }) ≡ sequences_start
starts =
    let no_interval : Option KeptInterval = None in
    let no_guard : Option KeptGuard = None in
    same_state _ _ (fun_ext (λ p. all_alike 2 32 p)) refl (fun_ext (λ m. ap interval_of (all_alike no_interval 32 m))) (fun_ext (λ a. ap guard_of (all_alike no_guard 16 a)))

-- a mirror's interval changes
pub interval_kept : (x : SeqState) (i m : ℕ) (y : Option KeptInterval) (z : Option Interval) → i ≡ m → m < length x.intervals → interval_of y ≡ z
    → sequences_of (record x { intervals = slice_set x.intervals i y }) ≡ record (sequences_of x) { interval = with_at (interval_at x.intervals) m z }
interval_kept x i m y z e l h = rw e (same_state _ _ refl refl (shown interval_of x.intervals m y None l ∙ ap (with_at (interval_at x.intervals) m) h) refl)

-- a mirror is told
told_from : (s : Sequences) (a m q : ℕ) (r : Pages) (o : Option Guarded) → guard_passes (λ g. same_span g.span r && (nat_lt 0 (length g.met) && (is_next_told s g m && (q == s.seq g.proc)))) o ≡ true → guard_passes (λ g. list_all (λ k. nat_lt k m) g.told) o ≡ true
told_from s a m q r None h = absurd (let b : ⊥ = cc in b)
told_from s a m q r (Some g) h =
    let next = (and_parts (is_next_told s g m) _ (and_parts (nat_lt 0 (length g.met)) _ (and_parts (same_span g.span r) _ h).1).1).0 in
    (and_parts (list_all (λ k. nat_lt k m) g.told) _ next).0

pub told_below : (s : Sequences) (a m q : ℕ) (r : Pages) → sequences_accept s a (Kind.Told m r q) ≡ true → guard_passes (λ g. list_all (λ k. nat_lt k m) g.told) (s.guard a) ≡ true
told_below s a m q r h = told_from s a m q r (s.guard a) h

pub told_kept : (x : SeqState) (i j m a q : ℕ) (r : Pages) (y : Option KeptInterval) (g : Option KeptGuard) → i ≡ m → j ≡ a → m < length x.intervals → a < length x.guards
    → interval_of y ≡ with_seq ((sequences_of x).seq (interval_proc (sequences_of x) m)) (interval_at x.intervals m)
    → guard_of g ≡ with_told m (guard_of (slice_index_or x.guards a None))
    → ((k : ℕ) → guards_proc k g ≡ guards_proc k (slice_index_or x.guards a None))
    → sequences_of (record { seqs = x.seqs; intervals = slice_set x.intervals i y; guards = slice_set x.guards j g }) ≡ sequences_next (sequences_of x) a (Kind.Told m r q)
told_kept x i j m a q r y g ei ej lm la hy hg hp =
    let s = sequences_of x in
    rw (ei, ej) (same_state _ _ refl
    (fun_ext (λ k. count_same x.guards a g la hp k))
    (shown interval_of x.intervals m y None lm ∙ ap (with_at s.interval m) hy)
    (shown guard_of x.guards a g None la ∙ ap (with_at s.guard a) hg))

-- an invalidation ends
pub end_kept : (x : SeqState) (ys : List (Option KeptInterval)) (i j p a q : ℕ) (r : Pages) → i ≡ p → j ≡ a → p < length x.seqs → a < length x.guards
    → sequences_accept (sequences_of x) a (Kind.End p r q) ≡ true
    → ((m : ℕ) → interval_at ys m ≡ intervals_ended (sequences_of x) p m)
    → sequences_of (record { seqs = slice_set x.seqs i q; intervals = ys; guards = slice_set x.guards j None }) ≡ sequences_next (sequences_of x) a (Kind.End p r q)
end_kept x ys i j p a q r ei ej lp la h hm =
    let s = sequences_of x in
    let test : Guarded → Bool = λ g. same_span g.span r && all_told g in
    let parts = and_parts (guard_passes (λ g. (g.proc == p) && test g) (s.guard a)) (q == seq_ended s p) h in
    rw (ei, ej) (same_state _ _
    (shown (λ n. n) x.seqs p q 2 lp ∙ ap (with_at s.seq p) (equal_from q (seq_ended s p) parts.1))
    (fun_ext (λ k. count_ended x.guards a p la (guard_was (slice_index_or x.guards a None) test p parts.0) k))
    (fun_ext hm)
    (shown guard_of x.guards a None None la))

-- a mirror comes
pub attach_kept : (x : SeqState) (i j m d p a q n : ℕ) (r : Pages) (y : Option KeptInterval) → i ≡ m → j ≡ p → m < length x.intervals → p < length x.seqs → n ≡ seq_inserted (sequences_of x) p
    → interval_of y ≡ Some (record { proc = p; window = r; seq = interval_inserted (sequences_of x) p; stage = if is_odd ((sequences_of x).seq p) then InsertDeferred else InTree })
    → sequences_of (record { seqs = slice_set x.seqs j n; intervals = slice_set x.intervals i y; guards = x.guards }) ≡ sequences_next (sequences_of x) a (Kind.Attached m d p r q)
attach_kept x i j m d p a q n r y ei ej lm lp hn hy =
    let s = sequences_of x in
    rw (ei, ej) (same_state _ _
    (shown (λ n. n) x.seqs p n 2 lp ∙ ap (with_at s.seq p) hn)
    refl
    (shown interval_of x.intervals m y None lm ∙ ap (with_at s.interval m) hy)
    refl)

-- the intervals after an end
pub last_ended : (s : Sequences) (p m : ℕ) (b : Bool) → b ≡ is_last_end s p → b ≡ true → applied p (s.interval m) ≡ intervals_ended s p m
last_ended s p m b e h = rw (sym e ∙ h) refl

pub not_ended : (s : Sequences) (p m : ℕ) (b : Bool) → b ≡ is_last_end s p → b ≡ false → s.interval m ≡ intervals_ended s p m
not_ended s p m b e h = rw (sym e ∙ h) refl

-- the next mirror to be told, by the three parts of the test
pub not_below : (s : Sequences) (g : Guarded) (m : ℕ) → list_all (λ k. nat_lt k m) g.told ≡ false → false ≡ is_next_told s g m
not_below s g m h = sym (ap (λ b. b && (overlaps s g.proc g.span m && list_all (λ k. nat_le m k || list_any (λ t. t == k) g.told) (overlapping s g.proc g.span))) h)

pub not_overlaps : (s : Sequences) (g : Guarded) (m : ℕ) → overlaps s g.proc g.span m ≡ false → false ≡ is_next_told s g m
not_overlaps s g m h =
    let below = list_all (λ k. nat_lt k m) g.told in
    sym (ap (λ b. below && (b && list_all (λ k. nat_le m k || list_any (λ t. t == k) g.told) (overlapping s g.proc g.span))) h ∙ and_right below false refl)

pub is_next : (s : Sequences) (g : Guarded) (m : ℕ) (all : List ℕ) → list_all (λ k. nat_lt k m) g.told ≡ true → overlaps s g.proc g.span m ≡ true → all ≡ overlapping s g.proc g.span
    → list_all (λ k. nat_le m k || list_any (λ t. t == k) g.told) all ≡ is_next_told s g m
is_next s g m all h k e =
    let lower = λ (ms : List ℕ). list_all (λ k. nat_le m k || list_any (λ t. t == k) g.told) ms in
    ap lower e ∙ sym (ap (λ b. b && (overlaps s g.proc g.span m && lower (overlapping s g.proc g.span))) h ∙ ap (λ b. b && lower (overlapping s g.proc g.span)) k)
