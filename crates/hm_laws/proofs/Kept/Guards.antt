-- Guards under way after an entry: each mirror in their span is to be told, or blocked.
use Rattle.std.proofs.Common.{◌≡◌, ℕ, ◌+◌, ◌-◌, ◌<◌, ◌⊎◌, inl, inr, Bool, true, false, ◌==◌, ◌&&◌, ◌||◌, nat_lt, if◌then◌else◌, not, Option, Some, None, List, [], ◌∷◌, ◌++◌, refl, sym, ap, ◌∙◌, subst, arith}
use Rattle.std.specs.List.{list_any}
use Rattle.std.proofs.lemmas.Bool.Decides.{nat_tests}
use Rattle.hm_base.specs.Pages.{Pages, covers, overlap}
use Rattle.hm_base.specs.Program.{Program}
use Rattle.hm_history.specs.Memory.Words.{with_at, numbers}
use Rattle.hm_history.specs.Memory.Plain.{mirror_passes, is_attached_state}
use Rattle.hm_history.specs.Memory.Places.{TableEntry, with_entry, erased_table}
use Rattle.hm_history.specs.Memory.Sequences.{Sequences, Interval, Guarded, Stage, is_odd, in_tree_state, deferred_state, interval_seq, interval_proc, overlaps, overlapping, seq_started, is_last_end, seq_ended, seq_inserted, interval_inserted, applied_stage, with_seq, with_told, with_stage as with_stage, sequences_next, all_told}
use Rattle.hm_history.specs.Memory.After.{After}
use Rattle.hm_history.specs.declared.Kind.{Kind}
use Rattle.hm_laws.specs.Past.{Past}
use Rattle.hm_laws.specs.Sound.{Pairing, SequenceRules, Pending, Blocked, listens, GuardRules, Sound}
use Rattle.hm_laws.specs.Allowed.{next, Allowed}
use Rattle.std.proofs.lemmas.Bool.{cases_eq, eqb-true}
use Rattle.hm_history.specs.Memory.Sequences.{InTree, InsertDeferred, RemoveDeferred, Removed, Out}
use Rattle.hm_laws.proofs.Kept.Mirrors.{interval_of}
use Rattle.hm_laws.proofs.State.Invalidations.{odd_next, active_of, in_filter, in_numbers, Changed, seq_changed, stage_changed, ended_changed, end_says, ToldTo, told_says, Overlapping, overlaps_says, overlaps_of}
use Rattle.hm_laws.proofs.Kept.Sequences.{started_rises, inserted_rises, ended_else, not_last}
use Rattle.hm_laws.proofs.Kept.Attached.{new_mirror}
use Rattle.hm_history.proofs.Updates.{here_at, at_cases}
use Rattle.hm_history.proofs.Tests.{same_some, true_false}

-- a mirror stays blocked where the sequence stays as it is odd, and no entry comes
blocked_still : (seq to : ℕ → ℕ) (table new : ℕ → ℕ → Option TableEntry) (m : ℕ) (y z : Interval) (r : Pages) → z.proc ≡ y.proc → (y.seq ≡ seq y.proc → z.seq ≡ seq y.proc) → (is_odd (seq y.proc) ≡ true → to y.proc ≡ seq y.proc) → ((v : ℕ) → table m v ≡ None → new m v ≡ None) → Blocked seq table m y r → Blocked to new m z r
blocked_still seq to table new m y z r p q k n h = (q h.0 ∙ sym (ap to p ∙ k h.1), ap (λ i. is_odd (to i)) p ∙ ap is_odd (k h.1) ∙ h.1, λ v c. n v (h.2 v c))

-- the list of those told has one more
pending_more : (k m : ℕ) (l : List ℕ) → (k ≡ m → ⊥) → list_any (λ j. j == k) l ≡ false → list_any (λ j. j == k) (l ++ m ∷ []) ≡ false
pending_more k m [] ne h = by (m == k) refl
  where
    by : (b : Bool) → (m == k) ≡ b → (b || false) ≡ false
    by true e = absurd (ne (sym (eqb-true m k e)))
    by false e = refl
pending_more k m (x ∷ xs) ne h = by (x == k) (list_any (λ j. j == k) xs) h (pending_more k m xs ne)
  where
    by : (b d : Bool) → (b || d) ≡ false → (d ≡ false → list_any (λ j. j == k) (xs ++ m ∷ []) ≡ false) → (b || list_any (λ j. j == k) (xs ++ m ∷ [])) ≡ false
    by false false e i = i refl
    by false true e i = cc
    by true d e i = cc

start_guards : (s : Sequences) (table : ℕ → ℕ → Option TableEntry) (a p : ℕ) (r : Pages) (q : ℕ) → SequenceRules s → GuardRules s table → GuardRules (sequences_next s a (Kind.Start p r q)) table
start_guards s table a p r q sq h = record {
  waits = h.waits;
  guarded = λ b m g y e i l w o. by b m g y i l w o (at_cases s.guard a b (Some new) g e);
}
  where
    new : Guarded
    new = record { proc = p; span = r; met = overlapping s p r; told = [] }

    same_guard : (g : Guarded) → Some new ≡ Some g → new ≡ g
    same_guard g e = cc

    at_new : (m : ℕ) (y : Interval) → s.interval m ≡ Some y → listens y.stage ≡ true → y.proc ≡ p → overlap y.window r ≡ true → (t : Stage) → y.stage ≡ t → Pending new m ⊎ Blocked (with_at s.seq p (seq_started s p r)) table m y r
    at_new m y i l w o InTree t = inl (in_filter (overlaps s p r) m (numbers 0 32) (overlaps_of s p r m y i (ap in_tree_state t) w o) (in_numbers m 0 32 (omega arith) (omega (arith, sq.few m y i))), refl)
    at_new m y i l w o InsertDeferred t = let d : (y.seq ≡ s.seq y.proc) × (is_odd (s.seq y.proc) ≡ true) = sq.deferred m y i (ap deferred_state t) in
        inr (d.0 ∙ sym ((started_rises s p r y.proc).1 d.1), ap is_odd ((started_rises s p r y.proc).1 d.1) ∙ d.1, λ v c. h.waits m v y i (ap deferred_state t))
    at_new m y i l w o RemoveDeferred t = absurd (true_false (listens y.stage) l (ap listens t))
    at_new m y i l w o Removed t = absurd (true_false (listens y.stage) l (ap listens t))
    at_new m y i l w o Out t = absurd (true_false (listens y.stage) l (ap listens t))

    still : (m : ℕ) (g : Guarded) (y : Interval) → Pending g m ⊎ Blocked s.seq table m y g.span → Pending g m ⊎ Blocked (with_at s.seq p (seq_started s p r)) table m y g.span
    still m g y (inl k) = inl k
    still m g y (inr k) = inr (blocked_still s.seq (with_at s.seq p (seq_started s p r)) table table m y y g.span refl (λ e. e) (started_rises s p r y.proc).1 (λ v n. n) k)

    by : (b m : ℕ) (g : Guarded) (y : Interval) → s.interval m ≡ Some y → listens y.stage ≡ true → y.proc ≡ g.proc → overlap y.window g.span ≡ true → ((b ≡ a) × (Some new ≡ Some g)) ⊎ ((b ≡ a → ⊥) × (s.guard b ≡ Some g)) →
        Pending g m ⊎ Blocked (with_at s.seq p (seq_started s p r)) table m y g.span
    by b m g y i l w o (inl e) = subst (λ j. Pending j m ⊎ Blocked (with_at s.seq p (seq_started s p r)) table m y j.span) (same_guard g e.1)
        (at_new m y i l (w ∙ ap (λ (j : Guarded). j.proc) (sym (same_guard g e.1))) (ap (λ (j : Guarded). overlap y.window j.span) (same_guard g e.1) ∙ o) y.stage refl)
    by b m g y i l w o (inr e) = still m g y (h.guarded b m g y e.1 i l w o)

told_guards : (s : Sequences) (table : ℕ → ℕ → Option TableEntry) (a m : ℕ) (r : Pages) (q : ℕ) (g : Guarded) → SequenceRules s → GuardRules s table → s.guard a ≡ Some g → ToldTo s m r g → GuardRules (sequences_next s a (Kind.Told m r q)) (erased_table table m (covers r))
told_guards s table a m r q g sq h is to = record {
  waits = λ k v y e d. gone k v (waits k v y d (at_cases s.interval m k _ y e));
  guarded = λ b k i y e j l w o. guarded b k i y l w o (at_cases s.guard a b _ i e) (at_cases s.interval m k _ y j);
}
  where
    seq : ℕ
    seq = s.seq (interval_proc s m)

    o : Overlapping s g.proc g.span m
    o = overlaps_says s g.proc g.span m to.overlaps_it

    gone : (k v : ℕ) → table k v ≡ None → erased_table table m (covers r) k v ≡ None
    gone k v e = by ((k == m) && covers r v)
      where
        by : (b : Bool) → (if b then None else table k v) ≡ None
        by true = refl
        by false = e

    erased_at : (v : ℕ) → covers r v ≡ true → erased_table table m (covers r) m v ≡ None
    erased_at v c = by (m == m) refl
      where
        by : (b : Bool) → (m == m) ≡ b → (if b && covers r v then None else table m v) ≡ None
        by true e = rw c refl
        by false e = absurd (true_false (m == m) (grind (arith, nat_tests)) e)

    waits : (k v : ℕ) (y : Interval) → deferred_state y.stage ≡ true → ((k ≡ m) × (with_seq seq (s.interval m) ≡ Some y)) ⊎ ((k ≡ m → ⊥) × (s.interval k ≡ Some y)) → table k v ≡ None
    waits k v y d (inl e) = let z : (z : Interval) × (s.interval m ≡ Some z) × Changed z y seq z.stage = seq_changed seq (s.interval m) y e.1 in ap (λ i. table i v) e.0 ∙ h.waits m v z.0 z.1 (sym (ap deferred_state z.2.stage) ∙ d)
    waits k v y d (inr e) = h.waits k v y e.1 d

    seq_is : (y z : Interval) → s.interval m ≡ Some z → Changed z y seq z.stage → y.seq ≡ s.seq y.proc
    seq_is y z e c = c.seq ∙ ap s.seq (ap (λ (x : Option Interval). elim x [ None ↦ 0 | Some i ↦ i.proc ]) e ∙ sym c.proc)

    new : Guarded
    new = record g { told = g.told ++ m ∷ [] }

    same_guard : (i : Guarded) → with_told m (s.guard a) ≡ Some i → new ≡ i
    same_guard i e = is_some_of (sym (ap (with_told m) is) ∙ e)
      where
        is_some_of : Some new ≡ Some i → new ≡ i
        is_some_of k = cc

    -- the mirror itself is blocked in the span of its guard
    this_one : (y z : Interval) → s.interval m ≡ Some z → Changed z y seq z.stage → Blocked s.seq (erased_table table m (covers r)) m y g.span
    this_one y z e c = (seq_is y z e c, ap (λ i. is_odd (s.seq i)) (c.proc ∙ ap (λ (i : Interval). i.proc) (same_some (s.interval m) z o.interval e o.is) ∙ o.proc) ∙ sq.met_odd a g is to.met, λ v k. erased_at v (ap (λ w. covers w v) (sym to.span) ∙ k))

    -- and stays so in the span of another
    old_one : (k : ℕ) (y z : Interval) (i : Guarded) → k ≡ m → s.interval m ≡ Some z → Changed z y seq z.stage → Pending i m ⊎ Blocked s.seq table m z i.span → Pending i k ⊎ Blocked s.seq (erased_table table m (covers r)) k y i.span
    old_one k y z i e j c (inl p) = inl (subst (Pending i) (sym e) p)
    old_one k y z i e j c (inr p) = inr (subst (λ n. Blocked s.seq (erased_table table m (covers r)) n y i.span) (sym e) (blocked_still s.seq s.seq table (erased_table table m (covers r)) m z y i.span c.proc (λ n. seq_is y z j c ∙ ap s.seq c.proc) (λ n. refl) (λ v n. gone m v n) p))

    still : (k : ℕ) (y : Interval) (i : Guarded) → Pending i k ⊎ Blocked s.seq table k y i.span → Pending i k ⊎ Blocked s.seq (erased_table table m (covers r)) k y i.span
    still k y i (inl p) = inl p
    still k y i (inr p) = inr (blocked_still s.seq s.seq table (erased_table table m (covers r)) k y y i.span refl (λ e. e) (λ e. refl) (λ v n. gone k v n) p)

    later : (k : ℕ) (y : Interval) → (k ≡ m → ⊥) → Pending g k ⊎ Blocked s.seq table k y g.span → Pending new k ⊎ Blocked s.seq (erased_table table m (covers r)) k y g.span
    later k y ne (inl p) = inl (p.0, pending_more k m g.told ne p.1)
    later k y ne (inr p) = still_blocked (still k y g (inr p))
      where
        still_blocked : Pending g k ⊎ Blocked s.seq (erased_table table m (covers r)) k y g.span → Pending new k ⊎ Blocked s.seq (erased_table table m (covers r)) k y g.span
        still_blocked (inl j) = inl (j.0, pending_more k m g.told ne j.1)
        still_blocked (inr j) = inr j

    of_a : (k : ℕ) (y : Interval) → listens y.stage ≡ true → y.proc ≡ g.proc → overlap y.window g.span ≡ true → ((k ≡ m) × (with_seq seq (s.interval m) ≡ Some y)) ⊎ ((k ≡ m → ⊥) × (s.interval k ≡ Some y)) → Pending new k ⊎ Blocked s.seq (erased_table table m (covers r)) k y g.span
    of_a k y l w ov (inl e) = let z : (z : Interval) × (s.interval m ≡ Some z) × Changed z y seq z.stage = seq_changed seq (s.interval m) y e.1 in inr (subst (λ n. Blocked s.seq (erased_table table m (covers r)) n y g.span) (sym e.0) (this_one y z.0 z.1 z.2))
    of_a k y l w ov (inr e) = later k y e.0 (h.guarded a k g y is e.1 l w ov)

    guarded : (b k : ℕ) (i : Guarded) (y : Interval) → listens y.stage ≡ true → y.proc ≡ i.proc → overlap y.window i.span ≡ true → ((b ≡ a) × (with_told m (s.guard a) ≡ Some i)) ⊎ ((b ≡ a → ⊥) × (s.guard b ≡ Some i)) → ((k ≡ m) × (with_seq seq (s.interval m) ≡ Some y)) ⊎ ((k ≡ m → ⊥) × (s.interval k ≡ Some y)) →
        Pending i k ⊎ Blocked s.seq (erased_table table m (covers r)) k y i.span
    guarded b k i y l w ov (inl e) j = subst (λ n. Pending n k ⊎ Blocked s.seq (erased_table table m (covers r)) k y n.span) (same_guard i e.1) (of_a k y l (w ∙ ap (λ (n : Guarded). n.proc) (sym (same_guard i e.1))) (ap (λ (n : Guarded). overlap y.window n.span) (same_guard i e.1) ∙ ov) j)
    guarded b k i y l w ov (inr e) (inl j) = let z : (z : Interval) × (s.interval m ≡ Some z) × Changed z y seq z.stage = seq_changed seq (s.interval m) y j.1 in
        old_one k y z.0 i j.0 z.1 z.2 (h.guarded b m i z.0 e.1 z.1 (sym (ap listens z.2.stage) ∙ l) (sym z.2.proc ∙ w) (ap (λ n. overlap n i.span) (sym z.2.window) ∙ ov))
    guarded b k i y l w ov (inr e) (inr j) = still k y i (h.guarded b k i y e.1 j.1 l w ov)

end_guards : (s : Sequences) (table : ℕ → ℕ → Option TableEntry) (a p : ℕ) (r : Pages) (q : ℕ) (g : Guarded) → SequenceRules s → GuardRules s table → s.guard a ≡ Some g → g.proc ≡ p → GuardRules (sequences_next s a (Kind.End p r q)) table
end_guards s table a p r q g sq h is pr = record {
  waits = λ k v y e d. waits k v y d (ended_changed s p k y e);
  guarded = λ b k i y e j l w o. guarded b k i y l w o (at_cases s.guard a b None i e) (ended_changed s p k y j);
}
  where
    never_deferred : (t : Stage) → deferred_state (applied_stage t) ≡ true → ⊥
    never_deferred InTree k = cc
    never_deferred InsertDeferred k = cc
    never_deferred RemoveDeferred k = cc
    never_deferred Removed k = cc
    never_deferred Out k = cc

    waits : (k v : ℕ) (z : Interval) → deferred_state z.stage ≡ true → (y : Interval) × (s.interval k ≡ Some y) × (((is_last_end s p ≡ true) × (y.proc ≡ p) × Changed y z y.seq (applied_stage y.stage)) ⊎ (((is_last_end s p ≡ false) ⊎ (y.proc ≡ p → ⊥)) × (y ≡ z))) → table k v ≡ None
    waits k v z t (y, e, inl d) = absurd (never_deferred y.stage (sym (ap deferred_state d.2.stage) ∙ t))
    waits k v z t (y, e, inr d) = h.waits k v z (e ∙ ap Some d.1) t

    none_some : (i : Guarded) → None ≡ Some i → ⊥
    none_some i k = cc

    still : (k : ℕ) (i : Guarded) (z : Interval) → (is_last_end s p ≡ false) ⊎ (i.proc ≡ p → ⊥) → z.proc ≡ i.proc → Pending i k ⊎ Blocked s.seq table k z i.span → Pending i k ⊎ Blocked (with_at s.seq p (seq_ended s p)) table k z i.span
    still k i z n w (inl j) = inl j
    still k i z n w (inr j) = inr (blocked_still s.seq (with_at s.seq p (seq_ended s p)) table table k z z i.span refl (λ e. e) (λ e. ended_else s p z.proc (subst (λ x. (is_last_end s p ≡ false) ⊎ (x ≡ p → ⊥)) (sym w) n)) (λ v e. e) j)

    last_of_it : (is_last_end s p ≡ true) → (i : Guarded) → i.proc ≡ p → (is_last_end s p ≡ false) ⊎ (i.proc ≡ p → ⊥) → ⊥
    last_of_it m i e (inl k) = true_false (is_last_end s p) m k
    last_of_it m i e (inr k) = k e

    guarded : (b k : ℕ) (i : Guarded) (z : Interval) → listens z.stage ≡ true → z.proc ≡ i.proc → overlap z.window i.span ≡ true → ((b ≡ a) × (None ≡ Some i)) ⊎ ((b ≡ a → ⊥) × (s.guard b ≡ Some i)) →
        (y : Interval) × (s.interval k ≡ Some y) × (((is_last_end s p ≡ true) × (y.proc ≡ p) × Changed y z y.seq (applied_stage y.stage)) ⊎ (((is_last_end s p ≡ false) ⊎ (y.proc ≡ p → ⊥)) × (y ≡ z))) → Pending i k ⊎ Blocked (with_at s.seq p (seq_ended s p)) table k z i.span
    guarded b k i z l w o (inl e) j = absurd (none_some i e.1)
    guarded b k i z l w o (inr e) (y, j, inl d) = absurd (last_of_it d.0 i (sym w ∙ d.2.proc ∙ d.1) (not_last s sq a b p g i e.0 is pr e.1))
    guarded b k i z l w o (inr e) (y, j, inr d) = still k i z (not_last s sq a b p g i e.0 is pr e.1) w (h.guarded b k i z e.1 (j ∙ ap Some d.1) l w o)

-- an interval that listens no more
stage_guards : (s : Sequences) (table : ℕ → ℕ → Option TableEntry) (m : ℕ) (t : Stage) → GuardRules s table → deferred_state t ≡ false → listens t ≡ false → GuardRules (record s { interval = with_at s.interval m (with_stage t (s.interval m)) }) (erased_table table m (λ v. true))
stage_guards s table m t h nd nl = record {
  waits = λ k v y e d. waits k v y d (at_cases s.interval m k _ y e);
  guarded = λ b k i y e j l w o. guarded b k i y e l w o (at_cases s.interval m k _ y j);
}
  where
    gone : (k v : ℕ) → table k v ≡ None → erased_table table m (λ v. true) k v ≡ None
    gone k v e = by ((k == m) && true)
      where
        by : (b : Bool) → (if b then None else table k v) ≡ None
        by true = refl
        by false = e

    waits : (k v : ℕ) (y : Interval) → deferred_state y.stage ≡ true → ((k ≡ m) × (with_stage t (s.interval m) ≡ Some y)) ⊎ ((k ≡ m → ⊥) × (s.interval k ≡ Some y)) → erased_table table m (λ v. true) k v ≡ None
    waits k v y d (inl e) = let z : (z : Interval) × (s.interval m ≡ Some z) × Changed z y z.seq t = stage_changed t (s.interval m) y e.1 in absurd (true_false (deferred_state t) (sym (ap deferred_state z.2.stage) ∙ d) nd)
    waits k v y d (inr e) = gone k v (h.waits k v y e.1 d)

    still : (k : ℕ) (y : Interval) (i : Guarded) → Pending i k ⊎ Blocked s.seq table k y i.span → Pending i k ⊎ Blocked s.seq (erased_table table m (λ v. true)) k y i.span
    still k y i (inl p) = inl p
    still k y i (inr p) = inr (blocked_still s.seq s.seq table (erased_table table m (λ v. true)) k y y i.span refl (λ e. e) (λ e. refl) (λ v n. gone k v n) p)

    guarded : (b k : ℕ) (i : Guarded) (y : Interval) → s.guard b ≡ Some i → listens y.stage ≡ true → y.proc ≡ i.proc → overlap y.window i.span ≡ true → ((k ≡ m) × (with_stage t (s.interval m) ≡ Some y)) ⊎ ((k ≡ m → ⊥) × (s.interval k ≡ Some y)) → Pending i k ⊎ Blocked s.seq (erased_table table m (λ v. true)) k y i.span
    guarded b k i y e l w o (inl j) = let z : (z : Interval) × (s.interval m ≡ Some z) × Changed z y z.seq t = stage_changed t (s.interval m) y j.1 in absurd (true_false (listens t) (sym (ap listens z.2.stage) ∙ l) nl)
    guarded b k i y e l w o (inr j) = still k y i (h.guarded b k i y e j.1 l w o)

attach_guards : (s : Sequences) (table : ℕ → ℕ → Option TableEntry) (a m d p : ℕ) (r : Pages) (q : ℕ) → SequenceRules s → GuardRules s table → ((v : ℕ) → table m v ≡ None) → GuardRules (sequences_next s a (Kind.Attached m d p r q)) table
attach_guards s table a m d p r q sq h empty = record {
  waits = λ k v y e t. waits k v y t (at_cases s.interval m k _ y e);
  guarded = λ b k i y e j l w o. guarded b k i y e l w o (at_cases s.interval m k _ y j);
}
  where
    new : Interval
    new = record { proc = p; window = r; seq = interval_inserted s p; stage = if is_odd (s.seq p) then InsertDeferred else InTree }

    is_new : (y : Interval) → Some new ≡ Some y → new ≡ y
    is_new y e = cc

    waits : (k v : ℕ) (y : Interval) → deferred_state y.stage ≡ true → ((k ≡ m) × (Some new ≡ Some y)) ⊎ ((k ≡ m → ⊥) × (s.interval k ≡ Some y)) → table k v ≡ None
    waits k v y t (inl e) = ap (λ i. table i v) e.0 ∙ empty v
    waits k v y t (inr e) = h.waits k v y e.1 t

    still : (k : ℕ) (y : Interval) (i : Guarded) → Pending i k ⊎ Blocked s.seq table k y i.span → Pending i k ⊎ Blocked (with_at s.seq p (seq_inserted s p)) table k y i.span
    still k y i (inl j) = inl j
    still k y i (inr j) = inr (blocked_still s.seq (with_at s.seq p (seq_inserted s p)) table table k y y i.span refl (λ e. e) (inserted_rises s p y.proc).1 (λ v n. n) j)

    at_p : with_at s.seq p (seq_inserted s p) p ≡ seq_inserted s p
    at_p = here_at s.seq p (seq_inserted s p)

    odds : (o b : Bool) → is_odd (s.seq p) ≡ o → nat_lt 0 (s.active p) ≡ b → 0 < s.active p → ((if o then s.seq p else if b then s.seq p + 1 else (s.seq p - 1)) ≡ (if not o && b then s.seq p + 1 else s.seq p)) × (is_odd (if not o && b then s.seq p + 1 else s.seq p) ≡ true)
    odds true b eo eb l = (refl, eo)
    odds false true eo eb l = (refl, odd_next (s.seq p) eo)
    odds false false eo eb l = absurd (grind (arith, nat_tests))

    block : (i : Guarded) (b : ℕ) → s.guard b ≡ Some i → p ≡ i.proc → Blocked (with_at s.seq p (seq_inserted s p)) table m new i.span
    block i b e w = let o : (interval_inserted s p ≡ seq_inserted s p) × (is_odd (seq_inserted s p) ≡ true) = odds (is_odd (s.seq p)) (nat_lt 0 (s.active p)) refl refl (active_of s sq b p i e (sym w)) in
        (o.0 ∙ sym at_p, ap is_odd at_p ∙ o.1, λ v c. empty v)

    guarded : (b k : ℕ) (i : Guarded) (y : Interval) → s.guard b ≡ Some i → listens y.stage ≡ true → y.proc ≡ i.proc → overlap y.window i.span ≡ true → ((k ≡ m) × (Some new ≡ Some y)) ⊎ ((k ≡ m → ⊥) × (s.interval k ≡ Some y)) → Pending i k ⊎ Blocked (with_at s.seq p (seq_inserted s p)) table k y i.span
    guarded b k i y e l w o (inl j) = inr (subst (λ n. Blocked (with_at s.seq p (seq_inserted s p)) table n y i.span) (sym j.0) (subst (λ n. Blocked (with_at s.seq p (seq_inserted s p)) table m n i.span) (is_new y j.1) (block i b e (ap (λ (n : Interval). n.proc) (is_new y j.1) ∙ w))))
    guarded b k i y e l w o (inr j) = still k y i (h.guarded b k i y e j.1 l w o)

-- a table entry comes only where the interval's sequence is below its process's
set_guards : (s : Sequences) (table : ℕ → ℕ → Option TableEntry) (m v p : ℕ) (x : TableEntry) (y : Interval) → SequenceRules s → GuardRules s table → s.interval m ≡ Some y → y.proc ≡ p → interval_seq s m < s.seq p → GuardRules s (with_entry table m v x)
set_guards s table m v p x y sq h is pr low = record {
  waits = λ k u z e d. waits k u z e d (cases_eq k m);
  guarded = λ b k i z e j l w o. still b k i z j (h.guarded b k i z e j l w o) (cases_eq k m);
}
  where
    other : (k u : ℕ) → (k ≡ m → ⊥) → with_entry table m v x k u ≡ table k u
    other k u ne = by (k == m) refl
      where
        by : (b : Bool) → (k == m) ≡ b → (if b && (u == v) then Some x else table k u) ≡ table k u
        by true e = absurd (ne (eqb-true k m e))
        by false e = refl

    seq_is : interval_seq s m ≡ y.seq
    seq_is = ap (λ (i : Option Interval). elim i [ None ↦ 0 | Some j ↦ j.seq ]) is

    clash : (k : ℕ) (z : Interval) → k ≡ m → s.interval k ≡ Some z → z.seq ≡ s.seq z.proc → ⊥
    clash k z e j q = omega (arith, low, seq_is, ap (λ (i : Interval). i.seq) (same_some (s.interval m) y z is (ap s.interval (sym e) ∙ j)), q, ap s.seq (ap (λ (i : Interval). i.proc) (same_some (s.interval m) z y (ap s.interval (sym e) ∙ j) is) ∙ pr))

    waits : (k u : ℕ) (z : Interval) → s.interval k ≡ Some z → deferred_state z.stage ≡ true → (k ≡ m) ⊎ (k ≡ m → ⊥) → with_entry table m v x k u ≡ None
    waits k u z e d (inl i) = absurd (clash k z i e (sq.deferred k z e d).0)
    waits k u z e d (inr ne) = other k u ne ∙ h.waits k u z e d

    still : (b k : ℕ) (i : Guarded) (z : Interval) → s.interval k ≡ Some z → Pending i k ⊎ Blocked s.seq table k z i.span → (k ≡ m) ⊎ (k ≡ m → ⊥) → Pending i k ⊎ Blocked s.seq (with_entry table m v x) k z i.span
    still b k i z j (inl p) e = inl p
    still b k i z j (inr p) (inl e) = absurd (clash k z e j p.0)
    still b k i z j (inr p) (inr ne) = inr (p.0, p.1, λ u c. other k u ne ∙ p.2 u c)

pub guards_kept : (c : Program) (s : After) (t : Past) (a : ℕ) → Sound c s t → (k : Kind) → Allowed c s t a k → GuardRules (next s a k).sequences (next s a k).places.table
guards_kept c s t a so (Kind.Start p r q) ok = start_guards s.sequences s.places.table a p r q so.sequences so.guards
guards_kept c s t a so (Kind.Told m r q) ok = let g : (g : Guarded) × (s.sequences.guard a ≡ Some g) × ToldTo s.sequences m r g = told_says s.sequences a m r q ok in told_guards s.sequences s.places.table a m r q g.0 so.sequences so.guards g.1 g.2
guards_kept c s t a so (Kind.End p r q) ok = let g : (g : Guarded) × (s.sequences.guard a ≡ Some g) × (g.proc ≡ p) × (g.span ≡ r) × (all_told g ≡ true) = end_says s.sequences a p r q ok in end_guards s.sequences s.places.table a p r q g.0 so.sequences so.guards g.1 g.2
guards_kept c s t a so (Kind.Attached m d p r q) ok = attach_guards s.sequences s.places.table a m d p r q so.sequences so.guards (λ v. so.tables.unattached m v (ap (mirror_passes is_attached_state) (new_mirror c s t a m d p r q so ok.1).0))
guards_kept c s t a so (Kind.Detaching m q) ok = stage_guards s.sequences s.places.table m RemoveDeferred so.guards refl refl
guards_kept c s t a so (Kind.Detached m) ok = stage_guards s.sequences s.places.table m Out so.guards refl refl
guards_kept c s t a so (Kind.Set m v f w from) ok = let y : (y : Interval) × (s.sequences.interval m ≡ Some y) × Pairing ok.mirror y (s.places.device m) = interval_of s.plain.mirrors s.sequences.interval s.places.device so.mirrors m ok.mirror ok.is in
    set_guards s.sequences s.places.table m v ok.mirror.proc (record { target = f; right = w; from = from }) y.0 so.sequences so.guards y.1 y.2.proc ok.below
guards_kept c s t a so k ok = so.guards
