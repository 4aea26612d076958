-- Sequences, intervals and guards after an entry.
use Rattle.std.proofs.Common.{◌≡◌, ℕ, ◌+◌, ◌-◌, ◌<◌, ◌≤◌, ◌⊎◌, inl, inr, Bool, true, false, ◌==◌, ◌&&◌, if◌then◌else◌, not, Option, Some, None, [], ◌∷◌, ◌++◌, refl, sym, ap, ◌∙◌, subst, arith}
use Rattle.std.proofs.lemmas.Bool.Decides.{nat_tests}
use Rattle.hm_base.specs.Pages.{Pages, overlap}
use Rattle.hm_history.specs.Memory.Words.{with_at, numbers}
use Rattle.hm_history.specs.Memory.Sequences.{Sequences, Interval, Guarded, Stage, is_odd, in_tree_state, deferred_state, interval_passes, interval_proc, overlaps, overlapping, some_overlap, seq_started, is_last_end, seq_ended, seq_inserted, applied_stage, applied, with_seq, with_told, sequences_next}
use Rattle.hm_history.specs.declared.Kind.{Kind}
use Rattle.hm_laws.specs.Sound.{guards, count_guards, has_met, is_leaving, SequenceRules}
use Rattle.std.proofs.lemmas.Bool.{cases_eq, eqb-true}
use Rattle.hm_history.specs.Memory.Sequences.{InTree, InsertDeferred, RemoveDeferred, Removed, Out}
use Rattle.hm_laws.proofs.State.Invalidations.{odd_next, even_next, number, count_with, guards_at, active_two, filter_same, Changed, seq_changed, ended_changed, ToldTo, Overlapping, overlaps_says}
use Rattle.hm_history.proofs.Updates.{other_at, here_at, at_cases}
use Rattle.hm_history.proofs.Tests.{same_some, true_false}

-- a sequence that does not fall, and stays where it is odd
abbrev pub Rises : (ℕ → ℕ) → (ℕ → ℕ) → Type 0
Rises f g = (p : ℕ) → (f p ≤ g p) × (is_odd (f p) ≡ true → g p ≡ f p)

raised : (f : ℕ → ℕ) (p : ℕ) (b : Bool) → Rises f (with_at f p (if b && not (is_odd (f p)) then f p + 1 else f p))
raised f p b q = (grind (arith, nat_tests), λ e. grind (arith, nat_tests))

pub started_rises : (s : Sequences) (p : ℕ) (r : Pages) → Rises s.seq (with_at s.seq p (seq_started s p r))
started_rises s p r = raised s.seq p (some_overlap s p r)

pub inserted_rises : (s : Sequences) (p : ℕ) → Rises s.seq (with_at s.seq p (seq_inserted s p))
inserted_rises s p q = (grind (arith, nat_tests), λ e. grind (arith, nat_tests))

pub ended_rises : (s : Sequences) (p q : ℕ) → s.seq q ≤ with_at s.seq p (seq_ended s p) q
ended_rises s p q = grind (arith, nat_tests)

-- an end leaves the sequence where it is not the last one of an odd sequence
pub ended_else : (s : Sequences) (p q : ℕ) → (is_last_end s p ≡ false) ⊎ (q ≡ p → ⊥) → with_at s.seq p (seq_ended s p) q ≡ s.seq q
ended_else s p q (inl e) = grind (arith, nat_tests)
ended_else s p q (inr ne) = other_at s.seq p q (seq_ended s p) ne

-- an end is not the last one while another guard of the process is under way
pub not_last : (s : Sequences) → SequenceRules s → (a b p : ℕ) (g i : Guarded) → (b ≡ a → ⊥) → s.guard a ≡ Some g → g.proc ≡ p → s.guard b ≡ Some i → (is_last_end s p ≡ false) ⊎ (i.proc ≡ p → ⊥)
not_last s h a b p g i ne e q d = by (cases_eq i.proc p)
  where
    many : (n : ℕ) (o : Bool) → 1 < n → ((n == 1) && o) ≡ false
    many n o l = grind (arith, nat_tests)

    by : (i.proc ≡ p) ⊎ (i.proc ≡ p → ⊥) → (is_last_end s p ≡ false) ⊎ (i.proc ≡ p → ⊥)
    by (inl k) = inl (many (s.active p) (is_odd (s.seq p)) (active_two s h a b p g i ne e q d k))
    by (inr k) = inr k

at_interval : (s : Sequences) (m k : ℕ) (z : Option Interval) (y : Interval) → with_at s.interval m z k ≡ Some y → ((k ≡ m) × (z ≡ Some y)) ⊎ ((k ≡ m → ⊥) × (s.interval k ≡ Some y))
at_interval s m k z y h = at_cases s.interval m k z y h

-- a start
pub start_sequences : (s : Sequences) (a p : ℕ) (r : Pages) (q : ℕ) → SequenceRules s → a < 16 → s.guard a ≡ None → SequenceRules (sequences_next s a (Kind.Start p r q))
start_sequences s a p r q h few free = record {
  few = h.few;
  not_above = λ m y e. omega (arith, h.not_above m y e, (started_rises s p r y.proc).0);
  odd_seq = h.odd_seq;
  deferred = λ m y e d. ((h.deferred m y e d).0 ∙ sym ((started_rises s p r y.proc).1 (h.deferred m y e d).1), ap is_odd ((started_rises s p r y.proc).1 (h.deferred m y e d).1) ∙ (h.deferred m y e d).1);
  leaving = λ m y e d. ap is_odd ((started_rises s p r y.proc).1 (h.leaving m y e d)) ∙ h.leaving m y e d;
  met_odd = λ b g e m. met_odd b g m (at_cases s.guard a b (Some new) g e);
  met_now = λ b g e m. met_now b g m (at_cases s.guard a b (Some new) g e);
  counted = λ u. counted u (cases_eq u p);
  odd_active = λ u e. odd_active u e (cases_eq u p);
  positive = λ u. omega (arith, h.positive u, (started_rises s p r u).0);
  guard_below = λ b g e. guard_below b g (at_cases s.guard a b (Some new) g e);
}
  where
    new : Guarded
    new = record { proc = p; span = r; met = overlapping s p r; told = [] }

    now_odd : some_overlap s p r ≡ true → is_odd (with_at s.seq p (seq_started s p r) p) ≡ true
    now_odd e = ap is_odd (here_at s.seq p (seq_started s p r)) ∙ at (some_overlap s p r) e (is_odd (s.seq p)) refl
      where
        at : (x : Bool) → x ≡ true → (o : Bool) → is_odd (s.seq p) ≡ o → is_odd (if x && not o then s.seq p + 1 else s.seq p) ≡ true
        at true e true eo = eo
        at true e false eo = odd_next (s.seq p) eo
        at false e o eo = cc

    same_guard : (g : Guarded) → Some new ≡ Some g → new ≡ g
    same_guard g e = cc

    met_odd : (b : ℕ) (g : Guarded) → has_met g ≡ true → ((b ≡ a) × (Some new ≡ Some g)) ⊎ ((b ≡ a → ⊥) × (s.guard b ≡ Some g)) → is_odd (with_at s.seq p (seq_started s p r) g.proc) ≡ true
    met_odd b g m (inl e) = subst (λ i. is_odd (with_at s.seq p (seq_started s p r) i.proc) ≡ true) (same_guard g e.1) (now_odd (ap has_met (same_guard g e.1) ∙ m))
    met_odd b g m (inr e) = ap is_odd ((started_rises s p r g.proc).1 (h.met_odd b g e.1 m)) ∙ h.met_odd b g e.1 m

    met_now : (b : ℕ) (g : Guarded) → has_met g ≡ true → ((b ≡ a) × (Some new ≡ Some g)) ⊎ ((b ≡ a → ⊥) × (s.guard b ≡ Some g)) → overlapping s g.proc g.span ≡ g.met
    met_now b g m (inl e) = subst (λ i. overlapping s i.proc i.span ≡ i.met) (same_guard g e.1) refl
    met_now b g m (inr e) = h.met_now b g e.1 m

    guard_below : (b : ℕ) (g : Guarded) → ((b ≡ a) × (Some new ≡ Some g)) ⊎ ((b ≡ a → ⊥) × (s.guard b ≡ Some g)) → b < 16
    guard_below b g (inl e) = omega (arith, e.0, few)
    guard_below b g (inr e) = h.guard_below b g e.1

    counted : (u : ℕ) → (u ≡ p) ⊎ (u ≡ p → ⊥) → with_at s.active p (s.active p + 1) u ≡ count_guards (with_at s.guard a (Some new)) u 16
    counted u (inl e) = by (here_at s.active p (s.active p + 1)) (h.counted p) (subst (λ x. count_guards (with_at s.guard a (Some new)) p 16 + number (guards x p) ≡ count_guards s.guard p 16 + number (guards (Some new) p)) free (count_with s.guard p a (Some new) 16 few)) (guards_at (λ b. Some new) 0 p new refl refl) e
      where
        by : with_at s.active p (s.active p + 1) p ≡ s.active p + 1 → s.active p ≡ count_guards s.guard p 16 → count_guards (with_at s.guard a (Some new)) p 16 + number (guards None p) ≡ count_guards s.guard p 16 + number (guards (Some new) p) → guards (Some new) p ≡ true → u ≡ p →
            with_at s.active p (s.active p + 1) u ≡ count_guards (with_at s.guard a (Some new)) u 16
        by i j k l e = rw e (i ∙ omega (arith, j, subst (λ b. count_guards (with_at s.guard a (Some new)) p 16 + 0 ≡ count_guards s.guard p 16 + number b) l k))
    counted u (inr ne) = other_at s.active p u (s.active p + 1) ne ∙ h.counted u ∙ by (subst (λ x. count_guards (with_at s.guard a (Some new)) u 16 + number (guards x u) ≡ count_guards s.guard u 16 + number (guards (Some new) u)) free (count_with s.guard u a (Some new) 16 few)) (apart (λ e. ne (sym e)))
      where
        apart : (p ≡ u → ⊥) → (p == u) ≡ false
        apart k = grind (arith, nat_tests)

        by : count_guards (with_at s.guard a (Some new)) u 16 + number (guards None u) ≡ count_guards s.guard u 16 + number (p == u) → (p == u) ≡ false → count_guards s.guard u 16 ≡ count_guards (with_at s.guard a (Some new)) u 16
        by k l = omega (arith, subst (λ b. count_guards (with_at s.guard a (Some new)) u 16 + 0 ≡ count_guards s.guard u 16 + number b) l k)

    odd_active : (u : ℕ) → is_odd (with_at s.seq p (seq_started s p r) u) ≡ true → (u ≡ p) ⊎ (u ≡ p → ⊥) → 0 < with_at s.active p (s.active p + 1) u
    odd_active u e (inl k) = rw k (rw (here_at s.active p (s.active p + 1)) (omega arith))
    odd_active u e (inr ne) = rw (other_at s.active p u (s.active p + 1) ne) (h.odd_active u (sym (ap is_odd (other_at s.seq p u (seq_started s p r) ne)) ∙ e))

-- a mirror is told
pub told_sequences : (s : Sequences) (a m : ℕ) (r : Pages) (q : ℕ) (g : Guarded) → SequenceRules s → s.guard a ≡ Some g → ToldTo s m r g → SequenceRules (sequences_next s a (Kind.Told m r q))
told_sequences s a m r q g h is to = record {
  few = λ k y e. few k y (at_interval s m k _ y e);
  not_above = λ k y e. not_above k y (at_interval s m k _ y e);
  odd_seq = λ k y e. odd_seq k y (at_interval s m k _ y e);
  deferred = λ k y e d. deferred k y d (at_interval s m k _ y e);
  leaving = λ k y e d. leaving k y d (at_interval s m k _ y e);
  met_odd = λ b i e k. met_odd b i k (at_cases s.guard a b _ i e);
  met_now = λ b i e k. filter_same _ _ (λ j. same_overlap i j) (numbers 0 32) ∙ met_now b i k (at_cases s.guard a b _ i e);
  counted = λ u. h.counted u ∙ same_count u;
  odd_active = h.odd_active;
  positive = h.positive;
  guard_below = λ b i e. guard_below b i (at_cases s.guard a b _ i e);
}
  where
    o : Overlapping s g.proc g.span m
    o = overlaps_says s g.proc g.span m to.overlaps_it

    seq : ℕ
    seq = s.seq (interval_proc s m)

    proc_is : (y : Interval) → s.interval m ≡ Some y → interval_proc s m ≡ y.proc
    proc_is y e = ap (λ (x : Option Interval). elim x [ None ↦ 0 | Some i ↦ i.proc ]) e

    few : (k : ℕ) (y : Interval) → ((k ≡ m) × (with_seq seq (s.interval m) ≡ Some y)) ⊎ ((k ≡ m → ⊥) × (s.interval k ≡ Some y)) → k < 32
    few k y (inl e) = omega (arith, e.0, h.few m o.interval o.is)
    few k y (inr e) = h.few k y e.1

    old : (y : Interval) → with_seq seq (s.interval m) ≡ Some y → (z : Interval) × (s.interval m ≡ Some z) × Changed z y seq z.stage
    old y e = seq_changed seq (s.interval m) y e

    seq_is : (y z : Interval) → s.interval m ≡ Some z → Changed z y seq z.stage → y.seq ≡ s.seq y.proc
    seq_is y z e c = c.seq ∙ ap s.seq (proc_is z e ∙ sym c.proc)

    odd_there : (y z : Interval) → s.interval m ≡ Some z → Changed z y seq z.stage → is_odd (s.seq y.proc) ≡ true
    odd_there y z e c = ap (λ i. is_odd (s.seq i)) (c.proc ∙ ap (λ (i : Interval). i.proc) (same_some (s.interval m) z o.interval e o.is) ∙ o.proc) ∙ h.met_odd a g is to.met

    not_above : (k : ℕ) (y : Interval) → ((k ≡ m) × (with_seq seq (s.interval m) ≡ Some y)) ⊎ ((k ≡ m → ⊥) × (s.interval k ≡ Some y)) → y.seq ≤ s.seq y.proc
    not_above k y (inl e) = let z : (z : Interval) × (s.interval m ≡ Some z) × Changed z y seq z.stage = old y e.1 in omega (arith, seq_is y z.0 z.1 z.2)
    not_above k y (inr e) = h.not_above k y e.1

    odd_seq : (k : ℕ) (y : Interval) → ((k ≡ m) × (with_seq seq (s.interval m) ≡ Some y)) ⊎ ((k ≡ m → ⊥) × (s.interval k ≡ Some y)) → is_odd y.seq ≡ true
    odd_seq k y (inl e) = let z : (z : Interval) × (s.interval m ≡ Some z) × Changed z y seq z.stage = old y e.1 in ap is_odd (seq_is y z.0 z.1 z.2) ∙ odd_there y z.0 z.1 z.2
    odd_seq k y (inr e) = h.odd_seq k y e.1

    deferred : (k : ℕ) (y : Interval) → deferred_state y.stage ≡ true → ((k ≡ m) × (with_seq seq (s.interval m) ≡ Some y)) ⊎ ((k ≡ m → ⊥) × (s.interval k ≡ Some y)) → (y.seq ≡ s.seq y.proc) × (is_odd (s.seq y.proc) ≡ true)
    deferred k y d (inl e) = let z : (z : Interval) × (s.interval m ≡ Some z) × Changed z y seq z.stage = old y e.1 in (seq_is y z.0 z.1 z.2, odd_there y z.0 z.1 z.2)
    deferred k y d (inr e) = h.deferred k y e.1 d

    leaving : (k : ℕ) (y : Interval) → is_leaving y.stage ≡ true → ((k ≡ m) × (with_seq seq (s.interval m) ≡ Some y)) ⊎ ((k ≡ m → ⊥) × (s.interval k ≡ Some y)) → is_odd (s.seq y.proc) ≡ true
    leaving k y d (inl e) = let z : (z : Interval) × (s.interval m ≡ Some z) × Changed z y seq z.stage = old y e.1 in odd_there y z.0 z.1 z.2
    leaving k y d (inr e) = h.leaving k y e.1 d

    new : Guarded
    new = record g { told = g.told ++ m ∷ [] }

    same_guard : (i : Guarded) → with_told m (s.guard a) ≡ Some i → new ≡ i
    same_guard i e = is_some_of (sym (ap (with_told m) is) ∙ e)
      where
        is_some_of : Some new ≡ Some i → new ≡ i
        is_some_of k = cc

    met_odd : (b : ℕ) (i : Guarded) → has_met i ≡ true → ((b ≡ a) × (with_told m (s.guard a) ≡ Some i)) ⊎ ((b ≡ a → ⊥) × (s.guard b ≡ Some i)) → is_odd (s.seq i.proc) ≡ true
    met_odd b i k (inl e) = subst (λ j. is_odd (s.seq j.proc) ≡ true) (same_guard i e.1) (h.met_odd a g is to.met)
    met_odd b i k (inr e) = h.met_odd b i e.1 k

    same_overlap : (i : Guarded) (j : ℕ) → overlaps (sequences_next s a (Kind.Told m r q)) i.proc i.span j ≡ overlaps s i.proc i.span j
    same_overlap i j = by (cases_eq j m)
      where
        at_m : (x : Option Interval) → interval_passes (λ y. in_tree_state y.stage && ((y.proc == i.proc) && overlap y.window i.span)) (with_seq seq x) ≡ interval_passes (λ y. in_tree_state y.stage && ((y.proc == i.proc) && overlap y.window i.span)) x
        at_m None = refl
        at_m (Some y) = refl

        by : (j ≡ m) ⊎ (j ≡ m → ⊥) → interval_passes (λ y. in_tree_state y.stage && ((y.proc == i.proc) && overlap y.window i.span)) (with_at s.interval m (with_seq seq (s.interval m)) j) ≡ interval_passes (λ y. in_tree_state y.stage && ((y.proc == i.proc) && overlap y.window i.span)) (s.interval j)
        by (inl e) = rw e (ap (interval_passes (λ y. in_tree_state y.stage && ((y.proc == i.proc) && overlap y.window i.span))) (here_at s.interval m (with_seq seq (s.interval m))) ∙ at_m (s.interval m))
        by (inr ne) = ap (interval_passes (λ y. in_tree_state y.stage && ((y.proc == i.proc) && overlap y.window i.span))) (other_at s.interval m j (with_seq seq (s.interval m)) ne)

    met_now : (b : ℕ) (i : Guarded) → has_met i ≡ true → ((b ≡ a) × (with_told m (s.guard a) ≡ Some i)) ⊎ ((b ≡ a → ⊥) × (s.guard b ≡ Some i)) → overlapping s i.proc i.span ≡ i.met
    met_now b i k (inl e) = subst (λ j. overlapping s j.proc j.span ≡ j.met) (same_guard i e.1) (h.met_now a g is to.met)
    met_now b i k (inr e) = h.met_now b i e.1 k

    guard_below : (b : ℕ) (i : Guarded) → ((b ≡ a) × (with_told m (s.guard a) ≡ Some i)) ⊎ ((b ≡ a → ⊥) × (s.guard b ≡ Some i)) → b < 16
    guard_below b i (inl e) = omega (arith, e.0, h.guard_below a g is)
    guard_below b i (inr e) = h.guard_below b i e.1

    same_count : (u : ℕ) → count_guards s.guard u 16 ≡ count_guards (with_at s.guard a (with_told m (s.guard a))) u 16
    same_count u = by (count_with s.guard u a (with_told m (s.guard a)) 16 (h.guard_below a g is)) (ap (λ x. number (guards x u)) is) (ap (λ x. number (guards (with_told m x) u)) is)
      where
        by : count_guards (with_at s.guard a (with_told m (s.guard a))) u 16 + number (guards (s.guard a) u) ≡ count_guards s.guard u 16 + number (guards (with_told m (s.guard a)) u) → number (guards (s.guard a) u) ≡ number (g.proc == u) → number (guards (with_told m (s.guard a)) u) ≡ number (g.proc == u) →
            count_guards s.guard u 16 ≡ count_guards (with_at s.guard a (with_told m (s.guard a))) u 16
        by k i j = omega (arith, k, i, j)

-- a guard ends
pub end_sequences : (s : Sequences) (a p : ℕ) (r : Pages) (q : ℕ) (g : Guarded) → SequenceRules s → s.guard a ≡ Some g → g.proc ≡ p → SequenceRules (sequences_next s a (Kind.End p r q))
end_sequences s a p r q g h is pr = record {
  few = λ k y e. few k y (ended_changed s p k y e);
  not_above = λ k y e. not_above k y (ended_changed s p k y e);
  odd_seq = λ k y e. odd_seq k y (ended_changed s p k y e);
  deferred = λ k y e d. deferred k y d (ended_changed s p k y e);
  leaving = λ k y e d. leaving k y d (ended_changed s p k y e);
  met_odd = λ b i e m. met_odd b i m (at_cases s.guard a b None i e);
  met_now = λ b i e m. met_now b i m (at_cases s.guard a b None i e);
  counted = λ u. counted u (cases_eq u p);
  odd_active = λ u e. odd_active u e (cases_eq u p);
  positive = λ u. omega (arith, h.positive u, ended_rises s p u);
  guard_below = λ b i e. guard_below b i (at_cases s.guard a b None i e);
}
  where
    seq : ℕ → ℕ
    seq = with_at s.seq p (seq_ended s p)

    few : (k : ℕ) (z : Interval) → (y : Interval) × (s.interval k ≡ Some y) × (((is_last_end s p ≡ true) × (y.proc ≡ p) × Changed y z y.seq (applied_stage y.stage)) ⊎ (((is_last_end s p ≡ false) ⊎ (y.proc ≡ p → ⊥)) × (y ≡ z))) → k < 32
    few k z (y, e, d) = h.few k y e

    not_above : (k : ℕ) (z : Interval) → (y : Interval) × (s.interval k ≡ Some y) × (((is_last_end s p ≡ true) × (y.proc ≡ p) × Changed y z y.seq (applied_stage y.stage)) ⊎ (((is_last_end s p ≡ false) ⊎ (y.proc ≡ p → ⊥)) × (y ≡ z))) → z.seq ≤ with_at s.seq p (seq_ended s p) z.proc
    not_above k z (y, e, inl d) = omega (arith, h.not_above k y e, ended_rises s p y.proc, d.2.seq, ap (with_at s.seq p (seq_ended s p)) d.2.proc)
    not_above k z (y, e, inr d) = subst (λ i. i.seq ≤ with_at s.seq p (seq_ended s p) i.proc) d.1 (omega (arith, h.not_above k y e, ended_rises s p y.proc))

    odd_seq : (k : ℕ) (z : Interval) → (y : Interval) × (s.interval k ≡ Some y) × (((is_last_end s p ≡ true) × (y.proc ≡ p) × Changed y z y.seq (applied_stage y.stage)) ⊎ (((is_last_end s p ≡ false) ⊎ (y.proc ≡ p → ⊥)) × (y ≡ z))) → is_odd z.seq ≡ true
    odd_seq k z (y, e, inl d) = ap is_odd d.2.seq ∙ h.odd_seq k y e
    odd_seq k z (y, e, inr d) = subst (λ i. is_odd i.seq ≡ true) d.1 (h.odd_seq k y e)

    never_deferred : (t : Stage) → deferred_state (applied_stage t) ≡ true → ⊥
    never_deferred InTree k = cc
    never_deferred InsertDeferred k = cc
    never_deferred RemoveDeferred k = cc
    never_deferred Removed k = cc
    never_deferred Out k = cc

    never_leaving : (t : Stage) → is_leaving (applied_stage t) ≡ true → ⊥
    never_leaving InTree k = cc
    never_leaving InsertDeferred k = cc
    never_leaving RemoveDeferred k = cc
    never_leaving Removed k = cc
    never_leaving Out k = cc

    deferred : (k : ℕ) (z : Interval) → deferred_state z.stage ≡ true → (y : Interval) × (s.interval k ≡ Some y) × (((is_last_end s p ≡ true) × (y.proc ≡ p) × Changed y z y.seq (applied_stage y.stage)) ⊎ (((is_last_end s p ≡ false) ⊎ (y.proc ≡ p → ⊥)) × (y ≡ z))) →
        (z.seq ≡ with_at s.seq p (seq_ended s p) z.proc) × (is_odd (with_at s.seq p (seq_ended s p) z.proc) ≡ true)
    deferred k z t (y, e, inl d) = absurd (never_deferred y.stage (sym (ap deferred_state d.2.stage) ∙ t))
    deferred k z t (y, e, inr d) = let i : s.interval k ≡ Some z = e ∙ ap Some d.1 in let o : with_at s.seq p (seq_ended s p) z.proc ≡ s.seq z.proc = ended_else s p z.proc (subst (λ j. (is_last_end s p ≡ false) ⊎ (j.proc ≡ p → ⊥)) d.1 d.0) in
        ((h.deferred k z i t).0 ∙ sym o, ap is_odd o ∙ (h.deferred k z i t).1)

    leaving : (k : ℕ) (z : Interval) → is_leaving z.stage ≡ true → (y : Interval) × (s.interval k ≡ Some y) × (((is_last_end s p ≡ true) × (y.proc ≡ p) × Changed y z y.seq (applied_stage y.stage)) ⊎ (((is_last_end s p ≡ false) ⊎ (y.proc ≡ p → ⊥)) × (y ≡ z))) → is_odd (with_at s.seq p (seq_ended s p) z.proc) ≡ true
    leaving k z t (y, e, inl d) = absurd (never_leaving y.stage (sym (ap is_leaving d.2.stage) ∙ t))
    leaving k z t (y, e, inr d) = ap is_odd (ended_else s p z.proc (subst (λ j. (is_last_end s p ≡ false) ⊎ (j.proc ≡ p → ⊥)) d.1 d.0)) ∙ h.leaving k z (e ∙ ap Some d.1) t

    none_some : (i : Guarded) → None ≡ Some i → ⊥
    none_some i k = cc

    met_odd : (b : ℕ) (i : Guarded) → has_met i ≡ true → ((b ≡ a) × (None ≡ Some i)) ⊎ ((b ≡ a → ⊥) × (s.guard b ≡ Some i)) → is_odd (with_at s.seq p (seq_ended s p) i.proc) ≡ true
    met_odd b i m (inl e) = absurd (none_some i e.1)
    met_odd b i m (inr e) = ap is_odd (ended_else s p i.proc (not_last s h a b p g i e.0 is pr e.1)) ∙ h.met_odd b i e.1 m

    met_now : (b : ℕ) (i : Guarded) → has_met i ≡ true → ((b ≡ a) × (None ≡ Some i)) ⊎ ((b ≡ a → ⊥) × (s.guard b ≡ Some i)) → overlapping (sequences_next s a (Kind.End p r q)) i.proc i.span ≡ i.met
    met_now b i m (inl e) = absurd (none_some i e.1)
    met_now b i m (inr e) = filter_same _ _ (λ j. same j (not_last s h a b p g i e.0 is pr e.1)) (numbers 0 32) ∙ h.met_now b i e.1 m
      where
        at : (x : Option Interval) → i.proc ≡ p → ⊥ → interval_passes (λ y. in_tree_state y.stage && ((y.proc == i.proc) && overlap y.window i.span)) (applied p x) ≡ interval_passes (λ y. in_tree_state y.stage && ((y.proc == i.proc) && overlap y.window i.span)) x
        at x k l = absurd l

        apart : (x : Option Interval) → (i.proc ≡ p → ⊥) → interval_passes (λ y. in_tree_state y.stage && ((y.proc == i.proc) && overlap y.window i.span)) (applied p x) ≡ interval_passes (λ y. in_tree_state y.stage && ((y.proc == i.proc) && overlap y.window i.span)) x
        apart None ne = refl
        apart (Some y) ne = by (y.proc == p) refl
          where
            off : (t u : Bool) (v : Bool) → (y.proc == p) ≡ true → (t && ((y.proc == i.proc) && v)) ≡ (u && ((y.proc == i.proc) && v))
            off t u v k = two (y.proc == i.proc) (λ l. ne (sym (eqb-true y.proc i.proc l) ∙ eqb-true y.proc p k))
              where
                two : (z : Bool) → (z ≡ true → ⊥) → (t && (z && v)) ≡ (u && (z && v))
                two true n = absurd (n refl)
                two false n = grind arith

            by : (z : Bool) → (y.proc == p) ≡ z → interval_passes (λ y. in_tree_state y.stage && ((y.proc == i.proc) && overlap y.window i.span)) (if z then Some (record y { stage = applied_stage y.stage }) else Some y) ≡ (in_tree_state y.stage && ((y.proc == i.proc) && overlap y.window i.span))
            by true k = off (in_tree_state (applied_stage y.stage)) (in_tree_state y.stage) (overlap y.window i.span) k
            by false k = refl

        same : (j : ℕ) → (is_last_end s p ≡ false) ⊎ (i.proc ≡ p → ⊥) → overlaps (sequences_next s a (Kind.End p r q)) i.proc i.span j ≡ overlaps s i.proc i.span j
        same j (inl k) = rw k refl
        same j (inr k) = by (is_last_end s p)
          where
            by : (z : Bool) → interval_passes (λ y. in_tree_state y.stage && ((y.proc == i.proc) && overlap y.window i.span)) (if z then applied p (s.interval j) else s.interval j) ≡ interval_passes (λ y. in_tree_state y.stage && ((y.proc == i.proc) && overlap y.window i.span)) (s.interval j)
            by true = apart (s.interval j) k
            by false = refl

    guard_below : (b : ℕ) (i : Guarded) → ((b ≡ a) × (None ≡ Some i)) ⊎ ((b ≡ a → ⊥) × (s.guard b ≡ Some i)) → b < 16
    guard_below b i (inl e) = absurd (none_some i e.1)
    guard_below b i (inr e) = h.guard_below b i e.1

    counted : (u : ℕ) → (u ≡ p) ⊎ (u ≡ p → ⊥) → with_at s.active p (s.active p - 1) u ≡ count_guards (with_at s.guard a None) u 16
    counted u (inl e) = rw e (here_at s.active p (s.active p - 1) ∙ by (h.counted p) (count_with s.guard p a None 16 (h.guard_below a g is)) (guards_at s.guard a p g is pr))
      where
        by : s.active p ≡ count_guards s.guard p 16 → count_guards (with_at s.guard a None) p 16 + number (guards (s.guard a) p) ≡ count_guards s.guard p 16 + number false → guards (s.guard a) p ≡ true → s.active p - 1 ≡ count_guards (with_at s.guard a None) p 16
        by i j k = omega (arith, i, subst (λ b. count_guards (with_at s.guard a None) p 16 + number b ≡ count_guards s.guard p 16 + number false) k j)
    counted u (inr ne) = other_at s.active p u (s.active p - 1) ne ∙ h.counted u ∙ by (count_with s.guard u a None 16 (h.guard_below a g is)) (ap (λ x. guards x u) is) (apart (λ e. ne (sym e ∙ pr)))
      where
        apart : (g.proc ≡ u → ⊥) → (g.proc == u) ≡ false
        apart k = grind (arith, nat_tests)

        by : count_guards (with_at s.guard a None) u 16 + number (guards (s.guard a) u) ≡ count_guards s.guard u 16 + number false → guards (s.guard a) u ≡ (g.proc == u) → (g.proc == u) ≡ false → count_guards s.guard u 16 ≡ count_guards (with_at s.guard a None) u 16
        by j k l = omega (arith, subst (λ b. count_guards (with_at s.guard a None) u 16 + number b ≡ count_guards s.guard u 16 + number false) (k ∙ l) j)

    odd_active : (u : ℕ) → is_odd (with_at s.seq p (seq_ended s p) u) ≡ true → (u ≡ p) ⊎ (u ≡ p → ⊥) → 0 < with_at s.active p (s.active p - 1) u
    odd_active u e (inl k) = rw k (rw (here_at s.active p (s.active p - 1)) (by (s.active p == 1) refl (is_odd (s.seq p)) refl (h.odd_active p) (ap is_odd (sym (here_at s.seq p (seq_ended s p))) ∙ ap (λ j. is_odd (with_at s.seq p (seq_ended s p) j)) (sym k) ∙ e)))
      where
        by : (x : Bool) → (s.active p == 1) ≡ x → (o : Bool) → is_odd (s.seq p) ≡ o → (is_odd (s.seq p) ≡ true → 0 < s.active p) → is_odd (if x && o then s.seq p + 1 else s.seq p) ≡ true → 0 < s.active p - 1
        by true ex true eo l i = absurd (true_false (is_odd (s.seq p + 1)) i (even_next (s.seq p) eo))
        by true ex false eo l i = absurd (true_false (is_odd (s.seq p)) i eo)
        by false ex o eo l i = more (l i)
          where
            more : 0 < s.active p → 0 < s.active p - 1
            more z = grind (arith, nat_tests)
    odd_active u e (inr ne) = rw (other_at s.active p u (s.active p - 1) ne) (h.odd_active u (sym (ap is_odd (other_at s.seq p u (seq_ended s p) ne)) ∙ e))
