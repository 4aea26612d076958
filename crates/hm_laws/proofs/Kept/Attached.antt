-- Sequences and intervals as mirrors come and go.
use Rattle.std.proofs.Common.{◌≡◌, ℕ, ◌+◌, ◌-◌, ◌<◌, ◌≤◌, ◌⊎◌, inl, inr, Bool, true, false, ◌==◌, ◌&&◌, ◌||◌, nat_lt, if◌then◌else◌, not, is_none, Option, Some, None, refl, sym, ap, ◌∙◌, subst, arith}
use Rattle.std.proofs.lemmas.Bool.Decides.{nat_tests}
use Rattle.hm_base.specs.Pages.{Pages, overlap}
use Rattle.hm_base.specs.Program.{Program}
use Rattle.hm_history.specs.Memory.Words.{with_at, numbers}
use Rattle.hm_history.specs.Memory.Plain.{MirrorState}
use Rattle.hm_history.specs.Memory.Sequences.{Sequences, Interval, Guarded, Stage, is_odd, in_tree_state, deferred_state, removed_state, interval_passes, in_tree, interval_proc, overlaps, seq_inserted, interval_inserted, with_stage as with_stage, sequences_next, all_told, sequences_accept}
use Rattle.hm_history.specs.Memory.After.{After}
use Rattle.hm_history.specs.declared.Kind.{Kind}
use Rattle.hm_laws.specs.Past.{Past}
use Rattle.hm_laws.specs.Sound.{is_leaving, SequenceRules, Sound}
use Rattle.hm_laws.specs.Allowed.{next, PlainOk, Allowed}
use Rattle.std.proofs.lemmas.Bool.{cases_eq, and_parts, eqb-true}
use Rattle.hm_history.specs.Memory.Sequences.{InTree, InsertDeferred, RemoveDeferred, Removed, Out}
use Rattle.hm_laws.proofs.Kept.Mirrors.{no_interval}
use Rattle.hm_laws.proofs.State.Invalidations.{odd_next, odd_before, filter_same, Changed, stage_changed, start_says, end_says, ToldTo, told_says}
use Rattle.hm_laws.proofs.Kept.Sequences.{inserted_rises, start_sequences, told_sequences, end_sequences}
use Rattle.hm_history.proofs.Updates.{other_at, here_at, at_cases}
use Rattle.hm_history.proofs.Tests.{true_false}

-- the interval of another stage changes no overlap with a process's spans, where that is so of the stage in the tree
stage_overlap : (p m : ℕ) (r : Pages) (t : Stage) (f : ℕ → Option Interval) → ((y : Interval) → f m ≡ Some y → y.proc ≡ p → in_tree_state t ≡ in_tree_state y.stage) → (j : ℕ) →
    interval_passes (λ x. in_tree_state x.stage && ((x.proc == p) && overlap x.window r)) (with_at f m (with_stage t (f m)) j) ≡ interval_passes (λ x. in_tree_state x.stage && ((x.proc == p) && overlap x.window r)) (f j)
stage_overlap p m r t f h j = by (cases_eq j m)
  where
    test : (a b d o : Bool) → (d ≡ true → a ≡ b) → (a && (d && o)) ≡ (b && (d && o))
    test a b true o e = ap (λ i. i && (true && o)) (e refl)
    test a b false o e = grind arith

    at_m : (x : Option Interval) → ((y : Interval) → x ≡ Some y → y.proc ≡ p → in_tree_state t ≡ in_tree_state y.stage) →
        interval_passes (λ x. in_tree_state x.stage && ((x.proc == p) && overlap x.window r)) (with_stage t x) ≡ interval_passes (λ x. in_tree_state x.stage && ((x.proc == p) && overlap x.window r)) x
    at_m None k = refl
    at_m (Some y) k = test (in_tree_state t) (in_tree_state y.stage) (y.proc == p) (overlap y.window r) (λ e. k y refl (eqb-true y.proc p e))

    by : (j ≡ m) ⊎ (j ≡ m → ⊥) → interval_passes (λ x. in_tree_state x.stage && ((x.proc == p) && overlap x.window r)) (with_at f m (with_stage t (f m)) j) ≡ interval_passes (λ x. in_tree_state x.stage && ((x.proc == p) && overlap x.window r)) (f j)
    by (inl e) = ap (λ k. interval_passes (λ x. in_tree_state x.stage && ((x.proc == p) && overlap x.window r)) (with_at f m (with_stage t (f m)) k)) e ∙ ap (interval_passes (λ x. in_tree_state x.stage && ((x.proc == p) && overlap x.window r))) (here_at f m (with_stage t (f m))) ∙ at_m (f m) h ∙ ap (λ k. interval_passes (λ x. in_tree_state x.stage && ((x.proc == p) && overlap x.window r)) (f k)) (sym e)
    by (inr ne) = ap (interval_passes (λ x. in_tree_state x.stage && ((x.proc == p) && overlap x.window r))) (other_at f m j (with_stage t (f m)) ne)

-- an interval gets another stage, neither deferred nor, but where the sequence is odd, leaving
stage_sequences : (s : Sequences) (m : ℕ) (t : Stage) → SequenceRules s → deferred_state t ≡ false → ((y : Interval) → s.interval m ≡ Some y → is_leaving t ≡ true → is_odd (s.seq y.proc) ≡ true) →
    ((y : Interval) → s.interval m ≡ Some y → is_odd (s.seq y.proc) ≡ true → in_tree_state t ≡ in_tree_state y.stage) → SequenceRules (record s { interval = with_at s.interval m (with_stage t (s.interval m)) })
stage_sequences s m t h nd lv tr = record {
  few = λ k y e. few k y (at_cases s.interval m k _ y e);
  not_above = λ k y e. not_above k y (at_cases s.interval m k _ y e);
  odd_seq = λ k y e. odd_seq k y (at_cases s.interval m k _ y e);
  deferred = λ k y e d. deferred k y d (at_cases s.interval m k _ y e);
  leaving = λ k y e d. leaving k y d (at_cases s.interval m k _ y e);
  met_odd = h.met_odd;
  met_now = λ b g e i. filter_same _ _ (stage_overlap g.proc m g.span t s.interval (λ y k q. tr y k (ap (λ j. is_odd (s.seq j)) q ∙ h.met_odd b g e i))) (numbers 0 32) ∙ h.met_now b g e i;
  counted = h.counted;
  odd_active = h.odd_active;
  positive = h.positive;
  guard_below = h.guard_below;
}
  where
    few : (k : ℕ) (y : Interval) → ((k ≡ m) × (with_stage t (s.interval m) ≡ Some y)) ⊎ ((k ≡ m → ⊥) × (s.interval k ≡ Some y)) → k < 32
    few k y (inl e) = let z : (z : Interval) × (s.interval m ≡ Some z) × Changed z y z.seq t = stage_changed t (s.interval m) y e.1 in omega (arith, e.0, h.few m z.0 z.1)
    few k y (inr e) = h.few k y e.1

    not_above : (k : ℕ) (y : Interval) → ((k ≡ m) × (with_stage t (s.interval m) ≡ Some y)) ⊎ ((k ≡ m → ⊥) × (s.interval k ≡ Some y)) → y.seq ≤ s.seq y.proc
    not_above k y (inl e) = let z : (z : Interval) × (s.interval m ≡ Some z) × Changed z y z.seq t = stage_changed t (s.interval m) y e.1 in omega (arith, z.2.seq, ap s.seq z.2.proc, h.not_above m z.0 z.1)
    not_above k y (inr e) = h.not_above k y e.1

    odd_seq : (k : ℕ) (y : Interval) → ((k ≡ m) × (with_stage t (s.interval m) ≡ Some y)) ⊎ ((k ≡ m → ⊥) × (s.interval k ≡ Some y)) → is_odd y.seq ≡ true
    odd_seq k y (inl e) = let z : (z : Interval) × (s.interval m ≡ Some z) × Changed z y z.seq t = stage_changed t (s.interval m) y e.1 in ap is_odd z.2.seq ∙ h.odd_seq m z.0 z.1
    odd_seq k y (inr e) = h.odd_seq k y e.1

    deferred : (k : ℕ) (y : Interval) → deferred_state y.stage ≡ true → ((k ≡ m) × (with_stage t (s.interval m) ≡ Some y)) ⊎ ((k ≡ m → ⊥) × (s.interval k ≡ Some y)) → (y.seq ≡ s.seq y.proc) × (is_odd (s.seq y.proc) ≡ true)
    deferred k y d (inl e) = let z : (z : Interval) × (s.interval m ≡ Some z) × Changed z y z.seq t = stage_changed t (s.interval m) y e.1 in absurd (true_false (deferred_state t) (sym (ap deferred_state z.2.stage) ∙ d) nd)
    deferred k y d (inr e) = h.deferred k y e.1 d

    leaving : (k : ℕ) (y : Interval) → is_leaving y.stage ≡ true → ((k ≡ m) × (with_stage t (s.interval m) ≡ Some y)) ⊎ ((k ≡ m → ⊥) × (s.interval k ≡ Some y)) → is_odd (s.seq y.proc) ≡ true
    leaving k y d (inl e) = let z : (z : Interval) × (s.interval m ≡ Some z) × Changed z y z.seq t = stage_changed t (s.interval m) y e.1 in ap (λ i. is_odd (s.seq i)) z.2.proc ∙ lv z.0 z.1 (sym (ap is_leaving z.2.stage) ∙ d)
    leaving k y d (inr e) = h.leaving k y e.1 d

-- the conditions of `detaching` and `detached`
detaching_says : (s : Sequences) (a m q : ℕ) (y : Interval) → sequences_accept s a (Kind.Detaching m q) ≡ true → s.interval m ≡ Some y → (is_odd (s.seq y.proc) ≡ true) × (in_tree_state y.stage ≡ true)
detaching_says s a m q y h e = let b : (is_odd (s.seq (interval_proc s m)) ≡ true) × ((in_tree s m && (q == s.seq (interval_proc s m))) ≡ true) = and_parts (is_odd (s.seq (interval_proc s m))) _ h in
    let d : (in_tree s m ≡ true) × ((q == s.seq (interval_proc s m)) ≡ true) = and_parts (in_tree s m) _ b.1 in
    (ap (λ (x : Option Interval). is_odd (s.seq (elim x [ None ↦ 0 | Some i ↦ i.proc ]))) (sym e) ∙ b.0, ap (interval_passes (λ x. in_tree_state x.stage)) (sym e) ∙ d.0)

detached_says : (s : Sequences) (a m : ℕ) (y : Interval) → sequences_accept s a (Kind.Detached m) ≡ true → s.interval m ≡ Some y → is_odd (s.seq y.proc) ≡ true → in_tree_state y.stage ≡ false
detached_says s a m y h e o = by y.stage refl (at (s.interval m) e h)
  where
    at : (x : Option Interval) → x ≡ Some y → (interval_passes (λ z. deferred_state z.stage) x || (interval_passes (λ z. in_tree_state z.stage) x && not (is_odd (s.seq (elim x [ None ↦ 0 | Some i ↦ i.proc ]))) || interval_passes (λ z. removed_state z.stage) x)) ≡ true →
        (deferred_state y.stage || (in_tree_state y.stage && not (is_odd (s.seq y.proc)) || removed_state y.stage)) ≡ true
    at x k l = subst (λ i. (interval_passes (λ z. deferred_state z.stage) i || (interval_passes (λ z. in_tree_state z.stage) i && not (is_odd (s.seq (elim i [ None ↦ 0 | Some i ↦ i.proc ]))) || interval_passes (λ z. removed_state z.stage) i)) ≡ true) k l

    by : (t : Stage) → y.stage ≡ t → (deferred_state y.stage || (in_tree_state y.stage && not (is_odd (s.seq y.proc)) || removed_state y.stage)) ≡ true → in_tree_state y.stage ≡ false
    by InTree i k = absurd (clash (is_odd (s.seq y.proc)) o (subst (λ t. (deferred_state t || (in_tree_state t && not (is_odd (s.seq y.proc)) || removed_state t)) ≡ true) i k))
      where
        clash : (b : Bool) → b ≡ true → (not b || false) ≡ true → ⊥
        clash b i j = grind arith
    by InsertDeferred i k = ap in_tree_state i
    by RemoveDeferred i k = absurd (clash (is_odd (s.seq y.proc)) o (subst (λ t. (deferred_state t || (in_tree_state t && not (is_odd (s.seq y.proc)) || removed_state t)) ≡ true) i k))
      where
        clash : (b : Bool) → b ≡ true → (not b || false) ≡ true → ⊥
        clash b i j = grind arith
    by Removed i k = ap in_tree_state i
    by Out i k = ap in_tree_state i

-- a mirror comes
attach_sequences : (s : Sequences) (a m d p : ℕ) (r : Pages) (q : ℕ) → SequenceRules s → m < 32 → s.interval m ≡ None → SequenceRules (sequences_next s a (Kind.Attached m d p r q))
attach_sequences s a m d p r q h few gone = record {
  few = λ k y e. below k y (at_cases s.interval m k _ y e);
  not_above = λ k y e. not_above k y (at_cases s.interval m k _ y e);
  odd_seq = λ k y e. odd_seq k y (at_cases s.interval m k _ y e);
  deferred = λ k y e t. deferred k y t (at_cases s.interval m k _ y e);
  leaving = λ k y e t. leaving k y t (at_cases s.interval m k _ y e);
  met_odd = λ b g e i. ap is_odd ((inserted_rises s p g.proc).1 (h.met_odd b g e i)) ∙ h.met_odd b g e i;
  met_now = λ b g e i. filter_same _ _ (λ j. same g j (h.met_odd b g e i)) (numbers 0 32) ∙ h.met_now b g e i;
  counted = h.counted;
  odd_active = λ u e. odd_active u e (cases_eq u p);
  positive = λ u. omega (arith, h.positive u, (inserted_rises s p u).0);
  guard_below = h.guard_below;
}
  where
    new : Interval
    new = record { proc = p; window = r; seq = interval_inserted s p; stage = if is_odd (s.seq p) then InsertDeferred else InTree }

    at_p : with_at s.seq p (seq_inserted s p) p ≡ seq_inserted s p
    at_p = here_at s.seq p (seq_inserted s p)

    is_new : (y : Interval) → Some new ≡ Some y → new ≡ y
    is_new y e = cc

    below : (k : ℕ) (y : Interval) → ((k ≡ m) × (Some new ≡ Some y)) ⊎ ((k ≡ m → ⊥) × (s.interval k ≡ Some y)) → k < 32
    below k y (inl e) = omega (arith, e.0, few)
    below k y (inr e) = h.few k y e.1

    bounds : (o b : Bool) (n : ℕ) → (if o then n else if b then n + 1 else (n - 1)) ≤ (if not o && b then n + 1 else n)
    bounds true b n = omega arith
    bounds false true n = omega arith
    bounds false false n = omega arith

    not_above : (k : ℕ) (y : Interval) → ((k ≡ m) × (Some new ≡ Some y)) ⊎ ((k ≡ m → ⊥) × (s.interval k ≡ Some y)) → y.seq ≤ with_at s.seq p (seq_inserted s p) y.proc
    not_above k y (inl e) = subst (λ i. i.seq ≤ with_at s.seq p (seq_inserted s p) i.proc) (is_new y e.1) (rw at_p (bounds (is_odd (s.seq p)) (nat_lt 0 (s.active p)) (s.seq p)))
    not_above k y (inr e) = omega (arith, h.not_above k y e.1, (inserted_rises s p y.proc).0)

    odds : (o b : Bool) → is_odd (s.seq p) ≡ o → is_odd (if o then s.seq p else if b then s.seq p + 1 else (s.seq p - 1)) ≡ true
    odds true b e = e
    odds false true e = odd_next (s.seq p) e
    odds false false e = odd_before (s.seq p) e (h.positive p)

    odd_seq : (k : ℕ) (y : Interval) → ((k ≡ m) × (Some new ≡ Some y)) ⊎ ((k ≡ m → ⊥) × (s.interval k ≡ Some y)) → is_odd y.seq ≡ true
    odd_seq k y (inl e) = subst (λ i. is_odd i.seq ≡ true) (is_new y e.1) (odds (is_odd (s.seq p)) (nat_lt 0 (s.active p)) refl)
    odd_seq k y (inr e) = h.odd_seq k y e.1

    waits : (o b : Bool) → is_odd (s.seq p) ≡ o → deferred_state (if o then InsertDeferred else InTree) ≡ true → ((if o then s.seq p else if b then s.seq p + 1 else (s.seq p - 1)) ≡ (if not o && b then s.seq p + 1 else s.seq p)) × (is_odd (if not o && b then s.seq p + 1 else s.seq p) ≡ true)
    waits true b e k = (refl, e)
    waits false b e k = cc

    deferred : (k : ℕ) (y : Interval) → deferred_state y.stage ≡ true → ((k ≡ m) × (Some new ≡ Some y)) ⊎ ((k ≡ m → ⊥) × (s.interval k ≡ Some y)) → (y.seq ≡ with_at s.seq p (seq_inserted s p) y.proc) × (is_odd (with_at s.seq p (seq_inserted s p) y.proc) ≡ true)
    deferred k y t (inl e) = subst (λ i. (i.seq ≡ with_at s.seq p (seq_inserted s p) i.proc) × (is_odd (with_at s.seq p (seq_inserted s p) i.proc) ≡ true)) (is_new y e.1) (rw at_p (waits (is_odd (s.seq p)) (nat_lt 0 (s.active p)) refl (ap (λ (i : Interval). deferred_state i.stage) (is_new y e.1) ∙ t)))
    deferred k y t (inr e) = let o : with_at s.seq p (seq_inserted s p) y.proc ≡ s.seq y.proc = (inserted_rises s p y.proc).1 (h.deferred k y e.1 t).1 in ((h.deferred k y e.1 t).0 ∙ sym o, ap is_odd o ∙ (h.deferred k y e.1 t).1)

    stays : (o : Bool) → is_leaving (if o then InsertDeferred else InTree) ≡ true → ⊥
    stays true k = cc
    stays false k = cc

    leaving : (k : ℕ) (y : Interval) → is_leaving y.stage ≡ true → ((k ≡ m) × (Some new ≡ Some y)) ⊎ ((k ≡ m → ⊥) × (s.interval k ≡ Some y)) → is_odd (with_at s.seq p (seq_inserted s p) y.proc) ≡ true
    leaving k y t (inl e) = absurd (stays (is_odd (s.seq p)) (ap (λ (i : Interval). is_leaving i.stage) (is_new y e.1) ∙ t))
    leaving k y t (inr e) = ap is_odd ((inserted_rises s p y.proc).1 (h.leaving k y e.1 t)) ∙ h.leaving k y e.1 t

    odd_active : (u : ℕ) → is_odd (with_at s.seq p (seq_inserted s p) u) ≡ true → (u ≡ p) ⊎ (u ≡ p → ⊥) → 0 < s.active u
    odd_active u e (inl k) = rw k (by (is_odd (s.seq p)) refl (nat_lt 0 (s.active p)) refl (ap is_odd (sym at_p) ∙ ap (λ j. is_odd (with_at s.seq p (seq_inserted s p) j)) (sym k) ∙ e))
      where
        by : (o : Bool) → is_odd (s.seq p) ≡ o → (b : Bool) → nat_lt 0 (s.active p) ≡ b → is_odd (if not o && b then s.seq p + 1 else s.seq p) ≡ true → 0 < s.active p
        by true eo b eb i = h.odd_active p eo
        by false eo true eb i = grind (arith, nat_tests)
        by false eo false eb i = absurd (true_false (is_odd (s.seq p)) i eo)
    odd_active u e (inr ne) = h.odd_active u (sym (ap is_odd (other_at s.seq p u (seq_inserted s p) ne)) ∙ e)

    same : (g : Guarded) (j : ℕ) → is_odd (s.seq g.proc) ≡ true → overlaps (sequences_next s a (Kind.Attached m d p r q)) g.proc g.span j ≡ overlaps s g.proc g.span j
    same g j o = by (cases_eq j m)
      where
        outside : (b : Bool) → is_odd (s.seq p) ≡ b → (x : Bool) → (p == g.proc) ≡ x → (in_tree_state (if b then InsertDeferred else InTree) && (x && overlap r g.span)) ≡ false
        outside true eb x ex = refl
        outside false eb false ex = refl
        outside false eb true ex = absurd (true_false (is_odd (s.seq p)) (ap (λ i. is_odd (s.seq i)) (eqb-true p g.proc ex) ∙ o) eb)

        by : (j ≡ m) ⊎ (j ≡ m → ⊥) → interval_passes (λ x. in_tree_state x.stage && ((x.proc == g.proc) && overlap x.window g.span)) (with_at s.interval m (Some new) j) ≡ interval_passes (λ x. in_tree_state x.stage && ((x.proc == g.proc) && overlap x.window g.span)) (s.interval j)
        by (inl e) = ap (λ k. interval_passes (λ x. in_tree_state x.stage && ((x.proc == g.proc) && overlap x.window g.span)) (with_at s.interval m (Some new) k)) e ∙ ap (interval_passes (λ x. in_tree_state x.stage && ((x.proc == g.proc) && overlap x.window g.span))) (here_at s.interval m (Some new))
            ∙ outside (is_odd (s.seq p)) refl (p == g.proc) refl ∙ ap (interval_passes (λ x. in_tree_state x.stage && ((x.proc == g.proc) && overlap x.window g.span))) (sym gone) ∙ ap (λ k. interval_passes (λ x. in_tree_state x.stage && ((x.proc == g.proc) && overlap x.window g.span)) (s.interval k)) (sym e)
        by (inr ne) = ap (interval_passes (λ x. in_tree_state x.stage && ((x.proc == g.proc) && overlap x.window g.span))) (other_at s.interval m j (Some new) ne)

pub new_mirror : (c : Program) (s : After) (t : Past) (a m d p : ℕ) (r : Pages) (q : ℕ) → Sound c s t → PlainOk s (Kind.Attached m d p r q) → (s.plain.mirrors m ≡ None) × (s.sequences.interval m ≡ None)
new_mirror c s t a m d p r q so ok = (was, no_interval s.plain.mirrors s.sequences.interval s.places.device so.mirrors m was)
  where
    was : s.plain.mirrors m ≡ None
    was = by (s.plain.mirrors m) refl (and_parts (s.plain.there p) (is_none (s.plain.mirrors m)) ok).1
      where
        by : (x : Option MirrorState) → s.plain.mirrors m ≡ x → is_none x ≡ true → s.plain.mirrors m ≡ None
        by None e h = e
        by (Some x) e h = cc

pub sequences_kept : (c : Program) (s : After) (t : Past) (a : ℕ) → Sound c s t → (k : Kind) → Allowed c s t a k → SequenceRules (next s a k).sequences
sequences_kept c s t a so (Kind.Start p r q) ok = start_sequences s.sequences a p r q so.sequences ok.0 (start_says s.sequences a p r q ok.1)
sequences_kept c s t a so (Kind.Told m r q) ok = let g : (g : Guarded) × (s.sequences.guard a ≡ Some g) × ToldTo s.sequences m r g = told_says s.sequences a m r q ok in told_sequences s.sequences a m r q g.0 so.sequences g.1 g.2
sequences_kept c s t a so (Kind.End p r q) ok = let g : (g : Guarded) × (s.sequences.guard a ≡ Some g) × (g.proc ≡ p) × (g.span ≡ r) × (all_told g ≡ true) = end_says s.sequences a p r q ok in end_sequences s.sequences a p r q g.0 so.sequences g.1 g.2
sequences_kept c s t a so (Kind.Attached m d p r q) ok = attach_sequences s.sequences a m d p r q so.sequences ok.0 (new_mirror c s t a m d p r q so ok.1).1
sequences_kept c s t a so (Kind.Detaching m q) ok = stage_sequences s.sequences m RemoveDeferred so.sequences refl (λ y e l. (detaching_says s.sequences a m q y ok.1 e).0) (λ y e o. sym (detaching_says s.sequences a m q y ok.1 e).1)
sequences_kept c s t a so (Kind.Detached m) ok = stage_sequences s.sequences m Out so.sequences refl (λ y e l. cc) (λ y e o. sym (detached_says s.sequences a m y ok.1 e o))
sequences_kept c s t a so k ok = so.sequences
