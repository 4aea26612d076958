-- The notifiers go on showing the sequences, whatever the entry.
use Rattle.std.proofs.Common.{◌≡◌, ℕ, ◌+◌, ◌-◌, ◌<◌, ◌≤◌, Bool, true, false, ◌==◌, ◌&&◌, ◌||◌, if◌then◌else◌, Option, Some, None, is_some, List, length, map, refl, sym, ap, subst, ◌∙◌, arith}
use Rattle.std.specs.Prelude.{option_map, slice_index_or, slice_set}
use Rattle.std.proofs.Math.ListN.{get_or-map}
use Rattle.std.proofs.lemmas.List.{length-map}
use Rattle.std.proofs.lemmas.Bool.{not-true}
use Rattle.hm_base.specs.Pages.{Pages}
use Rattle.hm_history.specs.Memory.Words.{with_at}
use Rattle.hm_history.specs.Memory.Sequences.{Sequences, Interval, Stage, InTree, InsertDeferred, RemoveDeferred, Removed, Out, is_odd, interval_passes, applied, applied_stage, intervals_ended, is_last_end, seq_started, seq_ended, seq_inserted, interval_inserted, interval_proc, sequences_next, with_seq, with_stage}
use Rattle.hm_history.specs.declared.Kind.{Kind}
use Rattle.notifier_seq.specs.declared.interval.Interval.{Interval as Kept}
use Rattle.notifier_seq.specs.declared.interval.Stage.{Stage as Position}
use Rattle.notifier_seq.specs.Sequences as one
use Rattle.hm_notifiers.specs.NotifiersValue.{NotifiersValue, of_proc, of_mirror, proc_of, with_proc, with_interval, without_interval, notifiers_next, SameNotifiers, InRange}
use Rattle.hm_notifiers.specs.Shown.{position_of, kept_of, interval_of, NotifiersValueShown, leaves_later, leaves_now, NotifiersValueFit}
use Rattle.hm_notifiers.proofs.Intervals.{mine, not_mine, settled_mine, settled_else}
use Rattle.hm_notifiers.proofs.Changes.{changed, with_kept, interval_changed, bounded_same, bounded_with, bounded_seq, in_range_of, unseen}
use Rattle.hm_notifiers.proofs.Readings.{its, seq_started_shown, moves_on_shown, seq_ended_shown, seq_inserted_shown, interval_inserted_shown}
use Rattle.hm_history.proofs.Updates.{other_at, here_at, with_case, at_set, len_set}

-- an entry that changes nothing here
longer : (n : ℕ) (seq active : ℕ → ℕ) (interval : ℕ → Option Interval) (x : NotifiersValue) → NotifiersValueShown n seq active interval x → NotifiersValueShown (n + 1) seq active interval x
longer n seq active interval x h = record {
  processes = h.processes;
  mirrors = h.mirrors;
  numbers = h.numbers;
  seqs = h.seqs;
  actives = h.actives;
  procs = h.procs;
  in_range = h.in_range;
  intervals = h.intervals;
  bounded = bounded_same n seq active h.bounded;
}

-- other room is not shown
pub same_kept : (n : ℕ) (seq active : ℕ → ℕ) (interval : ℕ → Option Interval) (x y : NotifiersValue) → SameNotifiers x y → NotifiersValueShown n seq active interval x → NotifiersValueShown n seq active interval y
same_kept n seq active interval x y s h = record {
  processes = s.count ∙ h.processes;
  mirrors = ap length s.procs ∙ h.mirrors;
  numbers = λ p l. ap length (s.intervals p) ∙ h.numbers p l;
  seqs = λ p l. s.seqs p ∙ h.seqs p l;
  actives = λ p l. s.actives p ∙ h.actives p l;
  procs = λ m l. ap (λ zs. slice_index_or zs m None) s.procs ∙ h.procs m l;
  in_range = h.in_range;
  intervals = λ p m l k. ap (λ zs. slice_index_or zs m None) (s.intervals p) ∙ h.intervals p m l k;
  bounded = h.bounded;
}

-- one more where a test passes
one_more : (b : Bool) (i : ℕ) → (if b then i + 1 else i) ≤ i + 1
one_more true i = omega arith
one_more false i = omega arith

-- an invalidation begins
started_kept : (n : ℕ) (s : Sequences) (a p q : ℕ) (r : Pages) (x : NotifiersValue) → NotifiersValueShown n s.seq s.active s.interval x
    → NotifiersValueShown (n + 1) (with_at s.seq p (seq_started s p r)) (with_at s.active p (s.active p + 1)) s.interval (with_proc x p (one.started (of_proc x p) r))
started_kept n s a p q r x h = changed n p (one.started (of_proc x p) r) s.seq s.active s.interval _ _ s.interval x x.procs h (record {
  seq_here = λ l. seq_started_shown n s x p r h l ∙ sym (here_at s.seq p (seq_started s p r));
  active_here = λ l. ap (λ i. i + 1) (h.actives p l) ∙ sym (here_at s.active p (s.active p + 1));
  len_here = h.numbers p;
  intervals_here = λ m l k. h.intervals p m l k;
  seq_else = λ q ne. other_at s.seq p q (seq_started s p r) ne;
  active_else = λ q ne. other_at s.active p q (s.active p + 1) ne;
  intervals_else = λ q m ne k. refl;
  in_range = h.in_range;
  next_bounded = bounded_with n s.seq s.active p (seq_started s p r) (s.active p + 1) h.bounded (one_more _ (s.seq p)) (omega arith);
}) h.mirrors h.procs

-- an invalidation ends
ended_here : (b d : Bool) (xs : List (Option Kept)) (p m : ℕ) (o : Option Interval) → b ≡ d → slice_index_or xs m None ≡ interval_of p o → slice_index_or (if b then map one.settled xs else xs) m None ≡ interval_of p (if d then applied p o else o)
ended_here true true xs p m o e h = get_or-map one.settled xs m None ∙ ap one.settled h ∙ settled_mine p o
ended_here false false xs p m o e h = h
ended_here true false xs p m o e h = absurd (let b : ⊥ = cc in b)
ended_here false true xs p m o e h = absurd (let b : ⊥ = cc in b)

ended_else : (d : Bool) (q p : ℕ) (o : Option Interval) → (q ≡ p → ⊥) → interval_of q (if d then applied p o else o) ≡ interval_of q o
ended_else true q p o n = settled_else q p o n
ended_else false q p o n = refl

ended_len : (b : Bool) (xs : List (Option Kept)) (n : ℕ) → length xs ≡ n → length (if b then map one.settled xs else xs) ≡ n
ended_len true xs n e = length-map xs one.settled ∙ e
ended_len false xs n e = e

same_settled : (p : ℕ) (o : Option Interval) → option_map (λ w. w.proc) (applied p o) ≡ option_map (λ w. w.proc) o
same_settled p None = refl
same_settled p (Some y) = elim (y.proc == p) as (λ b. option_map (λ w. w.proc) (if b then Some (record y { stage = applied_stage y.stage }) else Some y) ≡ Some y.proc) [ true ↦ refl | false ↦ refl ]

same_ended : (d : Bool) (p : ℕ) (o : Option Interval) → option_map (λ w. w.proc) (if d then applied p o else o) ≡ option_map (λ w. w.proc) o
same_ended true p o = same_settled p o
same_ended false p o = refl

ended_kept : (n : ℕ) (s : Sequences) (p : ℕ) (x : NotifiersValue) → NotifiersValueShown n s.seq s.active s.interval x
    → NotifiersValueShown (n + 1) (with_at s.seq p (seq_ended s p)) (with_at s.active p (s.active p - 1)) (intervals_ended s p) (with_proc x p (one.ended (of_proc x p)))
ended_kept n s p x h = changed n p (one.ended (of_proc x p)) s.seq s.active s.interval _ _ (intervals_ended s p) x x.procs h (record {
  seq_here = λ l. seq_ended_shown n s x p h l ∙ sym (here_at s.seq p (seq_ended s p));
  active_here = λ l. ap (λ i. i - 1) (h.actives p l) ∙ sym (here_at s.active p (s.active p - 1));
  len_here = λ l. ended_len (one.moves_on (of_proc x p)) (of_proc x p).intervals 32 (h.numbers p l);
  intervals_here = λ m l k. ended_here (one.moves_on (of_proc x p)) (is_last_end s p) (of_proc x p).intervals p m (s.interval m) (moves_on_shown n s x p h l) (h.intervals p m l k);
  seq_else = λ q ne. other_at s.seq p q (seq_ended s p) ne;
  active_else = λ q ne. other_at s.active p q (s.active p - 1) ne;
  intervals_else = λ q m ne k. ended_else (is_last_end s p) q p (s.interval m) ne;
  in_range = in_range_of s.interval (intervals_ended s p) (λ m. same_ended (is_last_end s p) p (s.interval m)) h.in_range;
  next_bounded = bounded_with n s.seq s.active p (seq_ended s p) (s.active p - 1) h.bounded (one_more _ (s.seq p)) (omega arith);
}) h.mirrors (λ m l. h.procs m l ∙ sym (same_ended (is_last_end s p) p (s.interval m)))

-- a mirror is told
told_kept : (n : ℕ) (s : Sequences) (m : ℕ) (x : NotifiersValue) (y : Interval) → NotifiersValueShown n s.seq s.active s.interval x → s.interval m ≡ Some y
    → NotifiersValueShown (n + 1) s.seq s.active (with_at s.interval m (with_seq (s.seq (interval_proc s m)) (s.interval m))) (with_proc x (proc_of x m) (one.told (of_mirror x m) m (of_mirror x m).seq))
told_kept n s m x y h e = subst (λ v. NotifiersValueShown (n + 1) s.seq s.active (with_at s.interval m v) (told_at (proc_of x m) (one.interval_at (of_mirror x m) m) (of_mirror x m).seq)) (sym new)
    (subst (NotifiersValueShown (n + 1) s.seq s.active (with_at s.interval m (Some z))) (sym old) (interval_changed n s.seq s.active s.interval x m y z h e refl))
  where
    z : Interval
    z = record y { seq = s.seq y.proc }

    new : with_seq (s.seq (interval_proc s m)) (s.interval m) ≡ Some z
    new = ap (λ (o : Option Interval). with_seq (s.seq (elim o [ None ↦ 0 | Some y ↦ y.proc ])) o) e

    told_at : ℕ → Option Kept → ℕ → NotifiersValue
    told_at p o q = with_proc x p (record (of_proc x p) { intervals = slice_set (of_proc x p).intervals m (one.with_seq q o) })

    old : told_at (proc_of x m) (one.interval_at (of_mirror x m) m) (of_mirror x m).seq ≡ with_proc x y.proc (with_kept (of_proc x y.proc) m z)
    old =
        let i = its n s x m y h e in
        ap (λ p. told_at p (one.interval_at (of_proc x p) m) (of_proc x p).seq) i.proc ∙ ap (λ o. told_at y.proc o (of_proc x y.proc).seq) i.at ∙ ap (told_at y.proc (Some (kept_of y))) (h.seqs y.proc (h.in_range m y e).1)

-- a mirror's interval goes
gone : NotifiersValue → ℕ → ℕ → Option Kept → NotifiersValue
gone x m p o = if one.interval_passes (λ w. one.in_tree_state w.stage || one.deferred_state w.stage) o
    then with_proc x p (record (of_proc x p) { intervals = slice_set (of_proc x p).intervals m (one.with_stage (if is_odd (of_proc x p).seq && one.interval_passes (λ w. one.in_tree_state w.stage) o then Position.RemoveDeferred else Position.Out) o) })
    else x

without_is : (n : ℕ) (s : Sequences) (m : ℕ) (x : NotifiersValue) (y : Interval) → NotifiersValueShown n s.seq s.active s.interval x → s.interval m ≡ Some y → without_interval x m ≡ gone x m y.proc (Some (kept_of y))
unfolding gone
without_is n s m x y h e =
    let i = its n s x m y h e in
    ap (λ p. gone x m p (one.interval_at (of_proc x p) m)) i.proc ∙ ap (gone x m y.proc) i.at

gone_kept : (n : ℕ) (s : Sequences) (m : ℕ) (x : NotifiersValue) (y z : Interval) → NotifiersValueShown n s.seq s.active s.interval x → s.interval m ≡ Some y → z.proc ≡ y.proc → gone x m y.proc (Some (kept_of y)) ≡ with_proc x y.proc (with_kept (of_proc x y.proc) m z)
    → NotifiersValueShown (n + 1) s.seq s.active (with_at s.interval m (Some z)) (without_interval x m)
gone_kept n s m x y z h e p g = subst (NotifiersValueShown (n + 1) s.seq s.active (with_at s.interval m (Some z))) (sym (without_is n s m x y h e ∙ g)) (interval_changed n s.seq s.active s.interval x m y z h e p)

gone_later : (x : NotifiersValue) (m p : ℕ) (w : Kept) → w.stage ≡ Position.InTree → is_odd (of_proc x p).seq ≡ true → gone x m p (Some w) ≡ with_proc x p (record (of_proc x p) { intervals = slice_set (of_proc x p).intervals m (Some (record w { stage = Position.RemoveDeferred })) })
unfolding gone
gone_later x m p w e o = rw (e, o) refl

gone_now : (x : NotifiersValue) (m p : ℕ) (w : Kept) → w.stage ≡ Position.InTree → is_odd (of_proc x p).seq ≡ false → gone x m p (Some w) ≡ with_proc x p (record (of_proc x p) { intervals = slice_set (of_proc x p).intervals m (Some (record w { stage = Position.Out })) })
unfolding gone
gone_now x m p w e o = rw (e, o) refl

gone_cancelled : (x : NotifiersValue) (m p : ℕ) (w : Kept) (odd : Bool) → w.stage ≡ Position.InsertDeferred → is_odd (of_proc x p).seq ≡ odd → gone x m p (Some w) ≡ with_proc x p (record (of_proc x p) { intervals = slice_set (of_proc x p).intervals m (Some (record w { stage = Position.Out })) })
unfolding gone
gone_cancelled x m p w true e o = rw (e, o) refl
gone_cancelled x m p w false e o = rw (e, o) refl

gone_already : (x : NotifiersValue) (m p : ℕ) (w : Kept) → w.stage ≡ Position.Out → gone x m p (Some w) ≡ x
unfolding gone
gone_already x m p w e = rw e refl

detaching_kept : (n : ℕ) (s : Sequences) (m : ℕ) (x : NotifiersValue) (y : Interval) (t : Stage) → NotifiersValueShown n s.seq s.active s.interval x → s.interval m ≡ Some y → y.stage ≡ t → leaves_later t (is_odd (s.seq y.proc)) ≡ true
    → NotifiersValueShown (n + 1) s.seq s.active (with_at s.interval m (with_stage RemoveDeferred (s.interval m))) (without_interval x m)
detaching_kept n s m x y InTree h e i f =
    subst (λ o. NotifiersValueShown (n + 1) s.seq s.active (with_at s.interval m o) (without_interval x m)) (sym (ap (with_stage RemoveDeferred) e))
    (gone_kept n s m x y (record y { stage = RemoveDeferred }) h e refl (gone_later x m y.proc (kept_of y) (ap position_of i) (ap is_odd (h.seqs y.proc (h.in_range m y e).1) ∙ f)))
detaching_kept n s m x y InsertDeferred h e i f = absurd (let b : ⊥ = cc in b)
detaching_kept n s m x y RemoveDeferred h e i f = absurd (let b : ⊥ = cc in b)
detaching_kept n s m x y Removed h e i f = absurd (let b : ⊥ = cc in b)
detaching_kept n s m x y Out h e i f = absurd (let b : ⊥ = cc in b)

detached_kept : (n : ℕ) (s : Sequences) (m : ℕ) (x : NotifiersValue) (y : Interval) (t : Stage) → NotifiersValueShown n s.seq s.active s.interval x → s.interval m ≡ Some y → y.stage ≡ t → leaves_now t (is_odd (s.seq y.proc)) ≡ true
    → NotifiersValueShown (n + 1) s.seq s.active (with_at s.interval m (with_stage Out (s.interval m))) (without_interval x m)
detached_kept n s m x y t h e i f =
    subst (λ o. NotifiersValueShown (n + 1) s.seq s.active (with_at s.interval m o) (without_interval x m)) (sym (ap (with_stage Out) e)) (by t i f)
  where
    seq : (of_proc x y.proc).seq ≡ s.seq y.proc
    seq = h.seqs y.proc (h.in_range m y e).1

    at_once : gone x m y.proc (Some (kept_of y)) ≡ with_proc x y.proc (with_kept (of_proc x y.proc) m (record y { stage = Out })) → NotifiersValueShown (n + 1) s.seq s.active (with_at s.interval m (Some (record y { stage = Out }))) (without_interval x m)
    at_once g = gone_kept n s m x y (record y { stage = Out }) h e refl g

    already : position_of y.stage ≡ Position.Out → NotifiersValueShown (n + 1) s.seq s.active (with_at s.interval m (Some (record y { stage = Out }))) (without_interval x m)
    already o = subst (NotifiersValueShown (n + 1) s.seq s.active (with_at s.interval m (Some (record y { stage = Out })))) (sym (without_is n s m x y h e ∙ gone_already x m y.proc (kept_of y) o))
        (unseen n s.seq s.active s.interval x m y (record y { stage = Out }) h e refl (ap (λ (t : Position). let w : Kept = record { window = y.window; seq = y.seq; stage = t } in w) (sym o)))

    by : (t : Stage) → y.stage ≡ t → leaves_now t (is_odd (s.seq y.proc)) ≡ true → NotifiersValueShown (n + 1) s.seq s.active (with_at s.interval m (Some (record y { stage = Out }))) (without_interval x m)
    by InTree i f = at_once (gone_now x m y.proc (kept_of y) (ap position_of i) (ap is_odd seq ∙ not-true (is_odd (s.seq y.proc)) f))
    by InsertDeferred i f = at_once (gone_cancelled x m y.proc (kept_of y) (is_odd (of_proc x y.proc).seq) (ap position_of i) refl)
    by RemoveDeferred i f = absurd (let b : ⊥ = cc in b)
    by Removed i f = already (ap position_of i)
    by Out i f = already (ap position_of i)

-- a mirror's interval comes
inserted_position : (b : Bool) → (if b then Position.InsertDeferred else Position.InTree) ≡ position_of (if b then InsertDeferred else InTree)
inserted_position true = refl
inserted_position false = refl

coming : ℕ → Pages → ℕ → Bool → Interval
coming p r q odd = record { proc = p; window = r; seq = q; stage = if odd then InsertDeferred else InTree }

coming_kept : (p : ℕ) (r : Pages) (q v : ℕ) (b d : Bool) → q ≡ v → b ≡ d → (let w : Kept = record { window = r; seq = q; stage = if b then Position.InsertDeferred else Position.InTree } in w) ≡ kept_of (coming p r v d)
unfolding coming
coming_kept p r q v b d e f = rw (e, f, inserted_position d) refl

attached_kept : (n : ℕ) (s : Sequences) (m p : ℕ) (r : Pages) (x : NotifiersValue) → NotifiersValueShown n s.seq s.active s.interval x → m < 32 → p < 32 → s.interval m ≡ None
    → NotifiersValueShown (n + 1) (with_at s.seq p (seq_inserted s p)) s.active (with_at s.interval m (Some (record { proc = p; window = r; seq = interval_inserted s p; stage = if is_odd (s.seq p) then InsertDeferred else InTree }))) (with_interval x m p r)
unfolding coming
attached_kept n s m p r x h l k e =
    changed n p (one.inserted (of_proc x p) m r) s.seq s.active s.interval _ s.active _ x (slice_set x.procs m (Some p)) h (record {
      seq_here = λ o. seq_inserted_shown n s x p h o ∙ sym (here_at s.seq p (seq_inserted s p));
      active_here = h.actives p;
      len_here = λ o. len_set (of_proc x p).intervals m _ 32 (h.numbers p o);
      intervals_here = λ j o i. at_set (λ j. interval_of p (s.interval j)) (of_proc x p).intervals m _ None j (omega (arith, h.numbers p o)) (h.intervals p j o i)
          ∙ with_case (λ j (w : Option Interval). with_at (λ j. interval_of p (s.interval j)) m (Some (record { window = r; seq = one.interval_inserted (of_proc x p); stage = if is_odd (of_proc x p).seq then Position.InsertDeferred else Position.InTree })) j ≡ interval_of p w) s.interval m (Some z) j
          (λ _. here_at (λ j. interval_of p (s.interval j)) m _ ∙ ap Some (coming_kept p r _ _ _ _ (interval_inserted_shown n s x p h o) (ap is_odd (h.seqs p o))) ∙ sym (mine p z refl)) (λ ne. other_at (λ j. interval_of p (s.interval j)) m j _ ne);
      seq_else = λ q ne. other_at s.seq p q (seq_inserted s p) ne;
      active_else = λ q ne. refl;
      intervals_else = λ q j ne i. with_case (λ j (w : Option Interval). interval_of q w ≡ interval_of q (s.interval j)) s.interval m (Some z) j (λ _. not_mine q z (λ d. ne (sym d)) ∙ sym (ap (interval_of q) e)) (λ _. refl);
      in_range = λ j w. with_case (λ j (o : Option Interval). o ≡ Some w → (j < 32) × (w.proc < 32)) s.interval m (Some z) j (λ _ g. (l, omega (arith, k, ap proc_or g))) (λ _ g. h.in_range j w g);
      next_bounded = bounded_seq n s.seq s.active p (seq_inserted s p) h.bounded (one_more _ (s.seq p));
    }) (len_set x.procs m (Some p) 32 h.mirrors) (λ j i. at_set (λ j. option_map (λ (w : Interval). w.proc) (s.interval j)) x.procs m (Some p) None j (omega (arith, h.mirrors)) (h.procs j i)
    ∙ with_case (λ j (w : Option Interval). with_at (λ j. option_map (λ (w : Interval). w.proc) (s.interval j)) m (Some p) j ≡ option_map (λ (w : Interval). w.proc) w) s.interval m (Some z) j (λ _. here_at (λ j. option_map (λ (w : Interval). w.proc) (s.interval j)) m (Some p)) (λ ne. other_at (λ j. option_map (λ (w : Interval). w.proc) (s.interval j)) m j (Some p) ne))
  where
    z : Interval
    z = record { proc = p; window = r; seq = interval_inserted s p; stage = if is_odd (s.seq p) then InsertDeferred else InTree }

    proc_or : Option Interval → ℕ
    proc_or None = 0
    proc_or (Some y) = y.proc

-- an interval that passes a test is there
pub there : {X : Type 0} (test : Interval → Bool) (o : Option Interval) → interval_passes test o ≡ true → ((y : Interval) → o ≡ Some y → test y ≡ true → X) → X
there test None f g = absurd (let b : ⊥ = cc in b)
there test (Some y) f g = g y refl f

pub is_there : {X : Type 0} (o : Option Interval) → is_some o ≡ true → ((y : Interval) → o ≡ Some y → X) → X
is_there None f g = absurd (let b : ⊥ = cc in b)
is_there (Some y) f g = g y refl

pub notifiers_kept : (n : ℕ) (s : Sequences) (a : ℕ) (k : Kind) (x : NotifiersValue) → NotifiersValueShown n s.seq s.active s.interval x → NotifiersValueFit n s k → InRange k
    → NotifiersValueShown (n + 1) (sequences_next s a k).seq (sequences_next s a k).active (sequences_next s a k).interval (notifiers_next k x)
notifiers_kept n s a (Kind.Start p r q) x h f i = started_kept n s a p q r x h
notifiers_kept n s a (Kind.Told m r q) x h f i = is_there (s.interval m) f (λ y e. told_kept n s m x y h e)
notifiers_kept n s a (Kind.End p r q) x h f i = ended_kept n s p x h
notifiers_kept n s a (Kind.Attached m d p r q) x h f i = attached_kept n s m p r x h i.0 i.1 f
notifiers_kept n s a (Kind.Detaching m q) x h f i = there (λ y. leaves_later y.stage (is_odd (s.seq y.proc))) (s.interval m) f (λ y e t. detaching_kept n s m x y y.stage h e refl t)
notifiers_kept n s a (Kind.Detached m) x h f i = there (λ y. leaves_now y.stage (is_odd (s.seq y.proc))) (s.interval m) f (λ y e t. detached_kept n s m x y y.stage h e refl t)
notifiers_kept n s a k x h f i = longer n s.seq s.active s.interval x h
