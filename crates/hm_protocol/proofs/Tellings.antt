-- A mirror that was told of an invalidation under way: both sequences are what it was told, until the invalidation ends.
use Rattle.std.proofs.Common.{◌≡◌, ℕ, ◌⊎◌, inl, inr, Bool, true, false, ◌==◌, ◌&&◌, ◌||◌, not, Option, Some, None, refl, sym, ap, ◌∙◌, subst, arith}
use Rattle.std.specs.Prelude.{if◌then◌else◌, [], ◌∷◌, ◌++◌, nat_lt, length}
use Rattle.std.specs.List.{list_all}
use Rattle.std.proofs.lemmas.Bool.{cases_eq, false≢true, eqb-true, and_parts}
use Rattle.std.proofs.lemmas.Bool.Decides.{nat_tests}
use Rattle.hm_base.specs.Pages.{Pages}
use Rattle.hm_history.specs.Memory.Words.{with_at}
use Rattle.hm_history.specs.Memory.Sequences.{Sequences, Interval, Guarded, Stage, is_odd, in_tree_state, deferred_state, removed_state}
use Rattle.hm_history.specs.Memory.Sequences.{interval_passes, interval_proc, interval_seq, overlaps}
use Rattle.hm_history.specs.Memory.Sequences.{is_last_end, all_told, applied, applied_stage, intervals_ended, with_seq, with_stage, with_told, guard_passes}
use Rattle.hm_history.specs.Memory.Sequences.{same_span, is_next_told, sequences_next, sequences_accept}
use Rattle.hm_history.specs.declared.Kind.{Kind}
use Rattle.hm_history.proofs.Updates.{other_at, here_at}
use Rattle.hm_laws.specs.Sound.{has_met, SequenceRules}
use Rattle.hm_laws.proofs.State.Invalidations.{ToldTo, told_says, Overlapping, overlaps_says, start_says, end_says}
use Rattle.hm_laws.proofs.Kept.Sequences.{started_rises, inserted_rises, ended_else, not_last}

-- in a guard of this actor, which is under way, the mirror was told this sequence
pub record Tells (s : Sequences) (t m q : ℕ) : Type 0 where
  pub guard : Guarded
  pub is : s.guard t ≡ Some guard
  pub met : has_met guard ≡ true
  pub interval : Interval
  pub there : s.interval m ≡ Some interval
  pub tree : in_tree_state interval.stage ≡ true
  pub proc : interval.proc ≡ guard.proc
  pub seq : s.seq guard.proc ≡ q
  pub same : interval.seq ≡ q

-- the sequence of the mirror's process is that too, and odd
pub is_process : (s : Sequences) (t m q : ℕ) (x : Tells s t m q) → s.seq (interval_proc s m) ≡ q
is_process s t m q x = ap (λ (o : Option Interval). s.seq (elim o [ None ↦ 0 | Some y ↦ y.proc ])) x.there ∙ (ap s.seq x.proc ∙ x.seq)

pub is_interval : (s : Sequences) (t m q : ℕ) (x : Tells s t m q) → interval_seq s m ≡ q
is_interval s t m q x = ap (λ (o : Option Interval). elim o as (λ o. ℕ) [ None ↦ 0 | Some y ↦ y.seq ]) x.there ∙ x.same

odd_now : (s : Sequences) (t m q : ℕ) → SequenceRules s → (x : Tells s t m q) → is_odd (s.seq x.guard.proc) ≡ true
odd_now s t m q h x = h.met_odd t x.guard x.is x.met

-- the same with another guard, sequences and intervals
moved : (s u : Sequences) (t m q : ℕ) (x : Tells s t m q) → u.guard t ≡ s.guard t → u.seq x.guard.proc ≡ s.seq x.guard.proc
    → u.interval m ≡ s.interval m → Tells u t m q
moved s u t m q x g e i = record {
  guard = x.guard;
  is = g ∙ x.is;
  met = x.met;
  interval = x.interval;
  there = i ∙ x.there;
  tree = x.tree;
  proc = x.proc;
  seq = e ∙ x.seq;
  same = x.same;
}

-- the sequence that the interval gets
given_seq : (s : Sequences) (m : ℕ) (y : Interval) → s.interval m ≡ Some y
    → with_seq (s.seq (interval_proc s m)) (s.interval m) ≡ Some (record y { seq = s.seq y.proc })
given_seq s m y e = ap (λ (o : Option Interval). with_seq (s.seq (elim o [ None ↦ 0 | Some z ↦ z.proc ])) o) e

-- a mirror that is told was told that
pub told_now : (s : Sequences) (a m : ℕ) (r : Pages) (q : ℕ) → sequences_accept s a (Kind.Told m r q) ≡ true
    → q ≡ s.seq (interval_proc s m) → Tells (sequences_next s a (Kind.Told m r q)) a m q
told_now s a m r q h e = by (told_says s a m r q h)
  where
    by : (g : Guarded) × (s.guard a ≡ Some g) × ToldTo s m r g → Tells (sequences_next s a (Kind.Told m r q)) a m q
    by (g, is, to) = let o : Overlapping s g.proc g.span m = overlaps_says s g.proc g.span m to.overlaps_it in
        let p : (interval_proc s m ≡ g.proc) = ap (λ (o : Option Interval). elim o as (λ o. ℕ) [ None ↦ 0 | Some y ↦ y.proc ]) o.is ∙ o.proc in
        record {
          guard = record g { told = g.told ++ m ∷ [] };
          is = here_at s.guard a (with_told m (s.guard a)) ∙ ap (with_told m) is;
          met = to.met;
          interval = record o.interval { seq = s.seq o.interval.proc };
          there = here_at s.interval m (with_seq (s.seq (interval_proc s m)) (s.interval m)) ∙ given_seq s m o.interval o.is;
          tree = o.tree;
          proc = o.proc;
          seq = ap s.seq (sym p) ∙ sym e;
          same = ap s.seq o.proc ∙ (ap s.seq (sym p) ∙ sym e);
        }

-- and it is the sequence of the process
pub told_seq : (s : Sequences) (a m : ℕ) (r : Pages) (q : ℕ) → sequences_accept s a (Kind.Told m r q) ≡ true
    → q ≡ s.seq (interval_proc s m)
told_seq s a m r q h = by (s.guard a) h
  where
    by : (x : Option Guarded) → guard_passes (λ g. same_span g.span r && (nat_lt 0 (length g.met) && (is_next_told s g m && (q == s.seq g.proc)))) x ≡ true
        → q ≡ s.seq (interval_proc s m)
    by None k = cc
    by (Some g) k = let d : ((nat_lt 0 (length g.met) && (is_next_told s g m && (q == s.seq g.proc))) ≡ true) = (and_parts (same_span g.span r) _ k).1 in
        let i : (is_next_told s g m ≡ true) × ((q == s.seq g.proc) ≡ true) = and_parts (is_next_told s g m) _ (and_parts (nat_lt 0 (length g.met)) _ d).1 in
        let o : Overlapping s g.proc g.span m = overlaps_says s g.proc g.span m
        (and_parts (overlaps s g.proc g.span m) _ (and_parts (list_all (λ k. nat_lt k m) g.told) _ i.0).1).0 in
        eqb-true q (s.seq g.proc) i.1
        ∙ sym (ap s.seq (ap (λ (o : Option Interval). elim o as (λ o. ℕ) [ None ↦ 0 | Some y ↦ y.proc ]) o.is ∙ o.proc))

-- ---- entries while it goes on

start_kept : (s : Sequences) (a p : ℕ) (r : Pages) (z t m q : ℕ) → SequenceRules s → s.guard a ≡ None → Tells s t m q
    → Tells (sequences_next s a (Kind.Start p r z)) t m q
start_kept s a p r z t m q h free x = moved s (sequences_next s a (Kind.Start p r z)) t m q x
    (other_at s.guard a t _ (λ e. cc)) ((started_rises s p r x.guard.proc).1 (odd_now s t m q h x)) refl

attach_kept : (s : Sequences) (a n d p : ℕ) (r : Pages) (z t m q : ℕ) → SequenceRules s → s.interval n ≡ None → Tells s t m q
    → Tells (sequences_next s a (Kind.Attached n d p r z)) t m q
attach_kept s a n d p r z t m q h free x = moved s (sequences_next s a (Kind.Attached n d p r z)) t m q x refl
    ((inserted_rises s p x.guard.proc).1 (odd_now s t m q h x)) (other_at s.interval n m _ (λ e. cc))

told_kept : (s : Sequences) (a n : ℕ) (r : Pages) (z t m q : ℕ) → Tells s t m q
    → Tells (sequences_next s a (Kind.Told n r z)) t m q
told_kept s a n r z t m q x = by (guard_is (cases_eq t a)) (interval_is (cases_eq m n))
  where
    guard_is : (t ≡ a) ⊎ (t ≡ a → ⊥) → (g : Guarded) × (with_at s.guard a (with_told n (s.guard a)) t ≡ Some g) × (g.proc ≡ x.guard.proc) × (has_met g ≡ true)
    guard_is (inl e) = (
      record x.guard { told = x.guard.told ++ n ∷ [] },
      ap (with_at s.guard a (with_told n (s.guard a))) e ∙ (here_at s.guard a (with_told n (s.guard a)) ∙ ap (with_told n) (ap s.guard (sym e) ∙ x.is)),
      refl,
      x.met,
    )
    guard_is (inr ne) = (x.guard, other_at s.guard a t (with_told n (s.guard a)) ne ∙ x.is, refl, x.met)

    interval_is : (m ≡ n) ⊎ (m ≡ n → ⊥) → (y : Interval) × (with_at s.interval n (with_seq (s.seq (interval_proc s n)) (s.interval n)) m ≡ Some y)
        × (in_tree_state y.stage ≡ true) × (y.proc ≡ x.guard.proc) × (y.seq ≡ q)
    interval_is (inl e) = (
      record x.interval { seq = s.seq x.interval.proc },
      ap (with_at s.interval n (with_seq (s.seq (interval_proc s n)) (s.interval n))) e
          ∙ (here_at s.interval n (with_seq (s.seq (interval_proc s n)) (s.interval n)) ∙ given_seq s n x.interval (ap s.interval (sym e) ∙ x.there)),
      x.tree,
      x.proc,
      ap s.seq x.proc ∙ x.seq,
    )
    interval_is (inr ne) = (x.interval, other_at s.interval n m (with_seq (s.seq (interval_proc s n)) (s.interval n)) ne ∙ x.there, x.tree, x.proc, x.same)

    by : (g : Guarded) × (with_at s.guard a (with_told n (s.guard a)) t ≡ Some g) × (g.proc ≡ x.guard.proc) × (has_met g ≡ true)
        → (y : Interval) × (with_at s.interval n (with_seq (s.seq (interval_proc s n)) (s.interval n)) m ≡ Some y)
        × (in_tree_state y.stage ≡ true) × (y.proc ≡ x.guard.proc) × (y.seq ≡ q) → Tells (sequences_next s a (Kind.Told n r z)) t m q
    by (g, is, p, met) (y, there, tree, proc, same) = record {
      guard = g;
      is = is;
      met = met;
      interval = y;
      there = there;
      tree = tree;
      proc = proc ∙ sym p;
      seq = ap s.seq p ∙ x.seq;
      same = same;
    }

end_kept : (s : Sequences) (a p : ℕ) (r : Pages) (z t m q : ℕ) → SequenceRules s → sequences_accept s a (Kind.End p r z) ≡ true
    → (t ≡ a → ⊥) → Tells s t m q → Tells (sequences_next s a (Kind.End p r z)) t m q
end_kept s a p r z t m q h acc ne x = by (end_says s a p r z acc)
  where
    still : (is_last_end s p ≡ false) ⊎ (x.guard.proc ≡ p → ⊥) → intervals_ended s p m ≡ s.interval m
    still (inl e) = ap (λ b. if b then applied p (s.interval m) else s.interval m) e
    still (inr n) = by_bool (is_last_end s p)
      where
        apart : (x.interval.proc == p) ≡ false
        apart = grind (arith, nat_tests, n, x.proc)

        by_bool : (b : Bool) → (if b then applied p (s.interval m) else s.interval m) ≡ s.interval m
        by_bool false = refl
        by_bool true = ap (applied p) x.there
            ∙ (ap (λ b. if b then Some (record x.interval { stage = applied_stage x.interval.stage }) else Some x.interval) apart ∙ sym x.there)

    by : (g : Guarded) × (s.guard a ≡ Some g) × (g.proc ≡ p) × (g.span ≡ r) × (all_told g ≡ true) → Tells (sequences_next s a (Kind.End p r z)) t m q
    by (g, is, pr, sp, all) = let not_the_last : (is_last_end s p ≡ false) ⊎ (x.guard.proc ≡ p → ⊥) = not_last s h a t p g x.guard ne is pr x.is in
        moved s (sequences_next s a (Kind.End p r z)) t m q x (other_at s.guard a t None ne)
        (ended_else s p x.guard.proc not_the_last) (still not_the_last)

detaching_kept : (s : Sequences) (a n z t m q : ℕ) → Tells s t m q → Tells (sequences_next s a (Kind.Detaching n z)) t m q
detaching_kept s a n z t m q x = by (cases_eq m n)
  where
    by : (m ≡ n) ⊎ (m ≡ n → ⊥) → Tells (sequences_next s a (Kind.Detaching n z)) t m q
    by (inr ne) = moved s (sequences_next s a (Kind.Detaching n z)) t m q x refl refl (other_at s.interval n m _ ne)
    by (inl e) = record {
      guard = x.guard;
      is = x.is;
      met = x.met;
      interval = record x.interval { stage = Stage.RemoveDeferred };
      there = ap (with_at s.interval n (with_stage Stage.RemoveDeferred (s.interval n))) e
          ∙ (here_at s.interval n (with_stage Stage.RemoveDeferred (s.interval n)) ∙ ap (with_stage Stage.RemoveDeferred) (ap s.interval (sym e) ∙ x.there));
      tree = refl;
      proc = x.proc;
      seq = x.seq;
      same = x.same;
    }

-- no mirror is removed while it is told
pub not_detached : (s : Sequences) (a t m q : ℕ) → SequenceRules s → sequences_accept s a (Kind.Detached m) ≡ true → Tells s t m q → ⊥
not_detached s a t m q h acc x = by_stage x.interval.stage x.tree
    (subst (λ (o : Option Interval). (interval_passes (λ x. deferred_state x.stage) o
    || ((interval_passes (λ x. in_tree_state x.stage) o && not (is_odd (s.seq (elim o [ None ↦ 0 | Some y ↦ y.proc ]))))
    || interval_passes (λ x. removed_state x.stage) o)) ≡ true) x.there acc)
  where
    odd : is_odd (s.seq x.interval.proc) ≡ true
    odd = ap (λ p. is_odd (s.seq p)) x.proc ∙ odd_now s t m q h x

    no_way : (b : Bool) → b ≡ true → (not b || false) ≡ true → ⊥
    no_way true e k = absurd (false≢true k)
    no_way false e k = absurd (false≢true e)

    by_stage : (g : Stage) → in_tree_state g ≡ true
        → (deferred_state g || ((in_tree_state g && not (is_odd (s.seq x.interval.proc))) || removed_state g)) ≡ true → ⊥
    by_stage Stage.InTree i k = no_way (is_odd (s.seq x.interval.proc)) odd k
    by_stage Stage.RemoveDeferred i k = no_way (is_odd (s.seq x.interval.proc)) odd k
    by_stage Stage.InsertDeferred i k = absurd (false≢true i)
    by_stage Stage.Removed i k = absurd (false≢true i)
    by_stage Stage.Out i k = absurd (false≢true i)

detached_kept : (s : Sequences) (a n t m q : ℕ) → SequenceRules s → sequences_accept s a (Kind.Detached n) ≡ true → Tells s t m q
    → Tells (sequences_next s a (Kind.Detached n)) t m q
detached_kept s a n t m q h acc x = moved s (sequences_next s a (Kind.Detached n)) t m q x refl refl
    (other_at s.interval n m _ (λ e. not_detached s a t m q h (subst (λ n. sequences_accept s a (Kind.Detached n) ≡ true) (sym e) acc) x))

-- the entry ends a guard
abbrev pub is_end : Kind → Bool
is_end (Kind.End p r q) = true
is_end k = false

-- as long as the guard goes on
pub tells_kept : (s : Sequences) (a : ℕ) (j : Kind) (t m q : ℕ) → SequenceRules s → sequences_accept s a j ≡ true
    → ((n d p : ℕ) (r : Pages) (z : ℕ) → j ≡ Kind.Attached n d p r z → s.interval n ≡ None)
    → (is_end j ≡ true → t ≡ a → ⊥) → Tells s t m q → Tells (sequences_next s a j) t m q
tells_kept s a (Kind.Start p r z) t m q h acc free ne x = start_kept s a p r z t m q h (start_says s a p r z acc) x
tells_kept s a (Kind.Told n r z) t m q h acc free ne x = told_kept s a n r z t m q x
tells_kept s a (Kind.End p r z) t m q h acc free ne x = end_kept s a p r z t m q h acc (ne refl) x
tells_kept s a (Kind.Attached n d p r z) t m q h acc free ne x = attach_kept s a n d p r z t m q h (free n d p r z refl) x
tells_kept s a (Kind.Detaching n z) t m q h acc free ne x = detaching_kept s a n z t m q x
tells_kept s a (Kind.Detached n) t m q h acc free ne x = detached_kept s a n t m q h acc x
tells_kept s a j t m q h acc free ne x = x
