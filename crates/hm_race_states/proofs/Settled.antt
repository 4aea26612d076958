-- Small sequences as lists.
use Rattle.std.proofs.Common.{◌≡◌, ℕ, Bool, false, Option, None, List, [], ◌∷◌, length, replicate, find, is_some, nat_lt, true, ◌&&◌, if◌then◌else◌, refl, ap, arith}
use Rattle.std.proofs.lemmas.Bool.Decides.{nat_tests}
use Rattle.hm_base.specs.Pages.{Pages}
use Rattle.std.proofs.Math.Path.{fun_ext}
use Rattle.hm_history.specs.Memory.Sequences.{Sequences, is_above, seq_started, some_overlap, sequences_start}
use Rattle.hm_folds.specs.declared.intervals.KeptInterval.{KeptInterval}
use Rattle.hm_folds.proofs.SeqSteps.{same_state, all_alike}
use Rattle.hm_race_states.specs.SeqBy.{seq_by}
use Rattle.hm_race_states.specs.Small.{kept_seqs, settled}
use Rattle.hm_race_states.specs.declared.small.SmallSeqs.{SmallSeqs}
use Rattle.hm_race_laws.specs.Numbers.{small, small_interval}
use Rattle.hm_folds.specs.Kept.{interval_at}
use Rattle.std.specs.Prelude.{slice_index_or}

-- there is a first one to tell if there is one at all
pub any_told : (xs : List ℕ) → is_some (find (is_above None) xs) ≡ nat_lt 0 (length xs)
any_told [] = refl
any_told (x ∷ xs) = grind (arith, nat_tests)

-- an odd sequence stays
pub odd_started : (s : Sequences) (p : ℕ) (r : Pages) (b : Bool) → s.seq p ≡ seq_by b → b ≡ true → 3 ≡ seq_started s p r
odd_started s p r b e h = rw (seq_started, e, h) (by (some_overlap s p r))
  where
    by : (b : Bool) → ◌≡◌ {A = ℕ} 3 (if b && false then 4 else 3)
    by true = refl
    by false = refl

-- before the first entry
pub starts : (xs : List (Option KeptInterval)) → xs ≡ []
    → ◌≡◌ {A = Sequences} (record {
      seq = λ p. seq_by (slice_index_or (replicate 32 false) p false);
      active = λ p. slice_index_or (replicate 32 0) p 0;
      interval = interval_at xs;
      guard = λ a. None;
    }) sequences_start
starts xs e = same_state _ _
    (fun_ext (λ p. ap seq_by (all_alike false 32 p)))
    (fun_ext (λ p. all_alike 0 32 p))
    (fun_ext (λ m. ap (λ (ys : List (Option KeptInterval)). interval_at ys m) e))
    refl

-- a small sequence is small
small_again : (b : Bool) → small (seq_by b) ≡ seq_by b
small_again true = refl
small_again false = refl

-- sequences whose intervals stay are as they are when they are made small again
pub steady_now : (x : SmallSeqs) → ((m : ℕ) → small_interval (kept_seqs x).seq (interval_at x.intervals.items m) ≡ interval_at x.intervals.items m) → settled (kept_seqs x) ≡ kept_seqs x
steady_now x stay = same_state (settled (kept_seqs x)) (kept_seqs x) (fun_ext (λ p. small_again (slice_index_or x.odd p false))) refl (fun_ext stay) refl
