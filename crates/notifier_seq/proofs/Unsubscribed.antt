-- A process that has no subscriptions has no interval.
use Rattle.std.proofs.Common.{◌≡◌, ℕ, zero, suc, Option, Some, None, Box, replicate, refl, sym, ap, ◌∙◌, rules}
use Rattle.std.specs.Prelude.{IsSome, slice_index_or}
use Rattle.std.specs.declared.alloc.Global.{Global}
use Rattle.hm_base.specs.Pages.{Pages}
use Rattle.interval_tree.specs.Intervals.{all_ids}
use Rattle.notifier_seq.specs.declared.interval.Interval.{Interval}
use Rattle.notifier_seq.specs.Sequences.{Sequences, interval_at, next_told}
use Rattle.notifier_seq.specs.Kept.{Listed, intervals_in}

none_at : (n m : ℕ) → slice_index_or {A = Option Interval} (replicate n None) m None ≡ None
none_at zero m = refl
none_at (suc n) zero = refl
none_at (suc n) (suc m) = none_at n m

unlisted : (s : Sequences) (o : Option (Box Listed Global)) → s.intervals ≡ intervals_in o → o ≡ None → s.intervals ≡ replicate 32 None
unlisted s o e n = e ∙ ap intervals_in n

pub no_interval_at : (s : Sequences) (o : Option (Box Listed Global)) (m : ℕ) → intervals_in o ≡ s.intervals → o ≡ None → interval_at s m ≡ None
no_interval_at s o m e n = ap (λ xs. slice_index_or xs m None) (unlisted s o (sym e) n) ∙ none_at 32 m

pub nobody_told : (s : Sequences) (o : Option (Box Listed Global)) (r : Pages) (after : Option ℕ) → intervals_in o ≡ s.intervals → o ≡ None → next_told s r after ≡ None
unfolding all_ids
nobody_told s o r None e n = rw (unlisted s o (sym e) n) refl
nobody_told s o r (Some k) e n = rw (unlisted s o (sym e) n) refl

pub no_interval_told : (o : Option Interval) → IsSome o → o ≡ None → ⊥
no_interval_told None s e = absurd (search rules)
no_interval_told (Some x) s e = cc
