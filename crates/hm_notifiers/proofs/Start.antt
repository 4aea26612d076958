-- At the start.
use Rattle.std.proofs.Common.{◌≡◌, ℕ, ◌<◌, None, length, refl, ap, ◌∙◌, arith}
use Rattle.std.proofs.lemmas.List.{length-replicate, get_or-replicate}
use Rattle.hm_history.specs.Memory.Sequences.{sequences_start}
use Rattle.notifier_seq.specs.Sequences as one
use Rattle.hm_notifiers.specs.NotifiersValue.{all_start, notifiers_start, of_proc, nothing}
use Rattle.hm_notifiers.specs.Shown.{NotifiersValueShown}

pub length-all_start : length all_start ≡ 32
unfolding all_start
length-all_start = length-replicate 32 one.sequences_start

at_start : (p : ℕ) → p < 32 → of_proc notifiers_start p ≡ one.sequences_start
unfolding all_start
at_start p l = get_or-replicate 32 p one.sequences_start nothing l

none_at : (m : ℕ) → m < 32 → one.interval_at one.sequences_start m ≡ None
none_at m l = get_or-replicate 32 m None None l

pub none_start : (p m : ℕ) → p < 32 → m < 32 → one.interval_at (of_proc notifiers_start p) m ≡ None
none_start p m l k = ap (λ (y : one.Sequences). one.interval_at y m) (at_start p l) ∙ none_at m k

-- the first state is shown
pub starts : NotifiersValueShown 0 sequences_start.seq sequences_start.active sequences_start.interval notifiers_start
starts = record {
  processes = length-all_start;
  mirrors = refl;
  numbers = λ p l. ap (λ (y : one.Sequences). length y.intervals) (at_start p l);
  seqs = λ p l. ap (λ (y : one.Sequences). y.seq) (at_start p l);
  actives = λ p l. ap (λ (y : one.Sequences). y.active) (at_start p l);
  procs = λ m l. get_or-replicate 32 m None None l;
  in_range = λ m y e. absurd (let b : ⊥ = cc in b);
  intervals = λ p m l k. none_start p m l k;
  bounded = record { low = λ p. omega arith; few = λ p. omega arith };
}
