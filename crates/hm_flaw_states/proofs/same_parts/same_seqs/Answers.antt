use Rattle.std.proofs.Common.{◌≡◌, ℕ, true, Option, ap}
use Rattle.hm_history.specs.Memory.Sequences.{Sequences, Interval}
use Rattle.hm_flaw_states.proofs.same_parts.same_seqs.Goals as goal

pub returns-then-not-same_numbers-clause-no : goal.returns-then-not-same_numbers-clause-no
returns-then-not-same_numbers-clause-no c e =
    let h : c.same_numbers.result ≡ true = c.same_numbers.ensures.no (λ p. ap {B = ℕ} (λ (s : Sequences). s.seq p) e) in
    cc

pub returns-then-not-same_counts-clause-no : goal.returns-then-not-same_counts-clause-no
returns-then-not-same_counts-clause-no c e =
    let h : c.same_counts.result ≡ true = c.same_counts.ensures.no (λ p. ap {B = ℕ} (λ (s : Sequences). s.active p) e) in
    cc

pub returns-clause-no : goal.returns-clause-no
returns-clause-no c e = c.same_intervals.ensures.no (λ m. ap {B = Option Interval} (λ (s : Sequences). s.interval m) e)
