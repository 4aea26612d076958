-- What a state with other sequences answers as the one that it was made of, and what is due in it.
use Rattle.std.proofs.Common.{◌≡◌, ℕ, ◌+◌, Bool, ◌&&◌, ◌==◌, not, if◌then◌else◌, Option, Some, None, refl, ap}
use Rattle.std.proofs.Math.Path.{fun_ext}
use Rattle.std.specs.Prelude.{filter, find, length, nat_lt}
use Rattle.hm_base.specs.Pages.{Pages, overlap}
use Rattle.hm_base.specs.Program.{Program}
use Rattle.hm_history.specs.Memory.Words.{numbers}
use Rattle.hm_history.specs.Memory.Sequences.{Interval, Sequences, with_seq, interval_passes, in_tree_state, overlaps, is_above, next_told, seq_started, is_odd}
use Rattle.hm_flaws.specs.declared.flaws.Flaw.{Flaw}
use Rattle.hm_flaws.specs.Flawed.{Flawed, with_seqs, due_by}
use Rattle.hm_flaw_states.specs.Steps.Found.{due_found}
use Rattle.hm_flaw_states.specs.Found.{found_in}

overlaps_same : (x : ℕ → ℕ) (s : Sequences) (p : ℕ) (r : Pages) → overlaps s p r ≡ overlaps (record s { interval = with_seqs x s.interval }) p r
overlaps_same x s p r = fun_ext (λ m. by m (s.interval m))
  where
    by : (m : ℕ) (i : Option Interval) → interval_passes (λ z. in_tree_state z.stage && ((z.proc == p) && overlap z.window r)) i ≡ interval_passes (λ z. in_tree_state z.stage && ((z.proc == p) && overlap z.window r)) (with_seq (x m) i)
    by m None = refl
    by m (Some z) = refl

pub told_same : (x : ℕ → ℕ) (s : Sequences) (p : ℕ) (r : Pages) (after : Option ℕ) → next_told s p r after ≡ next_told (record s { interval = with_seqs x s.interval }) p r after
told_same x s p r after = ap (λ (t : ℕ → Bool). find (is_above after) (filter t (numbers 0 32))) (overlaps_same x s p r)

pub started_same : (x : ℕ → ℕ) (s : Sequences) (p : ℕ) (r : Pages) → seq_started s p r ≡ seq_started (record s { interval = with_seqs x s.interval }) p r
started_same x s p r = ap (λ (t : ℕ → Bool). if nat_lt 0 (length (filter t (numbers 0 32))) && not (is_odd (s.seq p)) then s.seq p + 1 else s.seq p) (overlaps_same x s p r)

-- what is due to a driver with a flaw is what is due in the state that is found
pub due_there : (l : Flaw) (c : Program) (t : Flawed) (a : ℕ) → (l ≡ Flaw.NoFlaw → ⊥) → due_found l c t.driver (found_in l c t.state t.driver) a ≡ due_by l c t a
due_there Flaw.NoFlaw c t a h = absurd (h refl)
due_there l c t a h = refl
