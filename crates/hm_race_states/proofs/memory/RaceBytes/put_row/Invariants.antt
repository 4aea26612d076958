use Rattle.std.proofs.Common.{◌≡◌, ℕ, ◌==◌, ◌&&◌, ◌-◌, if◌then◌else◌, drop, length}
use Rattle.std.specs.Prelude.{is_some}
use Rattle.hm_race_keys.specs.Sparse.{found}
use Rattle.hm_race_states.specs.Bytes.{bytes_in}
use Rattle.hm_race_states.proofs.memory.RaceBytes.put_row.Given as goal

abbrev pub invariant-loop-done : goal.invariant-loop-done
invariant-loop-done l =
    (p a : ℕ) → bytes_in l.self p a
    ≡ (if (p == l.to) && is_some (found (drop (length l.items - l.done) l.items) l.from a) then bytes_in (drop (length l.items - l.done) l.items) l.from a else bytes_in l.fn.self p a)
