use Rattle.std.proofs.Common.{◌≡◌, ℕ, ◌==◌, ◌&&◌, ◌+◌, ◌-◌, nat_le, nat_lt, if◌then◌else◌}
use Rattle.std.specs.Prelude.{slice_index}
use Rattle.hm_race_states.specs.Bytes.{bytes_in}
use Rattle.hm_race_states.proofs.memory.RaceBytes.write.Given as goal

abbrev pub invariant-loop-number : goal.invariant-loop-number
invariant-loop-number l =
    (p a : ℕ) → bytes_in l.self p a
    ≡ (if (p == l.proc) && (nat_le l.addr a && nat_lt a (l.addr + l.number)) then slice_index l.bytes (a - l.addr) else bytes_in l.fn.self p a)
