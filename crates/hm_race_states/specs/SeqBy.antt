-- Small sequences of processes.
use Rattle.std.specs.Prelude.{ℕ, Bool, if◌then◌else◌}

-- a small sequence of a process, by whether it is odd
abbrev pub seq_by : Bool → ℕ
seq_by odd = if odd then 3 else 2
