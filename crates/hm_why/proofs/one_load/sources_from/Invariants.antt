use Rattle.std.proofs.Common.{◌≡◌, ℕ, ◌-◌, Some, map}
use Rattle.hm_history.specs.Memory.Words.{numbers}
use Rattle.hm_why.specs.Writers.{source_in}
use Rattle.hm_why.proofs.one_load.sources_from.Given as goal

-- the sources of the bytes so far
abbrev pub invariant-loop-byte : goal.invariant-loop-byte
invariant-loop-byte l = map (λ (j : ℕ). Some j) l.found ≡ map (source_in l.writers l.proc) (numbers l.addr (l.byte - l.addr))
