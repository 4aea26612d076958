use Rattle.std.proofs.Common.{◌≡◌}
use Rattle.hm_tables.specs.Steps.{first_pools}
use Rattle.hm_tables.proofs.pools.new_pools.Given as goal

abbrev pub invariant-loop-index : goal.invariant-loop-index
invariant-loop-index l = l.pools.items ≡ first_pools l.script l.index
