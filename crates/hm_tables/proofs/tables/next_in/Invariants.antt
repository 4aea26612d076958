use Rattle.std.proofs.Common.{◌-◌, ◌^◌}
use Rattle.hm_tables.proofs.NextFound.{SameFirst}
use Rattle.hm_tables.proofs.tables.next_in.Given as goal

abbrev pub invariant-loop-page : goal.invariant-loop-page
invariant-loop-page l = SameFirst l.table l.test l.at l.fn.from

abbrev pub decreases-loop-page : goal.decreases-loop-page
decreases-loop-page l = 2 ^ 36 - l.at
