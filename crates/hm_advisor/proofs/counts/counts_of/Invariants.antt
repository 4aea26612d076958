use Rattle.std.proofs.Common.{◌≡◌}
use Rattle.hm_advisor.specs.Counts.{counts_by, windows}
use Rattle.hm_advisor.specs.Accesses.{accesses}
use Rattle.hm_advisor.proofs.counts.counts_of.Given as goal

-- the counts of the mirrors so far
abbrev pub invariant-loop-number : goal.invariant-loop-number
invariant-loop-number l =
    let h = l.history.entries in
    l.counts ≡ counts_by (accesses h) (windows h) l.number
