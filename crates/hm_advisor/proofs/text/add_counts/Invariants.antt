use Rattle.std.proofs.Common.{◌≡◌, ◌++◌, take}
use Rattle.std.specs.List.{flat_map}
use Rattle.hm_advisor.specs.Text.{count_line}
use Rattle.hm_advisor.proofs.text.add_counts.Given as goal

-- the lines of the counts so far were added
abbrev pub invariant-loop-count : goal.invariant-loop-count
invariant-loop-count l = l.text ≡ l.fn.text ++ flat_map count_line (take l.count-index l.counts)
