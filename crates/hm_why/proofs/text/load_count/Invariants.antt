use Rattle.std.proofs.Common.{◌≡◌, ◌≤◌, take}
use Rattle.hm_why.specs.Loads.{load_count}
use Rattle.hm_why.proofs.text.load_count.Given as goal

-- the loads so far
abbrev pub invariant-loop-entry : goal.invariant-loop-entry
invariant-loop-entry l = (l.count ≡ load_count (take l.entry-index l.entries)) × (l.count ≤ l.entry-index)
