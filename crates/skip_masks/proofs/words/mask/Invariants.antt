use Rattle.std.proofs.Common.{◌≡◌, ◌+◌, ◌-◌, ◌≤◌}
use Rattle.skip_masks.specs.Masks.{mask_of}
use Rattle.skip_masks.proofs.words.mask.Given as goal

-- the pages behind those that are left
abbrev pub invariant-loop-left : goal.invariant-loop-left
invariant-loop-left g l = (l.left ≤ l.count) × (l.mask ≡ mask_of l.every (l.first + l.left) (l.count - l.left))

abbrev pub decreases-loop-left : goal.decreases-loop-left
decreases-loop-left g l = l.left
