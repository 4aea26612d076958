use Rattle.std.proofs.Common.{◌≡◌, ◌++◌, take}
use Rattle.skip_masks.specs.Masks.{masks_of}
use Rattle.skip_masks.proofs.words.add_masks.Given as goal

-- the words of the operations so far were added
abbrev pub invariant-loop-op : goal.invariant-loop-op
invariant-loop-op g l = l.words.items ≡ l.fn.words.items ++ masks_of l.every (take l.op-index l.ops)
