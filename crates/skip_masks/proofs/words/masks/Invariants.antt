use Rattle.std.proofs.Common.{◌≡◌, take}
use Rattle.std.specs.List.{flat_map}
use Rattle.skip_masks.specs.Masks.{masks_of}
use Rattle.skip_masks.proofs.words.masks.Given as goal

-- the words of the actors so far
abbrev pub invariant-loop-ops : goal.invariant-loop-ops
invariant-loop-ops g l = l.words.items ≡ flat_map (masks_of l.every) (take l.ops-index l.script.actors)
