use Rattle.std.proofs.Common.{◌≡◌, replicate}
use Rattle.rev_maps.specs.Uses.{unused}
use Rattle.rev_maps.proofs.maps.RevMaps.new.Given as goal

abbrev pub invariant-loop-frame : goal.invariant-loop-frame
invariant-loop-frame l = l.lists.items ≡ replicate l._frame unused
