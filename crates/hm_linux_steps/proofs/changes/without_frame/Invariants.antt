use Rattle.std.proofs.Common.{◌≡◌, take}
use Rattle.hm_linux.specs.HeldPage.{without_frame}
use Rattle.hm_linux_steps.proofs.changes.without_frame.Given as goal

abbrev pub invariant-loop-frame : goal.invariant-loop-frame
invariant-loop-frame l = l.left.items ≡ without_frame (take l.frame-index l.frames) l.dropped
