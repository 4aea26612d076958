use Rattle.std.proofs.Common.{◌≡◌, take}
use Rattle.std.specs.Prelude.{count_by}
use Rattle.hm_folds.specs.Kept.{guards_proc}
use Rattle.hm_folds.proofs.guards.active.Given as goal

abbrev pub invariant-loop-guard : goal.invariant-loop-guard
invariant-loop-guard l = l.count ≡ count_by (guards_proc l.proc) (take l.guard-index l.guards)
