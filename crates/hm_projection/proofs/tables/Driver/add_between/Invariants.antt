use Rattle.std.proofs.Common.{◌-◌, ◌≤◌, ◌<◌}
use Rattle.hm_folds.specs.MirrorTables.{tables_of}
use Rattle.hm_projection.proofs.Erased.{GoesOver}
use Rattle.hm_projection.proofs.tables.Driver.add_between.Given as goal

abbrev pub invariant-loop-at : goal.invariant-loop-at
invariant-loop-at l = record {
  past : l.at < l.stop → l.from ≤ l.at;
  over : GoesOver (tables_of l.self.tables.tables.items l.mirror) l.fn.window l.from l.end l.stop l.at l.fn.told.items l.told.items l.mirror;
}

abbrev pub decreases-loop-at : goal.decreases-loop-at
decreases-loop-at l = l.stop - l.at
