use Rattle.std.proofs.Common.{◌/◌, length, arith}
use Rattle.radix_tables.specs.Levels.{from_sixth}
use Rattle.radix_tables.proofs.Steps.{step_small, step_on}
use Rattle.radix_tables.proofs.levels.Levels.step_fourth.Goals as goal

pub step_down-requires-clause-above : goal.step_down-requires-clause-above
step_down-requires-clause-above c = let l = c.args.self.now in step_small (from_sixth l) (c.args.number / 64) (length l.fifth.items) c.step_fifth.result c.requires.levels.tables.1.1.1.1 (omega arith) c.step_fifth.ensures

pub returns : goal.returns
returns c = let l = c.args.self.now in step_on l.fifth.items _ (from_sixth l) c.args.number c.step_fifth.result _ c.deref.ensures.value c.requires.levels.tables.1.1.1.0.tables c.step_fifth.ensures c.step_down.ensures
