use Rattle.std.proofs.Common.{◌/◌, length, arith}
use Rattle.radix_tables.specs.Levels.{from_third}
use Rattle.radix_tables.proofs.Steps.{step_small, step_on}
use Rattle.radix_tables.proofs.levels.Levels.step_first.Goals as goal

pub step_down-requires-clause-above : goal.step_down-requires-clause-above
step_down-requires-clause-above c = let l = c.args.self.now in step_small (from_third l) (c.args.block / 64) (length l.second.items) c.step_second.result c.requires.levels.tables.1 (omega arith) c.step_second.ensures

pub returns : goal.returns
returns c = let l = c.args.self.now in step_on l.second.items _ (from_third l) c.args.block c.step_second.result _ c.deref.ensures.value c.requires.levels.tables.0.tables c.step_second.ensures c.step_down.ensures
