use Rattle.std.proofs.Common.{◌/◌, length, arith}
use Rattle.radix_tables.specs.Levels.{from_fourth}
use Rattle.radix_tables.proofs.Steps.{step_small, step_on}
use Rattle.radix_tables.proofs.levels.Levels.step_second.Goals as goal

pub step_down-requires-clause-above : goal.step_down-requires-clause-above
step_down-requires-clause-above c = let l = c.args.self.now in step_small (from_fourth l) (c.args.number / 64) (length l.third.items) c.step_third.result c.requires.levels.tables.1.1 (omega arith) c.step_third.ensures

pub returns : goal.returns
returns c = let l = c.args.self.now in step_on l.third.items _ (from_fourth l) c.args.number c.step_third.result _ c.deref.ensures.value c.requires.levels.tables.1.0.tables c.step_third.ensures c.step_down.ensures
