use Rattle.std.proofs.Common.{◌/◌, [], arith}
use Rattle.radix_tables.specs.declared.level_tables.Step.TheVariants.{Table}
use Rattle.radix_tables.proofs.Steps.{step_on, step_root}
use Rattle.radix_tables.proofs.levels.Levels.step_fifth.Goals as goal

pub returns : goal.returns
returns c =
    let l = c.args.self.now in
    step_on l.sixth.items _ [] c.args.number (Table 1) _ c.deref.ensures.value c.requires.levels.tables.1.1.1.1.0.tables (step_root (c.args.number / 64) (omega arith)) c.step_down.ensures
