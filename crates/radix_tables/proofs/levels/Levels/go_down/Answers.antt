use Rattle.std.proofs.Common.{◌/◌, arith}
use Rattle.radix_tables.specs.Levels.{from_second}
use Rattle.radix_tables.proofs.Tables.{above_none}
use Rattle.radix_tables.proofs.levels.Levels.go_down.Goals as goal

pub returns-in-Gap : goal.returns-in-Gap
returns-in-Gap c =
    let l = c.args.self.now in
    (omega (arith, c.saturating_mul.ensures, c.in-Gap.ensures.0), λ v a b. above_none l.words.items (from_second l) v c.requires.levels.words (c.in-Gap.ensures.1 (v / 64) (omega arith) (omega (arith, c.saturating_mul.ensures))))

pub returns-in-Table : goal.returns-in-Table
returns-in-Table c = c.in-Table.ensures
