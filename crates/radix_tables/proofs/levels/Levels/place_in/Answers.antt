use Rattle.std.proofs.Common.{◌/◌, ◌*◌, ◌+◌, ◌%◌, ℕ, length, ap, ◌∙◌, arith}
use Rattle.radix_tables.specs.Levels.{from_second}
use Rattle.radix_tables.proofs.Steps.{table_small, words_few}
use Rattle.radix_tables.proofs.levels.Levels.place_in.Goals as goal

pub place-requires : goal.place-requires
place-requires c =
    let l = c.args.self.now in
    omega (arith, c.requires.table, table_small (from_second l) (c.args.page / 64) (length l.words.items) c.requires.levels.tables (words_few l c.requires.levels))

pub returns : goal.returns
returns c = c.place.ensures ∙ ap (λ (t : ℕ). t * 64 + c.args.page % 64) c.requires.table
