use Rattle.std.proofs.Common.{ℕ, List, length, ap, ◌∙◌, arith}
use Rattle.radix_tables.specs.Heads.{number_at}
use Rattle.radix_tables.proofs.RowWords.{over_length}
use Rattle.radix_tables.proofs.row_numbers.RowNumbers.tables.Goals as goal

pub returns-clause-count : goal.returns-clause-count
returns-clause-count c =
    let heads = c.self.inside.heads.items in
    omega (arith, c.len.ensures, over_length (number_at heads) heads) ∙ ap (λ (ns : List ℕ). length ns) c.self.view_is
