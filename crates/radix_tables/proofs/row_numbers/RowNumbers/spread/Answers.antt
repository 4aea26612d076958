use Rattle.std.proofs.Common.{ℕ, ◌<◌, List, length, set, subst, sym, ap, arith}
use Rattle.radix_tables.specs.Rows.{over}
use Rattle.radix_tables.specs.Heads.{IsSpread, number_at}
use Rattle.radix_tables.proofs.RowWords.{over_length}
use Rattle.radix_tables.proofs.HeadNumbers.{all_rows}
use Rattle.radix_tables.proofs.row_numbers.RowNumbers.spread.Goals as goal

pub index_mut-requires : goal.index_mut-requires
index_mut-requires c =
    let heads = c.self.inside.heads.items in
    let inside : c.args.table < length heads = omega (arith, c.requires.inside, ap (λ (ns : List ℕ). length ns) c.self.view_is, over_length (number_at heads) heads) in
    omega (arith, inside)

pub returns : goal.returns
returns c =
    let heads = c.self.inside.heads.items in
    let table = c.args.table in
    let inside : table < length heads = omega (arith, c.requires.inside, ap (λ (ns : List ℕ). length ns) c.self.view_is, over_length (number_at heads) heads) in
    subst (λ (ns : List ℕ). IsSpread ns (over (number_at (set heads table c.all_of.result)) (set heads table c.all_of.result)) table c.args.first) c.self.view_is
    (subst (λ x. IsSpread (over (number_at heads) heads) (over (number_at (set heads table x)) (set heads table x)) table c.args.first) (sym c.all_of.ensures) (all_rows heads table c.args.first inside c.requires.some))
