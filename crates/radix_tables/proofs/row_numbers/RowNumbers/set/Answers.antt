use Rattle.std.proofs.Common.{ℕ, ◌/◌, ◌<◌, List, length, get_or, set, ap, ◌∙◌, arith}
use Rattle.radix_tables.specs.Rows.{over}
use Rattle.radix_tables.specs.Heads.{number_at}
use Rattle.radix_tables.proofs.RowWords.{over_length}
use Rattle.radix_tables.proofs.HeadNumbers.{first_numbers}
use Rattle.radix_tables.proofs.row_numbers.RowNumbers.set.Goals as goal

pub index_mut-requires : goal.index_mut-requires
index_mut-requires c =
    let heads = c.self.inside.heads.items in
    let inside : c.args.at / 8 < length heads = omega (arith, c.requires.inside, ap (λ (ns : List ℕ). length ns) c.self.view_is, over_length (number_at heads) heads) in
    omega (arith, inside)

pub returns : goal.returns
returns c =
    let heads = c.self.inside.heads.items in
    let at = c.args.at in
    let inside : at / 8 < length heads = omega (arith, c.requires.inside, ap (λ (ns : List ℕ). length ns) c.self.view_is, over_length (number_at heads) heads) in
    ap (λ x. over (number_at (set heads (at / 8) x)) (set heads (at / 8) x)) c.head_of.ensures
    ∙ (first_numbers heads at c.args.row inside (λ k e. ap (λ (ns : List ℕ). get_or ns k 0) c.self.view_is ∙ c.requires.none k e) ∙ ap (λ (ns : List ℕ). set ns at c.args.row) c.self.view_is)
