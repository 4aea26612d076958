use Rattle.std.proofs.Common.{ℕ, ◌≤◌, List, length, subst, ap, arith}
use Rattle.radix_tables.specs.Walks.{IsLonger}
use Rattle.radix_tables.specs.Rows.{over}
use Rattle.radix_tables.specs.Heads.{number_at}
use Rattle.radix_tables.proofs.RowWords.{over_length}
use Rattle.radix_tables.proofs.HeadNumbers.{heads_longer, numbers_longer}
use Rattle.radix_tables.proofs.row_numbers.RowNumbers.grow.Goals as goal

pub add_heads-requires : goal.add_heads-requires
add_heads-requires c =
    let heads = c.self.inside.heads.items in
    omega (arith, c.requires, ap (λ (ns : List ℕ). length ns) c.self.view_is, over_length (number_at heads) heads)

pub invariant_of-self-2 : goal.invariant_of-self-2
invariant_of-self-2 c =
    let e = c.in_ok-add_heads.ensures in
    heads_longer c.self.inside.heads.items c.add_heads.new.heads.items c.self.invariant e.0

pub returns : goal.returns
returns c =
    let heads = c.self.inside.heads.items in
    let now = c.add_heads.new.heads.items in
    let e = c.in_ok-add_heads.ensures in
    let more : length heads ≤ length now = omega (arith, e.1, c.requires, ap (λ (ns : List ℕ). length ns) c.self.view_is, over_length (number_at heads) heads) in (
      subst (λ (ns : List ℕ). IsLonger ns (over (number_at now) now)) c.self.view_is (numbers_longer heads now e.0 more),
      omega (arith, over_length (number_at now) now, e.1),
    )
