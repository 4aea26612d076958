use Rattle.std.proofs.Common.{◌≡◌, true, arith}
use Rattle.std.specs.Prelude.{nat_lt}
use Rattle.std.proofs.lemmas.Bool.Decides.{nat_tests}
use Rattle.hm_parts.proofs.Showing.{table_here}
use Rattle.hm_parts.proofs.show_places.table_at.Goals as goal

pub returns : goal.returns
returns c = λ p s shown.
    let lt : nat_lt c.args.addr 281474976710656 ≡ true = grind (arith, nat_tests) in
    table_here s c.args.mirror c.args.addr c.new.result c.table.result lt c.new.ensures (c.table.ensures p s shown)
