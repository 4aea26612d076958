use Rattle.std.proofs.Common.{arith}
use Rattle.radix_tables.specs.Levels.{word_of}
use Rattle.radix_tables.proofs.Lasts.{least_before}
use Rattle.radix_tables.proofs.levels.Levels.next_from.Goals as goal

pub returns : goal.returns
returns c =
    rw c.before-2.ensures
    (least_before (word_of c.args.self.now) c.args.page c.args.page c.args.end c.in-Some.found (omega arith) (λ v a b. absurd (omega (arith, a, b))) c.in-Some.ensures)
