use Rattle.std.proofs.Common.{ℕ, Option, List, subst, sym, arith}
use Rattle.std.specs.Map.{keys_of}
use Rattle.hm_why.specs.Changes.{change_at, IsAhead}
use Rattle.hm_why.proofs.Ahead.{ahead_is, from_all}
use Rattle.hm_why.proofs.changes.Changes.ahead.Goals as goal

pub returns : goal.returns
returns c =
    let entries = c.args.self.now.points.entries in
    subst (λ (es : List (ℕ × Option ℕ)). IsAhead (change_at c.args.self.now) es c.args.from c.args.end) (sym (c.range.ensures.between tt))
    (ahead_is entries c.args.from c.args.from c.args.end (omega arith) c.range.ensures.ordered (from_all c.args.from (keys_of entries)))
