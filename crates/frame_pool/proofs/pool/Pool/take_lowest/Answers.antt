use Rattle.std.proofs.Common.{sym, ◌∙◌}
use Rattle.frame_pool.proofs.Free.{lowest_is}
use Rattle.frame_pool.proofs.pool.Pool.take_lowest.Goals as goal

pub take-requires : goal.take-requires
take-requires c = let at = lowest_is c.args.self.now c.in_ok-number.number (sym c.lowest_free.ensures ∙ c.in_ok-number.was) in record { inside = at.0; free = at.1 }
