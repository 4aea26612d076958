use Rattle.std.proofs.Common.{ap, arith}
use Rattle.hm_turns.proofs.TurnKeeps.{mark_ok}
use Rattle.hm_turns.proofs.turns.mark_at.Goals as goal

pub load-requires : goal.load-requires
load-requires g c = let t = c.requires.table in let w = t.1 in let words = w.0 in let same = ap (λ z. z.words) t.0 in let i = c.requires.idle in let below = c.number.ensures.below in
    (t.0, omega arith, mark_ok g.S.Stepped.script g.S.Stepped.history g.S.Stepped.halt _ _ _ _ c.number.result i.free below)
