use Rattle.std.proofs.Common.{Some, ap, sym, ◌∙◌, arith, refl}
use Rattle.hm_turns.proofs.TurnKeeps.{raise_ok}
use Rattle.hm_turns.proofs.turns.raise.Goals as goal

pub store-requires : goal.store-requires
store-requires g c = let t = c.requires.table in let w = t.1 in let words = w.0 in let same = ap (λ z. z.words) t.0 in let a = c.requires.ahead in let n = c.number.ensures in let below = n.below in
    let touched = sym c.requires.touched ∙ (c.in-Some.is ∙ ap Some (sym n.same)) in
    (t.0, omega arith, raise_ok _ _ _ _ _ _ _ c.args.seat.now.me.0 c.args.seat.now.me.1 c.number.result _ refl a.holds a.ahead below c.requires.length touched)
