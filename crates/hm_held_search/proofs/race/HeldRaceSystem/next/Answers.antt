use Rattle.std.proofs.Common.{◌≡◌, false, sym, ◌∙◌, subst}
use Rattle.hm_flaw_parts.specs.Judged.{judged_parts}
use Rattle.hm_holds.specs.Held.{HeldPoint, held_go}
use Rattle.hm_search.specs.Systems.{point_at}
use Rattle.hm_held_search.specs.Races.{held_value}
use Rattle.hm_held_search.proofs.Turning.{held_stops, next_so}
use Rattle.hm_held_search.proofs.race.HeldRaceSystem.next.Goals as goal

pub returns-then-stops-clause-next : goal.returns-then-stops-clause-next
returns-then-stops-clause-next c turns same =
    let r = c.args.self.now.race.now in
    let key = c.args.key.now in
    subst (λ (x : HeldPoint). held_go r.flaw r.script x c.args.actor ≡ false) (sym same)
    (held_stops (judged_parts r.judging) r.flaw r.script key.race key.holds.items c.args.actor (sym c.stops.ensures ∙ c.if-stops.true))

pub returns-in_ok-turned-in-Ok-Some-clause-next : goal.returns-in_ok-turned-in-Ok-Some-clause-next
returns-in_ok-turned-in-Ok-Some-clause-next c turns same =
    let r = c.args.self.now.race.now in
    let key = c.args.key.now in
    next_so (judged_parts r.judging) r.flaw r.script key c.in_ok-turned-in-Ok-Some.field-0 (point_at (held_value r c.args.self.now.holds.now) turns) c.args.actor c.key.result.now c.in-Ok-Some.next c.deref.result.now
    same c.key.ensures.same c.deref.ensures.value (rw c.in-Ok-Some.field-0-is at c.in-Ok-Some.ensures.next) c.in_ok-turned-in-Ok-Some.ensures.made (sym c.stops.ensures ∙ c.if-stops.false)
