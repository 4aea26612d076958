use Rattle.std.proofs.Common.{sym, ◌∙◌}
use Rattle.hm_flaw_search.proofs.Sticking.{sticks_by}
use Rattle.hm_flaw_search.proofs.goals.StuckGoalStandingKey.is_reached.Goals as goal

pub returns : goal.returns
returns c =
    let race = c.args.self.now.race.now in
    sticks_by race.flaw race.script c.args.key.now c.key-key.result.now c.part.result c.is_stuck_at.result c.key-key.ensures.same c.part.ensures (sym c.is_some.ensures ∙ c.if-is_some.false) c.is_stuck_at.ensures
