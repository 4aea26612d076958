use Rattle.std.proofs.Common.{subst}
use Rattle.hm_base.specs.Program.{IsScript}
use Rattle.hm_flaw_parts.specs.Judged.{judged_parts}
use Rattle.hm_flaw_search.specs.Races.{FlawRaceValue}
use Rattle.hm_held_search.proofs.race.HeldRaceSystem.facts.Goals as goal

pub returns-clause-system : goal.returns-clause-system
returns-clause-system c =
    let r = c.args.self.now.race.now in
    c.held_races_are_systems.ensures (judged_parts r.judging) r.flaw r.script (subst (λ (v : FlawRaceValue). IsScript v.script) c.race.view_is c.facts.ensures) r.set_up c.stands.ensures.few c.args.self.now.holds.now
