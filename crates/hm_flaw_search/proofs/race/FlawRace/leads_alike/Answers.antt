use Rattle.std.proofs.Common.{subst}
use Rattle.hm_flaws.specs.Parts.{answers_alone}
use Rattle.hm_flaw_states.specs.Turns.{IsNextKey}
use Rattle.hm_flaw_search.specs.Races.{FlawRaceValue}
use Rattle.hm_flaw_search.proofs.Leading.{leads_by}
use Rattle.hm_flaw_search.proofs.Unused.{both_ways}
use Rattle.hm_flaw_search.proofs.race.FlawRace.leads_alike.Goals as goal

pub returns : goal.returns
returns c =
    let r = c.args.self.now in
    let k = c.args.key.now in
    both_ways (c.same_next.ensures.yes, c.same_next.ensures.no)
    (leads_by r.script k c.args.actor r.flaw c.in_ok-next.next c.in_ok-right.right (subst (λ (v : FlawRaceValue). IsNextKey answers_alone v.flaw r.script k c.args.actor c.in_ok-next.next) c.self.view_is c.in_ok-next.ensures) c.in_ok-right.ensures)
