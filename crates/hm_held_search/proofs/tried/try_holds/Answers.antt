use Rattle.std.proofs.Common.{subst}
use Rattle.hm_base.specs.Program.{IsScript}
use Rattle.hm_flaw_search.specs.Races.{FlawRaceValue}
use Rattle.hm_held_search.proofs.Trying.{Searched, tried_so}
use Rattle.hm_held_search.proofs.tried.try_holds.Goals as goal

pub returns-in-Ok-clause-says : goal.returns-in-Ok-clause-says
returns-in-Ok-clause-says c =
    let r = c.args.race.now in
    let x = c.in_ok-explored.explored in
    let found = c.in_ok-explored.ensures in
    let searched : Searched r c.args.holds.now c.args.most x.known.items x.end = record {
      each = found.known;
      once = found.distinct;
      all = found.all;
      few = found.few;
      cut = found.cut;
      reached = found.reached;
      missed = found.missed;
    } in
    tried_so r (subst (λ (v : FlawRaceValue). IsScript v.script) c.race.view_is c.facts.ensures) c.stands.ensures.few c.args.holds.now c.args.most x.known.items
    c.whole_is_sure.ensures c.reached_fails.ensures x.end searched c.in-Ok.said c.in-Ok.ensures
