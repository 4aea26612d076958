use Rattle.std.proofs.Common.{◌≡◌, ap, subst}
use Rattle.hm_history.specs.Kernel.Run.{run}
use Rattle.hm_race_states.specs.Keyed.{form_in}
use Rattle.hm_race_top.specs.Run.Systems.{race_of}
use Rattle.hm_search.specs.Known as search
use Rattle.hm_search.specs.Values.{all_known}
use Rattle.hm_race_top.proofs.run.search.Goals as goal

pub returns-clause-all : goal.returns-clause-all
returns-clause-all g c e =
    let r = c.args.race.now in
    let known = all_known form_in c.in_ok-explore.field-0.known.items in
    let same : race_of r.script r.set_up ≡ race_of r.script (run r.script) = ap (race_of r.script) c.stands.ensures.run in
    c.turns_are_all.ensures r.script (run r.script) known (subst (λ y. search.HaveForms y known) same (c.in_ok-explore.ensures.all e))

pub returns-clause-complete : goal.returns-clause-complete
returns-clause-complete g c e =
    let r = c.args.race.now in
    let known = all_known form_in c.in_ok-explore.field-0.known.items in
    let same : race_of r.script r.set_up ≡ race_of r.script (run r.script) = ap (race_of r.script) c.stands.ensures.run in
    c.forms_have_outcomes.ensures r.script (run r.script) known (subst (λ y. search.AreKnown y known) same c.in_ok-explore.ensures.known)
    (c.turns_are_all.ensures r.script (run r.script) known (subst (λ y. search.HaveForms y known) same (c.in_ok-explore.ensures.all e)))

pub returns-clause-real : goal.returns-clause-real
returns-clause-real g c =
    let r = c.args.race.now in
    let known = all_known form_in c.in_ok-explore.field-0.known.items in
    let same : race_of r.script r.set_up ≡ race_of r.script (run r.script) = ap (race_of r.script) c.stands.ensures.run in
    c.known_are_real.ensures r.script (run r.script) known (subst (λ y. search.AreKnown y known) same c.in_ok-explore.ensures.known)
