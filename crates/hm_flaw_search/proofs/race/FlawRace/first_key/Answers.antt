use Rattle.std.proofs.Common.{ap, ◌∙◌, subst}
use Rattle.hm_flaw_states.specs.Keyed.{entries_in, form_in}
use Rattle.hm_flaw_parts.specs.Races.Races.{FlawPoint}
use Rattle.hm_flaw_search.specs.Races.{FlawRaceValue, IsCopy}
use Rattle.hm_flaw_search.proofs.Playing.{key_first}
use Rattle.hm_flaw_search.proofs.race.FlawRace.first_key.Goals as goal

pub copy_first-requires-clause-unbroken : goal.copy_first-requires-clause-unbroken
copy_first-requires-clause-unbroken c = ap (λ (v : FlawRaceValue). (form_in v.first).broken) c.self.view_is ∙ ap (λ (x : FlawPoint). x.broken) c.stands.ensures.first.form

pub copy_first-requires-clause-first : goal.copy_first-requires-clause-first
copy_first-requires-clause-first c = ap (λ (v : FlawRaceValue). entries_in v.first) c.self.view_is ∙ c.stands.ensures.first.trail

pub returns-clause-form : goal.returns-clause-form
returns-clause-form c =
    let copy = subst (λ (v : FlawRaceValue). IsCopy v.first c.in_ok-copy_first.field-0) c.self.view_is c.in_ok-copy_first.ensures in
    copy.form ∙ c.stands.ensures.first.form

pub returns-clause-trail : goal.returns-clause-trail
returns-clause-trail c =
    let copy = subst (λ (v : FlawRaceValue). IsCopy v.first c.in_ok-copy_first.field-0) c.self.view_is c.in_ok-copy_first.ensures in
    copy.trail ∙ c.stands.ensures.first.trail

pub returns-clause-kept : goal.returns-clause-kept
returns-clause-kept c =
    key_first c.args.self.now c.stands.ensures c.in_ok-copy_first.field-0
    (subst (λ (v : FlawRaceValue). IsCopy v.first c.in_ok-copy_first.field-0) c.self.view_is c.in_ok-copy_first.ensures)
