use Rattle.std.proofs.Common.{◌≡◌, sym, ap, ◌∙◌, subst}
use Rattle.hm_flaws.specs.Flawed.{due_by}
use Rattle.hm_flaw_states.specs.Keyed.{form_in}
use Rattle.hm_flaw_search.specs.Alike.{entry_of}
use Rattle.hm_flaw_search.specs.Races.{FlawRaceValue}
use Rattle.hm_flaw_search.proofs.Leading.{turns_by}
use Rattle.hm_flaw_search.proofs.race.FlawRace.turns_alike.Goals as goal

pub returns : goal.returns
returns c =
    let r = c.args.self.now in
    let x = form_in c.args.key.now in
    let due = subst (λ (v : FlawRaceValue). c.in_ok-due.due ≡ due_by v.flaw r.script x.flawed c.args.actor) c.self.view_is c.in_ok-due.ensures in
    turns_by r.flaw r.script x c.args.actor c.leads_alike.result (ap entry_of (sym due) ∙ (c.same_due.ensures.yes c.if-not-same_due.false ∙ ap entry_of c.in_ok-right.ensures)) c.leads_alike.ensures
