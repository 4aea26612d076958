use Rattle.std.proofs.Common.{◌≡◌, sym, ap, ◌∙◌, subst}
use Rattle.hm_flaws.specs.Flawed.{due_by}
use Rattle.hm_flaw_states.specs.Keyed.{form_in}
use Rattle.hm_flaw_search.specs.Alike.{entry_of}
use Rattle.hm_flaw_search.specs.Races.{FlawRaceValue}
use Rattle.hm_flaw_search.proofs.Owing.{none_alike}
use Rattle.hm_flaw_search.proofs.race.FlawRace.owed_at.Goals as goal

pub returns-then-same_due : goal.returns-then-same_due
returns-then-same_due c =
    let r = c.args.self.now in
    let x = form_in c.args.key.now in
    let made = subst (λ (v : FlawRaceValue). c.in_ok-made.made ≡ due_by v.flaw r.script x.flawed c.args.actor) c.self.view_is c.in_ok-made.ensures in
    none_alike r.flaw r.script x c.args.actor (ap entry_of (sym made) ∙ (c.same_due.ensures.yes c.if-same_due.true ∙ ap entry_of c.in_ok-due.ensures))
