use Rattle.std.proofs.Common.{List, [], ◌∷◌, ◌++◌, Global, map, ap, ◌∙◌}
use Rattle.std.specs.Rc.{rc_value}
use Rattle.std.specs.declared.rc.Rc.{Rc}
use Rattle.hm_history.specs.declared.Entry.{Entry}
use Rattle.hm_flaw_states.proofs.Going.{point_gone}
use Rattle.hm_flaw_states.specs.Keyed.{form_in}
use Rattle.hm_flaw_states.proofs.turns.gone_on.Goals as goal

pub returns-clause-form : goal.returns-clause-form
returns-clause-form c =
    let e = c.in_ok-parts.ensures in
    point_gone c.args.flaw c.args.script.now (form_in c.args.key.now) c.args.entry _ _ _ e.state e.own e.marks

pub returns-clause-standing : goal.returns-clause-standing
returns-clause-standing c = c.in_ok-parts.ensures.standing

pub returns-clause-trail : goal.returns-clause-trail
returns-clause-trail c = c.in_ok-trail.ensures ∙ ap (λ (xs : List (Rc Entry Global)). map rc_value xs ++ c.args.entry ∷ []) c.deref.ensures.value
