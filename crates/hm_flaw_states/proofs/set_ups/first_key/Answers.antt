use Rattle.std.proofs.Common.{map, refl, sym, ap, subst, ◌∙◌}
use Rattle.std.specs.Rc.{rc_value}
use Rattle.hm_flaw_parts.specs.Marks.{marks_in}
use Rattle.hm_flaws.specs.Drivers.{driver_of}
use Rattle.hm_history.specs.Kernel.Going.{State}
use Rattle.hm_flaw_states.specs.Follows.{Standing}
use Rattle.hm_flaw_states.specs.Owns.{driver_in}
use Rattle.hm_flaw_states.specs.States.{state_in}
use Rattle.hm_flaw_states.specs.Tidy.{IsTidy}
use Rattle.hm_flaw_states.specs.declared.state.FlawState.{FlawState}
use Rattle.hm_flaw_states.proofs.Forms.{one_flawed, one_point}
use Rattle.hm_flaw_states.proofs.Tidying.{tidy_after, tidy_for}
use Rattle.hm_flaw_states.proofs.set_ups.first_key.Goals as goal

pub returns-clause-form : goal.returns-clause-form
returns-clause-form g c =
    let r = c.in_ok-so_far.ensures in
    one_point _ _
    (one_flawed _ _ (ap state_in c.in_ok-new.ensures.ok ∙ r.state)
    (ap driver_in c.in_ok-new-2.ensures.ok ∙ (c.in_ok-own.ensures ∙ ap (λ (u : State). driver_of u.after) r.state)))
    (ap marks_in c.in_ok-new-3.ensures.ok ∙ r.marked) refl

pub returns-clause-trail : goal.returns-clause-trail
returns-clause-trail g c = ap (map rc_value) c.new-4.ensures.items

pub returns-clause-kept : goal.returns-clause-kept
returns-clause-kept g c = λ j.
    let r = c.in_ok-so_far.ensures in
    let p = c.args.script.now in
    let state = ap state_in c.in_ok-new.ensures.ok ∙ r.state in
    record {
      tidy = tidy_for j _ (subst (λ (u : State). IsTidy u.after.places) (sym state) (tidy_after c.history_stands.ensures p c.facts.ensures c.args.set_up.now c.requires.due));
      standing = subst (λ (x : FlawState). Standing (state_in x)) (sym c.in_ok-new.ensures.ok) r.standing;
    }
