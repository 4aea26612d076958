use Rattle.std.proofs.Common.{sym, ap, subst, ◌∙◌}
use Rattle.hm_flaw_parts.specs.Marks.{marks_in}
use Rattle.hm_flaw_states.specs.Keyed.{form_in}
use Rattle.hm_flaw_states.specs.Owns.{driver_in}
use Rattle.hm_flaw_states.specs.States.{state_in}
use Rattle.hm_flaw_states.specs.Follows.{Standing}
use Rattle.hm_flaw_states.specs.declared.state.FlawState.{FlawState}
use Rattle.hm_flaw_states.proofs.Kept.{follows_kept}
use Rattle.hm_flaw_states.proofs.Storing.{due_stays}
use Rattle.hm_flaw_states.proofs.Going.{marks_gone, own_gone, state_gone}
use Rattle.hm_flaw_states.proofs.turns.parts_after.Goals as goal

pub returns-clause-state : goal.returns-clause-state
returns-clause-state c =
    let k = c.args.key.now in
    ap state_in c.in_ok-new.ensures.ok
    ∙ state_gone c.args.flaw c.args.script.now c.deref-3.result.now k.state.value c.deref-4.result.now k.own.value c.args.entry.now _ c.deref-3.ensures c.deref-4.ensures c.in_ok-state.ensures.next

pub returns-clause-own : goal.returns-clause-own
returns-clause-own c =
    let k = c.args.key.now in
    own_gone c.args.flaw c.args.script.now c.deref.result.now k.state.value (driver_in k.own.value) _ c.args.entry.now c.deref.ensures c.in_ok-own.ensures

pub returns-clause-marks : goal.returns-clause-marks
returns-clause-marks c =
    let k = c.args.key.now in
    ap marks_in c.in_ok-marks.ensures.ok
    ∙ marks_gone c.args.script.now c.deref.result.now k.state.value c.deref-2.result.now k.marks.value c.args.entry.now _ c.deref.ensures c.deref-2.ensures c.in_ok-after.ensures

pub returns-clause-standing : goal.returns-clause-standing
returns-clause-standing c = subst (λ (x : FlawState). Standing (state_in x)) (sym c.in_ok-new.ensures.ok) c.in_ok-state.ensures.standing

pub own_after-requires : goal.own_after-requires
own_after-requires c = due_stays c.args.flaw c.args.script.now c.facts.ensures (form_in c.args.key.now).flawed c.args.entry.now.actor c.args.entry.now c.requires.is_due

pub after-requires-2 : goal.after-requires-2
after-requires-2 c = follows_kept c.args.flaw c.args.script.now c.deref-3.result.now c.args.key.now.state.value c.deref-4.result.now c.args.key.now.own.value c.args.entry.now c.deref-3.ensures c.deref-4.ensures c.requires
