use Rattle.std.proofs.Common.{◌≡◌, IfOk, ap, sym, subst, ◌∙◌}
use Rattle.std.specs.Prelude.{option_copied}
use Rattle.hm_base.specs.Program.{IsScript}
use Rattle.hm_history.specs.Kernel.Going.{op_at}
use Rattle.hm_linux.specs.Noted.{Noted, Varied}
use Rattle.hm_steps.proofs.Ops.{op_ranged}
use Rattle.hm_linux_steps.specs.Notes.{noted_in}
use Rattle.hm_linux_steps.specs.declared.notes.Notes.{Notes}
use Rattle.hm_linux_steps.proofs.NoneNoted.{top_noted}
use Rattle.hm_linux_steps.proofs.noting.notes_after.Goals as goal

pub next_notes-requires : goal.next_notes-requires
next_notes-requires g c = op_ranged _ _ _ _ (subst IsScript c.script.ensures c.facts.ensures) (sym c.op.ensures ∙ ap option_copied c.in-Some.is)

pub returns : goal.returns
returns g c =
    let t : Varied = record { state = g.W.Reads.state c.args.world.now; noted = noted_in c.args.notes.now } in
    let p = g.W.Reads.program c.args.world.now in
    let at = t.state.going c.args.actor in
    subst (λ (z : Noted). IfOk c.next_notes.result (λ (n : Notes). noted_in n ≡ z))
    (top_noted c.args.variant p t c.args.actor c.args.kind.now (op_at p c.args.actor at.index) at.stack c.in-Some.op.now c.in-Some-phase.top.now (sym c.op.ensures ∙ ap option_copied c.in-Some.is) (sym c.phase.ensures.same ∙ ap option_copied c.in-Some-phase.is))
    c.next_notes.ensures
