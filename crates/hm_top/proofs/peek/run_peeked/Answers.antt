use Rattle.std.proofs.Common.{◌≡◌, ◌∙◌, true, false, ap, sym}
use denote.Param.Send.{sendable}
use Rattle.std.proofs.Crossing.{crosses, dyn_box_sync}
use Rattle.hm_turns.specs.Stepping.{is_halted}
use Rattle.hm_top.proofs.Idle.{ended_so}
use Rattle.hm_top.proofs.Peeking.{saw_so}
use Rattle.hm_top.proofs.Sent.{world}
use Rattle.hm_top.proofs.peek.run_peeked.Goals.{in-None, in-Some-Full}
use Rattle.hm_top.proofs.peek.run_peeked.Goals as goal

pub peek_all-requires-send-S : goal.peek_all-requires-send-S
peek_all-requires-send-S g c κs within = search (world, g.dyn-1.3, dyn_box_sync, sendable, crosses) depth 40 fits 4000

pub returns-clause-ended : goal.returns-clause-ended
returns-clause-ended g c =
    let m = c.in_ok-machine-2.machine in
    let e = c.in_ok-machine-2.ensures in
    elim c.match-halted.branch [
      | in-None w ↦ λ f. ended_so c.never_stuck.ensures c.args.script c.facts.ensures c.in_ok-machine.machine.script c.in_ok-machine-2.receipt c.into_parts-script.result.1.entries m.halted (ap (λ x. x.script) c.in_ok-machine.ensures) (c.into_parts-script.ensures.history ∙ e.value.1) (ap (λ x. x.halted) (sym c.world-2.ensures) ∙ sym c.halted.ensures ∙ w.in-None.is) e.legal e.ended
      | in-Some-Full w ↦ λ f. let never : true ≡ false = sym w.full-is ∙ f in cc
    ]

pub returns-clause-saw : goal.returns-clause-saw
returns-clause-saw g c =
    let m = c.in_ok-machine-2.machine in
    let e = c.in_ok-machine-2.ensures in
    let a = c.args.asked.now in
    elim c.match-halted.branch [
      | in-None w ↦ λ f.
          let running = ap (λ x. x.halted) (sym c.world-2.ensures) ∙ sym c.halted.ensures ∙ w.in-None.is in
          let ended = ended_so c.never_stuck.ensures c.args.script c.facts.ensures c.in_ok-machine.machine.script c.in_ok-machine-2.receipt c.into_parts-script.result.1.entries m.halted (ap (λ x. x.script) c.in_ok-machine.ensures) (c.into_parts-script.ensures.history ∙ e.value.1) running e.legal e.ended in
          saw_so c.args.script c.facts.ensures c.world.result.now m c.in_ok-machine-2.receipt c.into_parts-script.result.1.entries c.in_ok-machine-2.peeks c.to_tell-peeks.result a.proc a.addr a.len c.world.ensures (e.value.0 ∙ ap (λ x. x.script) c.in_ok-machine.ensures) c.into_parts-script.ensures.history e.value.1 c.facts-2.ensures.due ended (ap is_halted running) (c.to_tell-peeks.ensures.whole f) e.peeks e.last e.areas
      | in-Some-Full w ↦ λ f. let never : true ≡ false = sym w.full-is ∙ f in cc
    ]
