use Rattle.std.proofs.Common.{◌≡◌, ◌∙◌, true, false, ap, sym}
use denote.Param.Send.{sendable}
use Rattle.std.proofs.Crossing.{crosses, dyn_box_sync}
use Rattle.hm_top.proofs.Idle.{ended_so}
use Rattle.hm_top.proofs.Sent.{world}
use Rattle.hm_top.proofs.threads.run_threads.Goals.{in-None, in-Some-Full}
use Rattle.hm_top.proofs.threads.run_threads.Goals as goal

pub run_all-requires-send-S : goal.run_all-requires-send-S
run_all-requires-send-S g c κs within = search (world, g.dyn-1.3, dyn_box_sync, sendable, crosses) depth 40 fits 4000

pub returns-clause-ended : goal.returns-clause-ended
returns-clause-ended g c =
    let m = c.in_ok-machine-2.machine in
    let e = c.in_ok-machine-2.ensures in
    elim c.match-halted.branch [
      | in-None w ↦ λ f. ended_so c.never_stuck.ensures c.args.script c.facts.ensures c.in_ok-machine.machine.script c.in_ok-machine-2.receipt c.into_parts-script.result.1.entries m.halted (ap (λ x. x.script) c.in_ok-machine.ensures) (c.into_parts-script.ensures.history ∙ e.value.1) (ap (λ x. x.halted) (sym c.world.ensures) ∙ sym c.halted.ensures ∙ w.in-None.is) e.legal e.ended
      | in-Some-Full w ↦ λ f. let never : true ≡ false = sym w.full-is ∙ f in cc
    ]
