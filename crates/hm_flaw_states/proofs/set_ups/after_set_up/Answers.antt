use Rattle.std.proofs.Common.{take}
use Rattle.hm_flaw_states.proofs.SetUps.{next_of_set_up, set_up_on}
use Rattle.hm_flaw_states.proofs.set_ups.after_set_up.Goals as goal

pub add_next-requires : goal.add_next-requires
add_next-requires g c = next_of_set_up c.args.script.now c.args.set_up.now c.loop-entry.entry-index c.entry-item.result c.loop-entry.so_far c.requires.due c.requires.few c.loop-entry-test.true c.entry-item.is c.loop-entry.invariant

pub loop-entry-preserved : goal.loop-entry-preserved
loop-entry-preserved g c =
    let i = c.loop-entry.entry-index in
    set_up_on c.args.script.now c.args.set_up.now i c.entry-item.result _ c.requires.due c.loop-entry-test.true c.entry-item.is
    (λ e was. c.in_ok-add_next.ensures (take i c.args.set_up.now) e c.loop-entry.invariant was)
