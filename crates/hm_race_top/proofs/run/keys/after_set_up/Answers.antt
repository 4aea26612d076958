use Rattle.std.proofs.Common.{take, arith}
use Rattle.std.proofs.lemmas.List.{length-take-le}
use Rattle.hm_race_top.proofs.Entering.{set_up_due, set_up_on}
use Rattle.hm_race_top.proofs.run.keys.after_set_up.Goals as goal

pub loop-entry-preserved : goal.loop-entry-preserved
loop-entry-preserved c =
    let s = c.args.script.now in
    let i = c.loop-entry.entry-index in
    let h = c.args.set_up.now in
    let e = c.entry-item.result in
    set_up_on s h i e c.in_ok-state-2.state c.loop-entry-test.true c.entry-item.is
    (c.in_ok-state-2.ensures (take i h) c.loop-entry.invariant (set_up_due s h i e c.requires.due c.loop-entry-test.true c.entry-item.is))

pub after_entry-requires : goal.after_entry-requires
after_entry-requires c =
    let i = c.loop-entry.entry-index in
    let h = c.args.set_up.now in
    record {
      history = take i h;
      shows = c.loop-entry.invariant;
      due = set_up_due c.args.script.now h i c.entry-item.result c.requires.due c.loop-entry-test.true c.entry-item.is;
      few = omega (arith, c.requires.few, c.loop-entry-test.true, length-take-le i h (omega (arith, c.loop-entry-test.true)));
    }
