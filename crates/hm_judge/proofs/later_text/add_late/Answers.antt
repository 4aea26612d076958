use Rattle.std.specs.Prelude.{None, codes}
use Rattle.hm_judge.specs.LaterTexts.{late_text}
use Rattle.hm_judge.specs.Texts.{breaks}
use Rattle.hm_judge.proofs.Pieces.{third}
use Rattle.hm_judge.proofs.later_text.add_late.Goals as goal

pub returns : goal.returns
unfolding late_text
returns c =
    let x = c.args.rules.now in
    third c.add_break-3.result c.args.text.now c.add_break.new.text c.add_break-2.new.text c.add_break-3.new.text
    (breaks x.sequences (codes "breaks sequences\n") None) (breaks x.untold (codes "breaks untold\n") None) (breaks x.guarded (codes "breaks guarded\n") None)
    c.in_ok-add_break.ensures c.in_ok-add_break-2.ensures c.add_break-3.ensures
