use Rattle.std.specs.Prelude.{None, codes}
use Rattle.hm_judge.specs.LaterTexts.{early_text}
use Rattle.hm_judge.specs.Texts.{breaks}
use Rattle.hm_judge.proofs.Pieces.{third}
use Rattle.hm_judge.proofs.later_text.add_early.Goals as goal

pub returns : goal.returns
unfolding early_text
returns c =
    let x = c.args.rules.now in
    third c.add_break-3.result c.args.text.now c.add_break.new.text c.add_break-2.new.text c.add_break-3.new.text
    (breaks x.answers (codes "breaks answers\n") None) (breaks x.places (codes "breaks places\n") None) (breaks x.frames (codes "breaks frames\n") None)
    c.in_ok-add_break.ensures c.in_ok-add_break-2.ensures c.add_break-3.ensures
