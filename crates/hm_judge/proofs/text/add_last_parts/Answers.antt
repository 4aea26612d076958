use Rattle.std.specs.Prelude.{codes}
use Rattle.hm_judge.specs.Texts.{breaks, last_parts_text}
use Rattle.hm_judge.proofs.Pieces.{third}
use Rattle.hm_judge.proofs.text.add_last_parts.Goals as goal

pub returns : goal.returns
unfolding last_parts_text
returns c =
    let x = c.args.parts.now in
    let y = c.args.shown.now in
    third c.add_break-3.result c.args.text.now c.add_break.new.text c.add_break-2.new.text c.add_break-3.new.text
    (breaks x.untold (codes "breaks untold\n") y.untold) (breaks x.guarded (codes "breaks guarded\n") y.guarded) (breaks x.kept (codes "breaks kept\n") y.kept)
    c.in_ok-add_break.ensures c.in_ok-add_break-2.ensures c.add_break-3.ensures
