use Rattle.std.specs.Prelude.{codes}
use Rattle.hm_judge.specs.Texts.{breaks, first_parts_text}
use Rattle.hm_judge.proofs.Pieces.{fourth}
use Rattle.hm_judge.proofs.text.add_first_parts.Goals as goal

pub returns : goal.returns
unfolding first_parts_text
returns c =
    let x = c.args.parts.now in
    let y = c.args.shown.now in
    fourth c.add_break-4.result c.args.text.now c.add_break.new.text c.add_break-2.new.text c.add_break-3.new.text c.add_break-4.new.text
    (breaks x.answers (codes "breaks answers\n") y.answers) (breaks x.places (codes "breaks places\n") y.places) (breaks x.frames (codes "breaks frames\n") y.frames) (breaks x.sequences (codes "breaks sequences\n") y.sequences)
    c.in_ok-add_break.ensures c.in_ok-add_break-2.ensures c.in_ok-add_break-3.ensures c.add_break-4.ensures
