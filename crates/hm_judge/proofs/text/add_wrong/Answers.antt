use Rattle.std.specs.Prelude.{codes}
use Rattle.hm_report.specs.Report.{entry_line}
use Rattle.hm_judge.specs.Texts.{first_parts_text, last_parts_text, wrong_text}
use Rattle.hm_judge.proofs.Pieces.{fifth}
use Rattle.hm_judge.proofs.text.add_wrong.Goals as goal

pub returns : goal.returns
unfolding wrong_text
returns c =
    fifth c.add_last_parts.result c.args.text.now c.extend.new.self c.add_entry.new.text c.extend-2.new.self c.add_first_parts.new.text c.add_last_parts.new.text
    (codes "entry ") (entry_line c.args.at c.args.entry.now) (codes "breaks due\n") (first_parts_text c.args.parts.now c.args.shown.now) (last_parts_text c.args.parts.now c.args.shown.now)
    c.in_ok-extend.ensures.ok c.in_ok-add_entry.ensures c.in_ok-extend-2.ensures.ok c.in_ok-add_first_parts.ensures c.add_last_parts.ensures
