use Rattle.std.specs.Prelude.{codes, ◌++◌, ◌∷◌, []}
use Rattle.std.specs.Fmt.{decimal}
use Rattle.hm_report.specs.Report.{entry_line}
use Rattle.hm_judge.specs.LaterTexts.{also_text, early_text, late_text}
use Rattle.hm_judge.proofs.Pieces.{fifth}
use Rattle.hm_judge.proofs.later_text.add_also.Goals as goal

pub returns : goal.returns
unfolding also_text
returns c =
    fifth c.add_late.result c.args.text.now c.add_numbered.new.text c.extend.new.self c.add_entry.new.text c.add_early.new.text c.add_late.new.text
    (codes "also " ++ (decimal c.args.line ++ 10 ∷ [])) (codes "entry ") (entry_line c.args.at c.args.entry.now) (early_text c.args.rules.now) (late_text c.args.rules.now)
    c.in_ok-add_numbered.ensures c.in_ok-extend.ensures.ok c.in_ok-add_entry.ensures c.in_ok-add_early.ensures c.add_late.ensures
