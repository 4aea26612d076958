use Rattle.std.proofs.Common.{sym, ap, ◌∙◌}
use Rattle.hm_race_top.specs.Text.Laws.{lines_of}
use Rattle.hm_race_top.specs.Text.Conditions.Judged.{by_witness}
use Rattle.hm_race_top.proofs.text.conditions.judging.judge.Goals as goal

pub returns-clause-holds : goal.returns-clause-holds
returns-clause-holds c =
    let k = c.args.condition.now in
    c.by_witness.ensures ∙ ap (by_witness k.quantifier) c.witness-witness.ensures ∙ sym (c.holds_by_witness.ensures k (lines_of c.args.blocks.now))
