use Rattle.std.proofs.Common.{sym, ◌∙◌}
use Rattle.hm_race_top.specs.Text.Table.Columns.{first_answer, is_shared}
use Rattle.hm_race_top.proofs.Positions.{kept, left_out}
use Rattle.hm_race_top.proofs.text.table.columns.shared.Goals as goal
use Rattle.hm_race_top.proofs.text.table.columns.shared.Goals.{then-is_shared+in_ok-from_slice+in_ok-push, else-is_shared}

pub loop-at-preserved : goal.loop-at-preserved
loop-at-preserved c =
    let rows = c.args.rows.now in
    elim c.if-is_shared.branch [
      | then-is_shared+in_ok-from_slice+in_ok-push w ↦
          kept (first_answer rows) (is_shared rows) c.loop-at.at w.in_ok-from_slice.field-0 c.loop-at.answers c.if-is_shared.answers c.loop-at.invariant
          (sym c.is_shared.ensures ∙ w.if-is_shared.true) (w.in_ok-from_slice.ensures ∙ w.first_answer.ensures) (w.answers-is ∙ w.in_ok-push.ensures.ok)
      | else-is_shared w ↦
          left_out (first_answer rows) (is_shared rows) c.loop-at.at c.loop-at.answers c.if-is_shared.answers c.loop-at.invariant
          (sym c.is_shared.ensures ∙ w.if-is_shared.false) w.answers-is
    ]
