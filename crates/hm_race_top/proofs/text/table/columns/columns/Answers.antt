use Rattle.std.proofs.Common.{◌≡◌, true, false, not, ◌∷◌, ◌++◌, [], refl}
use Rattle.hm_race_top.specs.Text.Table.Columns.{column, is_shared}
use Rattle.hm_race_top.proofs.Positions.{kept, left_out}
use Rattle.hm_race_top.proofs.text.table.columns.columns.Goals as goal
use Rattle.hm_race_top.proofs.text.table.columns.columns.Goals.{then-not-is_shared+in_ok-push, else-not-is_shared}

pub loop-at-preserved : goal.loop-at-preserved
loop-at-preserved c =
    let rows = c.args.rows.now in
    elim c.if-not-is_shared.branch [
      | then-not-is_shared+in_ok-push w ↦
          let passes : not (is_shared rows c.loop-at.at) ≡ true = cc in
          let more : c.if-not-is_shared.columns ≡ c.loop-at.columns ++ column rows c.loop-at.at ∷ [] = cc (w.widest.ensures, w.columns-is, w.in_ok-push.ensures.ok) in
          kept (column rows) (λ at. not (is_shared rows at)) c.loop-at.at (column rows c.loop-at.at) c.loop-at.columns c.if-not-is_shared.columns c.loop-at.invariant
          passes refl more
      | else-not-is_shared w ↦
          let fails : not (is_shared rows c.loop-at.at) ≡ false = cc in
          left_out (column rows) (λ at. not (is_shared rows at)) c.loop-at.at c.loop-at.columns c.if-not-is_shared.columns c.loop-at.invariant fails w.columns-is
    ]
