use Rattle.std.proofs.Common.{get_or, ap, sym, ◌∙◌}
use Rattle.radix_tables.specs.Rows.{Words}
use Rattle.radix_tables.proofs.RowWords.{room_at}
use Rattle.radix_tables.proofs.word_rows.WordRows.row.Goals as goal

pub returns : goal.returns
returns c =
    c.get.ensures.number ∙ (sym (room_at c.self.inside.rows c.args.at) ∙ ap (λ (w : Words). get_or w.room c.args.at 0) c.self.view_is)
