use Rattle.std.proofs.Common.{length, ap, sym, ◌∙◌, arith}
use Rattle.radix_tables.specs.Rows.{Words, row_at, word_in}
use Rattle.radix_tables.proofs.RowWords.{over_length}
use Rattle.radix_tables.proofs.word_rows.WordRows.tables.Goals as goal

pub returns-clause-count : goal.returns-clause-count
returns-clause-count c =
    let rows = c.self.inside.rows in
    omega (arith, c.tables.ensures.count, c.self.invariant.tables, over_length (word_in rows c.self.inside.words.items) rows) ∙ ap (λ (w : Words). length w.items) c.self.view_is

pub returns-clause-room : goal.returns-clause-room
returns-clause-room c =
    let rows = c.self.inside.rows in
    sym (ap (λ (w : Words). length w.room) c.self.view_is)
    ∙ (over_length (row_at rows) rows ∙ (sym (over_length (word_in rows c.self.inside.words.items) rows) ∙ ap (λ (w : Words). length w.items) c.self.view_is))
