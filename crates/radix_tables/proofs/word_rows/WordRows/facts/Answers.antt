use Rattle.std.proofs.Common.{get_or, ap, sym, ◌∙◌}
use Rattle.radix_tables.specs.Rows.{Words}
use Rattle.radix_tables.proofs.RowWords.{room_at, item_at, unroomed}
use Rattle.radix_tables.proofs.word_rows.WordRows.facts.Goals as goal

pub returns : goal.returns
returns c k d z =
    let rows = c.self.inside.rows in
    let words = c.self.inside.words.items in
    d (sym (ap (λ (w : Words). get_or w.items k 0) c.self.view_is)
    ∙ (item_at rows words k c.self.invariant ∙ unroomed rows words k c.self.invariant (sym (room_at rows k) ∙ (ap (λ (w : Words). get_or w.room k 0) c.self.view_is ∙ z))))
