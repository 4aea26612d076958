use Rattle.std.proofs.Common.{◌+◌, ◌*◌, ◌%◌, ℕ, List, get_or, ap, sym, ◌∙◌}
use Rattle.radix_tables.specs.Rows.{Words}
use Rattle.radix_tables.proofs.RowWords.{item_at}
use Rattle.radix_tables.proofs.word_rows.WordRows.get.Goals as goal

pub returns : goal.returns
returns c =
    c.word_in.ensures ∙ (ap (λ (xs : List ℕ). get_or xs (c.get-row.result * 8 + c.args.at % 8) 0) c.deref.ensures.value
    ∙ (ap (λ (r : ℕ). get_or c.self.inside.words.items (r * 8 + c.args.at % 8) 0) c.get-row.ensures.number
    ∙ (sym (item_at c.self.inside.rows c.self.inside.words.items c.args.at c.self.invariant) ∙ ap (λ (w : Words). get_or w.items c.args.at 0) c.self.view_is)))
