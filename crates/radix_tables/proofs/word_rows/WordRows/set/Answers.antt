use Rattle.std.proofs.Common.{◌≡◌, ◌≢◌, ◌+◌, ◌*◌, ◌%◌, ℕ, get_or, set, subst, ap, sym, ◌∙◌, arith}
use Rattle.radix_tables.specs.Rows.{Words, AreRows, row_at, word_in}
use Rattle.radix_tables.specs.Rows.{over}
use Rattle.radix_tables.proofs.RowWords.{room_at, place_within, rows_set, items_set}
use Rattle.radix_tables.proofs.word_rows.WordRows.set.Goals as goal

pub index_mut-requires : goal.index_mut-requires
index_mut-requires c =
    let rows = c.self.inside.rows in
    let d : row_at rows c.args.at ≢ 0 = λ z. c.requires (sym (ap (λ (w : Words). get_or w.room c.args.at 0) c.self.view_is) ∙ (room_at rows c.args.at ∙ z)) in
    let r : c.get-row.result ≡ row_at rows c.args.at = c.get-row.ensures.number in
    omega (arith, place_within rows c.self.inside.words.items c.args.at c.self.invariant d, r)

pub returns-clause-items : goal.returns-clause-items
returns-clause-items c =
    let rows = c.self.inside.rows in
    let words = c.self.inside.words.items in
    let d : row_at rows c.args.at ≢ 0 = λ z. c.requires (sym (ap (λ (w : Words). get_or w.room c.args.at 0) c.self.view_is) ∙ (room_at rows c.args.at ∙ z)) in
    ap (λ (r : ℕ). over (word_in rows (set words (r * 8 + c.args.at % 8) c.args.word)) rows) c.get-row.ensures.number
    ∙ (items_set rows words c.args.at c.args.word c.self.invariant d ∙ ap (λ (w : Words). set w.items c.args.at c.args.word) c.self.view_is)

pub returns-clause-room : goal.returns-clause-room
returns-clause-room c = ap (λ (w : Words). w.room) c.self.view_is

pub invariant_of-self : goal.invariant_of-self
invariant_of-self c =
    let rows = c.self.inside.rows in
    let words = c.self.inside.words.items in
    let d : row_at rows c.args.at ≢ 0 = λ z. c.requires (sym (ap (λ (w : Words). get_or w.room c.args.at 0) c.self.view_is) ∙ (room_at rows c.args.at ∙ z)) in
    subst (λ (r : ℕ). AreRows rows (set words (r * 8 + c.args.at % 8) c.args.word)) (sym c.get-row.ensures.number)
    (rows_set rows words c.args.at c.args.word c.self.invariant d)
