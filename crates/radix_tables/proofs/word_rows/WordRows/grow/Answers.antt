use Rattle.std.proofs.Common.{◌≤◌, length, subst, ap, arith}
use Rattle.radix_tables.specs.Walks.{IsLonger}
use Rattle.radix_tables.specs.Rows.{Words, over, row_at, word_in}
use Rattle.radix_tables.proofs.RowWords.{over_length, rows_longer, room_longer, items_longer}
use Rattle.radix_tables.proofs.word_rows.WordRows.grow.Goals as goal

pub grow-requires : goal.grow-requires
grow-requires c =
    let rows = c.self.inside.rows in
    omega (arith, c.requires, ap (λ (w : Words). length w.items) c.self.view_is, over_length (word_in rows c.self.inside.words.items) rows)

pub invariant_of-self-2 : goal.invariant_of-self-2
invariant_of-self-2 c =
    let e = c.in_ok-grow.ensures in
    rows_longer c.self.inside.rows c.grow.new.self c.self.inside.words.items c.self.invariant e.0 (omega (arith, e.1))

pub returns : goal.returns
returns c =
    let rows = c.self.inside.rows in
    let words = c.self.inside.words.items in
    let now = c.grow.new.self in
    let e = c.in_ok-grow.ensures in
    let more : length rows ≤ length now = omega (arith, e.1, c.requires, ap (λ (w : Words). length w.items) c.self.view_is, over_length (word_in rows words) rows) in
    let sound = rows_longer rows now words c.self.invariant e.0 (omega (arith, e.1)) in (
      subst (λ (w : Words). IsLonger w.items (over (word_in now words) now)) c.self.view_is (items_longer rows now words c.self.invariant sound e.0 more),
      subst (λ (w : Words). IsLonger w.room (over (row_at now) now)) c.self.view_is (room_longer rows now e.0 more),
      omega (arith, over_length (word_in now words) now, e.1),
      omega (arith, over_length (row_at now) now, e.1),
    )
