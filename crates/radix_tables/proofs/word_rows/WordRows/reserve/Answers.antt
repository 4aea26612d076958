use Rattle.std.proofs.Common.{◌≡◌, ℕ, ◌/◌, ◌<◌, inl, inr, List, length, get_or, subst, refl, ap, sym, ◌∙◌, arith}
use Rattle.radix_tables.specs.Rows.{Words, AreRows, IsRoomMade, over, row_at, word_in}
use Rattle.radix_tables.specs.Heads.{IsAllOrNone}
use Rattle.radix_tables.proofs.RowWords.{over_length, room_at, row_added, items_added, room_added, spread_rows, spread_items, spread_room}
use Rattle.radix_tables.proofs.word_rows.WordRows.reserve.Goals as goal

-- a table without a row at one of its eight places has none, if it has not one alone
has_none : (rows : List ℕ) (table i : ℕ) → IsAllOrNone rows table → i / 8 ≡ table → get_or rows i 0 ≡ 0 → (k : ℕ) → k / 8 ≡ table → get_or rows k 0 ≡ 0
has_none rows table i (inl f) e z k d = f k d
has_none rows table i (inr f) e z k d = absurd (f i e z)

pub set-requires-clause-inside : goal.set-requires-clause-inside
set-requires-clause-inside c =
    let rows = c.self.inside.rows in
    let words = c.self.inside.words.items in
    let at = c.args.at in
    let inside : at / 8 < length rows = omega (arith, c.requires.at, ap (λ (w : Words). length w.items) c.self.view_is, over_length (word_in rows words) rows) in
    omega (arith, inside)

pub set-requires-clause-none : goal.set-requires-clause-none
set-requires-clause-none c k e =
    let rows = c.self.inside.rows in
    let words = c.self.inside.words.items in
    let at = c.args.at in
    let inside : at / 8 < length rows = omega (arith, c.requires.at, ap (λ (w : Words). length w.items) c.self.view_is, over_length (word_in rows words) rows) in
    let none : get_or rows (at / 8) 0 ≡ 0 = sym (room_at rows at) ∙ (ap (λ (w : Words). get_or w.room at 0) c.self.view_is ∙ c.requires.none) in
    has_none rows (at / 64) (at / 8) c.in-None.ensures.none (omega arith) none k (omega (arith, e))

pub invariant_of-self-in-None : goal.invariant_of-self-in-None
invariant_of-self-in-None c =
    let rows = c.self.inside.rows in
    let words = c.self.inside.words.items in
    let at = c.args.at in
    let inside : at / 8 < length rows = omega (arith, c.requires.at, ap (λ (w : Words). length w.items) c.self.view_is, over_length (word_in rows words) rows) in
    let none : get_or rows (at / 8) 0 ≡ 0 = sym (room_at rows at) ∙ (ap (λ (w : Words). get_or w.room at 0) c.self.view_is ∙ c.requires.none) in
    let now = c.add_row.new.words.items in
    let row = c.in_ok-row-in-None.row in
    subst (λ (rs : List ℕ). AreRows rs now) (sym c.set.ensures) (row_added rows words now (at / 8) row c.self.invariant c.in_ok-row-in-None.ensures.added inside none)

pub returns-in_ok-row-in-None-clause-items : goal.returns-in_ok-row-in-None-clause-items
returns-in_ok-row-in-None-clause-items c =
    let rows = c.self.inside.rows in
    let words = c.self.inside.words.items in
    let at = c.args.at in
    let inside : at / 8 < length rows = omega (arith, c.requires.at, ap (λ (w : Words). length w.items) c.self.view_is, over_length (word_in rows words) rows) in
    let none : get_or rows (at / 8) 0 ≡ 0 = sym (room_at rows at) ∙ (ap (λ (w : Words). get_or w.room at 0) c.self.view_is ∙ c.requires.none) in
    let now = c.add_row.new.words.items in
    let row = c.in_ok-row-in-None.row in
    ap (λ (rs : List ℕ). over (word_in rs now) rs) c.set.ensures
    ∙ (items_added rows words now (at / 8) row c.self.invariant c.in_ok-row-in-None.ensures.added inside none ∙ ap (λ (w : Words). w.items) c.self.view_is)

pub returns-in_ok-row-in-None-clause-room : goal.returns-in_ok-row-in-None-clause-room
returns-in_ok-row-in-None-clause-room c =
    let rows = c.self.inside.rows in
    let words = c.self.inside.words.items in
    let at = c.args.at in
    let inside : at / 8 < length rows = omega (arith, c.requires.at, ap (λ (w : Words). length w.items) c.self.view_is, over_length (word_in rows words) rows) in
    let none : get_or rows (at / 8) 0 ≡ 0 = sym (room_at rows at) ∙ (ap (λ (w : Words). get_or w.room at 0) c.self.view_is ∙ c.requires.none) in
    let now = c.add_row.new.words.items in
    let row = c.in_ok-row-in-None.row in
    subst (λ (w : Words). IsRoomMade w.room (over (row_at c.set.new.self) c.set.new.self) at) c.self.view_is
    (subst (λ (rs : List ℕ). IsRoomMade (over (row_at rows) rows) (over (row_at rs) rs) at) (sym c.set.ensures) (room_added rows words now at row c.in_ok-row-in-None.ensures.added inside none))

pub spread-requires-clause-inside : goal.spread-requires-clause-inside
spread-requires-clause-inside c =
    let rows = c.self.inside.rows in
    let words = c.self.inside.words.items in
    let at = c.args.at in
    let inside : at / 8 < length rows = omega (arith, c.requires.at, ap (λ (w : Words). length w.items) c.self.view_is, over_length (word_in rows words) rows) in
    omega (arith, inside)

pub invariant_of-self-in-Some : goal.invariant_of-self-in-Some
invariant_of-self-in-Some c =
    let rows = c.self.inside.rows in
    let words = c.self.inside.words.items in
    let more = c.add_rows.new.words.items in
    let copied = c.copy_row.new.words.items in
    let first = c.in_ok-first-in-Some.first in
    spread_rows rows c.spread.new.self words more copied (c.args.at / 64) c.in-Some.which c.in-Some.row first c.self.invariant c.in-Some.ensures.one c.in_ok-first-in-Some.ensures.added c.copy_row.ensures c.spread.ensures

pub returns-in_ok-first-in-Some-clause-items : goal.returns-in_ok-first-in-Some-clause-items
returns-in_ok-first-in-Some-clause-items c =
    let rows = c.self.inside.rows in
    let words = c.self.inside.words.items in
    let more = c.add_rows.new.words.items in
    let copied = c.copy_row.new.words.items in
    let first = c.in_ok-first-in-Some.first in
    spread_items rows c.spread.new.self words more copied (c.args.at / 64) c.in-Some.which c.in-Some.row first c.self.invariant c.in-Some.ensures.one c.in_ok-first-in-Some.ensures.added c.copy_row.ensures c.spread.ensures
    ∙ ap (λ (w : Words). w.items) c.self.view_is

pub returns-in_ok-first-in-Some-clause-room : goal.returns-in_ok-first-in-Some-clause-room
returns-in_ok-first-in-Some-clause-room c =
    let rows = c.self.inside.rows in
    let words = c.self.inside.words.items in
    let more = c.add_rows.new.words.items in
    let copied = c.copy_row.new.words.items in
    let first = c.in_ok-first-in-Some.first in
    subst (λ (w : Words). IsRoomMade w.room (over (row_at c.spread.new.self) c.spread.new.self) c.args.at) c.self.view_is
    (spread_room rows c.spread.new.self words more copied (c.args.at / 64) c.in-Some.which c.in-Some.row first c.self.invariant c.in-Some.ensures.one c.in_ok-first-in-Some.ensures.added c.copy_row.ensures c.spread.ensures c.args.at refl)
