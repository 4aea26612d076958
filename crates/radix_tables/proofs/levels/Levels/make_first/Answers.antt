use Rattle.std.proofs.Common.{◌≡◌, ℕ, List, length, ◌∷◌, ◌+◌, ◌*◌, ◌/◌, ◌%◌, ap, ◌∙◌, refl, arith}
use Rattle.radix_tables.specs.Levels.{from_second, from_third}
use Rattle.radix_tables.specs.Rows.{Words}
use Rattle.radix_tables.proofs.Made.{first_result, first_ok, same_over, child_made, unchanged}
use Rattle.radix_tables.proofs.Tables.{table_inside, place_inside, child_has}
use Rattle.radix_tables.proofs.levels.Levels.make_first.Goals as goal

pub returns-then-block-eq0-clause-same : goal.returns-then-block-eq0-clause-same
returns-then-block-eq0-clause-same c =
    let f = c.first_words.ensures in
    first_result _ _ _ c.requires.levels refl refl refl f.ok f.err (omega (arith, f.grown, c.requires.used)) (omega (arith, f.grown, c.requires.marks))

pub returns-then-block-eq0-clause-ok : goal.returns-then-block-eq0-clause-ok
returns-then-block-eq0-clause-ok c = first_ok c.args.self.now.words c.first_words.new.words (from_second c.args.self.now) c.args.block c.first_words.result c.if-block-eq0.true c.first_words.ensures.ok

pub place-requires : goal.place-requires
place-requires c =
    let l = c.make_second.new.self in
    let levels = c.make_second.ensures.same.levels in
    let inside = table_inside l.second.items (from_third l) (c.args.block / 64) levels.tables.1 c.in_ok-make_second.ensures.ok in
    omega (arith, inside, c.second_table-table.ensures)

pub returns-clause-same : goal.returns-clause-same
returns-clause-same c =
    let l = c.make_second.new.self in
    let s = c.make_second.ensures in
    let place = c.place.ensures ∙ ap (λ (k : ℕ). k * 64 + c.args.block % 64) c.second_table-table.ensures in
    let inside = place_inside l.second.items (from_third l) (c.args.block / 64) c.place.result (c.args.block % 64) s.same.levels.tables.1 c.in_ok-make_second.ensures.ok place (omega arith) in
    let old : length l.words.items ≡ length c.args.self.now.words.items = ap (λ (w : Words). length w.items) s.others.0 in
    same_over _ l _ s.same (child_made l _ c.place.result (from_third l) s.same.levels refl refl refl refl inside c.in_ok-child_words.ensures.child c.child_words.ensures.long
    (omega (arith, c.child_words.ensures.grown, old, s.others.1, c.requires.used)) (omega (arith, c.child_words.ensures.grown, old, s.others.2, c.requires.marks)))

pub returns-clause-ok : goal.returns-clause-ok
returns-clause-ok c =
    let l = c.make_second.new.self in
    let place = c.place.ensures ∙ ap (λ (k : ℕ). k * 64 + c.args.block % 64) c.second_table-table.ensures in
    child_has l.second.items _ l.words.items _ (from_third l) c.args.block c.place.result c.if-block-eq0.false c.make_second.ensures.same.levels.tables.0 c.make_second.ensures.same.levels.words place c.in_ok-child_words.ensures.child.0

pub returns-in_err-child_words-clause-same : goal.returns-in_err-child_words-clause-same
returns-in_err-child_words-clause-same c =
    let l = c.make_second.new.self in
    let f = c.in_err-child_words.ensures.child in
    unchanged _ l _ c.make_second.ensures.same f.1 (ap (λ (zs : List ℕ). zs ∷ from_third l) f.0) refl refl
