use Rattle.std.proofs.Common.{ℕ, ◌+◌, ◌*◌, ◌/◌, ◌%◌, ◌∷◌, [], ap, ◌∙◌, refl, arith}
use Rattle.radix_tables.specs.Levels.{from_fifth, from_fourth}
use Rattle.radix_tables.proofs.Made.{same_over, child_same, first_levels, unchanged, two_same}
use Rattle.radix_tables.proofs.Tables.{table_inside, place_inside, child_has}
use Rattle.radix_tables.proofs.levels.Levels.make_third.Goals as goal

pub returns-then-number-eq0-clause-same : goal.returns-then-number-eq0-clause-same
returns-then-number-eq0-clause-same c =
    let l = c.args.self.now in
    first_levels _ _ (l.second.items ∷ []) _ _ (from_fourth l) c.requires.levels refl refl refl refl refl c.first_table.ensures.entries c.first_table.ensures.whole c.first_table.ensures.more c.first_table.ensures.few

pub place-requires : goal.place-requires
place-requires c =
    let l = c.make_fourth.new.self in
    let levels = c.make_fourth.ensures.same.levels in
    let inside = table_inside l.fourth.items (from_fifth l) (c.args.number / 64) levels.tables.1.1.1 c.in_ok-make_fourth.ensures.ok in
    omega (arith, inside, c.fourth_table-table.ensures)

pub returns-clause-same : goal.returns-clause-same
returns-clause-same c =
    let l = c.make_fourth.new.self in
    let levels = c.make_fourth.ensures.same.levels in
    let inside = place_inside l.fourth.items (from_fifth l) (c.args.number / 64) c.place.result (c.args.number % 64) levels.tables.1.1.1 (c.in_ok-make_fourth.ensures.ok) (c.place.ensures ∙ ap (λ (k : ℕ). k * 64 + c.args.number % 64) c.fourth_table-table.ensures) (omega arith) in
    same_over _ _ _ c.make_fourth.ensures.same (child_same l _ (l.second.items ∷ []) _ _ _ _ (from_fifth l) c.place.result levels refl refl refl refl refl levels.tables.1.0.tables inside c.in_ok-child.ensures.child)

pub returns-clause-ok : goal.returns-clause-ok
returns-clause-ok c =
    let l = c.make_fourth.new.self in
    let levels = c.make_fourth.ensures.same.levels in
    child_has l.fourth.items _ l.third.items _ (from_fifth l) c.args.number c.place.result c.if-number-eq0.false levels.tables.1.1.0 levels.tables.1.0.tables (c.place.ensures ∙ ap (λ (k : ℕ). k * 64 + c.args.number % 64) c.fourth_table-table.ensures) c.in_ok-child.ensures.child

pub returns-in_err-child-clause-same : goal.returns-in_err-child-clause-same
returns-in_err-child-clause-same c = let l = c.make_fourth.new.self in unchanged _ l _ c.make_fourth.ensures.same refl (two_same (l.second.items ∷ []) (from_fifth l) c.in_err-child.ensures.child) refl refl
