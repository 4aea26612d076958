use Rattle.std.proofs.Common.{ℕ, ◌+◌, ◌*◌, ◌/◌, ◌%◌, [], ap, ◌∙◌, refl, arith}
use Rattle.radix_tables.specs.Levels.{from_fourth, from_third}
use Rattle.radix_tables.proofs.Made.{same_over, child_same, first_levels, unchanged, two_same}
use Rattle.radix_tables.proofs.Tables.{table_inside, place_inside, child_has}
use Rattle.radix_tables.proofs.levels.Levels.make_second.Goals as goal

pub returns-then-number-eq0-clause-same : goal.returns-then-number-eq0-clause-same
returns-then-number-eq0-clause-same c =
    let l = c.args.self.now in
    first_levels _ _ ([]) _ _ (from_third l) c.requires.levels refl refl refl refl refl c.first_table.ensures.entries c.first_table.ensures.whole c.first_table.ensures.more c.first_table.ensures.few

pub place-requires : goal.place-requires
place-requires c =
    let l = c.make_third.new.self in
    let levels = c.make_third.ensures.same.levels in
    let inside = table_inside l.third.items (from_fourth l) (c.args.number / 64) levels.tables.1.1 c.in_ok-make_third.ensures.ok in
    omega (arith, inside, c.third_table-table.ensures)

pub returns-clause-same : goal.returns-clause-same
returns-clause-same c =
    let l = c.make_third.new.self in
    let levels = c.make_third.ensures.same.levels in
    let inside = place_inside l.third.items (from_fourth l) (c.args.number / 64) c.place.result (c.args.number % 64) levels.tables.1.1 (c.in_ok-make_third.ensures.ok) (c.place.ensures ∙ ap (λ (k : ℕ). k * 64 + c.args.number % 64) c.third_table-table.ensures) (omega arith) in
    same_over _ _ _ c.make_third.ensures.same (child_same l _ ([]) _ _ _ _ (from_fourth l) c.place.result levels refl refl refl refl refl levels.tables.0.tables inside c.in_ok-child.ensures.child)

pub returns-clause-ok : goal.returns-clause-ok
returns-clause-ok c =
    let l = c.make_third.new.self in
    let levels = c.make_third.ensures.same.levels in
    child_has l.third.items _ l.second.items _ (from_fourth l) c.args.number c.place.result c.if-number-eq0.false levels.tables.1.0 levels.tables.0.tables (c.place.ensures ∙ ap (λ (k : ℕ). k * 64 + c.args.number % 64) c.third_table-table.ensures) c.in_ok-child.ensures.child

pub returns-in_err-child-clause-same : goal.returns-in_err-child-clause-same
returns-in_err-child-clause-same c = let l = c.make_third.new.self in unchanged _ l _ c.make_third.ensures.same refl (two_same ([]) (from_fourth l) c.in_err-child.ensures.child) refl refl
