use Rattle.std.proofs.Common.{ℕ, ◌+◌, ◌*◌, ◌/◌, ◌%◌, ◌∷◌, [], ap, sym, ◌∙◌, refl, arith}
use Rattle.radix_tables.specs.Levels.{from_sixth}
use Rattle.radix_tables.proofs.Made.{same_over, child_same, first_levels, first_has, unchanged, two_same}
use Rattle.radix_tables.proofs.Tables.{table_first, place_inside, child_has}
use Rattle.radix_tables.proofs.levels.Levels.make_fifth.Goals as goal

pub returns-then-number-eq0-clause-same : goal.returns-then-number-eq0-clause-same
returns-then-number-eq0-clause-same c =
    let l = c.args.self.now in
    first_levels _ _ (l.second.items ∷ l.third.items ∷ l.fourth.items ∷ []) _ _ (from_sixth l) c.requires.levels refl refl refl refl refl c.first_table.ensures.entries c.first_table.ensures.whole c.first_table.ensures.more c.first_table.ensures.few

pub returns-clause-same : goal.returns-clause-same
returns-clause-same c =
    let l = c.make_sixth.new.self in
    let levels = c.make_sixth.ensures.same.levels in
    let inside = place_inside l.sixth.items ([]) (c.args.number / 64) c.place.result (c.args.number % 64) levels.tables.1.1.1.1.1 (first_has _ [] (c.args.number / 64) (omega arith) c.in_ok-make_sixth.ensures.ok) (c.place.ensures ∙ ap (λ (k : ℕ). k * 64 + c.args.number % 64) (sym (table_first [] (c.args.number / 64) (omega arith)))) (omega arith) in
    same_over _ _ _ c.make_sixth.ensures.same (child_same l _ (l.second.items ∷ l.third.items ∷ l.fourth.items ∷ []) _ _ _ _ ([]) c.place.result levels refl refl refl refl refl levels.tables.1.1.1.0.tables inside c.in_ok-child.ensures.child)

pub returns-clause-ok : goal.returns-clause-ok
returns-clause-ok c =
    let l = c.make_sixth.new.self in
    let levels = c.make_sixth.ensures.same.levels in
    child_has l.sixth.items _ l.fifth.items _ ([]) c.args.number c.place.result c.if-number-eq0.false levels.tables.1.1.1.1.0 levels.tables.1.1.1.0.tables (c.place.ensures ∙ ap (λ (k : ℕ). k * 64 + c.args.number % 64) (sym (table_first [] (c.args.number / 64) (omega arith)))) c.in_ok-child.ensures.child

pub returns-in_err-child-clause-same : goal.returns-in_err-child-clause-same
returns-in_err-child-clause-same c = let l = c.make_sixth.new.self in unchanged _ l _ c.make_sixth.ensures.same refl (two_same (l.second.items ∷ l.third.items ∷ l.fourth.items ∷ []) [] c.in_err-child.ensures.child) refl refl
