use Rattle.std.proofs.Common.{◌∷◌, [], refl}
use Rattle.radix_tables.proofs.Made.{first_levels}
use Rattle.radix_tables.proofs.levels.Levels.make_sixth.Goals as goal

pub returns-clause-same : goal.returns-clause-same
returns-clause-same c =
    let l = c.args.self.now in
    first_levels _ _ (l.second.items ∷ l.third.items ∷ l.fourth.items ∷ l.fifth.items ∷ []) _ _ [] c.requires.levels refl refl refl refl refl c.first_table.ensures.entries c.first_table.ensures.whole c.first_table.ensures.more c.first_table.ensures.few
