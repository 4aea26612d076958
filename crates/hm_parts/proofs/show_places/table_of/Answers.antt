use Rattle.std.proofs.Common.{ℕ, Option, sym, ap, ◌∙◌}
use Rattle.hm_folds.specs.Standing.{entry_read}
use Rattle.hm_parts.specs.Shown.{table_at}
use Rattle.hm_parts.proofs.show_places.table_of.Goals as goal

pub returns-in-Some : goal.returns-in-Some
returns-in-Some c = λ p s shown.
    c.table_at.ensures p s shown ∙ ap (λ (o : Option (ℕ × ℕ)). entry_read (table_at s o)) (sym c.in-Some.is ∙ c.through.ensures)
