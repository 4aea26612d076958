use Rattle.std.proofs.Common.{ℕ, ◌/◌, ◌%◌, List, get_or, ap, sym, ◌∙◌}
use Rattle.radix_tables.specs.Heads.{number_in}
use Rattle.radix_tables.proofs.HeadNumbers.{number_here}
use Rattle.radix_tables.proofs.row_numbers.RowNumbers.get.Goals as goal

pub returns-clause-number : goal.returns-clause-number
returns-clause-number c =
    let heads = c.self.inside.heads.items in
    let at = c.args.at in
    c.number_in.ensures.number
    ∙ (ap (λ x. number_in x (at % 8)) (c.head_at.ensures ∙ ap (λ (hs : List ℕ). get_or hs (at / 8) 0) c.deref.ensures.value)
    ∙ (sym (number_here heads at) ∙ ap (λ (ns : List ℕ). get_or ns at 0) c.self.view_is))
