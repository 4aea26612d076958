use Rattle.std.proofs.Common.{◌≡◌, ℕ, ◌/◌, ◌%◌, List, get_or, subst, sym, ap, ◌∙◌, arith}
use Rattle.radix_tables.specs.Heads.{HasOne, IsAllOrNone}
use Rattle.radix_tables.proofs.HeadNumbers.{has_one, all_or_none}
use Rattle.radix_tables.proofs.row_numbers.RowNumbers.only.Goals as goal

pub returns-then-head-eq0-clause-none : goal.returns-then-head-eq0-clause-none
returns-then-head-eq0-clause-none c =
    let heads = c.self.inside.heads.items in
    let head : c.head_at-head.result ≡ get_or heads c.args.table 0 = c.head_at-head.ensures ∙ ap (λ (hs : List ℕ). get_or hs c.args.table 0) c.deref.ensures.value in
    subst (λ (ns : List ℕ). IsAllOrNone ns c.args.table) c.self.view_is (all_or_none heads c.args.table (ap (λ x. x % 2) (sym head) ∙ c.if-head-eq0.true))

pub returns-clause-one : goal.returns-clause-one
returns-clause-one c =
    let heads = c.self.inside.heads.items in
    let head : c.head_at-head.result ≡ get_or heads c.args.table 0 = c.head_at-head.ensures ∙ ap (λ (hs : List ℕ). get_or hs c.args.table 0) c.deref.ensures.value in
    let odd : get_or heads c.args.table 0 % 2 ≡ 1 = omega (arith, head, c.if-head-eq0.false) in
    subst (λ (ns : List ℕ). HasOne ns c.args.table (c.head_at-head.result / 2 % 8) (c.head_at-head.result / 16)) c.self.view_is
    (subst (λ x. HasOne (Rattle.radix_tables.specs.Rows.over (Rattle.radix_tables.specs.Heads.number_at heads) heads) c.args.table (x / 2 % 8) (x / 16)) (sym head) (has_one heads c.args.table odd))
