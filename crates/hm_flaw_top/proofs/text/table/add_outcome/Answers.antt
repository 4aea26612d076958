use Rattle.std.proofs.Common.{◌≡◌, ℕ, ◌++◌, codes, sym, subst, OnOk}
use Rattle.std.specs.Fmt.{decimal}
use Rattle.hm_flaw_top.specs.Text.Table.{outcome_words}
use Rattle.hm_flaw_search.specs.declared.answer.Found.{Found}
use Rattle.hm_flaw_top.proofs.text.table.add_outcome.Goals as goal

pub returns-in-Stuck : goal.returns-in-Stuck
returns-in-Stuck c =
    let old = c.args.text.now in
    let new = c.add_decimal-in-Stuck.new.text in
    let r = c.add_decimal-in-Stuck.result in
    subst (λ (found : Found). OnOk r (new ≡ old ++ outcome_words c.args.answer.now.unused found)) (sym c.in-Stuck.is)
    (subst (λ (n : ℕ). OnOk r (new ≡ old ++ (codes "stuck after " ++ decimal n))) c.len.ensures c.add_decimal-in-Stuck.ensures)
