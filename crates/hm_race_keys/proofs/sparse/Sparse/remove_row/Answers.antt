use Rattle.std.proofs.Common.{ap, ◌∙◌, rules}
use Rattle.std.specs.Prelude.{◌==◌, not, if◌then◌else◌, None}
use Rattle.std.proofs.lemmas.Fn.{filter_same}
use Rattle.hm_race_keys.specs.Sparse.{rising_from, found}
use Rattle.hm_race_keys.specs.declared.sparse.Item.{Item}
use Rattle.hm_race_keys.proofs.Ordered.{kept_rising, kept_found}
use Rattle.hm_race_keys.proofs.sparse.Sparse.remove_row.Goals as goal

pub invariant_of-self : goal.invariant_of-self
invariant_of-self g c =
    let test = λ (x : Item g.row.V.Denot). not (x.row == c.args.row) in
    let kept = filter_same _ test _ (λ x b f h. (search rules, search rules)) _ _ c.retain.ensures.filtered in
    ap (rising_from 0 0) kept ∙ kept_rising test 0 0 c.self.inside.items.items c.self.invariant

pub returns : goal.returns
returns g c = λ r k.
    let test = λ (x : Item g.row.V.Denot). not (x.row == c.args.row) in
    let kept = filter_same _ test _ (λ x b f h. (search rules, search rules)) _ _ c.retain.ensures.filtered in
    ap (λ ws. found ws r k) kept ∙ (kept_found (λ q j. q == c.args.row) c.self.inside.items.items r k ∙ ap (λ zs. if r == c.args.row then None else found zs r k) c.self.view_is)
