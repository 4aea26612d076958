use Rattle.std.proofs.Common.{ap, ◌∙◌, rules}
use Rattle.std.specs.Prelude.{◌==◌, ◌&&◌, not, nat_le, nat_lt, if◌then◌else◌, None}
use Rattle.std.proofs.lemmas.Fn.{filter_same}
use Rattle.hm_race_keys.specs.Sparse.{rising_from, found}
use Rattle.hm_race_keys.specs.declared.sparse.Item.{Item}
use Rattle.hm_race_keys.proofs.Ordered.{kept_rising, kept_found}
use Rattle.hm_race_keys.proofs.sparse.Sparse.remove_span.Goals as goal

pub invariant_of-self : goal.invariant_of-self
invariant_of-self g c =
    let test = λ (x : Item g.row.V.Denot). not ((x.row == c.args.row) && (nat_le c.args.from x.number && nat_lt x.number c.args.end)) in
    let kept = filter_same _ test _ (λ x b f h. (search rules, search rules)) _ _ c.retain.ensures.filtered in
    ap (rising_from 0 0) kept ∙ kept_rising test 0 0 c.self.inside.items.items c.self.invariant

pub returns : goal.returns
returns g c = λ r k.
    let test = λ (x : Item g.row.V.Denot). not ((x.row == c.args.row) && (nat_le c.args.from x.number && nat_lt x.number c.args.end)) in
    let kept = filter_same _ test _ (λ x b f h. (search rules, search rules)) _ _ c.retain.ensures.filtered in
    ap (λ ws. found ws r k) kept ∙ (kept_found (λ q j. (q == c.args.row) && (nat_le c.args.from j && nat_lt j c.args.end)) c.self.inside.items.items r k ∙ ap (λ zs. if (r == c.args.row) && (nat_le c.args.from k && nat_lt k c.args.end) then None else found zs r k) c.self.view_is)
