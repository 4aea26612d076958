use Rattle.std.proofs.Common.{ℕ, ap, ◌∙◌, arith}
use Rattle.std.specs.Prelude.{Option, Some, ◌+◌, ◌&&◌, nat_le, nat_lt, if◌then◌else◌}
use Rattle.std.proofs.lemmas.Result.{on_ok_weaker}
use Rattle.hm_parts.specs.Lookups.{told_in}
use Rattle.hm_parts.proofs.PastsOn.{told_put, told_read}
use Rattle.hm_parts.proofs.pasts.Pasts.tell.Goals as goal

pub returns-clause-told : goal.returns-clause-told
returns-clause-told c =
    let xs = c.args.self.now.told.items in
    let m = c.args.mirror in
    let from = c.number-first.result in
    let n = c.count.result in
    let at = c.args.at in
    on_ok_weaker c.set.result
    (λ s. told_put xs c.number.result m at c.args.span c.set.new.self c.number.ensures.same (omega arith)
    (λ v. s v
    ∙ ap (λ (o : Option ℕ). if nat_le from v && nat_lt v (from + n) then Some at else o) (told_read xs c.number.result m c.index_mut-told.result.now _ v c.index_mut-told.ensures.value c.number.ensures.same (omega arith))
    ∙ ap (λ (k : ℕ). if nat_le k v && nat_lt v (k + n) then Some at else told_in xs m v) (c.number-first.ensures.same ∙ c.first.ensures.same)
    ∙ ap (λ (k : ℕ). if nat_le c.args.span.first v && nat_lt v (c.args.span.first + k) then Some at else told_in xs m v) c.count.ensures.same))
    c.set.ensures
