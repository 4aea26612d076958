use Rattle.std.proofs.Common.{ℕ, Bool, ap, ◌∙◌, arith}
use Rattle.std.specs.Prelude.{Option, Some, ◌==◌, if◌then◌else◌}
use Rattle.std.proofs.lemmas.Result.{on_ok_weaker}
use Rattle.hm_parts.specs.Lookups.{set_in}
use Rattle.hm_parts.proofs.PastsOn.{set_put, set_read}
use Rattle.hm_parts.proofs.pasts.Pasts.set.Goals as goal

pub returns-clause-sets : goal.returns-clause-sets
returns-clause-sets c =
    let xs = c.args.self.now.sets.items in
    let m = c.args.mirror in
    let z : Bool × ℕ = (c.args.goes_back, c.args.since) in
    on_ok_weaker c.put.result
    (λ s. set_put xs c.number.result m c.args.page z c.put.new.self c.number.ensures.same (omega arith)
    (λ v. s v
    ∙ ap (λ (o : Option (Bool × ℕ)). if v == c.number-2.result then Some z else o) (set_read xs c.number.result m c.index_mut-sets.result.now _ v c.index_mut-sets.ensures.value c.number.ensures.same (omega arith))
    ∙ ap (λ (k : ℕ). if v == k then Some z else set_in xs m v) c.number-2.ensures.same))
    c.put.ensures
