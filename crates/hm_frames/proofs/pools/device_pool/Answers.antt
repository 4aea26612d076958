use Rattle.std.proofs.Common.{◌≡◌, ℕ, sym, ap, ◌∙◌, subst, Option, unwrap_or}
use Rattle.std.specs.Result.{IfOk}
use Rattle.std.specs.Option.{option_copied}
use Rattle.std.proofs.lemmas.Option.{unwrap_or-slice_get}
use Rattle.hm_frames.specs.Pools.{PoolState, fresh_pool, frames_of_device}
use Rattle.hm_frames.proofs.pools.device_pool.Goals as goal

pub returns-in-None : goal.returns-in-None
returns-in-None c =
    let none : frames_of_device c.args.devices.now c.args.number ≡ 0 = sym (unwrap_or-slice_get c.args.devices.now c.args.number 0) ∙ ap (λ (o : Option ℕ). unwrap_or o 0) (sym c.get.ensures ∙ ap option_copied c.in-None.is) in
    subst (λ (n : ℕ). IfOk c.new-in-None.result (λ (pool : PoolState). pool ≡ fresh_pool n)) (sym none) c.new-in-None.ensures
