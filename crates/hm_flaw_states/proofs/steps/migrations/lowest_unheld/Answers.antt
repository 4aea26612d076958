use Rattle.std.proofs.Common.{◌≡◌, ℕ, Bool, false, ◌∙◌, rules}
use Rattle.std.specs.Prelude.{not}
use Rattle.hm_base.specs.declared.PoolId.{PoolId}
use Rattle.hm_history.specs.Memory.Places.{frame_of}
use Rattle.hm_history.proofs.Least.{searched_on}
use Rattle.hm_flaw_states.proofs.steps.migrations.lowest_unheld.Goals as goal

pub loop-number-preserved : goal.loop-number-preserved
loop-number-preserved g c =
    let t : ℕ → Bool = λ n. not ((g.W.Reads.state c.args.found.now).after.places.held (frame_of (PoolId.Device c.args.dev) n)) in
    let fails : not ((g.W.Reads.state c.args.found.now).after.places.held (frame_of (PoolId.Device c.args.dev) c.loop-number.number)) ≡ false = search rules in
    c.loop-number.invariant ∙ searched_on t c.loop-number.number c.args.size c.loop-number-test.true fails
