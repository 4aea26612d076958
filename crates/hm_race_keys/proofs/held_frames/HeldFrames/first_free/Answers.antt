use Rattle.std.proofs.Common.{◌≡◌, false, ◌∙◌, rules}
use Rattle.std.specs.Prelude.{not}
use Rattle.hm_history.specs.Memory.Places.{frame_of}
use Rattle.hm_race_keys.specs.FrameTables.{held_in}
use Rattle.hm_history.proofs.Least.{searched_on}
use Rattle.hm_race_keys.proofs.held_frames.HeldFrames.first_free.Goals as goal

pub loop-number-preserved : goal.loop-number-preserved
loop-number-preserved c =
    let fails : not (held_in c.args.self.now (frame_of c.args.pool.now c.loop-number.number)) ≡ false = search rules in
    c.loop-number.invariant ∙ searched_on (λ n. not (held_in c.args.self.now (frame_of c.args.pool.now n))) c.loop-number.number c.args.size c.loop-number-test.true fails
