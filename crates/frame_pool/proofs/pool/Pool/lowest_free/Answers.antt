use Rattle.std.proofs.Common.{◌∙◌, ap}
use Rattle.frame_pool.specs.Frames.{lowest_free}
use Rattle.frame_pool.proofs.Free.{first_free, live}
use Rattle.frame_pool.proofs.pool.Pool.lowest_free.Goals as goal

pub returns : goal.returns
returns c =
    c.next_at_or_after.ensures ∙ (first_free _ _ c.self.invariant.free ∙ (live _ _ c.if-self.false ∙ ap lowest_free c.self.view_is))
