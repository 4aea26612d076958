use Rattle.std.proofs.Common.{false}
use Rattle.frame_pool.proofs.Free.{opposite_set, fits_dropped}
use Rattle.frame_pool.proofs.pool.Pool.drop_frame.Goals as goal

pub invariant_of-self : goal.invariant_of-self
invariant_of-self c = record {
  frames = rw c.remove.ensures (fits_dropped _ c.args.number c.self.invariant.frames);
  free = rw (c.insert.ensures, c.remove.ensures) (opposite_set c.self.inside.free c.self.inside.held c.args.number false c.self.invariant.free);
}
