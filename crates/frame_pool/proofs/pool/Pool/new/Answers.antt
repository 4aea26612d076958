use Rattle.std.proofs.Common.{arith}
use Rattle.frame_pool.proofs.Free.{fits_fresh, opposite_none}
use Rattle.frame_pool.proofs.pool.Pool.new.Goals as goal

pub invariant_of-result : goal.invariant_of-result
invariant_of-result c = record {
  frames = rw (c.in_ok-held.ensures, c.in_ok-bytes.ensures, c.in_ok-locks.ensures) (fits_fresh c.args.frames (omega arith));
  free = rw (c.in_ok-free.ensures, c.in_ok-held.ensures) (opposite_none c.args.frames);
}
