use Rattle.std.proofs.Common.{◌≡◌, ◌*◌, replicate}
use Rattle.frame_pool.specs.Frames.{overwritten}
use Rattle.frame_pool.proofs.pool_bytes.PoolBytes.zero_frame.Given as goal

abbrev pub invariant-loop-part : goal.invariant-loop-part
invariant-loop-part l = l.self ≡ overwritten l.fn.self l.at (replicate (l.part * 512) 0)
