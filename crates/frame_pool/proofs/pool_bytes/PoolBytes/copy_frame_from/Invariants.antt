use Rattle.std.proofs.Common.{◌≡◌, ◌*◌}
use Rattle.frame_pool.specs.Frames.{overwritten, part_of}
use Rattle.frame_pool.proofs.pool_bytes.PoolBytes.copy_frame_from.Given as goal

abbrev pub invariant-loop-part : goal.invariant-loop-part
invariant-loop-part l = l.self ≡ overwritten l.fn.self l.to (part_of l.from l.at (l.part * 512))
