use denote.Param.Send.{sendable}
use Rattle.std.proofs.Crossing.{crosses}
use Rattle.hm_top.proofs.Sent.{world}
use Rattle.top_tests.proofs.copies.ends_with_the_actors.Goals as goal

pub peek_all-requires-send-S : goal.peek_all-requires-send-S
peek_all-requires-send-S g c κs within = search (world, sendable, crosses) depth 40 fits 4000
