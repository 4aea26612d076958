use denote.Param.Send.{sendable}
use Rattle.std.proofs.Crossing.{crosses}
use Rattle.hm_top.proofs.Sent.{world}
use Rattle.top_tests.proofs.copies.a_store_between_copy_and_check.Goals as goal

pub meet-requires-send-S : goal.meet-requires-send-S
meet-requires-send-S g c κs = search (world, sendable, crosses) depth 40 fits 4000
