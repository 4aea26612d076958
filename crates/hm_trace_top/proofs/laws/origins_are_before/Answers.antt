use Rattle.hm_trace_top.proofs.GoesBack.{origins_are_before}
use Rattle.hm_trace_top.proofs.LookUps.{look_ups_are_known}
use Rattle.hm_trace_top.proofs.laws.origins_are_before.Goals as goal

pub returns : goal.returns
returns c = record { before = origins_are_before; look_ups = look_ups_are_known }
