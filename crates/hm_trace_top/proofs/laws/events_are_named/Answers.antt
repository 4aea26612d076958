use Rattle.hm_trace_top.proofs.Naming.{events_are_named}
use Rattle.hm_trace_top.proofs.laws.events_are_named.Goals as goal

pub returns : goal.returns
returns c = events_are_named
