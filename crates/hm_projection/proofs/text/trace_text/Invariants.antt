use Rattle.std.proofs.Common.{◌≡◌, take}
use Rattle.hm_projection.specs.Traces.{all}
use Rattle.hm_trace.specs.Traces.{FitsAll, trace_text}
use Rattle.hm_projection.proofs.text.trace_text.Given as goal

abbrev pub invariant-loop-at : goal.invariant-loop-at
invariant-loop-at l = record {
  text : l.text ≡ trace_text all (take l.at l.events);
  fits : FitsAll (take l.at l.events);
}
