use Rattle.std.proofs.Common.{◌≡◌, ◌≤◌, length}
use Rattle.hm_script.specs.Automaton.{lines}
use Rattle.hm_trace_top.specs.Lists.{after_body, body}
use Rattle.hm_trace_top.specs.Reading.{read_on}
use Rattle.hm_trace_top.proofs.reading.Reading.body.Given as goal

-- the lines that are left come to what all lines come to
abbrev pub invariant-loop-line : goal.invariant-loop-line
invariant-loop-line l = record {
  reads : read_on l.self (body (lines l.rest)) ≡ read_on l.fn.self (body (lines l.fn.bytes));
  after : after_body (lines l.rest) ≡ after_body (lines l.fn.bytes);
  shorter : length l.rest ≤ length l.fn.bytes;
}

abbrev pub decreases-loop-line : goal.decreases-loop-line
decreases-loop-line l = length l.rest
