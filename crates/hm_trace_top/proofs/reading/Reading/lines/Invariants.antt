use Rattle.std.proofs.Common.{◌≡◌, length}
use Rattle.hm_script.specs.Automaton.{lines}
use Rattle.hm_trace_top.specs.Reading.{read_on}
use Rattle.hm_trace_top.proofs.reading.Reading.lines.Given as goal

-- the lines that are left come to what all lines come to
abbrev pub invariant-loop-rest : goal.invariant-loop-rest
invariant-loop-rest l = read_on l.self (lines l.rest) ≡ read_on l.fn.self (lines l.fn.bytes)

abbrev pub decreases-loop-rest : goal.decreases-loop-rest
decreases-loop-rest l = length l.rest
