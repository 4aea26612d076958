use Rattle.std.proofs.Common.{◌≡◌, ◌+◌, ◌≤◌, length}
use Rattle.hm_script.specs.Automaton.{run, reading, lines}
use Rattle.hm_script.specs.Reader.{state_of}
use Rattle.hm_script.proofs.script.read.Given as goal

abbrev pub invariant-loop-rest : goal.invariant-loop-rest
invariant-loop-rest l = (run l.words l.number (state_of l.reader) (lines l.rest) ≡ reading l.words l.bytes) × (l.number + length l.rest ≤ length l.bytes + 1)

abbrev pub decreases-loop-rest : goal.decreases-loop-rest
decreases-loop-rest l = length l.rest
