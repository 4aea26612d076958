use Rattle.hm_race_top.specs.Text.Conditions.Tails.{size_of}
use Rattle.hm_race_top.proofs.ReadTo.{ReadTo}
use Rattle.hm_race_top.proofs.text.conditions.grammar.read_body.Given as goal

abbrev pub invariant-loop-rest : goal.invariant-loop-rest
invariant-loop-rest l = ReadTo l.words l.rest l.reading l.number

abbrev pub decreases-loop-rest : goal.decreases-loop-rest
decreases-loop-rest l = size_of l.rest
