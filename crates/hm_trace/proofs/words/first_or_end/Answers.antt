use Rattle.std.proofs.Common.{◌∙◌, eqb, sym}
use Rattle.hm_trace.proofs.Places.{no_place, some_place}
use Rattle.hm_trace.proofs.words.first_or_end.Goals as goal

pub returns-in-Some-clause-at : goal.returns-in-Some-clause-at
returns-in-Some-clause-at c = some_place (λ b. eqb b c.args.byte) c.args.bytes.now c.in-Some.at (sym c.in-Some.is ∙ c.find_byte.ensures.gives)

pub returns-in-None-clause-at : goal.returns-in-None-clause-at
returns-in-None-clause-at c = no_place (λ b. eqb b c.args.byte) c.args.bytes.now (sym c.in-None.is ∙ c.find_byte.ensures.gives)
