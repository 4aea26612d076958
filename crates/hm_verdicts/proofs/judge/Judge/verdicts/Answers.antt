use Rattle.std.proofs.Common.{ap, map, ◌∙◌}
use Rattle.hm_protocol.specs.Noted.{known}
use Rattle.hm_protocol.specs.Rules.{all_rules}
use Rattle.hm_verdicts.specs.Judging.{said_of}
use Rattle.hm_verdicts.specs.Knowledge.{known_of}
use Rattle.hm_verdicts.proofs.Said.{all_said}
use Rattle.hm_verdicts.proofs.judge.Judge.verdicts.Goals as goal

pub returns-clause-are : goal.returns-clause-are
returns-clause-are c es h = let x = c.args.recorded in
    c.in_ok-verdicts.ensures ∙ (ap (map (said_of x (known_of c.args.self.now.knowledge))) c.deref.ensures.value
    ∙ (ap (λ k. map (said_of x k) c.args.self.now.counts.items) h.knowledge
    ∙ (ap (map (said_of x (known es))) h.counts ∙ all_said x es all_rules)))
