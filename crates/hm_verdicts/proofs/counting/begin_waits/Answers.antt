use Rattle.std.proofs.Common.{ap, sym, ◌∙◌}
use Rattle.hm_protocol.specs.declared.rules.Rule.{Rule}
use Rattle.hm_protocol.specs.Verdicts.{asks, one_if}
use Rattle.hm_verdicts.specs.Asking.{are_over_since}
use Rattle.hm_verdicts.specs.Knowledge.{known_of}
use Rattle.hm_verdicts.proofs.counting.begin_waits.Goals as goal

pub returns-in-Begin : goal.returns-in-Begin
returns-in-Begin c = let s = c.args.knowledge.now in let m = c.in-Begin.mirror in
    c.one_if.ensures
    ∙ (ap one_if (c.are_over_since.ensures ∙ ap (λ i. are_over_since m i s.calls) c.at.ensures)
    ∙ sym (ap (asks Rule.BeginWaits (known_of s) c.args.event.now.thread) c.in-Begin.is))
