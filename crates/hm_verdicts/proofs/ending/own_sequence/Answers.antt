use Rattle.std.proofs.Common.{ap, ◌∙◌, not}
use Rattle.std.specs.List.{list_any}
use Rattle.hm_protocol.specs.Rules.{first_call}
use Rattle.hm_verdicts.specs.Ending.{own_events_if, own_sequence_if}
use Rattle.hm_verdicts.specs.Knowledge.{known_of}
use Rattle.hm_verdicts.proofs.ending.own_sequence.Goals as goal

pub returns : goal.returns
returns c =
    let s = c.args.knowledge.now in
    let k = known_of s in
    let is_so = not c.some_set_sequence-is_so.result in
    let e = ap not c.some_set_sequence-is_so.ensures in
    c.own_sequence_in.ensures
    ∙ (ap (λ d. first_call (own_sequence_if is_so (not d)) k) c.some_own_events_if.ensures
    ∙ ap (λ b. first_call (own_sequence_if b (not (list_any (own_events_if b k) s.calls))) k) e)
