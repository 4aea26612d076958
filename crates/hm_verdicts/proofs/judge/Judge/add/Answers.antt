use Rattle.std.proofs.Common.{ap, sym, map, ◌≡◌, ◌∙◌, ◌<◌, length, arith}
use Rattle.std.specs.Prelude.{◌^◌}
use Rattle.hm_protocol.specs.Known.{known_start}
use Rattle.hm_protocol.specs.Noted.{known, known_next}
use Rattle.hm_protocol.specs.Rules.{all_rules}
use Rattle.hm_verdicts.specs.Judging.{count_next}
use Rattle.hm_verdicts.proofs.Judged.{known_more, counts_more, at_known}
use Rattle.hm_verdicts.proofs.judge.Judge.add.Goals as goal

pub returns-clause-next : goal.returns-clause-next
returns-clause-next c es h = let s = c.args.event.now in
    let same : c.args.self.now.knowledge.at ≡ length es = ap (λ k. k.at) h.knowledge ∙ at_known es in
    let short : length es < 2 ^ 32 = omega (arith, same, c.if-self-ge-MOST_EVENTS.false) in record {
      knowledge = c.in_ok-note.ensures ∙ (ap (λ k. known_next k s) h.knowledge ∙ sym (known_more known_start es s));
      counts = c.in_ok-change_items.ensures ∙ (ap (λ k. map (count_next k s) c.args.self.now.counts.items) h.knowledge
          ∙ (ap (map (count_next (known es) s)) h.counts ∙ counts_more es s short all_rules));
    }

pub returns-then-self-ge-MOST_EVENTS-clause-short : goal.returns-then-self-ge-MOST_EVENTS-clause-short
returns-then-self-ge-MOST_EVENTS-clause-short c es h l =
    let same : c.args.self.now.knowledge.at ≡ length es = ap (λ k. k.at) h.knowledge ∙ at_known es in
    absurd (omega (arith, same, l, c.if-self-ge-MOST_EVENTS.true))

pub returns-in_err-change_items-clause-long : goal.returns-in_err-change_items-clause-long
returns-in_err-change_items-clause-long c es h l =
    let same : c.args.self.now.knowledge.at ≡ length es = ap (λ k. k.at) h.knowledge ∙ at_known es in
    absurd (omega (arith, same, l, c.if-self-ge-MOST_EVENTS.false))

pub returns-in_err-note-clause-long : goal.returns-in_err-note-clause-long
returns-in_err-note-clause-long c es h l =
    let same : c.args.self.now.knowledge.at ≡ length es = ap (λ k. k.at) h.knowledge ∙ at_known es in
    absurd (omega (arith, same, l, c.if-self-ge-MOST_EVENTS.false))

pub returns-clause-long : goal.returns-clause-long
returns-clause-long c es h l =
    let same : c.args.self.now.knowledge.at ≡ length es = ap (λ k. k.at) h.knowledge ∙ at_known es in
    absurd (omega (arith, same, l, c.if-self-ge-MOST_EVENTS.false))
