use Rattle.std.proofs.Common.{◌≡◌, ℕ, List, [], ◌++◌, length, ap, ◌∙◌}
use Rattle.hm_protocol.specs.Rules.{all_rules}
use Rattle.hm_protocol.specs.declared.events.Traced.{Traced}
use Rattle.hm_protocol.specs.declared.rules.Rule.{Rule}
use Rattle.hm_protocol.specs.declared.rules.Verdict.{Verdict}
use Rattle.hm_trace.specs.declared.reader.Progress.{Progress}
use Rattle.hm_trace_top.specs.Texts.{events_line, lines_text, rule_lines}
use Rattle.hm_trace_top.proofs.text.lines_text.Goals as goal

joined : (p : Progress) (m : ℕ) (es : List Traced) (ns : List ℕ) (rs : List Rule) (vs : List Verdict) (old mid new : List ℕ) → old ≡ [] → m ≡ length es → rs ≡ all_rules
    → mid ≡ old ++ events_line p m → new ≡ mid ++ rule_lines es ns rs vs → new ≡ lines_text p es ns vs
unfolding lines_text
joined p m es ns rs vs old mid new empty count rules first rest =
    rest
    ∙ ap (λ (z : List ℕ). z ++ rule_lines es ns rs vs) (first ∙ ap (λ (z : List ℕ). z ++ events_line p m) empty ∙ ap (λ k. events_line p k) count)
    ∙ ap (λ (z : List Rule). events_line p (length es) ++ rule_lines es ns z vs) rules

pub returns : goal.returns
returns c =
    joined c.args.trace.now.progress (length c.as_slice-events.result.now) c.args.trace.now.events.items c.args.trace.now.numbers.items c.all_rules-rules.result c.args.verdicts.now
    c.new-text.result c.add_events_line.new.text c.add_rule_lines.new.text c.new-text.ensures (ap length c.as_slice-events.ensures.value) c.all_rules-rules.ensures
    c.in_ok-add_events_line.ensures c.in_ok-add_rule_lines.ensures
