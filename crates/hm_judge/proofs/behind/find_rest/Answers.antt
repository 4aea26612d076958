use Rattle.std.proofs.Common.{List, ℕ, ◌∙◌, subst}
use Rattle.hm_report_front.specs.Parts.{Differ}
use Rattle.hm_script.specs.Automaton.{lines}
use Rattle.hm_judge.proofs.behind.find_rest.Goals as goal

pub returns-in-Some : goal.returns-in-Some
returns-in-Some c = record {
  same = c.in-Some.same;
  differ = subst (λ (z : List ℕ). Differ (lines z) (lines c.args.rest.now) c.in-Some.same) (c.as_slice-tail.ensures ∙ c.put_ending.ensures.text) c.in-Some.ensures.differ;
  said = c.in_ok-bad-in-Some.ensures;
}
