use Rattle.std.proofs.Common.{◌≡◌, ℕ, Option, List, length, refl, sym, ap, ◌∙◌, subst}
use Rattle.std.specs.Prelude.{MatchOption}
use Rattle.hm_base.specs.Program.{Program}
use Rattle.hm_check.specs.FirstBad.{IsLegalReport}
use Rattle.hm_check.specs.Parts.{tail_of}
use Rattle.hm_check.proofs.Exact.{judged_bad, judged_good}
use Rattle.hm_history.specs.declared.Entry.{Entry}
use Rattle.hm_report.specs.Report.{report}
use Rattle.hm_report_front.specs.Parts.{Differ}
use Rattle.hm_script.specs.Automaton.{lines}
use Rattle.hm_check.proofs.verdict.judge.Goals as goal

pub returns-in-Some : goal.returns-in-Some
returns-in-Some c = λ whole parts at.
    let world = c.in-Ok.taken.world in
    let tail = tail_of world.script world.history in
    let rest = c.in-Ok.taken.rest.now in
    let differ = subst (λ (o : Option ℕ). MatchOption o (tail ≡ rest) (Differ (lines tail) (lines rest))) c.in-Some.is c.in_ok-same.ensures.differ in
    judged_bad c.one_text.ensures c.every_history_is_legal.ensures whole c.args.bytes.now rest tail c.args.script world.script world.history c.args.first c.len.result c.in-Some.same c.in-Ok.ensures.taken refl differ parts at (c.len.ensures ∙ ap length c.into_parts-script.ensures.history)

pub returns-in-None : goal.returns-in-None
returns-in-None c = λ whole parts at.
    let world = c.in-Ok.taken.world in
    let tail = tail_of world.script world.history in
    let rest = c.in-Ok.taken.rest.now in
    let same = subst (λ (o : Option ℕ). MatchOption o (tail ≡ rest) (Differ (lines tail) (lines rest))) c.in-None.is c.in_ok-same.ensures.differ in
    let good = judged_good c.every_history_is_legal.ensures whole c.args.bytes.now rest tail c.args.script world.script world.history c.in-Ok.ensures.taken refl same parts in
    subst (λ (p : Program). IsLegalReport p c.into_parts-script.result.1.entries × (whole ≡ report p c.into_parts-script.result.1.entries)) (sym c.into_parts-script.ensures.script)
    (subst (λ (h : List Entry). IsLegalReport world.script h × (whole ≡ report world.script h)) (sym c.into_parts-script.ensures.history) good)
