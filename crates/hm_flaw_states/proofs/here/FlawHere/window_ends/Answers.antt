use Rattle.std.proofs.Common.{◌≡◌, ◌+◌, ◌^◌, ◌≤◌, Option, Some, None, sym, ap, subst, ◌∙◌}
use Rattle.hm_base.specs.Pages.{Pages}
use Rattle.hm_race_states.specs.Mirrors.{mirrors_in}
use Rattle.hm_flaw_states.specs.Exact.{exact_in}
use Rattle.hm_flaw_states.specs.Windows.{window_in}
use Rattle.hm_flaw_states.specs.declared.exact_seqs.ExactSeqs.{ExactSeqs}
use Rattle.hm_flaw_states.proofs.Answering.{window_is}
use Rattle.hm_flaw_states.proofs.here.FlawHere.window_ends.Goals as goal

pub returns-in-Some : goal.returns-in-Some
returns-in-Some c = λ x is.
    let s = c.args.self.now.state.now in
    let m = c.args.mirror in
    let kept : Some c.in-Some.window ≡ window_in ((exact_in s.seqs.value.kept).interval m) = sym c.in-Some.is ∙ (c.window.ensures ∙ ap (λ (q : ExactSeqs). window_in ((exact_in q.kept).interval m)) c.deref.ensures) in
    let same : Some c.in-Some.window ≡ Some x.window = kept ∙ window_is (mirrors_in s.mirrors.value m) _ x (s.windows m) is in
    let one : c.in-Some.window ≡ x.window = cc in
    subst (λ (w : Pages). w.first + w.count ≤ 2 ^ 36) one c.facts.ensures.ends

pub returns-in-None : goal.returns-in-None
returns-in-None c = λ x is.
    let s = c.args.self.now.state.now in
    let m = c.args.mirror in
    let none : Option Pages = None in
    let kept : none ≡ window_in ((exact_in s.seqs.value.kept).interval m) = sym c.in-None.is ∙ (c.window.ensures ∙ ap (λ (q : ExactSeqs). window_in ((exact_in q.kept).interval m)) c.deref.ensures) in
    let same : none ≡ Some x.window = kept ∙ window_is (mirrors_in s.mirrors.value m) _ x (s.windows m) is in
    absurd (let no : ⊥ = cc in no)
