use Rattle.std.proofs.Common.{Option, ap, ◌∙◌}
use Rattle.hm_base.specs.Pages.{Pages}
use Rattle.hm_race_states.specs.Mirrors.{mirrors_in}
use Rattle.hm_flaw_states.specs.Exact.{exact_in}
use Rattle.hm_flaw_states.specs.Windows.{first_in, window_in}
use Rattle.hm_flaw_states.specs.declared.exact_seqs.ExactSeqs.{ExactSeqs}
use Rattle.hm_flaw_states.proofs.Windows.{first_there}
use Rattle.hm_flaw_states.proofs.here.FlawHereDetails.first_within.Goals as goal

pub returns : goal.returns
returns c =
    let x = c.args.self.now.state.now in
    let m = c.args.mirror in
    c.first_in.ensures
    ∙ (ap (λ (w : Option Pages). first_in w c.args.span) (c.window.ensures ∙ ap (λ (q : ExactSeqs). window_in ((exact_in q.kept).interval m)) c.deref.ensures)
    ∙ first_there (mirrors_in x.mirrors.value m) (window_in ((exact_in x.seqs.value.kept).interval m)) c.args.span (x.windows m))
