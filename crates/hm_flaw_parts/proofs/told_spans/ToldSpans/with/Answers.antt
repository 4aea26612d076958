use Rattle.std.proofs.Common.{rules}
use Rattle.std.specs.Prelude.{not}
use Rattle.std.proofs.lemmas.Fn.{filter_same}
use Rattle.hm_flaw_parts.specs.Told.{is_covered}
use Rattle.hm_flaw_parts.specs.declared.told_spans.ToldSpan.{ToldSpan}
use Rattle.hm_flaw_parts.proofs.told_spans.ToldSpans.with.Goals as goal

pub returns-in-Ok : goal.returns-in-Ok
returns-in-Ok c =
    let test = λ (x : ToldSpan). not (is_covered c.args.span x) in
    let kept = filter_same _ test _ (λ x b f h. (search rules, search rules)) _ _ c.retain.ensures.filtered in
    search (rules, kept)
