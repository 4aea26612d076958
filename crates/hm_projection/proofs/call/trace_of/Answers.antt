use Rattle.std.proofs.Common.{◌≡◌, List, ◌∙◌, subst}
use Rattle.std.specs.Prelude.{IfOk}
use Rattle.hm_protocol.specs.Projection.{project}
use Rattle.hm_protocol.specs.declared.events.Traced.{Traced}
use Rattle.hm_trace.specs.Traces.{IsReadAs, trace_text}
use Rattle.hm_projection.specs.Traces.{all}
use Rattle.hm_projection.proofs.Texts.{reads_back}
use Rattle.hm_projection.proofs.call.trace_of.Goals as goal

pub returns-clause-text : goal.returns-clause-text
returns-clause-text c =
    let is : c.as_slice.result.now ≡ project c.args.report.script c.args.report.history.entries = c.as_slice.ensures.value ∙ c.in_ok-events.ensures in
    subst (λ (es : List Traced). IfOk c.trace_text.result (λ t. t ≡ trace_text all es)) is c.trace_text.ensures.text

pub returns-clause-reads : goal.returns-clause-reads
returns-clause-reads c =
    let is : c.as_slice.result.now ≡ project c.args.report.script c.args.report.history.entries = c.as_slice.ensures.value ∙ c.in_ok-events.ensures in
    subst (λ (es : List Traced). IfOk c.trace_text.result (λ t. IsReadAs (trace_text all es) all es)) is
    (reads_back c.trace_text.result c.as_slice.result.now c.trace_text.ensures.few c.trace_text.ensures.fits)
