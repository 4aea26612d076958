use Rattle.std.proofs.Common.{◌≡◌, ℕ, ◌++◌, List, ap, ◌∙◌}
use Rattle.hm_projection.specs.Traces.{all}
use Rattle.hm_trace.specs.Spelling.{event_line}
use Rattle.hm_projection.proofs.Texts.{fits_more, text_more}
use Rattle.hm_projection.proofs.text.trace_text.Goals as goal

pub loop-at-preserved : goal.loop-at-preserved
loop-at-preserved c =
    let e = c.index-events-at.result in
    let next : c.extend-in-loop-at.new.self ≡ c.loop-at.text ++ event_line c.loop-at.at e =
    c.in_ok-extend-2.ensures.ok ∙ ap (λ (t : List ℕ). c.loop-at.text ++ t) (c.as_slice-in-loop-at.ensures ∙ c.put_line-in-loop-at.ensures) in
    record {
      text = text_more all c.args.events.now c.loop-at.at e c.loop-at.text c.extend-in-loop-at.new.self c.loop-at.invariant.text c.loop-at-test.true c.index-events-at.is next;
      fits = fits_more c.args.events.now c.loop-at.at e c.loop-at.invariant.fits c.loop-at-test.true c.index-events-at.is c.fits_traced.ensures;
    }
