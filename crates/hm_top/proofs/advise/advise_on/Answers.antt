use Rattle.std.proofs.Common.{◌≡◌, subst}
use Rattle.hm_advisor.specs.Text.{advice_text}
use Rattle.hm_edge.specs.Writing.{HasWritten}
use Rattle.hm_top.proofs.Advising.{same_text, written_so}
use Rattle.hm_top.proofs.advise.advise_on.Goals as goal

pub returns-clause-written : goal.returns-clause-written
returns-clause-written g c =
    let w = c.write_advice-written in
    let a = c.in-Ok.advice in
    let before = g.K.Sink.state c.args.sink.now in
    let after = g.K.Sink.state w.new.sink in
    let same = same_text c.args.ran.script c.args.ran.history.entries a c.in-Ok.ensures in
    subst (λ text. HasWritten text (λ t. t ≡ text) before after c.show_run.result.status) same (written_so (advice_text a) before after w.result c.args.ran.full c.show_run.result.status c.show_run.ensures.status w.ensures.text w.ensures.wants)
