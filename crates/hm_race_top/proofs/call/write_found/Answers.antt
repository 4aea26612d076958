use Rattle.std.proofs.Common.{List, length, ◌∙◌, sym, ap, subst}
use Rattle.hm_base.specs.Program.{Program}
use Rattle.hm_search.specs.Values.{all_known}
use Rattle.hm_search.proofs.Exploring.{known_length}
use Rattle.hm_race_states.specs.Keyed.{form_in}
use Rattle.hm_race_top.specs.declared.text.block.OutcomeBlock.{OutcomeBlock}
use Rattle.hm_race_top.specs.Run.Played.{all_played}
use Rattle.hm_race_top.specs.Telling.{HasTold, telling, told}
use Rattle.hm_race_top.proofs.Reporting.{told_same}
use Rattle.hm_race_top.proofs.call.write_found.Goals as goal

pub returns-in-Ok-tell-clause-written : goal.returns-in-Ok-tell-clause-written
returns-in-Ok-tell-clause-written g c =
    let tells = g.K.Sink.state in
    let s = c.args.script.now in
    let task = c.args.task.now in
    let end = c.args.found.now.end in
    let xs = c.as_slice-known.result.now in
    subst (λ t. HasTold t (tells c.args.sink.now) (tells c.write_telling.new.sink) c.write_telling.result)
    (c.in-Ok-tell.ensures.telling
    ∙ ap (λ (bs : List OutcomeBlock). telling s task bs (length xs) end) c.as_slice.ensures
    ∙ told_same s task (all_known form_in xs) (all_played c.args.orders.now) end c.in-Ok.blocks c.len.result (length xs)
    (c.len.ensures ∙ ap (λ (p : Program). length p.actors) c.script.view_is)
    (sym (known_length form_in xs)) c.in-Ok.ensures
    ∙ ap (λ ys. told s task (all_known form_in ys) (all_played c.args.orders.now) end) c.as_slice-known.ensures.value)
    c.write_telling.ensures.written
