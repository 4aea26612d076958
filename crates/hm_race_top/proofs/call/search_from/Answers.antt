use Rattle.std.proofs.Common.{◌≡◌, ℕ, List, length, ◌∙◌, sym, ap, subst}
use Rattle.hm_base.specs.Program.{Program, IsScript}
use Rattle.hm_race_top.specs.declared.text.conditions.question.Question.{Question}
use Rattle.hm_search.specs.Values.{all_known}
use Rattle.hm_search.proofs.Exploring.{known_length}
use Rattle.hm_race_states.specs.Keyed.{form_in}
use Rattle.hm_race_top.specs.Asked.{goals_in}
use Rattle.hm_race_top.specs.Goals.{settled}
use Rattle.hm_race_top.specs.Run.Played.{all_played}
use Rattle.hm_race_top.specs.declared.run.played.Played.{Played}
use Rattle.hm_race_top.specs.Telling.{HasTold, told}
use Rattle.hm_race_top.proofs.Holding.{HasSearched, holds_by}
use Rattle.hm_race_top.proofs.Reporting.{has_found}
use Rattle.hm_race_top.proofs.call.search_from.Goals as goal

pub returns-in-Ok-orders_after-clause-found : goal.returns-in-Ok-orders_after-clause-found
returns-in-Ok-orders_after-clause-found g c =
    let tells = g.K.Sink.state in
    let s = c.args.race.now.script in
    let task = c.args.task.now in
    let states = c.in-Ok.found.known.items in
    let known = all_known form_in states in
    let end = c.in-Ok.found.end in
    let most = c.args.most in
    let played = all_played c.in-Ok-orders_after.orders in
    let all : length states ≡ length known = sym (known_length form_in states) in
    let asked : c.new-goal.result.questions ≡ goals_in task = c.new-goal.ensures.questions ∙ c.goals.ensures in
    let actors : c.new-goal.result.actors ≡ length s.actors = c.new-goal.ensures.actors ∙ c.len.ensures ∙ ap (λ (p : Program). length p.actors) c.script.view_is ∙ ap (λ (p : Program). length p.actors) c.script-script.ensures in
    let searched : HasSearched most s (settled c.new-goal.result.questions c.new-goal.result.actors) (length states) known end = record {
      complete = c.in-Ok.ensures.complete;
      all = c.in-Ok.ensures.all;
      few = c.in-Ok.ensures.few;
      cut = c.in-Ok.ensures.cut;
      reached = c.in-Ok.ensures.reached;
      soon = c.in-Ok.ensures.soon;
      near = c.in-Ok.ensures.near;
      missed = c.in-Ok.ensures.missed;
      are_known = c.in-Ok.ensures.known;
      distinct = c.in-Ok.ensures.distinct;
      rising = c.in-Ok.ensures.rising;
      fewest = c.in-Ok.ensures.fewest;
    } in
    has_found most s task known played end (holds_by (record {
      are_true = c.known_is_true.ensures;
      are_all = c.complete_is_all.ensures;
      are_real = c.true_is_real.ensures;
      are_listed = c.all_is_listed.ensures;
      twice = c.none_twice.ensures;
      right = c.rulings_are_right.ensures;
      seen = c.seen_is_right.ensures;
      strict = c.strict_is_right.ensures;
    }) most s (subst (λ (p : Program). IsScript p) c.script-script.ensures c.facts.ensures) c.requires.races task known played end
    (subst (λ (n : ℕ). HasSearched most s (settled (goals_in task) (length s.actors)) n known end) all
    (subst (λ (n : ℕ). HasSearched most s (settled (goals_in task) n) (length states) known end) actors
    (subst (λ (qs : List Question). HasSearched most s (settled qs c.new-goal.result.actors) (length states) known end) asked
    searched)))
    (record { orders = c.in-Ok-orders_after.ensures.orders; led = c.in-Ok-orders_after.ensures.led; none = c.in-Ok-orders_after.ensures.none }))
    c.requires.races c.requires.asks (tells c.args.sink.now) (tells c.write_found.new.sink) c.write_found.result
    (subst (λ (ps : List Played). HasTold (told s task known (all_played ps) end) (tells c.args.sink.now) (tells c.write_found.new.sink) c.write_found.result) c.as_slice.ensures
    (subst (λ (p : Program). HasTold (told p task known (all_played c.as_slice.result.now) end) (tells c.args.sink.now) (tells c.write_found.new.sink) c.write_found.result) c.script-script.ensures c.write_found.ensures.written))
