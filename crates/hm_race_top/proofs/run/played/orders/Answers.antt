use Rattle.std.proofs.Common.{◌≡◌, ◌++◌, ◌∷◌, [], ◌+◌, List, length, sym, ap, subst, ◌∙◌}
use Rattle.std.proofs.lemmas.List.{length-append}
use Rattle.hm_race_top.specs.Run.Known.{AreKnown}
use Rattle.hm_race_top.specs.Run.Played.{all_played, AreOrders, IsOrder}
use Rattle.hm_race_top.specs.Run.Systems.{race_of}
use Rattle.hm_race_top.specs.declared.run.played.Played.{Played}
use Rattle.hm_race_top.proofs.Playing.{known_more, orders_more}
use Rattle.hm_race_top.proofs.run.played.orders.Goals as goal

pub loop-number-preserved : goal.loop-number-preserved
loop-number-preserved c =
    let t = c.args.race.now in
    let y = race_of t.script t.set_up in
    let ps = c.loop-number.played in
    let p = c.in_ok-play.field-0 in
    let is : c.push.new.self ≡ ps ++ p ∷ [] = c.in_ok-push.ensures.ok in
    let before = c.loop-number.invariant in
    let order : IsOrder y c.loop-number.number p.turns = subst (λ a. IsOrder y a p.turns) c.new.ensures c.in_ok-play.ensures.order in (
      subst (λ (qs : List Played). AreKnown t.script t.set_up (all_played qs)) (sym is) (known_more t c.stands.ensures c.facts.ensures.system ps p before.0 c.in_ok-play.ensures.known),
      (
        ap (λ (qs : List Played). length qs) is ∙ length-append ps (p ∷ []) ∙ ap (λ n. n + 1) before.1.0,
        subst (λ (qs : List Played). AreOrders y 0 (all_played qs)) (sym is) (orders_more y ps p before.1.1 (subst (λ a. IsOrder y a p.turns) (sym before.1.0) order)),
      ),
    )
