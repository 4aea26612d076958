use Rattle.std.proofs.Common.{◌+◌, true, sym, subst, ap, ◌∙◌}
use Rattle.hm_race_top.specs.Run.Played.{HasGone, IsAt}
use Rattle.hm_race_top.specs.Run.Systems.{race_of}
use Rattle.hm_race_top.specs.declared.run.played.Order.{Order}
use Rattle.hm_race_top.proofs.Playing.{known_at, longer, prefers_more}
use Rattle.hm_race_top.proofs.run.played.play.Goals.{else-loop-test, then-loop-test+in_ok-go+then-not-branch}
use Rattle.hm_race_top.proofs.run.played.play.Goals as goal

pub loop-preserved : goal.loop-preserved
loop-preserved c =
    let t = c.args.race.now in
    let y = race_of t.script t.set_up in
    let old = c.loop.order.turns in
    let new = c.go.new.self.turns in
    let gone : HasGone y c.args.first old new true = subst (HasGone y c.args.first old new) c.if-not-branch.false c.in_ok-go.ensures.gone in (
      c.in_ok-go.ensures.at,
      (
        prefers_more t c.stands.ensures c.facts.ensures.system c.args.first old new c.loop.invariant.1.0 gone,
        longer t c.stands.ensures c.facts.ensures.system c.args.first old new gone ∙ ap (λ n. n + 1) c.loop.invariant.1.1,
      ),
    )

pub returns-clause-known : goal.returns-clause-known
returns-clause-known c =
    let t = c.args.race.now in
    let at : IsAt t c.loop-test.order.key c.loop-test.order.turns = elim c.loop-test.branch [
      | else-loop-test w ↦ subst (λ (o : Order). IsAt t o.key o.turns) (sym w.order-is) c.loop.invariant.0
      | then-loop-test+in_ok-go+then-not-branch w ↦ subst (λ (o : Order). IsAt t o.key o.turns) (sym w.order-is) w.in_ok-go.ensures.at
    ] in
    known_at t c.stands.ensures c.facts.ensures.system (record { key = c.loop-test.order.key; turns = c.loop-test.order.turns; ended = c.ended-ended.result }) at
    (c.ended-ended.ensures c.loop-test.order.turns (sym at.form))
