use Rattle.std.proofs.Common.{◌≡◌, ◌<◌, length, sym, ap, ◌∙◌, subst, arith}
use Rattle.hm_base.specs.Program.{Program}
use Rattle.hm_race_lines.specs.Endings.{ends_actor}
use Rattle.hm_race_lines.proofs.Scripts.{none_of, one_of}
use Rattle.hm_race_lines.proofs.endings.may_end_with.Goals as goal

pub returns-then-ends_actor : goal.returns-then-ends_actor
returns-then-ends_actor c =
    let s = c.args.script.now in
    let same : c.len-actor-end.result ≡ length s.actors = c.len-actor-end.ensures ∙ ap (λ (p : Program). length p.actors) c.script.view_is in
    sym (one_of (ends_actor s c.args.line.now) (length s.actors) c.loop-actor.actor (subst (λ n. c.loop-actor.actor < n) same c.loop-actor-test.true)
    (sym c.ends_actor.ensures ∙ c.if-ends_actor.true))

pub returns : goal.returns
returns c =
    let s = c.args.script.now in
    let same : c.len-actor-end.result ≡ length s.actors = c.len-actor-end.ensures ∙ ap (λ (p : Program). length p.actors) c.script.view_is in
    sym (none_of (ends_actor s c.args.line.now) (length s.actors) (λ b lt. c.loop-actor.invariant b (omega (arith, c.loop-actor-test.false, same))))
