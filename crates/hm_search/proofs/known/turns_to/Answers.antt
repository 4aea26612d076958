use Rattle.std.proofs.Common.{◌≡◌, Some, None, reverse, ap, ◌∙◌, arith}
use Rattle.hm_search.specs.Known.{turns_at}
use Rattle.hm_search.specs.Values.{all_known, from_of}
use Rattle.hm_search.proofs.Unrolled.{goes_back, ends_none, ends_some}
use Rattle.hm_search.proofs.known.turns_to.Goals.{in-Some+in_ok-push+then-turn-place, in_default}
use Rattle.hm_search.proofs.known.turns_to.Goals as goal

pub loop-turn-preserved : goal.loop-turn-preserved
loop-turn-preserved g c =
    let form = g.K.SearchKey.form in
    let known = c.args.known.now in
    let from : from_of known c.loop-turn.place ≡ Some c.in-Some.turn = cc c.in-Some.ensures in
    goes_back form known c.loop-turn.place (turns_at (all_known form known) c.args.at) c.loop-turn.turns.items c.push.new.self.items c.in-Some.turn from (omega (arith, c.if-turn-place.false)) c.in_ok-push.ensures.items c.loop-turn.invariant

pub returns : goal.returns
returns g c =
    let form = g.K.SearchKey.form in
    let known = c.args.known.now in
    c.reverse.ensures.items ∙
    elim c.match-turn_to.branch [
      | in-Some+in_ok-push+then-turn-place w ↦
          let from : from_of known c.loop-turn.place ≡ Some w.in-Some.turn = cc w.in-Some.ensures in
          ap (λ v. reverse v.items) w.turns-is
          ∙ ends_some form known c.loop-turn.place (turns_at (all_known form known) c.args.at) c.loop-turn.turns.items w.push.new.self.items w.in-Some.turn from (omega (arith, w.if-turn-place.true)) w.in_ok-push.ensures.items c.loop-turn.invariant
      | in_default w ↦
          let from : from_of known c.loop-turn.place ≡ None = cc w.in_default.ensures in
          ap (λ v. reverse v.items) w.turns-is
          ∙ ends_none form known c.loop-turn.place (turns_at (all_known form known) c.args.at) c.loop-turn.turns.items from c.loop-turn.invariant
    ]
