use Rattle.std.proofs.Common.{◌+◌, arith, Some, sym, subst}
use Rattle.std.specs.Prelude.{IfSome}
use Rattle.hm_race_top.specs.Run.Played.{IsAt, IsNextTurn}
use Rattle.hm_race_top.specs.Run.Systems.{race_of}
use Rattle.hm_race_top.specs.Run.Turns.{IsShown}
use Rattle.hm_race_top.proofs.Playing.{at_next}
use Rattle.hm_race_top.proofs.Turns.{entries_from}
use Rattle.hm_search.specs.Systems.{point_at}
use Rattle.hm_race_top.proofs.run.played.Order.go.Goals as goal

pub next_turn-requires-clause-kept : goal.next_turn-requires-clause-kept
next_turn-requires-clause-kept c =
    let t = c.args.race.now in
    let turns = c.args.self.now.turns in
    subst (IsShown t.script c.args.self.now.key.state)
    (omega (arith, c.entries.ensures, c.len.ensures, entries_from t.script t.set_up))
    c.requires.at.kept

pub returns-in_ok-push-in-Some-clause-at : goal.returns-in_ok-push-in-Some-clause-at
returns-in_ok-push-in-Some-clause-at c =
    let t = c.args.race.now in
    let turns = c.args.self.now.turns in
    let y = race_of t.script t.set_up in
    let so : IsNextTurn y (point_at y turns) c.args.first (Some c.in-Some.turn) = subst (IsNextTurn y (point_at y turns) c.args.first) c.in-Some.is (c.in_ok-next_turn.ensures.turn turns (sym c.requires.at.form)) in
    let shown : IsShown t.script c.in-Some.turn.key.state (c.entries.result + c.len.result + 1) = subst (λ o. IfSome o (λ u. IsShown t.script u.key.state (c.entries.result + c.len.result + 1))) c.in-Some.is c.in_ok-next_turn.ensures.kept in
    subst (IsAt t c.in-Some.turn.key) (sym c.in_ok-push-in-Some.ensures.ok)
    (at_next t c.stands.ensures c.facts.ensures.system c.args.self.now.key turns c.in-Some.turn c.requires.at
    (omega (arith, c.entries.ensures, c.len.ensures, entries_from t.script t.set_up, c.if-entries-ge-MOST_ENTRIES.false))
    so.0
    (subst (IsShown t.script c.in-Some.turn.key.state) (omega (arith, c.entries.ensures, c.len.ensures, entries_from t.script t.set_up)) shown))
