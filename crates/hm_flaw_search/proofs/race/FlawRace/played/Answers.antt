use Rattle.hm_flaw_parts.specs.Judged.{judged_parts}
use Rattle.std.proofs.Common.{◌+◌, arith, subst, sym, take}
use Rattle.hm_flaw_search.specs.Played.{IsOwedAfter}
use Rattle.hm_flaw_search.proofs.Playing.{goes_not, goes_on, key_next, key_stays, owed_goes}
use Rattle.hm_flaw_search.proofs.race.FlawRace.played.Goals as goal
use Rattle.hm_flaw_search.proofs.race.FlawRace.played.Goals.{in-Some, in-None}

pub loop-actor-preserved : goal.loop-actor-preserved
loop-actor-preserved c =
    let r = c.args.self.now in
    let parts = judged_parts r.judging in
    let turns = c.args.turns.now in
    record {
      played = elim c.match-branch-4.branch [
        | in-Some w ↦ goes_on parts r.flaw r.script r.set_up turns c.loop-actor.actor-index c.actor-item.result c.loop-actor.key c.match-branch-4.key c.in_ok-next.field-0 c.loop-actor.invariant.played c.loop-actor-test.true c.actor-item.is c.in_ok-next.ensures.next w.in-Some.next w.in-Some.is w.key-is
        | in-None w ↦ goes_not parts r.flaw r.script r.set_up turns c.loop-actor.actor-index c.actor-item.result c.loop-actor.key c.match-branch-4.key c.in_ok-next.field-0 c.loop-actor.invariant.played c.loop-actor-test.true c.actor-item.is c.in_ok-next.ensures.next w.in-None.is w.key-is
      ];
      owed = subst (IsOwedAfter parts r.flaw r.script r.set_up (take (c.loop-actor.actor-index + 1) turns)) (sym c.earlier-owed.ensures) (owed_goes parts r.flaw r.script r.set_up turns c.loop-actor.actor-index c.actor-item.result c.loop-actor.key c.match-branch-4.key c.in_ok-next.field-0 c.loop-actor.invariant.played c.loop-actor-test.true c.actor-item.is c.in_ok-next.ensures.next c.loop-actor.owed c.in_ok-now.now c.loop-actor.invariant.owed c.in_ok-now.ensures);
      kept = elim c.match-branch-4.branch [
        | in-Some w ↦ key_next r c.in_ok-next.field-0 w.in-Some.next c.match-branch-4.key c.loop-actor.entries w.in-Some.is w.key-is c.in_ok-next.ensures.kept
        | in-None w ↦ key_stays r c.loop-actor.key c.match-branch-4.key c.loop-actor.entries w.key-is c.loop-actor.invariant.kept
      ];
      count = omega (arith, c.loop-actor.invariant.count);
    }

pub next_key-requires : goal.next_key-requires
next_key-requires c = record {
  kept = c.loop-actor.invariant.kept;
  room = omega (arith, c.requires, c.loop-actor.invariant.count, c.loop-actor-test.true);
}
