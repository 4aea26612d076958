use Rattle.std.proofs.Common.{◌+◌, ◌≤◌, length}
use Rattle.hm_search.specs.Systems.{point_at}
use Rattle.hm_search.specs.Known.{turns_at, GoneOnBelow}
use Rattle.hm_search.specs.Values.{all_known, AreKept, HasGrown, Searching}
use Rattle.hm_search.proofs.search.step.Given as goal

-- the search has gone on from the state by the actors so far
abbrev pub invariant-loop-number : goal.invariant-loop-number
invariant-loop-number g l =
    let y = g.S.System.value l.system in
    let key = g.S.Key.SearchKey in
    let before = l.fn.states.known.items in
    let known = l.states.known.items in
    let turns = turns_at (all_known g.S.System.form before) l.at in
    record {
      searching : Searching y g.S.System.form key.form key.number key.Valid known l.states.buckets l.at;
      grown : HasGrown before known l.number;
      below : GoneOnBelow y (all_known g.S.System.form known) (point_at y turns) (length turns + 1) l.number;
      bound : l.number ≤ y.actors;
      kept : AreKept y (g.S.System.Kept l.system) known;
    }
