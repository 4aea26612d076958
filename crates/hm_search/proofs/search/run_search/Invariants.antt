use Rattle.std.proofs.Common.{◌≤◌, length}
use Rattle.hm_search.specs.Goals.{AreMissed}
use Rattle.hm_search.specs.Known.{IsNear}
use Rattle.hm_search.specs.Values.{all_known, AreKept, Searching}
use Rattle.hm_search.proofs.search.run_search.Given as goal

-- the states up to this place were gone on from, and none reaches the goal
abbrev pub invariant-loop-at : goal.invariant-loop-at
invariant-loop-at g l =
    let y = g.S.System.value l.system in
    let key = g.S.Key.SearchKey in
    let known = l.states.known.items in
    record {
      searching : Searching y g.S.System.form key.form key.number key.Valid known l.states.buckets l.at;
      reached : l.at ≤ length known;
      near : IsNear y.actors l.most (length known);
      missed : AreMissed (g.G.Goal.reached l.goal) (all_known g.G.Goal.read known);
      kept : AreKept y (g.S.System.Kept l.system) known;
    }
