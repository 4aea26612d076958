use Rattle.std.proofs.Common.{◌≡◌, ◌+◌, length, List, ◌++◌}
use Rattle.hm_turns.specs.Sights.{Sight}
use Rattle.hm_workers.specs.Working.{AreOf}
use Rattle.hm_workers.specs.Dealing.{shares_of, gathered, IsGathered}
use Rattle.hm_workers.proofs.dealing.gather.Given as goal

abbrev pub invariant-loop-pass : goal.invariant-loop-pass
invariant-loop-pass g l = record {
  gone : List Sight;
  all : l.passes ++ gone ≡ l.initial.passes;
  sum : l.whole ≡ gathered l.initial.whole gone;
  seen : IsGathered l.initial.whole gone l.whole;
  own : AreOf l.turns l.passes;
  desk : l.whole.desk ≡ l.turns;
  shares : l.whole.shares + shares_of l.passes ≡ l.initial.whole.shares + shares_of l.initial.passes;
}

abbrev pub decreases-loop-pass : goal.decreases-loop-pass
decreases-loop-pass g l = length l.passes
