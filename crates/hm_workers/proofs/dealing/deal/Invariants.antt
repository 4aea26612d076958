use Rattle.std.proofs.Common.{◌≡◌, ◌+◌, length, replicate}
use Rattle.hm_workers.specs.Working.{AreOf}
use Rattle.hm_workers.specs.Dealing.{shares_of, less_shares}
use Rattle.hm_turns.specs.Sights.{half_of}
use Rattle.hm_workers.proofs.dealing.deal.Given as goal

abbrev pub invariant-loop : goal.invariant-loop
invariant-loop g l = record { passes : l.passes ≡ replicate l.counter (half_of l.initial.whole); whole : l.whole ≡ less_shares l.initial.whole l.counter; desk : l.whole.desk ≡ l.initial.whole.desk; own : AreOf l.turns l.passes; count : length l.passes ≡ l.counter; shares : l.whole.shares + shares_of l.passes ≡ l.initial.whole.shares; left : l.whole.shares + l.counter ≡ l.initial.whole.shares }
