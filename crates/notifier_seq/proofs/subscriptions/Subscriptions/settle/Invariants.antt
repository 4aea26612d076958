use Rattle.std.proofs.Common.{◌≡◌, ◌++◌, map, take, drop}
use Rattle.notifier_seq.specs.Sequences.{settled}
use Rattle.notifier_seq.proofs.subscriptions.Subscriptions.settle.Given as goal

abbrev pub invariant-loop-number : goal.invariant-loop-number
invariant-loop-number l = record {
  settled : l.self.intervals ≡ map settled (take l.number l.initial.self.intervals) ++ drop l.number l.initial.self.intervals;
  room : l.self.room ≡ l.initial.self.room;
}
