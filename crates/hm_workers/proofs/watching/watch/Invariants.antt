use Rattle.std.proofs.Common.{◌≤◌, length}
use Rattle.std.specs.Prelude.{IfSome}
use Rattle.hm_workers.specs.Watching.{HasWatched, IsKept, RightPeeks}
use Rattle.hm_workers.proofs.watching.watch.Given as goal

abbrev pub invariant-loop-tries : goal.invariant-loop-tries
invariant-loop-tries g l = record {
  kept : IfSome l.copy (λ s. IsKept l.asked l.pass.list s);
  peeks : RightPeeks l.asked l.pass l.peeks;
  few : length l.peeks ≤ 1000;
  pass : HasWatched l.tries l.initial.pass l.pass;
}
