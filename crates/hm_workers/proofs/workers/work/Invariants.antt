use Rattle.hm_turns.specs.Sights.{GoesOn}
use Rattle.hm_workers.specs.Working.{IsAdded}
use Rattle.hm_workers.proofs.workers.work.Given as goal

abbrev pub invariant-loop : goal.invariant-loop
invariant-loop g l = GoesOn l.initial.pass l.pass × IsAdded l.initial.pass l.pass l.added
