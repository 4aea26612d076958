use Rattle.std.proofs.Common.{◌≡◌, drop}
use Rattle.hm_actors.specs.Coming.{first_from}
use Rattle.hm_actors.proofs.coming.first_from.Given as goal

abbrev pub invariant-loop-migrating : goal.invariant-loop-migrating
invariant-loop-migrating g l = first_from (g.C.Concerns.concerns l.concerns l.step) l.next l.records ≡ first_from (g.C.Concerns.concerns l.concerns l.step) l.next (drop l.migrating-index l.records)
