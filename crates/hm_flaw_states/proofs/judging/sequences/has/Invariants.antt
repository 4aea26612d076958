use Rattle.std.proofs.Common.{◌≡◌, ◌==◌, drop}
use Rattle.std.specs.List.{list_any}
use Rattle.hm_flaw_states.proofs.judging.sequences.has.Given as goal

abbrev pub invariant-loop-one : goal.invariant-loop-one
invariant-loop-one l = list_any (λ k. k == l.mirror) l.told ≡ list_any (λ k. k == l.mirror) (drop l.one-index l.told)
