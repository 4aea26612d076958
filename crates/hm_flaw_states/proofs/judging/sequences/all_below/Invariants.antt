use Rattle.std.proofs.Common.{◌≡◌, nat_lt, drop}
use Rattle.std.specs.List.{list_all}
use Rattle.hm_flaw_states.proofs.judging.sequences.all_below.Given as goal

abbrev pub invariant-loop-one : goal.invariant-loop-one
invariant-loop-one l = list_all (λ k. nat_lt k l.mirror) l.told ≡ list_all (λ k. nat_lt k l.mirror) (drop l.one-index l.told)
