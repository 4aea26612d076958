use Rattle.std.proofs.Common.{◌≡◌, [], map, replicate}
use Rattle.std.specs.Rc.{rc_value}
use Rattle.hm_race_states.proofs.spaces.nothing_mapped.Given as goal

abbrev pub invariant-loop-at : goal.invariant-loop-at
invariant-loop-at l = record {
  none : l.none.value ≡ [];
  so_far : map rc_value l.all.items ≡ replicate l._at [];
}
