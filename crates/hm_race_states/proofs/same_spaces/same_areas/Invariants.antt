use Rattle.std.proofs.Common.{◌≡◌, ℕ, ◌<◌, [], map, slice_index_or}
use Rattle.std.specs.Rc.{rc_value}
use Rattle.hm_race_states.proofs.same_spaces.same_areas.Given as goal

abbrev pub invariant-loop-proc : goal.invariant-loop-proc
invariant-loop-proc l = (p : ℕ) → p < l.proc → slice_index_or (map rc_value l.one.areas.items) p [] ≡ slice_index_or (map rc_value l.other.areas.items) p []
