use Rattle.std.proofs.Common.{◌≡◌, drop}
use Rattle.hm_race_states.specs.Buckets.{mixed_records}
use Rattle.hm_race_states.proofs.buckets.mixed_records.Given as goal

abbrev pub invariant-loop-record : goal.invariant-loop-record
invariant-loop-record l = mixed_records l.total (drop l.record-index l.records) ≡ mixed_records l.sum l.records
