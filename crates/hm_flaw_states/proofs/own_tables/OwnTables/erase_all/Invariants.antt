use Rattle.std.proofs.Common.{◌≡◌, map, drop}
use Rattle.hm_flaws.specs.Drivers.{erased_all}
use Rattle.hm_flaw_states.specs.OwnTables.{table_in}
use Rattle.hm_flaw_states.specs.LateSpans.{pair_of}
use Rattle.hm_flaw_states.proofs.own_tables.OwnTables.erase_all.Given as goal

abbrev pub invariant-loop-late : goal.invariant-loop-late
invariant-loop-late l = erased_all (table_in l.self) (map pair_of (drop l.late-index l.spans)) ≡ erased_all (table_in l.fn.self) (map pair_of l.spans)
