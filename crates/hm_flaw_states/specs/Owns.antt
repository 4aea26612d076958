-- What a driver has of its own, as contracts see it.
use Rattle.std.specs.Prelude.{ℕ, ⊤, Bool, false, List, length, slice_index_or}
use Rattle.hm_base.specs.declared.Frame.{Frame}
use Rattle.hm_history.specs.declared.Kind.{Kind}
use Rattle.hm_laws.specs.Allowed.{InPage}
use Rattle.hm_flaws.specs.Drivers.{Driver, is_device}
use Rattle.hm_flaws.specs.declared.flaws.Flaw.{Flaw}
use Rattle.hm_flaw_states.specs.FrameBytes.{contents_in}
use Rattle.hm_flaw_states.specs.LateSpans.{late_in}
use Rattle.hm_flaw_states.specs.OwnTables.{table_in}
use Rattle.hm_flaw_states.specs.declared.owns.Own.{Own}

-- the sequence of a mirror's interval
abbrev pub seq_in : List ℕ → ℕ → ℕ
seq_in xs m = slice_index_or xs m 0

-- what it stands for
abbrev pub driver_in : Own → Driver
driver_in x = record {
  table = table_in x.table;
  seq = seq_in x.seqs;
  late = late_in x.late.of_actors.items;
  contents = contents_in x.bytes;
}

-- a frame that is taken keeps its bytes
abbrev pub leaves_bytes : Flaw → Frame → Bool
leaves_bytes Flaw.NotCleared f = is_device f
leaves_bytes l f = false

-- the bytes of a store lie in one page
abbrev pub StaysInPage : Kind → Type 0
StaysInPage (Kind.Stored x at bs) = InPage at (length bs)
StaysInPage k = ⊤
