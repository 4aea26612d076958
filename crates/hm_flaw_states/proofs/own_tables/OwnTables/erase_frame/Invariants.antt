use Rattle.std.proofs.Common.{◌≡◌, ℕ, ◌&&◌, ◌-◌, if◌then◌else◌, None, drop, length}
use Rattle.std.specs.Prelude.{is_some}
use Rattle.hm_flaws.specs.Drivers.{names_frame}
use Rattle.hm_race_keys.specs.Sparse.{found}
use Rattle.hm_flaw_states.specs.OwnTables.{table_in}
use Rattle.hm_flaw_states.proofs.own_tables.OwnTables.erase_frame.Given as goal

abbrev pub invariant-loop-done : goal.invariant-loop-done
invariant-loop-done l =
    (m v : ℕ) → table_in l.self m v
    ≡ (if is_some (found (drop (length l.items - l.done) l.items) m v) && names_frame (table_in l.fn.self m v) l.frame then None else table_in l.fn.self m v)
