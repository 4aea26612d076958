use Rattle.std.proofs.Common.{◌≡◌, ℕ, None, length}
use Rattle.hm_folds.specs.MirrorTables.{tables_of}
use Rattle.hm_folds.proofs.mirror_tables.MirrorTables.new.Given as goal

abbrev pub invariant-loop : goal.invariant-loop
invariant-loop l = record {
  len : length l.tables.items ≡ l.counter;
  empty : (m v : ℕ) → tables_of l.tables.items m v ≡ None;
}
