use Rattle.std.proofs.Common.{ℕ, ◌==◌, ap, ◌∙◌, arith}
use Rattle.std.specs.Prelude.{slice_index_or}
use Rattle.hm_flaws.specs.Drivers.{names_frame}
use Rattle.hm_flaw_states.specs.OwnTables.{table_in}
use Rattle.hm_flaw_states.proofs.Erasing.{erased_on, both_tests}
use Rattle.hm_flaw_states.proofs.own_tables.OwnTables.erase_frame.Goals as goal

pub loop-done-preserved : goal.loop-done-preserved
loop-done-preserved c = λ m v.
    erased_on c.args.frame.now c.items-items.result.now c.loop-done.done m v c.index-items-items.result (table_in c.args.self.now m v) (table_in c.loop-done.self m v) (table_in c.erase_if.new.self m v)
    (omega arith) (c.index-items-items.is ∙ ap (λ (k : ℕ). slice_index_or c.items-items.result.now k c.index-items-items.result) (omega arith)) (c.loop-done.invariant m v) (c.erase_if.ensures m v ∙ both_tests (m == c.index-items-items.result.row) (v == c.index-items-items.result.number) (names_frame (table_in c.loop-done.self m v) c.args.frame.now) (table_in c.loop-done.self m v))
