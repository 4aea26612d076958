use Rattle.std.proofs.Common.{ℕ, ap, ◌∙◌, arith}
use Rattle.std.specs.Prelude.{Option, None, ◌+◌, ◌&&◌, nat_le, nat_lt, if◌then◌else◌}
use Rattle.hm_base.specs.Pages.{covers}
use Rattle.hm_history.specs.Memory.Places.{TableEntry}
use Rattle.hm_folds.specs.MirrorTables.{tables_of}
use Rattle.hm_folds.proofs.Tables.{read_table, entries_erased}
use Rattle.hm_folds.proofs.mirror_tables.MirrorTables.erase.Goals as goal

pub returns : goal.returns
returns c =
    let xs = c.args.self.now.tables.items in
    let m = c.args.mirror in
    let from = c.number-from.result in
    let n = c.count.result in
    entries_erased xs c.number.result m c.erase.new.self (covers c.args.span) c.number.ensures.same (omega arith)
    (λ v. c.erase.ensures v
    ∙ ap (λ (b : Option TableEntry). if nat_le from v && nat_lt v (from + n) then None else b) (read_table xs c.number.result m c.index_mut-table.result.now _ v c.index_mut-table.ensures.value c.number.ensures.same (omega arith))
    ∙ ap (λ (k : ℕ). if nat_le k v && nat_lt v (k + n) then None else tables_of xs m v) (c.number-from.ensures.same ∙ c.first.ensures.same)
    ∙ ap (λ (k : ℕ). if nat_le c.args.span.first v && nat_lt v (c.args.span.first + k) then None else tables_of xs m v) c.count.ensures.same)
