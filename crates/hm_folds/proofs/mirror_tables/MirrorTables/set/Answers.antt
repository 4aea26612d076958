use Rattle.std.proofs.Common.{◌≡◌, ℕ, ap, ◌∙◌, arith}
use Rattle.std.specs.Prelude.{Option, Some, ◌==◌, if◌then◌else◌}
use Rattle.hm_base.specs.declared.Frame.{Frame}
use Rattle.hm_history.specs.Memory.Places.{TableEntry}
use Rattle.hm_folds.specs.TableMap.{dev_of, target_of}
use Rattle.hm_folds.specs.MirrorTables.{tables_of}
use Rattle.hm_folds.proofs.Tables.{read_table, entry_set, target_kept, entries_same}
use Rattle.hm_folds.proofs.mirror_tables.MirrorTables.set.Goals as goal

pub returns-in-Ok-clause-ok : goal.returns-in-Ok-clause-ok
returns-in-Ok-clause-ok c =
    let xs = c.args.self.now.tables.items in
    let m = c.args.mirror in
    let f = c.args.target.now in
    let made : Option Frame → Option TableEntry = λ t. Some (record { target = t; right = c.args.right; from = c.args.since }) in
    let same : target_of c.dev_of-dev.result c.number_of-number.result ≡ f =
    ap (λ (d : Option ℕ). target_of d c.number_of-number.result) c.dev_of-dev.ensures ∙ ap (target_of (dev_of f)) c.number_of-number.ensures ∙ target_kept f in
    entry_set xs c.number.result m c.args.page c.set.new.self _ c.number.ensures.same (omega arith)
    (λ u. c.in-Ok.ensures.ok u
    ∙ ap (λ (z : Option TableEntry). if u == c.number-2.result then made (target_of c.dev_of-dev.result c.number_of-number.result) else z) (read_table xs c.number.result m c.index_mut-table.result.now _ u c.index_mut-table.ensures.value c.number.ensures.same (omega arith))
    ∙ ap (λ (t : Option Frame). if u == c.number-2.result then made t else tables_of xs m u) same
    ∙ ap (λ (k : ℕ). if u == k then made f else tables_of xs m u) c.number-2.ensures.same)

pub returns-in-Err-clause-err : goal.returns-in-Err-clause-err
returns-in-Err-clause-err c =
    let xs = c.args.self.now.tables.items in
    let m = c.args.mirror in
    entries_same xs c.number.result m c.set.new.self c.number.ensures.same (omega arith)
    (λ u. c.in-Err.ensures.err u ∙ read_table xs c.number.result m c.index_mut-table.result.now _ u c.index_mut-table.ensures.value c.number.ensures.same (omega arith))
