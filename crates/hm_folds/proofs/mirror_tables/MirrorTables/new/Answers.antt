use Rattle.std.proofs.Common.{None, List, refl, ap, ◌∙◌, arith}
use Rattle.hm_folds.specs.MirrorTables.{entry_at, tables_of}
use Rattle.hm_folds.specs.declared.table_map.TableMap.{TableMap}
use Rattle.hm_folds.proofs.Alike.{alike_more}
use Rattle.hm_folds.proofs.mirror_tables.MirrorTables.new.Goals as goal

pub loop-preserved : goal.loop-preserved
loop-preserved c = record {
  len = grind (arith, c.in_ok-push.ensures.len, c.loop.invariant.len);
  empty = λ m v.
      ap (λ (xs : List TableMap). tables_of xs m v) c.in_ok-push.ensures.items
      ∙ alike_more (entry_at v) None c.loop.tables.items c.new.result m refl (c.new.ensures v) (c.loop.invariant.empty m v);
}
