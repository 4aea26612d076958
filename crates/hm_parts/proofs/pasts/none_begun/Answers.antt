use Rattle.std.proofs.Common.{None, List, refl, ap, ◌∙◌, arith}
use Rattle.hm_parts.specs.declared.pasts.Begun.{Begun}
use Rattle.hm_parts.specs.Lookups.{begun_at, begun_in}
use Rattle.hm_folds.proofs.Alike.{alike_more}
use Rattle.hm_parts.proofs.pasts.none_begun.Goals as goal

pub loop-preserved : goal.loop-preserved
loop-preserved c = record {
  len = grind (arith, c.in_ok-push.ensures.len, c.loop.invariant.len);
  empty = λ m v.
      ap (λ (xs : List Begun). begun_in xs m v) c.in_ok-push.ensures.items
      ∙ alike_more (begun_at v) None c.loop.begun.items c.new.result m refl (c.new.ensures v) (c.loop.invariant.empty m v);
}
