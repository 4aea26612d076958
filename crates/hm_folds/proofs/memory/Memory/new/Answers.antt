use Rattle.std.proofs.Common.{List, refl, ap, ◌∙◌, arith}
use Rattle.hm_folds.specs.Memory.{byte_of, bytes_of}
use Rattle.hm_folds.specs.declared.stored.Stored.{Stored}
use Rattle.hm_folds.proofs.Alike.{alike_more}
use Rattle.hm_folds.proofs.memory.Memory.new.Goals as goal

pub loop-preserved : goal.loop-preserved
loop-preserved c = record {
  len = grind (arith, c.in_ok-push.ensures.len, c.loop.invariant.len);
  zeros = λ p a.
      ap (λ (xs : List Stored). bytes_of xs p a) c.in_ok-push.ensures.items
      ∙ alike_more (byte_of a) 0 c.loop.processes.items c.new.result p refl (c.new.ensures a) (c.loop.invariant.zeros p a);
}
