use Rattle.std.proofs.Common.{ℕ, ap, ◌∙◌, arith}
use Rattle.std.specs.Prelude.{◌==◌, ◌+◌, if◌then◌else◌, slice_index}
use Rattle.hm_folds.proofs.Written.{written_more}
use Rattle.hm_folds.specs.Stored.{byte_in}
use Rattle.hm_folds.proofs.stored.Stored.write.Goals as goal

pub loop-number-preserved : goal.loop-number-preserved
loop-number-preserved c =
    let n = c.loop-number.number in
    record {
      written = λ a. c.put.ensures.bytes a ∙ ap (λ (x : ℕ). if a == c.args.addr + n then slice_index c.args.bytes.now n else x) (c.loop-number.invariant.written a) ∙ written_more (byte_in c.args.self.now) c.args.addr n c.args.bytes.now a (omega arith);
      there = λ k l. c.put.ensures.kept (c.args.addr + k) ∙ c.loop-number.invariant.there k l;
    }
