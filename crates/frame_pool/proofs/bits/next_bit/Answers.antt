use Rattle.std.proofs.Common.{arith, get_or}
use Rattle.std.specs.Int.{w64}
use Rattle.std.proofs.lemmas.Nat.Bits.{bit_at-trailing_zeros}
use Rattle.frame_pool.proofs.Words.{next_found, positive}
use Rattle.frame_pool.proofs.bits.next_bit.Goals as goal

pub returns-then-words-at-ne0 : goal.returns-then-words-at-ne0
returns-then-words-at-ne0 c =
    let z = bit_at-trailing_zeros w64 (get_or c.args.words.now c.loop-at.at 0) (positive c.if-words-at-ne0.true) (omega (arith, c.type_inv.words c.loop-at.at)) in
    next_found c.args.words.now c.args.from c.loop-at.at _ z.0 (omega arith) z.1 c.loop-at.invariant (λ i a b. z.2 i a)
