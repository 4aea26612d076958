use Rattle.std.proofs.Common.{arith, []}
use Rattle.hm_script.specs.Generator.{drawn, drawn_byte}
use Rattle.hm_script.proofs.Drawing.{going_on, going_ends}
use Rattle.hm_script.proofs.generator.Draws.bytes.Goals as goal

pub loop-preserved : goal.loop-preserved
loop-preserved c =
    let byte = c.draw-byte in
    rw (c.in_ok-push.ensures.ok) (going_on drawn_byte [] c.loop.bytes c.args.self.now.state c.loop.self.state c.args.len c.loop.counter (drawn byte.result byte.new.self.state) c.loop-test.true (λ i. drawn (byte.ensures.gives i) (byte.ensures.moves i)) c.loop.invariant)

pub returns : goal.returns
returns c =
    let h = going_ends drawn_byte [] c.loop.bytes c.args.self.now.state c.loop.self.state c.args.len c.loop.counter (omega arith) c.loop.invariant in
    (λ i. drawn (h.0 i) (h.1 i))
