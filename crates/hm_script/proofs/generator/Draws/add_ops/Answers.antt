use Rattle.std.proofs.Common.{arith}
use Rattle.hm_script.specs.Generator.{drawn, drawn_op}
use Rattle.hm_script.proofs.Drawing.{going_on, going_ends}
use Rattle.hm_script.proofs.generator.Draws.add_ops.Goals as goal

pub loop-preserved : goal.loop-preserved
loop-preserved c =
    rw (c.in_ok-push.ensures.ok) (going_on drawn_op c.args.ops.now c.loop.ops c.args.self.now.state c.loop.self.state c.args.count c.loop.counter (drawn c.in_ok-op.op c.op.new.self.state) c.loop-test.true c.in_ok-op.ensures c.loop.invariant)

pub returns : goal.returns
returns c = going_ends drawn_op c.args.ops.now c.loop.ops c.args.self.now.state c.loop.self.state c.args.count c.loop.counter (omega arith) c.loop.invariant
