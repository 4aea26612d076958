use Rattle.std.proofs.Common.{arith}
use Rattle.hm_script.specs.Generator.{drawn, drawn_actor}
use Rattle.hm_script.proofs.Drawing.{going_on, going_ends}
use Rattle.hm_script.proofs.generator.Draws.add_actors.Goals as goal

pub loop-preserved : goal.loop-preserved
loop-preserved c =
    rw (c.in_ok-push.ensures.ok) (going_on drawn_actor c.args.actors.now c.loop.actors c.args.self.now.state c.loop.self.state c.args.count c.loop.counter (drawn c.in_ok-ops.ops c.actor.new.self.state) c.loop-test.true c.in_ok-ops.ensures c.loop.invariant)

pub returns : goal.returns
returns c = going_ends drawn_actor c.args.actors.now c.loop.actors c.args.self.now.state c.loop.self.state c.args.count c.loop.counter (omega arith) c.loop.invariant
