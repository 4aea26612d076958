use Rattle.std.proofs.Common.{arith}
use Rattle.hm_script.specs.Generator.{drawn, drawn_line}
use Rattle.hm_script.proofs.Drawing.{going_on, going_ends}
use Rattle.hm_script.proofs.generator.Draws.add_lines.Goals as goal

pub loop-preserved : goal.loop-preserved
loop-preserved c =
    rw (c.in_ok-push.ensures.ok) (going_on drawn_line c.args.schedule.now c.loop.schedule c.args.self.now.state c.loop.self.state c.args.count c.loop.counter (drawn c.line-line.result c.line-line.new.self.state) c.loop-test.true c.line-line.ensures c.loop.invariant)

pub returns : goal.returns
returns c = (going_ends drawn_line c.args.schedule.now c.loop.schedule c.args.self.now.state c.loop.self.state c.args.count c.loop.counter (omega arith) c.loop.invariant).0
