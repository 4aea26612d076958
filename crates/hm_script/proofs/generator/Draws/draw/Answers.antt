use Rattle.hm_script.proofs.Drawing.{draw_is}
use Rattle.hm_script.proofs.generator.Draws.draw.Goals as goal

pub returns-clause-gives : goal.returns-clause-gives
returns-clause-gives c = draw_is c.args.self.now.state c.args.below
