use Rattle.hm_race_top.proofs.SetUps.{overran}
use Rattle.hm_race_top.proofs.run.race.set_up_of.Goals as goal

pub returns-in-Err-ran-clause-fails : goal.returns-in-Err-ran-clause-fails
returns-in-Err-ran-clause-fails c = overran c.args.script _ c.in-Err-ran.error c.in-Ok.machine c.run-ran.new.self c.world.result.now c.in-Ok.ensures c.in-Err-ran.ensures c.world.ensures c.facts.ensures.halted
