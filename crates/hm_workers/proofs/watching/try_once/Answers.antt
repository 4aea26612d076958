use Rattle.hm_workers.proofs.Recorded.{peeks_stay}
use Rattle.hm_workers.proofs.watching.try_once.Goals as goal

pub returns-in-None-clause-peeks : goal.returns-in-None-clause-peeks
returns-in-None-clause-peeks g c = peeks_stay c.args.asked.now c.args.pass.now c.try_to_take.new.pass c.args.peeks.now c.try_to_take.ensures.pass.shown c.requires.peeks
