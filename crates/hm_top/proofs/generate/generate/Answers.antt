use Rattle.std.proofs.Common.{refl}
use Rattle.hm_top.proofs.Making.{texts}
use Rattle.hm_top.proofs.generate.generate.Goals as goal

pub returns-in-Ok-clause-does : goal.returns-in-Ok-clause-does
returns-in-Ok-clause-does g c = λ source. let e = c.write_script.ensures in texts c.args.number _ c.write_script.result c.in-Ok.script c.in-Ok.ensures refl e.made e.written e.write_faults e.flushed e.receipt
