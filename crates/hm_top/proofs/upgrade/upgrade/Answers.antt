use Rattle.hm_top.proofs.Upgrading.{written}
use Rattle.hm_top.proofs.upgrade.upgrade.Goals as goal

pub returns-in-Ok-clause-does : goal.returns-in-Ok-clause-does
returns-in-Ok-clause-does g c =
    let s = c.in-Ok.ensures in
    let e = c.write_script.ensures in
    written _ c.write_script.result c.in-Ok.script c.upgrade.new.script s.text s.faults c.upgrade.ensures e.made e.written e.write_faults e.flushed e.receipt
