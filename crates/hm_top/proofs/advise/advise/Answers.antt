use Rattle.hm_top.specs.Advises.{advice_on}
use Rattle.hm_top.proofs.Replaying.{shown_for}
use Rattle.hm_top.proofs.advise.advise.Goals as goal

pub returns-in-Ok-run_script-clause-does : goal.returns-in-Ok-run_script-clause-does
returns-in-Ok-run_script-clause-does g c =
    let s = c.in-Ok.ensures in
    let r = c.in-Ok-run_script.ensures in
    let e = c.advise_on.ensures in
    shown_for advice_on c.one_text.ensures c.drain_alone_has_room.ensures _ c.in-Ok-run_script.ran c.advise_on.result c.in-Ok.script r.script s.text s.faults r.whole r.full e.shows e.written e.write_faults e.flushed r.receipt
