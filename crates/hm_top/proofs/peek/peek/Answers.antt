use Rattle.hm_top.proofs.Peeking.{peeked}
use Rattle.hm_top.proofs.peek.peek.Goals as goal

pub returns-in-Ok-run_peeked : goal.returns-in-Ok-run_peeked
returns-in-Ok-run_peeked g c =
    let a = c.args.asked.now in
    let s = c.in-Ok.ensures in
    let r = c.in-Ok-run_peeked.ensures in
    let e = c.report_peeked.ensures in
    let x = c.in-Ok-run_peeked.peeked in
    peeked a.proc a.addr a.len _ x.ran x.peeks c.report_peeked.result c.in-Ok.script r.script s.text s.faults r.ended r.full r.receipt r.saw r.none e.shows e.peeks e.written e.write_faults e.flushed
