use Rattle.std.proofs.Common.{refl}
use Rattle.hm_top.proofs.Making.{summaries_for}
use Rattle.hm_top.proofs.generate.trial.Goals as goal

pub returns-in-Ok-run_script-clause-does : goal.returns-in-Ok-run_script-clause-does
returns-in-Ok-run_script-clause-does g c = λ source.
    let r = c.in-Ok-run_script.ensures in
    let e = c.write_summary.ensures in
    summaries_for c.args.number _ c.write_summary.result c.in-Ok-run_script.ran c.in-Ok.script r.script c.in-Ok.ensures refl r.whole r.full e.made e.written e.write_faults e.flushed e.receipt
