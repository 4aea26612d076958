use Rattle.std.proofs.lemmas.Result.{on_ok_weaker, IfErr-weaker}
use Rattle.hm_report.proofs.report.write_end.Goals as goal

pub returns-clause-ok : goal.returns-clause-ok
returns-clause-ok g c = on_ok_weaker c.write_last.result (λ s. rw (← c.put_end.ensures.text, ← c.as_slice.ensures) s) c.write_last.ensures.ok

pub returns-clause-err : goal.returns-clause-err
returns-clause-err g c = IfErr-weaker c.write_last.result _ _ (λ why s. rw (← c.put_end.ensures.text, ← c.as_slice.ensures) s) c.write_last.ensures.err
