use Rattle.std.proofs.Common.{append_assoc, refl}
use Rattle.hm_report.proofs.kinds.put_interval.Goals as goal

pub returns-clause-text : goal.returns-clause-text
returns-clause-text c =
    rw (c.put_span.ensures.text, c.put_proc.ensures.text, c.put_device.ensures.text, c.put_mirror.ensures.text, c.put.ensures, append_assoc, append_assoc, append_assoc, append_assoc) refl
