use Rattle.std.proofs.Common.{refl}
use Rattle.hm_reads.proofs.decisions.start_mirror.Goals as goal

pub returns : goal.returns
returns g c = rw (c.start.ensures, c.mirror_proc.ensures) refl
