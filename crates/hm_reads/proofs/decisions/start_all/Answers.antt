use Rattle.std.proofs.Common.{refl}
use Rattle.hm_reads.proofs.decisions.start_all.Goals as goal

pub returns : goal.returns
returns g c = rw (c.start.ensures, c.all_pages.ensures) refl
