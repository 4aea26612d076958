use Rattle.std.proofs.Common.{refl}
use Rattle.mig_finish.proofs.finish_page.Goals as goal

pub returns-in-Some : goal.returns-in-Some
returns-in-Some g c = rw (c.step_finish.ensures, c.committed_to.ensures, c.in-Some.is) refl
