use Rattle.std.proofs.Common.{refl}
use Rattle.hm_steps.proofs.phases.armed_turn.Goals as goal

pub returns : goal.returns
returns g c = rw (c.did.ensures, c.start_page.ensures, c.wanted-at.ensures.proc, c.wanted-at.ensures.page) refl
