use Rattle.std.proofs.Common.{sym, subst}
use Rattle.hm_flaw_states.specs.Follows.{Standing}
use Rattle.hm_flaw_states.proofs.Standing.{first_stands}
use Rattle.hm_flaw_states.proofs.set_ups.nothing.Goals as goal

pub returns : goal.returns
returns c = record { state = c.in_ok-start.ensures; marked = c.in_ok-start-2.ensures; standing = subst Standing (sym c.in_ok-start.ensures) (λ a. first_stands 0 c.args.script.now a 0) }
