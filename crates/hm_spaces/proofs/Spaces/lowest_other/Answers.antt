use Rattle.std.proofs.Common.{ap, ◌∙◌}
use Rattle.hm_history.specs.Memory.Locks.{lowest_other}
use Rattle.hm_spaces.specs.Spaces.{SpacesValue, locks_of}
use Rattle.hm_spaces.proofs.Spaces.lowest_other.Goals as goal

pub returns : goal.returns
returns c = c.lowest_other.ensures ∙ ap (λ (x : SpacesValue). lowest_other (locks_of x) c.args.proc c.args.actor) c.self.view_is
