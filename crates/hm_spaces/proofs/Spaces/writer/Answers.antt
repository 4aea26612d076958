use Rattle.std.proofs.Common.{ap, ◌∙◌}
use Rattle.hm_history.specs.Memory.Locks.{writer}
use Rattle.hm_spaces.specs.Spaces.{SpacesValue, locks_of}
use Rattle.hm_spaces.proofs.Spaces.writer.Goals as goal

pub returns : goal.returns
returns c = c.writer.ensures ∙ ap (λ (x : SpacesValue). writer (locks_of x) c.args.proc) c.self.view_is
