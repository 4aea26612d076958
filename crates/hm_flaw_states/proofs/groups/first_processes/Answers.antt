use Rattle.std.proofs.Common.{ap, ◌∙◌}
use Rattle.hm_race_states.specs.Spaces.{spaces_in}
use Rattle.hm_flaw_states.proofs.groups.first_processes.Goals as goal

pub returns : goal.returns
returns c = record {
  spaces = ap spaces_in c.in_ok-new.ensures.ok ∙ c.in_ok-start.ensures;
  bytes = c.in_ok-new-2.ensures.ok ∙ c.new-2.ensures;
  mirrors = c.in_ok-new-3.ensures.ok ∙ c.new-4.ensures;
}
