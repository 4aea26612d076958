use Rattle.std.proofs.Common.{◌∙◌}
use Rattle.hm_race_states.proofs.start.first_places.Goals as goal

pub returns : goal.returns
returns c = record {
  places = c.in_ok-new.ensures.ok ∙ c.new.ensures;
  held = c.in_ok-new-2.ensures.ok ∙ c.new-3.ensures;
  tables = c.in_ok-new-3.ensures.ok ∙ c.new-5.ensures;
  locks = c.in_ok-new-4.ensures.ok ∙ c.new-7.ensures;
}
