use Rattle.hm_race_top.proofs.Ends.{known_is_true}
use Rattle.hm_race_top.proofs.laws.known_is_true.Goals as goal

pub returns : goal.returns
returns c = known_is_true (record {
  due = c.runs_are_due.ensures;
  legal = c.every_history_is_legal.ensures;
  lead = c.turns_lead.ensures;
  stand = c.turns_stand.ensures;
  same_legal = c.same_legal.ensures;
  led = c.points_are_led.ensures;
}) c.blocks_are_found.ensures
