use Rattle.hm_flaw_states.proofs.here.FlawHere.devices_after.Goals as goal

pub returns : goal.returns
returns c = record {
  withdrawn = c.in_ok-marks_after.ensures.withdrawn;
  removed = c.in_ok-marks_after.ensures.removed;
  table = c.in_ok-tables_after.ensures;
  contents = c.in_ok-contents_after.ensures;
}
