use Rattle.hm_race_states.proofs.after.actors_after.Goals as goal

pub returns-clause-parts : goal.returns-clause-parts
returns-clause-parts c = record {
  withdrawn = c.in_ok-marks_after.ensures.withdrawn;
  removed = c.in_ok-marks_after.ensures.removed;
  maps = c.in_ok-maps_after.ensures;
}
