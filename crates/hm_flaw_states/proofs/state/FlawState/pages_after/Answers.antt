use Rattle.hm_flaw_states.proofs.state.FlawState.pages_after.Goals as goal

pub returns : goal.returns
returns c = record {
  place = c.in_ok-places_after.ensures;
  placed = c.in_ok-placed_after.ensures;
  held = c.in_ok-held_after.ensures;
  commits = c.in_ok-commits_after.ensures;
}
