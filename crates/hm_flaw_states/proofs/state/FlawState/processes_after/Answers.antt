use Rattle.hm_flaw_states.proofs.state.FlawState.processes_after.Goals as goal

pub returns : goal.returns
returns c = record {
  spaces = c.in_ok-spaces_after.ensures;
  bytes = c.in_ok-bytes_after.ensures;
  mirrors = c.in_ok-mirrors_after.ensures;
}
