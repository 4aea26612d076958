use Rattle.std.proofs.Common.{◌∙◌}
use Rattle.hm_flaw_states.proofs.state.FlawState.start.Goals as goal

pub returns : goal.returns
returns c =
    let t = c.in_ok-tasks in
    c.joined.ensures ∙ c.in_ok-memory.ensures c.args.script.now (record { tasks = t.tasks; few = t.ensures.few }) t.ensures.goings
