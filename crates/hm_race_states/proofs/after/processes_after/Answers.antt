use Rattle.std.proofs.Common.{◌∙◌, ap}
use Rattle.hm_race_states.specs.Afters.{bytes_next}
use Rattle.hm_race_states.specs.Bytes.{bytes_in}
use Rattle.hm_race_states.specs.Mirrors.{mirrors_in}
use Rattle.hm_race_states.proofs.after.processes_after.Goals as goal

pub returns-clause-parts : goal.returns-clause-parts
returns-clause-parts c = record {
  spaces = c.in_ok-spaces_after.ensures;
  bytes = c.in_ok-bytes_after.ensures ∙ ap (λ m. bytes_next (bytes_in c.args.state.now.bytes.value) (mirrors_in m) c.args.kind.now) c.deref.ensures;
  mirrors = c.in_ok-mirrors_after.ensures;
}
