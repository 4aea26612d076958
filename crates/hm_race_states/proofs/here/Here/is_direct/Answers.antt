use Rattle.std.proofs.Common.{ap, sym, ◌∙◌}
use Rattle.std.specs.Prelude.{is_some}
use Rattle.hm_history.specs.Kernel.Going.{is_direct}
use Rattle.hm_history.specs.Memory.Places.{lowest_direct}
use Rattle.hm_race_keys.specs.PagePlaces.{places_of}
use Rattle.hm_race_states.specs.States.{state_in}
use Rattle.hm_race_states.proofs.here.Here.is_direct.Goals as goal

pub returns-in-Some : goal.returns-in-Some
returns-in-Some c =
    let x = c.args.self.now.state.now in
    c.is_some.ensures ∙ ap is_some (c.lowest_direct.ensures ∙ ap (λ ps. lowest_direct (places_of ps) c.in-Some.frame) c.deref.ensures)
    ∙ sym (ap (is_direct (state_in x).after) c.in-Some.is)
