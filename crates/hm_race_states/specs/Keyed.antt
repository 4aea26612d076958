-- The form that a key stands for.
use Rattle.hm_race_laws.specs.Outcomes.{Point}
use Rattle.hm_race_laws.specs.Blur.{unlisted}
use Rattle.hm_race_keys.specs.Trail.{answers_in}
use Rattle.hm_race_states.specs.States.{state_in}
use Rattle.hm_race_states.specs.declared.key.StateKey.{StateKey}

-- the state without the list of placed pages, and the answers
abbrev pub form_in : StateKey → Point
form_in k = record { state = unlisted (state_in k.state); answers = answers_in k.answers.value.lists.items }
