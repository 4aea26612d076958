-- States without positions and absolute sequences.
use Rattle.std.specs.Prelude.{[]}
use Rattle.hm_base.specs.Program.{Program}
use Rattle.hm_history.specs.Kernel.Going.{State}
use Rattle.hm_history.specs.declared.Entry.{Entry}
use Rattle.hm_history.specs.declared.Progress.{Progress}
use Rattle.hm_race_laws.specs.Outcomes.{Point}
use Rattle.hm_race_laws.specs.Positions.{forget_state, forget_entry, forget_progress}
use Rattle.hm_race_laws.specs.Numbers.{small_state, small_entry, small_progress}

-- a state without positions and without absolute sequences: what is due is the same in both
abbrev pub blurred : Program → State → State
blurred c u = forget_state (small_state c u)

-- an entry without what a blurred state does not have
abbrev pub blurred_entry : Entry → Entry
blurred_entry e = forget_entry (small_entry e)

-- what a turn comes to, without what a blurred state does not have
abbrev pub blurred_progress : Progress → Progress
blurred_progress p = forget_progress (small_progress p)

-- and without the order in which pages were placed
abbrev pub unlisted : State → State
unlisted u = record { after = record u.after { places = record u.after.places { placed = [] } }; going = u.going }

-- a blurred state whose lists of placed pages are left out too; they only say in which order pages came
abbrev pub tidied : Program → State → State
tidied c u = unlisted (blurred c u)

-- a point without all these: what a search compares
abbrev pub form_of : Program → Point → Point
form_of c x = record { state = tidied c x.state; answers = x.answers }
