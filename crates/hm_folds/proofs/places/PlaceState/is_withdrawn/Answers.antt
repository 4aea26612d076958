use Rattle.std.proofs.Common.{sym, ap, ◌∙◌}
use Rattle.hm_history.specs.Memory.Places.{is_withdrawn}
use Rattle.hm_folds.proofs.places.PlaceState.is_withdrawn.Goals as goal

pub returns-in-Device : goal.returns-in-Device
returns-in-Device c = λ p s h. c.withdrawn.ensures p s h ∙ ap (is_withdrawn s) (sym c.in-Device.is)
