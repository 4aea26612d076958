use Rattle.std.proofs.Common.{sym, ap, ◌∙◌}
use Rattle.hm_folds.specs.Standing.{accepts_frames}
use Rattle.hm_folds.proofs.places.PlaceState.accepts_frames.Goals as goal

pub returns-in-Place-clause-same : goal.returns-in-Place-clause-same
returns-in-Place-clause-same c = λ p s h. c.may_place.ensures.same p s h ∙ ap (accepts_frames p s) (sym c.in-Place.is)

pub returns-in-Committed-clause-same : goal.returns-in-Committed-clause-same
returns-in-Committed-clause-same c = λ p s h. c.may_commit.ensures p s h ∙ ap (accepts_frames p s) (sym c.in-Committed.is)

pub returns-in-Drop-clause-same : goal.returns-in-Drop-clause-same
returns-in-Drop-clause-same c = λ p s h. c.may_drop.ensures.same p s h ∙ ap (accepts_frames p s) (sym c.in-Drop.is)
