use Rattle.std.proofs.Common.{◌∙◌}
use Rattle.hm_tables.proofs.ReadsShown.{lowest_moving_shown}
use Rattle.hm_folds.proofs.places.PlaceState.lowest_moving.Goals as goal

pub returns : goal.returns
returns c = λ p s h. c.lowest_moving.ensures ∙ lowest_moving_shown p s _ h.tables c.args.frame.now
