use Rattle.std.proofs.Common.{◌∙◌}
use Rattle.hm_tables.proofs.ReadsShown.{uses_shown}
use Rattle.hm_folds.proofs.places.PlaceState.uses.Goals as goal

pub returns : goal.returns
returns c = λ p s h. c.uses.ensures ∙ uses_shown p s _ h.tables c.args.frame.now
