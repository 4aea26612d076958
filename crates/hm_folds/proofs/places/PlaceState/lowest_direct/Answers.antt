use Rattle.std.proofs.Common.{◌∙◌}
use Rattle.hm_tables.proofs.ReadsShown.{lowest_direct_shown}
use Rattle.hm_folds.proofs.places.PlaceState.lowest_direct.Goals as goal

pub returns : goal.returns
returns c = λ p s h. c.lowest_direct.ensures ∙ lowest_direct_shown p s _ h.tables c.args.frame.now
