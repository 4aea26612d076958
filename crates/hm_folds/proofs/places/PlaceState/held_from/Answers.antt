use Rattle.std.proofs.Common.{◌∙◌}
use Rattle.hm_folds.proofs.PlaceAccepts.{held_shown}
use Rattle.hm_folds.proofs.places.PlaceState.held_from.Goals as goal

pub returns : goal.returns
returns c = λ p s h. c.held_from.ensures ∙ held_shown p s c.args.self.now h c.args.dev c.args.from
