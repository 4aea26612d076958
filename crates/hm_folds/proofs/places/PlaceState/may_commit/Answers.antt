use Rattle.std.proofs.Common.{◌∙◌}
use Rattle.hm_folds.proofs.PlaceAccepts.{accepts_commit}
use Rattle.hm_folds.proofs.places.PlaceState.may_commit.Goals as goal

pub returns : goal.returns
returns c = λ p s h. c.has_one_writer_after.ensures ∙ accepts_commit p s c.args.self.now h c.args.from.now c.args.to.now c.get-shares.result c.destination.result c.get-shares.ensures c.destination.ensures
