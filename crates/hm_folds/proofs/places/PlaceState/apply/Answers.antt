use Rattle.std.proofs.Common.{sym, ◌∙◌}
use Rattle.hm_folds.specs.Places.{owners_of}
use Rattle.hm_folds.proofs.PlaceAccepts.{accepts_so}
use Rattle.hm_folds.proofs.places.PlaceState.apply.Goals as goal

pub returns-in-Ok-clause-ok : goal.returns-in-Ok-clause-ok
returns-in-Ok-clause-ok c = λ p s h. c.in-Ok.ensures.ok p s h (accepts_so p (owners_of c.args.self.now) s c.args.entry.now.actor c.args.entry.now.kind (sym (c.accepts.ensures.same p s h) ∙ c.if-not-accepts.false))
