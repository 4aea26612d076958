use Rattle.std.proofs.Common.{ap, sym, ◌∙◌}
use Rattle.hm_history.specs.Memory.Places.{places_accept}
use Rattle.hm_folds.specs.Places.{owners_of}
use Rattle.hm_folds.proofs.PlaceAccepts.{loaded_is, stored_is, others_accept}
use Rattle.hm_folds.proofs.places.PlaceState.accepts.Goals as goal

pub returns-in-Loaded-clause-same : goal.returns-in-Loaded-clause-same
returns-in-Loaded-clause-same c = λ p s h. c.may_access.ensures p s h ∙ loaded_is p (owners_of c.args.self.now) s c.args.actor c.in-Loaded.who c.in-Loaded.addr _ ∙ ap (places_accept p (owners_of c.args.self.now) s c.args.actor) (sym c.in-Loaded.is)

pub returns-in-Stored-clause-same : goal.returns-in-Stored-clause-same
returns-in-Stored-clause-same c = λ p s h. c.may_access-in-Stored.ensures p s h ∙ stored_is p (owners_of c.args.self.now) s c.args.actor c.in-Stored.who c.in-Stored.addr _ ∙ ap (places_accept p (owners_of c.args.self.now) s c.args.actor) (sym c.in-Stored.is)

pub returns-in-Fetched-clause-same : goal.returns-in-Fetched-clause-same
returns-in-Fetched-clause-same c = λ p s h. c.has_sole.ensures p s h ∙ ap (places_accept p (owners_of c.args.self.now) s c.args.actor) (sym c.in-Fetched.is)

pub returns-in-Added-clause-same : goal.returns-in-Added-clause-same
returns-in-Added-clause-same c = λ p s h. c.has_sole-in-Added.ensures p s h ∙ ap (places_accept p (owners_of c.args.self.now) s c.args.actor) (sym c.in-Added.is)

pub returns-in-Set-clause-same : goal.returns-in-Set-clause-same
returns-in-Set-clause-same c = λ p s h. c.is_for_device.ensures p s h ∙ ap (places_accept p (owners_of c.args.self.now) s c.args.actor) (sym c.in-Set.is)

pub returns-in_default : goal.returns-in_default
returns-in_default c = record {
  same = λ p s h. c.accepts_frames.ensures.same p s h ∙ others_accept p (owners_of c.args.self.now) s c.args.actor c.args.kind.now c.in_default.not-Loaded c.in_default.not-Stored c.in_default.not-Set c.in_default.not-Fetched c.in_default.not-Added;
  fits = c.accepts_frames.ensures.fits;
}
