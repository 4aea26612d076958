use Rattle.std.proofs.Common.{◌≡◌, true, sym, subst}
use Rattle.std.specs.Prelude.{OnOk}
use Rattle.hm_history.specs.Memory.Places.{Places, places_next}
use Rattle.hm_history.specs.declared.Kind.{Kind}
use Rattle.hm_folds.specs.Standing.{accepts_frames, with_mirrors}
use Rattle.hm_folds.specs.Places.{PlacesShown, ForShown}
use Rattle.hm_folds.proofs.PlaceAccepts.{ok_then, others_step}
use Rattle.hm_folds.proofs.places.PlaceState.step.Goals as goal

pub returns-in-Place-clause-ok : goal.returns-in-Place-clause-ok
returns-in-Place-clause-ok c = subst (λ (k : Kind). OnOk c.set_place.result (ForShown c.args.self.now (λ p s. accepts_frames p s k ≡ true → PlacesShown p (places_next s k) c.set_place.new.self))) (sym c.in-Place.is) c.set_place.ensures.ok

pub returns-in-Committed-clause-ok : goal.returns-in-Committed-clause-ok
returns-in-Committed-clause-ok c = subst (λ (k : Kind). OnOk c.commit.result (ForShown c.args.self.now (λ p s. accepts_frames p s k ≡ true → PlacesShown p (places_next s k) c.commit.new.self))) (sym c.in-Committed.is) c.commit.ensures.ok

pub returns-in-Take-clause-ok : goal.returns-in-Take-clause-ok
returns-in-Take-clause-ok c = subst (λ (k : Kind). OnOk c.take.result (ForShown c.args.self.now (λ p s. accepts_frames p s k ≡ true → PlacesShown p (places_next s k) c.take.new.self))) (sym c.in-Take.is) c.take.ensures.ok

pub returns-in-Drop-clause-ok : goal.returns-in-Drop-clause-ok
returns-in-Drop-clause-ok c = subst (λ (k : Kind). OnOk c.drop_frame.result (ForShown c.args.self.now (λ p s. accepts_frames p s k ≡ true → PlacesShown p (places_next s k) c.drop_frame.new.self))) (sym c.in-Drop.is) c.drop_frame.ensures.ok

pub returns-in-Withdrawn-clause-ok : goal.returns-in-Withdrawn-clause-ok
returns-in-Withdrawn-clause-ok c = λ p s h e. subst (λ (k : Kind). PlacesShown p (places_next s k) c.withdraw.new.self) (sym c.in-Withdrawn.is) (c.withdraw.ensures.shown p s h)

pub returns-in-Removed-clause-ok : goal.returns-in-Removed-clause-ok
returns-in-Removed-clause-ok c = λ p s h e. subst (λ (k : Kind). PlacesShown p (places_next s k) c.remove.new.self) (sym c.in-Removed.is) (c.remove.ensures.shown p s h)

pub returns-in_default : goal.returns-in_default
returns-in_default c = record {
  ok = ok_then c.step_mirrors.result (ForShown c.args.self.now (λ p s. PlacesShown p (with_mirrors s c.args.kind.now) c.step_mirrors.new.self)) _
      (λ t p s h e. subst (λ (z : Places). PlacesShown p z c.step_mirrors.new.self) (others_step s c.args.kind.now c.in_default.not-Place c.in_default.not-Committed c.in_default.not-Take c.in_default.not-Drop c.in_default.not-Withdrawn c.in_default.not-Removed) (t p s h)) c.step_mirrors.ensures.ok;
  err = c.step_mirrors.ensures.err;
  owners = c.step_mirrors.ensures.owners;
  kept = c.step_mirrors.ensures.kept;
  memory = c.step_mirrors.ensures.memory;
}
