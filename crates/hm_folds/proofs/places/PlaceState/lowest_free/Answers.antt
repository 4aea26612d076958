use Rattle.std.proofs.Common.{false, sym, ap, ◌∙◌}
use Rattle.hm_folds.proofs.PlaceAccepts.{lowest_by, lowest_shown, none_shown}
use Rattle.hm_folds.proofs.places.PlaceState.lowest_free.Goals as goal

pub returns-then-is_withdrawn : goal.returns-then-is_withdrawn
returns-then-is_withdrawn c = λ p s h. none_shown p s c.args.pool (sym (c.is_withdrawn.ensures p s h) ∙ c.if-is_withdrawn.true)

pub returns-in-Some : goal.returns-in-Some
returns-in-Some c = λ p s h. ap (lowest_by c.args.pool false) (sym c.in-Some.is) ∙ ap (λ w. lowest_by c.args.pool w c.lowest_free.result) (sym c.if-is_withdrawn.false) ∙ lowest_shown p s c.args.self.now h c.args.pool c.is_withdrawn.result c.lowest_free.result (c.is_withdrawn.ensures p s h) c.lowest_free.ensures

pub returns-in-None : goal.returns-in-None
returns-in-None c = λ p s h. ap (lowest_by c.args.pool false) (sym c.in-None.is) ∙ ap (λ w. lowest_by c.args.pool w c.lowest_free.result) (sym c.if-is_withdrawn.false) ∙ lowest_shown p s c.args.self.now h c.args.pool c.is_withdrawn.result c.lowest_free.result (c.is_withdrawn.ensures p s h) c.lowest_free.ensures
