use Rattle.std.proofs.Common.{false, sym, ap, ◌∙◌}
use Rattle.hm_base.specs.PlaceWords.{is_frame}
use Rattle.hm_folds.proofs.PlaceAccepts.{lowest_by, lowest_shown, none_shown, next_is}
use Rattle.hm_folds.proofs.places.PlaceState.is_next.Goals as goal

pub returns-then-is_withdrawn-clause-same : goal.returns-then-is_withdrawn-clause-same
returns-then-is_withdrawn-clause-same c = λ p s h. let f = c.args.frame.now in
    ap (λ o. is_frame o f) (none_shown p s f.pool (sym (c.is_withdrawn.ensures p s h) ∙ c.if-is_withdrawn.true))

pub returns-in-None-clause-same : goal.returns-in-None-clause-same
returns-in-None-clause-same c = λ p s h. let f = c.args.frame.now in
    ap (λ o. is_frame o f) (ap (lowest_by f.pool false) (sym c.in-None.is) ∙ ap (λ w. lowest_by f.pool w c.lowest_free.result) (sym c.if-is_withdrawn.false) ∙ lowest_shown p s c.args.self.now h f.pool c.is_withdrawn.result c.lowest_free.result (c.is_withdrawn.ensures p s h) c.lowest_free.ensures)

pub returns-in-Some-clause-same : goal.returns-in-Some-clause-same
returns-in-Some-clause-same c = λ p s h. let f = c.args.frame.now in
    next_is f c.lowest_free.result c.in-Some.number c.in-Some.is
    ∙ ap (λ o. is_frame o f) (ap (λ w. lowest_by f.pool w c.lowest_free.result) (sym c.if-is_withdrawn.false) ∙ lowest_shown p s c.args.self.now h f.pool c.is_withdrawn.result c.lowest_free.result (c.is_withdrawn.ensures p s h) c.lowest_free.ensures)
