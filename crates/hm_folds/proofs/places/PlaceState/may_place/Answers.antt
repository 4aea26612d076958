use Rattle.std.proofs.Common.{sym, ap, ◌∙◌}
use Rattle.hm_base.specs.PlaceWords.{names}
use Rattle.hm_history.specs.Memory.Places.{holds_target, one_writer, places_next}
use Rattle.hm_history.specs.declared.Kind.{Kind}
use Rattle.hm_folds.specs.Commits.{committed_at}
use Rattle.hm_folds.specs.Shares.{shares_at}
use Rattle.hm_folds.specs.Standing.{share_of, backing_by}
use Rattle.hm_folds.proofs.PlaceAccepts.{same_after, accepts_place, and_then, and_else}
use Rattle.hm_folds.proofs.places.PlaceState.may_place.Goals as goal

pub returns-then-holds-clause-same : goal.returns-then-holds-clause-same
returns-then-holds-clause-same c = λ p s h.
    let x = c.args.self.now in
    let y = c.args.place.now in
    let to = committed_at x.commits.pools in
    let old = c.place-old.ensures p s h in
    c.has_one_writer_after.ensures
    ∙ same_after (shares_at x.standing.pools) _ _ _ _ _ _ _ _ c.backing.ensures c.of_page.ensures (c.backing-then-holds.ensures ∙ ap (backing_by to) old) (c.of_page-then-holds.ensures ∙ ap share_of old)
    ∙ accepts_place p s x h c.args.proc c.args.page y
    ∙ and_then (holds_target s (names y)) (one_writer (places_next s (Kind.Place c.args.proc c.args.page y))) (sym (ap (holds_target s) c.names.ensures) ∙ sym (c.holds.ensures.same p s h) ∙ c.if-holds.true)

pub returns-else-holds-clause-same : goal.returns-else-holds-clause-same
returns-else-holds-clause-same c = λ p s h.
    let y = c.args.place.now in
    c.if-holds.false ∙ and_else (holds_target s (names y)) (one_writer (places_next s (Kind.Place c.args.proc c.args.page y))) (sym (ap (holds_target s) c.names.ensures) ∙ sym (c.holds.ensures.same p s h) ∙ c.if-holds.false)
