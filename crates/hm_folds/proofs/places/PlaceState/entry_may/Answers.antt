use Rattle.std.proofs.Common.{sym, ap, ◌∙◌}
use Rattle.hm_history.specs.Memory.Places.{is_target, stands_for}
use Rattle.hm_folds.specs.TableMap.{entry_of}
use Rattle.hm_folds.proofs.PlaceAccepts.{entry_form, and_then, and_else}
use Rattle.hm_folds.proofs.places.PlaceState.entry_may.Goals as goal

pub returns-then-not-right_allows : goal.returns-then-not-right_allows
returns-then-not-right_allows c = λ p s h. and_else _ _ (sym c.right_allows.ensures ∙ c.if-not-right_allows.true) ∙ entry_form s (entry_of c.args.entry.now) c.args.place.now c.args.writes

pub returns-then-not-place_allows : goal.returns-then-not-place_allows
returns-then-not-place_allows c = λ p s h.
    and_else _ _ (sym c.place_allows.ensures ∙ c.if-not-place_allows.true) ∙ and_then _ _ (sym c.right_allows.ensures ∙ c.if-not-right_allows.false)
    ∙ entry_form s (entry_of c.args.entry.now) c.args.place.now c.args.writes

pub returns : goal.returns
returns c = λ p s h.
    c.is_target.ensures p s h ∙ ap (is_target (stands_for s c.args.place.now)) c.target.ensures
    ∙ and_then _ _ (sym c.place_allows.ensures ∙ c.if-not-place_allows.false) ∙ and_then _ _ (sym c.right_allows.ensures ∙ c.if-not-right_allows.false)
    ∙ entry_form s (entry_of c.args.entry.now) c.args.place.now c.args.writes
