use Rattle.std.proofs.Common.{not, sym, ap, ◌∙◌}
use Rattle.hm_folds.proofs.PlaceAccepts.{and_then, and_last, free_of}
use Rattle.hm_folds.proofs.PlaceSteps.{take_one_writer}
use Rattle.hm_folds.proofs.places.PlaceState.may_take.Goals as goal

pub returns-then-is_next-clause-same : goal.returns-then-is_next-clause-same
returns-then-is_next-clause-same c = λ p s h.
    let f = c.args.frame.now in
    let free = free_of p s c.args.self.now h f (c.is_next.ensures.fits c.if-is_next.true) in
    ap not (c.is_removed.ensures p s h) ∙ and_then _ _ (sym (c.is_next.ensures.same p s h) ∙ c.if-is_next.true)
    ∙ and_last _ _ (take_one_writer s h.named h.tables.once h.one f free)
