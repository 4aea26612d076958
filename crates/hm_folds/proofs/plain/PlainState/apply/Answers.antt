use Rattle.std.proofs.Common.{sym, ap, subst, ◌∙◌}
use Rattle.hm_history.specs.Memory.Plain.{Plain, plain_next}
use Rattle.hm_spaces.specs.Spaces.{SpacesFit}
use Rattle.hm_spaces.proofs.SpacesKept.{taken_fits}
use Rattle.hm_folds.specs.Plain.{plain_of, with_plain_bytes}
use Rattle.hm_folds.proofs.PlainParts.{joined, fits_after}
use Rattle.hm_folds.proofs.plain.PlainState.apply.Goals as goal

pub step-requires : goal.step-requires
step-requires c =
    let s = plain_of c.args.self.now in
    let k = c.args.entry.now.kind in
    subst (λ (t : Plain). SpacesFit t k) (sym c.in-Ok.ensures.ok) (fits_after s (plain_next s k).bytes k (taken_fits s k (sym c.accepts.ensures ∙ c.if-not-accepts.false)))

pub returns-in-Ok-clause-ok : goal.returns-in-Ok-clause-ok
returns-in-Ok-clause-ok c =
    let s = plain_of c.args.self.now in
    let k = c.args.entry.now.kind in
    c.step.ensures ∙ ap (λ (t : Plain). with_plain_bytes (plain_next t k) t.bytes) c.in-Ok.ensures.ok ∙ joined s k
