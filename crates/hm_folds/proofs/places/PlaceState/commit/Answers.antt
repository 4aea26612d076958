use Rattle.std.proofs.Common.{Some, ap, ◌∙◌}
use Rattle.std.specs.Prelude.{Option, unwrap_or, if◌then◌else◌}
use Rattle.hm_base.specs.declared.Frame.{Frame}
use Rattle.hm_base.specs.PlaceWords.{same_frame}
use Rattle.hm_folds.specs.Shares.{shares_at}
use Rattle.hm_folds.proofs.FewPages.{commit_fits}
use Rattle.hm_folds.proofs.PlaceSteps.{kept_commit, more_undone}
use Rattle.hm_folds.proofs.places.PlaceState.commit.Goals as goal

pub returns-in-Ok-clause-ok : goal.returns-in-Ok-clause-ok
returns-in-Ok-clause-ok c = λ p s h e. let f = c.args.from.now in let g = c.args.to.now in record {
  tables = h.tables;
  frames = h.frames;
  held = h.held;
  committed = λ k. c.in-Ok.ensures.ok k ∙ ap (λ (o : Option Frame). if same_frame k f then Some g else o) (h.committed k);
  standing = λ t. kept_commit s f g t c.destination-left.result c.get-shares.result _ _ _ (c.destination-left.ensures ∙ ap (λ (o : Option Frame). unwrap_or o f) (h.committed f)) (c.get-shares.ensures ∙ h.moving f) (h.standing t) (c.in_ok-add.ensures.ok (commit_fits p s c.args.self.now.tables h.tables (shares_at c.args.self.now.standing.pools) h.standing f c.get-shares.result (c.get-shares.ensures ∙ h.moving f)) t) (c.lower.ensures t);
  moving = h.moving;
  withdrawn = h.withdrawn;
  removed = h.removed;
  table = h.table;
  device = h.device;
  named = h.named;
  one = e;
}

pub returns-in-Err-clause-err : goal.returns-in-Err-clause-err
returns-in-Err-clause-err c = λ p s h. let f = c.args.from.now in let x = c.args.self.now in record {
  tables = h.tables;
  frames = h.frames;
  held = h.held;
  committed = λ k. c.in-Err.ensures.err k ∙ h.committed k;
  standing = λ t. more_undone (same_frame c.args.to.now t) (shares_at x.standing.pools t) _ _ c.get-shares.result
      (c.in_ok-add.ensures.ok (commit_fits p s x.tables h.tables (shares_at x.standing.pools) h.standing f c.get-shares.result (c.get-shares.ensures ∙ h.moving f)) t) (c.lower-in-Err.ensures t)
      ∙ h.standing t;
  moving = h.moving;
  withdrawn = h.withdrawn;
  removed = h.removed;
  table = h.table;
  device = h.device;
  named = h.named;
  one = h.one;
}
