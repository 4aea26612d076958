use Rattle.std.proofs.Common.{Some, refl, ap, ◌∙◌}
use Rattle.hm_base.specs.declared.Frame.{Frame}
use Rattle.hm_folds.specs.Standing.{is_backed, one_writer_after, shares_where}
use Rattle.hm_folds.proofs.PlaceSteps.{commit_decided}
use Rattle.hm_flaw_states.specs.States.{all_places}
use Rattle.hm_flaw_states.proofs.here.FlawHere.may_commit.Goals as goal

pub returns : goal.returns
returns c =
    let s = all_places c.args.self.now.state.now in
    let shares = λ (f : Frame). shares_where s (is_backed s f) in
    let f = c.args.from.now in
    let g = c.args.to.now in
    let m = c.shares-moving.result in
    c.has_one_writer_after.ensures
    ∙ ap (λ (t : Frame). one_writer_after shares (Some g) m (Some t) m) c.destination.ensures
    ∙ commit_decided s c.requires.once c.requires.one shares (λ t. refl) (s.committed_to f) f g m refl c.shares-moving.ensures
