use Rattle.std.proofs.Common.{ap, ◌∙◌}
use Rattle.hm_base.specs.declared.Frame.{Frame}
use Rattle.hm_history.specs.Memory.Contents.{backing}
use Rattle.hm_folds.specs.Standing.{is_backed, share_of, shares_where}
use Rattle.hm_folds.proofs.PlaceAccepts.{same_after}
use Rattle.hm_flaw_states.specs.States.{all_places}
use Rattle.hm_flaw_states.proofs.Tidying.{place_one}
use Rattle.hm_flaw_states.proofs.here.FlawHere.is_shared_rightly.Goals as goal

pub returns : goal.returns
returns c =
    let s = all_places c.args.self.now.state.now in
    let old = c.place-old.ensures in
    c.has_one_writer_after.ensures
    ∙ (same_after (λ (f : Frame). shares_where s (is_backed s f)) _ _ _ _ _ _ _ _ c.backing.ensures c.of_page.ensures (c.backing-2.ensures ∙ ap (backing s) old) (c.of_page-2.ensures ∙ ap share_of old)
    ∙ place_one s c.requires c.args.proc c.args.page c.args.place.now)
