use Rattle.std.proofs.Common.{ℕ, ap, count_by, ◌∙◌}
use Rattle.hm_flaw_states.specs.Placed.{pages_in}
use Rattle.hm_flaw_states.specs.Sharing.{is_counted}
use Rattle.hm_flaw_states.specs.States.{all_places}
use Rattle.hm_flaw_states.specs.declared.placed.PlacedPages.{PlacedPages}
use Rattle.hm_flaw_states.proofs.here.FlawHere.count_shares.Goals as goal

pub returns : goal.returns
returns c =
    let s = all_places c.args.self.now.state.now in
    c.count.ensures
    ∙ ap (λ (y : PlacedPages). count_by (λ (x : ℕ × ℕ). is_counted c.args.sharing c.args.writes s c.args.frame.now (s.place x.0 x.1)) (pages_in y.pages.items)) c.deref.ensures
