use Rattle.std.proofs.Common.{ℕ, ◌==◌, List, ap, ◌∙◌}
use Rattle.std.specs.List.{list_all, list_any}
use Rattle.hm_folds.specs.Kept.{mirrors_of}
use Rattle.hm_flaw_states.specs.Guards.{mirrors_in}
use Rattle.hm_flaw_states.proofs.guards.ActorGuard.all_told.Goals as goal

pub returns : goal.returns
unfolding mirrors_in
returns c = c.all_told.ensures ∙ ap (λ (ts : List ℕ). list_all (λ m. list_any (λ k. k == m) ts) (mirrors_of c.args.self.now.met)) c.as_slice.ensures.value
