use Rattle.std.proofs.Common.{ℕ, Some, ap, ◌∙◌}
use Rattle.hm_history.specs.Memory.Places.{held_from}
use Rattle.hm_flaw_states.proofs.Taking.{held_here}
use Rattle.hm_flaw_states.proofs.steps.migrations.is_held.Goals as goal

pub returns-in-Some : goal.returns-in-Some
returns-in-Some g c =
    let p = g.W.Reads.program c.args.found.now in
    let s = (g.W.Reads.state c.args.found.now).after in
    held_here p s c.args.dev c.args.number (Some c.in-Some.first) c.requires (c.in-Some.ensures ∙ ap (λ (n : ℕ). held_from p s.places c.args.dev n) c.from.ensures)
