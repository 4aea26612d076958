use Rattle.std.proofs.Common.{◌≡◌, Bool, true, false, ap, sym, ◌∙◌}
use Rattle.hm_history.specs.Kernel.Due.{frames_end}
use Rattle.hm_history.specs.declared.phases.Next.{Next}
use Rattle.hm_history.specs.declared.phases.Next.TheVariants.{Do}
use Rattle.hm_flaw_states.proofs.steps.removals.withdrawn_now.Goals as goal

pub returns-then-is_withdrawn : goal.returns-then-is_withdrawn
returns-then-is_withdrawn g c =
    let s = (g.W.Reads.state c.args.found.now).after in
    let w : s.places.withdrawn c.args.dev ≡ true = sym c.is_withdrawn.ensures ∙ c.if-is_withdrawn.true in
    ap Do (c.removed.ensures c.args.emptied)
    ∙ ap (λ (b : Bool). elim b as (λ x. Next) [ false ↦ c.args.right | true ↦ Do (frames_end s c.args.dev true c.args.emptied) ]) (sym w)
