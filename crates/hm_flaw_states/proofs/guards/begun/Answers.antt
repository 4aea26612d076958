use Rattle.std.proofs.Common.{ℕ, Some, List, ap, ◌∙◌}
use Rattle.hm_base.specs.Pages.{Pages}
use Rattle.hm_history.specs.Memory.Sequences.{Guarded, overlapping}
use Rattle.hm_flaw_states.specs.Exact.{exact_in}
use Rattle.hm_flaw_states.specs.Guards.{guard_of}
use Rattle.hm_flaw_states.specs.declared.guards.ActorGuard.{ActorGuard}
use Rattle.hm_flaw_states.proofs.Mirrors.{those_in}
use Rattle.hm_flaw_states.proofs.guards.begun.Goals as goal

abbrev made : ℕ → Pages → List ℕ → List ℕ → Guarded
made p r met told = record { proc = p; span = r; met = met; told = told }

pub returns : goal.returns
returns c =
    let p = c.args.proc in
    let r = c.args.span in
    ap (λ (g : ActorGuard). Some (guard_of g)) c.in_ok-new.ensures.ok
    ∙ (ap (λ (ms : List ℕ). Some (made p r ms c.new.result.items)) (those_in c.overlapping.result (overlapping (exact_in c.args.seqs.now.kept) p r) c.overlapping.ensures)
    ∙ ap (λ (ms : List ℕ). Some (made p r (overlapping (exact_in c.args.seqs.now.kept) p r) ms)) c.new.ensures.items)
