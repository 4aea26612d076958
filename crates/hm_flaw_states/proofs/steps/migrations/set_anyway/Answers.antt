use Rattle.std.proofs.Common.{◌≡◌, ℕ, Option, Some, sym, ap, ◌∙◌}
use Rattle.hm_history.specs.Memory.Plain.{mirror_proc}
use Rattle.hm_history.specs.Kernel.Operation.{op_mirror}
use Rattle.hm_history.specs.Kernel.Going.{coming}
use Rattle.hm_history.specs.Kernel.Due.{due_moves, set_own}
use Rattle.hm_history.specs.declared.Kind.{Kind}
use Rattle.hm_history.specs.declared.phases.Migrating.{Migrating}
use Rattle.hm_history.specs.declared.phases.MoveStep.{MoveStep}
use Rattle.hm_history.specs.declared.phases.Next.TheVariants.{Do}
use Rattle.hm_history.specs.declared.phases.Phase.{Phase}
use Rattle.hm_flaws.specs.Overrides.{coming_anyway}
use Rattle.hm_flaw_states.proofs.Setting.{comes_alike, set_there}
use Rattle.hm_flaw_states.proofs.steps.migrations.set_anyway.Goals as goal

abbrev At : Type 0
At = Option (MoveStep × Migrating)

pub returns-in-None : goal.returns-in-None
returns-in-None g c =
    let p = g.W.Reads.program c.args.found.now in
    let u = g.W.Reads.state c.args.found.now in
    let xs = (u.going c.args.actor).pages in
    let same : coming_anyway u.after c.args.op.now xs (Phase.Moves c.args.step c.args.next) ≡ coming u.after c.args.op.now xs (Phase.Moves c.args.step c.args.next) =
    comes_alike u.after c.args.op.now xs c.args.step c.args.next (sym c.page_to_set.ensures ∙ c.in-None.is) in
    c.requires ∙ sym (ap (λ (at : At). Do (due_moves p u.after c.args.op.now xs at)) same)

pub returns-in-Some : goal.returns-in-Some
returns-in-Some g c =
    let p = g.W.Reads.program c.args.found.now in
    let u = g.W.Reads.state c.args.found.now in
    let xs = (u.going c.args.actor).pages in
    let x = c.in-Some.page in
    let m = c.op_mirror-mirror.result in
    let here : At = Some (MoveStep.SetOwnTable, x) in
    let there : coming_anyway u.after c.args.op.now xs (Phase.Moves c.args.step c.args.next) ≡ here = set_there _ x (sym c.page_to_set.ensures ∙ c.in-Some.is) in
    let set : c.set_own.result ≡ set_own u.after (op_mirror c.args.op.now) (mirror_proc u.after.plain (op_mirror c.args.op.now)) x =
    c.set_own.ensures
    ∙ (ap (λ (q : ℕ). set_own u.after m q x) c.mirror_proc.ensures ∙ ap (λ (n : ℕ). set_own u.after n (mirror_proc u.after.plain n) x) c.op_mirror-mirror.ensures) in
    ap (λ (k : Kind). Do k) set ∙ sym (ap (λ (at : At). Do (due_moves p u.after c.args.op.now xs at)) there)
