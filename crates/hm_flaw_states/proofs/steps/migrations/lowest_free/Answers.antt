use Rattle.std.proofs.Common.{◌≡◌, ℕ, true, false, Some, ap, ◌∙◌, rules}
use Rattle.std.specs.Prelude.{not}
use Rattle.hm_base.specs.Program.{Program}
use Rattle.hm_base.specs.declared.Frame.{Frame}
use Rattle.hm_base.specs.declared.PoolId.{PoolId}
use Rattle.hm_history.specs.Memory.Words.{least}
use Rattle.hm_history.specs.Memory.Plain.{mirror_dev}
use Rattle.hm_history.specs.Memory.Places.{frame_of, pool_size}
use Rattle.hm_history.specs.Kernel.Operation.{is_to_device}
use Rattle.hm_flaw_states.proofs.Taking.{system_free, device_free}
use Rattle.hm_flaw_states.proofs.steps.migrations.lowest_free.Goals as goal

pub returns-then-not-is_to_device : goal.returns-then-not-is_to_device
returns-then-not-is_to_device g c =
    let s = (g.W.Reads.state c.args.found.now).after in
    let no : is_to_device c.args.op.now ≡ false = search rules in
    c.lowest_free.ensures ∙ system_free (g.W.Reads.program c.args.found.now) s c.args.op.now no

pub returns-in-Some : goal.returns-in-Some
returns-in-Some g c =
    let p = g.W.Reads.program c.args.found.now in
    let s = (g.W.Reads.state c.args.found.now).after in
    let d = c.mirror_dev-dev.result in
    let yes : is_to_device c.args.op.now ≡ true = search rules in
    ap (λ (f : Frame). Some f) c.dev_frame.ensures
    ∙ device_free p s c.args.op.now d c.in-Some.number yes (c.mirror_dev-dev.ensures ∙ ap (mirror_dev s.plain) c.op_mirror.ensures)
    (c.in-Some.ensures ∙ ap (λ (n : ℕ). least (λ i. not (s.places.held (frame_of (PoolId.Device d) i))) 0 n) (c.device_size.ensures ∙ ap (λ (q : Program). pool_size q (PoolId.Device d)) c.script.ensures))
