use Rattle.std.proofs.Common.{ap, slice_index_or, ◌∙◌}
use Rattle.hm_base.specs.Program.{Program}
use Rattle.hm_folds.proofs.HeldPools.{five_pools}
use Rattle.hm_folds.proofs.held_frames.HeldFrames.new.Goals as goal

pub returns-clause-frames : goal.returns-clause-frames
returns-clause-frames c = five_pools c.args.script.now c.new.result c.new-2.result c.new-3.result c.new-4.result c.new-5.result c.facts.ensures.few_devices
    (c.new.ensures.frames ∙ ap (λ (z : Program). z.frames) c.script.view_is)
    (c.new-2.ensures.frames ∙ c.frames_of.ensures ∙ ap (λ (z : Program). slice_index_or z.devices 0 0) c.script.view_is)
    (c.new-3.ensures.frames ∙ c.frames_of-2.ensures ∙ ap (λ (z : Program). slice_index_or z.devices 1 0) c.script.view_is)
    (c.new-4.ensures.frames ∙ c.frames_of-3.ensures ∙ ap (λ (z : Program). slice_index_or z.devices 2 0) c.script.view_is)
    (c.new-5.ensures.frames ∙ c.frames_of-4.ensures ∙ ap (λ (z : Program). slice_index_or z.devices 3 0) c.script.view_is)
