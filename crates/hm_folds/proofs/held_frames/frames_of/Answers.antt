use Rattle.std.proofs.Common.{ℕ, Option, unwrap_or, sym, ap, ◌∙◌}
use Rattle.std.specs.Option.{option_copied}
use Rattle.std.proofs.lemmas.Option.{unwrap_or-slice_get}
use Rattle.hm_folds.proofs.held_frames.frames_of.Goals as goal

pub returns-in-None : goal.returns-in-None
returns-in-None c = sym (sym (unwrap_or-slice_get c.args.devices.now c.args.number 0) ∙ ap (λ (o : Option ℕ). unwrap_or o 0) (sym c.get.ensures ∙ ap option_copied c.in-None.is))
