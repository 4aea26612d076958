use Rattle.std.proofs.Common.{◌∙◌, ap, sym}
use Rattle.hm_history.specs.Memory.Contents.{backing}
use Rattle.hm_world.specs.WorldValue.{now}
use Rattle.hm_world.proofs.Pages.{held_at}
use Rattle.hm_world.proofs.World.page_byte.Goals as goal

pub place_byte-requires : goal.place_byte-requires
place_byte-requires c = record { held = λ f e. held_at _ _ c.self.view_is _ c.self.invariant c.args.proc _ f (ap (backing (now c.args.self.now).after.places) (sym c.place.ensures) ∙ e) }
