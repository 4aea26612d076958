use Rattle.std.proofs.Common.{◌∙◌, sym}
use Rattle.hm_frames.proofs.Shows.{show_shown, backing_shown, is_held_shown}
use Rattle.hm_world.specs.WorldValue.{now}
use Rattle.hm_world.proofs.Shown.{shown}
use Rattle.hm_world.proofs.World.show.Goals as goal

pub show-requires-clause-held : goal.show-requires-clause-held
show-requires-clause-held c = λ f e. is_held_shown _ (now c.args.self.now).after _ f (shown _ _ c.self.view_is _ c.self.invariant).frames ∙ c.requires.held f (sym (backing_shown _ (now c.args.self.now).after _ c.args.place.now (shown _ _ c.self.view_is _ c.self.invariant).frames) ∙ e)

pub returns : goal.returns
returns c = c.show.ensures ∙ show_shown _ (now c.args.self.now).after _ c.args.place.now _ _ (shown _ _ c.self.view_is _ c.self.invariant).frames (λ f e. is_held_shown _ (now c.args.self.now).after _ f (shown _ _ c.self.view_is _ c.self.invariant).frames ∙ c.requires.held f (sym (backing_shown _ (now c.args.self.now).after _ c.args.place.now (shown _ _ c.self.view_is _ c.self.invariant).frames) ∙ e)) c.requires.lies
