use Rattle.std.proofs.Common.{◌≡◌, ◌∙◌, ap, subst, IfOk}
use Rattle.hm_world.specs.WorldValue.{now}
use Rattle.hm_world.proofs.Pages.{at_below, through_now, held_through, shows_through, mirrored_is, usable_entry}
use Rattle.hm_world.proofs.reads.WorldReads.mirror_bytes.Goals as goal

pub page_of-requires : goal.page_of-requires
page_of-requires c = at_below _ _ c.self.view_is _ c.self.invariant _ c.args.addr (through_now _ _ c.self.view_is _ c.self.invariant c.args.mirror _ (usable_entry _ c.requires.usable).0 (usable_entry _ c.requires.usable).1).reads

pub place_bytes-requires-clause-held : goal.place_bytes-requires-clause-held
place_bytes-requires-clause-held c = λ f e. held_through _ _ c.self.view_is _ c.self.invariant c.args.mirror _ (usable_entry _ c.requires.usable).0 c.mirrored.result (ap ((now c.args.self.now).after.places.table c.args.mirror) c.page_of.ensures ∙ (usable_entry _ c.requires.usable).1) (mirrored_is (now c.args.self.now).after.places ((now c.args.self.now).after.places.table c.args.mirror c.page_of.result) (usable_entry _ c.requires.usable).0 c.mirrored.result (ap ((now c.args.self.now).after.places.table c.args.mirror) c.page_of.ensures ∙ (usable_entry _ c.requires.usable).1) c.mirrored.ensures) f e

pub returns : goal.returns
returns c = subst (λ z. IfOk c.place_bytes.result (λ bytes. bytes ≡ z)) (shows_through _ _ c.self.view_is _ c.self.invariant c.args.mirror c.args.addr c.args.len (usable_entry _ c.requires.usable).0 c.mirrored.result (usable_entry _ c.requires.usable).1 (mirrored_is (now c.args.self.now).after.places ((now c.args.self.now).after.places.table c.args.mirror c.page_of.result) (usable_entry _ c.requires.usable).0 c.mirrored.result (ap ((now c.args.self.now).after.places.table c.args.mirror) c.page_of.ensures ∙ (usable_entry _ c.requires.usable).1) c.mirrored.ensures) c.requires.lies) c.place_bytes.ensures
