use Rattle.std.proofs.Common.{◌∙◌, ap}
use Rattle.hm_world.specs.WorldValue.{now}
use Rattle.hm_world.proofs.Pages.{at_below, through_now, held_through, byte_through, mirrored_is, alone_entry}
use Rattle.hm_world.proofs.reads.WorldReads.sole_byte.Goals as goal

pub page_of-requires : goal.page_of-requires
page_of-requires c = at_below _ _ c.self.view_is _ c.self.invariant _ c.args.addr (through_now _ _ c.self.view_is _ c.self.invariant c.args.mirror _ (alone_entry (now c.args.self.now).after c.args.actor c.args.mirror _ c.requires).0 (alone_entry (now c.args.self.now).after c.args.actor c.args.mirror _ c.requires).1).reads

pub place_byte-requires : goal.place_byte-requires
place_byte-requires c = record { held = λ f e. held_through _ _ c.self.view_is _ c.self.invariant c.args.mirror _ (alone_entry (now c.args.self.now).after c.args.actor c.args.mirror _ c.requires).0 c.mirrored.result (ap ((now c.args.self.now).after.places.table c.args.mirror) c.page_of.ensures ∙ (alone_entry (now c.args.self.now).after c.args.actor c.args.mirror _ c.requires).1) (mirrored_is (now c.args.self.now).after.places ((now c.args.self.now).after.places.table c.args.mirror c.page_of.result) (alone_entry (now c.args.self.now).after c.args.actor c.args.mirror _ c.requires).0 c.mirrored.result (ap ((now c.args.self.now).after.places.table c.args.mirror) c.page_of.ensures ∙ (alone_entry (now c.args.self.now).after c.args.actor c.args.mirror _ c.requires).1) c.mirrored.ensures) f e }

pub returns : goal.returns
returns c = c.place_byte.ensures ∙ byte_through _ _ c.self.view_is _ c.self.invariant c.args.mirror c.args.addr (alone_entry (now c.args.self.now).after c.args.actor c.args.mirror _ c.requires).0 c.mirrored.result (alone_entry (now c.args.self.now).after c.args.actor c.args.mirror _ c.requires).1 (mirrored_is (now c.args.self.now).after.places ((now c.args.self.now).after.places.table c.args.mirror c.page_of.result) (alone_entry (now c.args.self.now).after c.args.actor c.args.mirror _ c.requires).0 c.mirrored.result (ap ((now c.args.self.now).after.places.table c.args.mirror) c.page_of.ensures ∙ (alone_entry (now c.args.self.now).after c.args.actor c.args.mirror _ c.requires).1) c.mirrored.ensures)
