use Rattle.std.proofs.Common.{◌∙◌, ap, sym}
use Rattle.hm_tables.specs.Values.{place_of}
use Rattle.hm_tables.proofs.SetPlace.{says, has_room, is_next, stays_sound}
use Rattle.hm_tables.proofs.tables.PageTables.set_place.Goals as goal

pub change_use-requires-clause-says : goal.change_use-requires-clause-says
change_use-requires-clause-says c =
    says _ c.self.invariant c.args.proc c.args.page _
    (c.requires.old ∙ ap (λ x. place_of x c.args.proc c.args.page) (sym c.self.view_is))

pub change_use-requires-clause-room : goal.change_use-requires-clause-room
change_use-requires-clause-room c = has_room _ _ c.self.view_is c.args.proc c.args.page c.args.place.now c.requires.room

pub invariant_of-self : goal.invariant_of-self
invariant_of-self c =
    stays_sound _ _ c.self.view_is c.self.invariant c.args.proc c.args.page c.args.place.now _
    (is_next _ c.args.proc c.args.page _ c.args.place.now _ _
    (c.requires.old ∙ ap (λ x. place_of x c.args.proc c.args.page) (sym c.self.view_is))
    c.change_use.ensures c.set_word.ensures.tables)
    c.requires.fits c.set_word.ensures.range
