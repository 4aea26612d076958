use Rattle.std.proofs.Common.{◌≡◌, ◌∙◌, ap}
use Rattle.hm_tables.proofs.OrphanShown.{orphan_shown}
use Rattle.hm_frames.specs.Shown.{entry_place}
use Rattle.hm_world.specs.WorldValue.{now}
use Rattle.hm_world.proofs.Shown.{shown}
use Rattle.hm_world.proofs.World.left_behind.Goals as goal

pub returns-in-Place : goal.returns-in-Place
returns-in-Place c =
    let s = (now c.args.self.now).after in
    let e : c.args.old.now ≡ s.places.place c.in-Place.proc c.in-Place.page = c.requires ∙ ap (entry_place s.plain s.places) c.in-Place.is in
    rw c.in-Place.is (c.orphan-frame.ensures ∙ orphan_shown _ s.locks s.places _ (shown _ _ c.self.view_is _ c.self.invariant).tables c.in-Place.proc c.in-Place.page c.args.old.now c.in-Place.place c.is_locked.result e c.is_locked.ensures)
