-- Ways through the race snap_two_pages_against_todev, entry by entry.
use Rattle.std.proofs.Common.{refl}
use Rattle.std.specs.Prelude.{◌≡◌, true, Some, [], ◌∷◌}
use Rattle.hm_base.specs.Program.{Program}
use Rattle.hm_base.specs.declared.Place.{Place}
use Rattle.hm_base.specs.declared.ops.Op.{Op}
use Rattle.hm_base.specs.declared.ops.Rights.{Rights}
use Rattle.hm_base.specs.declared.ops.Version.{Version}
use Rattle.hm_history.specs.Memory.Words.{sys_frame, dev_frame}
use Rattle.hm_history.specs.declared.TableRight.{TableRight}
use Rattle.hm_history.specs.declared.Kind.{Kind}
use Rattle.hm_linux.specs.Variants.{linux}
use Rattle.hm_linux.proofs.Way.{pages, came_to}

-- the race
abbrev script : Program
script = record {
  version = Version.Two;
  frames = 64;
  devices = 16 ∷ 16 ∷ [];
  skip = 0;
  actors =
      ((Op.Map 0 (pages 16 2) Rights.ReadWrite) ∷ (Op.Store 0 0x10000 (65 ∷ [])) ∷
      (Op.Store 0 0x11000 (65 ∷ [])) ∷ (Op.Attach 0 0 0 (pages 16 4)) ∷ (Op.ToDevice 0 (pages 16 2)) ∷ []) ∷
      ((Op.Snap 0 (pages 16 2)) ∷ []) ∷
      [];
  schedule = [];
}

pub way_0 : came_to linux script 0 13
    (0 ∷ 0 ∷ 0 ∷ 0 ∷ 0 ∷ 0 ∷ 0 ∷ 0 ∷ 0 ∷ 0 ∷ 0 ∷ 0 ∷ 0 ∷ 0 ∷ 0 ∷ 0 ∷ 0 ∷ 0 ∷ 0 ∷ 0 ∷ 0 ∷ 0 ∷ 0 ∷ 0 ∷ 0 ∷ 0 ∷ 0 ∷ 0 ∷
    0 ∷ 0 ∷ 0 ∷ 0 ∷ 0 ∷ 0 ∷ 0 ∷ 1 ∷ 1 ∷ 1 ∷ 1 ∷ [])
    ≡ ((3, Kind.Rlock 0) ∷ (3, Kind.Start 0 (pages 16 2) 3) ∷ (2, Kind.Told 0 (pages 16 2) 3) ∷
    (2, Kind.Place 0 16 (Place.Moving (sys_frame 0) true)) ∷
    (2, Kind.Place 0 17 (Place.Moving (sys_frame 1) true)) ∷ (2, Kind.End 0 (pages 16 2) 4) ∷
    (3, Kind.Take (dev_frame 0 0)) ∷ (3, Kind.Copied (sys_frame 0) (dev_frame 0 0) (Some 0)) ∷
    (3, Kind.Copied (sys_frame 0) (dev_frame 0 0) (Some 1)) ∷
    (3, Kind.Copied (sys_frame 0) (dev_frame 0 0) (Some 2)) ∷
    (3, Kind.Copied (sys_frame 0) (dev_frame 0 0) (Some 3)) ∷
    (3, Kind.Copied (sys_frame 0) (dev_frame 0 0) (Some 4)) ∷
    (3, Kind.Copied (sys_frame 0) (dev_frame 0 0) (Some 5)) ∷
    (3, Kind.Copied (sys_frame 0) (dev_frame 0 0) (Some 6)) ∷
    (3, Kind.Copied (sys_frame 0) (dev_frame 0 0) (Some 7)) ∷ (3, Kind.Take (dev_frame 0 1)) ∷
    (3, Kind.Copied (sys_frame 1) (dev_frame 0 1) (Some 0)) ∷
    (3, Kind.Copied (sys_frame 1) (dev_frame 0 1) (Some 1)) ∷
    (3, Kind.Copied (sys_frame 1) (dev_frame 0 1) (Some 2)) ∷
    (3, Kind.Copied (sys_frame 1) (dev_frame 0 1) (Some 3)) ∷
    (3, Kind.Copied (sys_frame 1) (dev_frame 0 1) (Some 4)) ∷
    (3, Kind.Copied (sys_frame 1) (dev_frame 0 1) (Some 5)) ∷
    (3, Kind.Copied (sys_frame 1) (dev_frame 0 1) (Some 6)) ∷
    (3, Kind.Copied (sys_frame 1) (dev_frame 0 1) (Some 7)) ∷ (3, Kind.Committed (sys_frame 0) (dev_frame 0 0)) ∷
    (3, Kind.Committed (sys_frame 1) (dev_frame 0 1)) ∷
    (3, Kind.Set 0 16 (Some (dev_frame 0 0)) TableRight.Write 39) ∷
    (3, Kind.Set 0 17 (Some (dev_frame 0 1)) TableRight.Write 40) ∷ (3, Kind.Place 0 16 (Place.Own 0 0 true)) ∷
    (3, Kind.Drop (sys_frame 0)) ∷ (3, Kind.Done (dev_frame 0 0)) ∷ (3, Kind.Place 0 17 (Place.Own 0 1 true)) ∷
    (3, Kind.Drop (sys_frame 1)) ∷ (3, Kind.Done (dev_frame 0 1)) ∷ (3, Kind.Migrated 2) ∷ (1, Kind.Rlock 0) ∷
    (1, Kind.Seen 0 16 34) ∷ (1, Kind.Seen 0 17 34) ∷ (1, Kind.Runlock 0) ∷ [])
way_0 = refl

pub way_1 : came_to linux script 0 13
    (0 ∷ 0 ∷ 0 ∷ 0 ∷ 0 ∷ 0 ∷ 0 ∷ 0 ∷ 0 ∷ 0 ∷ 0 ∷ 0 ∷ 0 ∷ 0 ∷ 0 ∷ 0 ∷ 0 ∷ 0 ∷ 0 ∷ 0 ∷ 0 ∷ 0 ∷ 0 ∷ 0 ∷ 0 ∷ 0 ∷ 0 ∷ 0 ∷
    0 ∷ 0 ∷ 0 ∷ 1 ∷ 1 ∷ 1 ∷ 0 ∷ 0 ∷ 0 ∷ 0 ∷ 1 ∷ [])
    ≡ ((3, Kind.Rlock 0) ∷ (3, Kind.Start 0 (pages 16 2) 3) ∷ (2, Kind.Told 0 (pages 16 2) 3) ∷
    (2, Kind.Place 0 16 (Place.Moving (sys_frame 0) true)) ∷
    (2, Kind.Place 0 17 (Place.Moving (sys_frame 1) true)) ∷ (2, Kind.End 0 (pages 16 2) 4) ∷
    (3, Kind.Take (dev_frame 0 0)) ∷ (3, Kind.Copied (sys_frame 0) (dev_frame 0 0) (Some 0)) ∷
    (3, Kind.Copied (sys_frame 0) (dev_frame 0 0) (Some 1)) ∷
    (3, Kind.Copied (sys_frame 0) (dev_frame 0 0) (Some 2)) ∷
    (3, Kind.Copied (sys_frame 0) (dev_frame 0 0) (Some 3)) ∷
    (3, Kind.Copied (sys_frame 0) (dev_frame 0 0) (Some 4)) ∷
    (3, Kind.Copied (sys_frame 0) (dev_frame 0 0) (Some 5)) ∷
    (3, Kind.Copied (sys_frame 0) (dev_frame 0 0) (Some 6)) ∷
    (3, Kind.Copied (sys_frame 0) (dev_frame 0 0) (Some 7)) ∷ (3, Kind.Take (dev_frame 0 1)) ∷
    (3, Kind.Copied (sys_frame 1) (dev_frame 0 1) (Some 0)) ∷
    (3, Kind.Copied (sys_frame 1) (dev_frame 0 1) (Some 1)) ∷
    (3, Kind.Copied (sys_frame 1) (dev_frame 0 1) (Some 2)) ∷
    (3, Kind.Copied (sys_frame 1) (dev_frame 0 1) (Some 3)) ∷
    (3, Kind.Copied (sys_frame 1) (dev_frame 0 1) (Some 4)) ∷
    (3, Kind.Copied (sys_frame 1) (dev_frame 0 1) (Some 5)) ∷
    (3, Kind.Copied (sys_frame 1) (dev_frame 0 1) (Some 6)) ∷
    (3, Kind.Copied (sys_frame 1) (dev_frame 0 1) (Some 7)) ∷ (3, Kind.Committed (sys_frame 0) (dev_frame 0 0)) ∷
    (3, Kind.Committed (sys_frame 1) (dev_frame 0 1)) ∷
    (3, Kind.Set 0 16 (Some (dev_frame 0 0)) TableRight.Write 39) ∷
    (3, Kind.Set 0 17 (Some (dev_frame 0 1)) TableRight.Write 40) ∷ (3, Kind.Place 0 16 (Place.Own 0 0 true)) ∷
    (3, Kind.Drop (sys_frame 0)) ∷ (3, Kind.Done (dev_frame 0 0)) ∷ (3, Kind.Rlock 0) ∷ (3, Kind.Seen 0 16 34) ∷
    (3, Kind.Seen 0 17 0) ∷ (3, Kind.Place 0 17 (Place.Own 0 1 true)) ∷ (3, Kind.Drop (sys_frame 1)) ∷
    (3, Kind.Done (dev_frame 0 1)) ∷ (3, Kind.Migrated 2) ∷ (1, Kind.Runlock 0) ∷ [])
way_1 = refl

pub way_2 : came_to linux script 0 13
    (0 ∷ 0 ∷ 0 ∷ 0 ∷ 0 ∷ 0 ∷ 0 ∷ 0 ∷ 0 ∷ 0 ∷ 0 ∷ 0 ∷ 0 ∷ 0 ∷ 0 ∷ 0 ∷ 0 ∷ 0 ∷ 0 ∷ 0 ∷ 0 ∷ 0 ∷ 0 ∷ 0 ∷ 0 ∷ 0 ∷ 0 ∷ 0 ∷
    1 ∷ 1 ∷ 0 ∷ 0 ∷ 0 ∷ 0 ∷ 0 ∷ 0 ∷ 0 ∷ 1 ∷ 1 ∷ [])
    ≡ ((3, Kind.Rlock 0) ∷ (3, Kind.Start 0 (pages 16 2) 3) ∷ (2, Kind.Told 0 (pages 16 2) 3) ∷
    (2, Kind.Place 0 16 (Place.Moving (sys_frame 0) true)) ∷
    (2, Kind.Place 0 17 (Place.Moving (sys_frame 1) true)) ∷ (2, Kind.End 0 (pages 16 2) 4) ∷
    (3, Kind.Take (dev_frame 0 0)) ∷ (3, Kind.Copied (sys_frame 0) (dev_frame 0 0) (Some 0)) ∷
    (3, Kind.Copied (sys_frame 0) (dev_frame 0 0) (Some 1)) ∷
    (3, Kind.Copied (sys_frame 0) (dev_frame 0 0) (Some 2)) ∷
    (3, Kind.Copied (sys_frame 0) (dev_frame 0 0) (Some 3)) ∷
    (3, Kind.Copied (sys_frame 0) (dev_frame 0 0) (Some 4)) ∷
    (3, Kind.Copied (sys_frame 0) (dev_frame 0 0) (Some 5)) ∷
    (3, Kind.Copied (sys_frame 0) (dev_frame 0 0) (Some 6)) ∷
    (3, Kind.Copied (sys_frame 0) (dev_frame 0 0) (Some 7)) ∷ (3, Kind.Take (dev_frame 0 1)) ∷
    (3, Kind.Copied (sys_frame 1) (dev_frame 0 1) (Some 0)) ∷
    (3, Kind.Copied (sys_frame 1) (dev_frame 0 1) (Some 1)) ∷
    (3, Kind.Copied (sys_frame 1) (dev_frame 0 1) (Some 2)) ∷
    (3, Kind.Copied (sys_frame 1) (dev_frame 0 1) (Some 3)) ∷
    (3, Kind.Copied (sys_frame 1) (dev_frame 0 1) (Some 4)) ∷
    (3, Kind.Copied (sys_frame 1) (dev_frame 0 1) (Some 5)) ∷
    (3, Kind.Copied (sys_frame 1) (dev_frame 0 1) (Some 6)) ∷
    (3, Kind.Copied (sys_frame 1) (dev_frame 0 1) (Some 7)) ∷ (3, Kind.Committed (sys_frame 0) (dev_frame 0 0)) ∷
    (3, Kind.Committed (sys_frame 1) (dev_frame 0 1)) ∷
    (3, Kind.Set 0 16 (Some (dev_frame 0 0)) TableRight.Write 39) ∷
    (3, Kind.Set 0 17 (Some (dev_frame 0 1)) TableRight.Write 40) ∷ (3, Kind.Rlock 0) ∷ (3, Kind.Seen 0 16 0) ∷
    (3, Kind.Place 0 16 (Place.Own 0 0 true)) ∷ (3, Kind.Drop (sys_frame 0)) ∷ (3, Kind.Done (dev_frame 0 0)) ∷
    (3, Kind.Place 0 17 (Place.Own 0 1 true)) ∷ (3, Kind.Drop (sys_frame 1)) ∷ (3, Kind.Done (dev_frame 0 1)) ∷
    (3, Kind.Migrated 2) ∷ (1, Kind.Seen 0 17 34) ∷ (1, Kind.Runlock 0) ∷ [])
way_2 = refl

pub way_3 : came_to linux script 0 13
    (0 ∷ 0 ∷ 0 ∷ 0 ∷ 0 ∷ 0 ∷ 0 ∷ 0 ∷ 0 ∷ 0 ∷ 0 ∷ 0 ∷ 0 ∷ 0 ∷ 0 ∷ 0 ∷ 0 ∷ 0 ∷ 0 ∷ 0 ∷ 0 ∷ 0 ∷ 0 ∷ 0 ∷ 0 ∷ 0 ∷ 0 ∷ 0 ∷
    1 ∷ 1 ∷ 0 ∷ 0 ∷ 0 ∷ 1 ∷ 0 ∷ 0 ∷ 0 ∷ 0 ∷ 1 ∷ [])
    ≡ ((3, Kind.Rlock 0) ∷ (3, Kind.Start 0 (pages 16 2) 3) ∷ (2, Kind.Told 0 (pages 16 2) 3) ∷
    (2, Kind.Place 0 16 (Place.Moving (sys_frame 0) true)) ∷
    (2, Kind.Place 0 17 (Place.Moving (sys_frame 1) true)) ∷ (2, Kind.End 0 (pages 16 2) 4) ∷
    (3, Kind.Take (dev_frame 0 0)) ∷ (3, Kind.Copied (sys_frame 0) (dev_frame 0 0) (Some 0)) ∷
    (3, Kind.Copied (sys_frame 0) (dev_frame 0 0) (Some 1)) ∷
    (3, Kind.Copied (sys_frame 0) (dev_frame 0 0) (Some 2)) ∷
    (3, Kind.Copied (sys_frame 0) (dev_frame 0 0) (Some 3)) ∷
    (3, Kind.Copied (sys_frame 0) (dev_frame 0 0) (Some 4)) ∷
    (3, Kind.Copied (sys_frame 0) (dev_frame 0 0) (Some 5)) ∷
    (3, Kind.Copied (sys_frame 0) (dev_frame 0 0) (Some 6)) ∷
    (3, Kind.Copied (sys_frame 0) (dev_frame 0 0) (Some 7)) ∷ (3, Kind.Take (dev_frame 0 1)) ∷
    (3, Kind.Copied (sys_frame 1) (dev_frame 0 1) (Some 0)) ∷
    (3, Kind.Copied (sys_frame 1) (dev_frame 0 1) (Some 1)) ∷
    (3, Kind.Copied (sys_frame 1) (dev_frame 0 1) (Some 2)) ∷
    (3, Kind.Copied (sys_frame 1) (dev_frame 0 1) (Some 3)) ∷
    (3, Kind.Copied (sys_frame 1) (dev_frame 0 1) (Some 4)) ∷
    (3, Kind.Copied (sys_frame 1) (dev_frame 0 1) (Some 5)) ∷
    (3, Kind.Copied (sys_frame 1) (dev_frame 0 1) (Some 6)) ∷
    (3, Kind.Copied (sys_frame 1) (dev_frame 0 1) (Some 7)) ∷ (3, Kind.Committed (sys_frame 0) (dev_frame 0 0)) ∷
    (3, Kind.Committed (sys_frame 1) (dev_frame 0 1)) ∷
    (3, Kind.Set 0 16 (Some (dev_frame 0 0)) TableRight.Write 39) ∷
    (3, Kind.Set 0 17 (Some (dev_frame 0 1)) TableRight.Write 40) ∷ (3, Kind.Rlock 0) ∷ (3, Kind.Seen 0 16 0) ∷
    (3, Kind.Place 0 16 (Place.Own 0 0 true)) ∷ (3, Kind.Drop (sys_frame 0)) ∷ (3, Kind.Done (dev_frame 0 0)) ∷
    (3, Kind.Seen 0 17 0) ∷ (3, Kind.Place 0 17 (Place.Own 0 1 true)) ∷ (3, Kind.Drop (sys_frame 1)) ∷
    (3, Kind.Done (dev_frame 0 1)) ∷ (3, Kind.Migrated 2) ∷ (1, Kind.Runlock 0) ∷ [])
way_3 = refl

pub way_4 : came_to linux script 0 13
    (0 ∷ 1 ∷ 1 ∷ 1 ∷ 1 ∷ 0 ∷ 0 ∷ 0 ∷ 0 ∷ 0 ∷ 0 ∷ 0 ∷ 0 ∷ 0 ∷ 0 ∷ 0 ∷ 0 ∷ 0 ∷ 0 ∷ 0 ∷ 0 ∷ 0 ∷ 0 ∷ 0 ∷ 0 ∷ 0 ∷ 0 ∷ 0 ∷
    0 ∷ 0 ∷ 0 ∷ 0 ∷ 0 ∷ 0 ∷ 0 ∷ 0 ∷ 0 ∷ 0 ∷ 0 ∷ [])
    ≡ ((3, Kind.Rlock 0) ∷ (3, Kind.Rlock 0) ∷ (3, Kind.Seen 0 16 2) ∷ (3, Kind.Seen 0 17 2) ∷ (3, Kind.Runlock 0) ∷
    (2, Kind.Start 0 (pages 16 2) 3) ∷ (2, Kind.Told 0 (pages 16 2) 3) ∷
    (2, Kind.Place 0 16 (Place.Moving (sys_frame 0) true)) ∷
    (2, Kind.Place 0 17 (Place.Moving (sys_frame 1) true)) ∷ (2, Kind.End 0 (pages 16 2) 4) ∷
    (2, Kind.Take (dev_frame 0 0)) ∷ (2, Kind.Copied (sys_frame 0) (dev_frame 0 0) (Some 0)) ∷
    (2, Kind.Copied (sys_frame 0) (dev_frame 0 0) (Some 1)) ∷
    (2, Kind.Copied (sys_frame 0) (dev_frame 0 0) (Some 2)) ∷
    (2, Kind.Copied (sys_frame 0) (dev_frame 0 0) (Some 3)) ∷
    (2, Kind.Copied (sys_frame 0) (dev_frame 0 0) (Some 4)) ∷
    (2, Kind.Copied (sys_frame 0) (dev_frame 0 0) (Some 5)) ∷
    (2, Kind.Copied (sys_frame 0) (dev_frame 0 0) (Some 6)) ∷
    (2, Kind.Copied (sys_frame 0) (dev_frame 0 0) (Some 7)) ∷ (2, Kind.Take (dev_frame 0 1)) ∷
    (2, Kind.Copied (sys_frame 1) (dev_frame 0 1) (Some 0)) ∷
    (2, Kind.Copied (sys_frame 1) (dev_frame 0 1) (Some 1)) ∷
    (2, Kind.Copied (sys_frame 1) (dev_frame 0 1) (Some 2)) ∷
    (2, Kind.Copied (sys_frame 1) (dev_frame 0 1) (Some 3)) ∷
    (2, Kind.Copied (sys_frame 1) (dev_frame 0 1) (Some 4)) ∷
    (2, Kind.Copied (sys_frame 1) (dev_frame 0 1) (Some 5)) ∷
    (2, Kind.Copied (sys_frame 1) (dev_frame 0 1) (Some 6)) ∷
    (2, Kind.Copied (sys_frame 1) (dev_frame 0 1) (Some 7)) ∷ (2, Kind.Committed (sys_frame 0) (dev_frame 0 0)) ∷
    (2, Kind.Committed (sys_frame 1) (dev_frame 0 1)) ∷
    (2, Kind.Set 0 16 (Some (dev_frame 0 0)) TableRight.Write 43) ∷
    (2, Kind.Set 0 17 (Some (dev_frame 0 1)) TableRight.Write 44) ∷ (2, Kind.Place 0 16 (Place.Own 0 0 true)) ∷
    (2, Kind.Drop (sys_frame 0)) ∷ (2, Kind.Done (dev_frame 0 0)) ∷ (2, Kind.Place 0 17 (Place.Own 0 1 true)) ∷
    (2, Kind.Drop (sys_frame 1)) ∷ (2, Kind.Done (dev_frame 0 1)) ∷ (2, Kind.Migrated 2) ∷ [])
way_4 = refl
