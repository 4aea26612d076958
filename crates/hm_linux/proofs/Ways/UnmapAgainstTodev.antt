-- Ways through the race unmap_against_todev, entry by entry.
use Rattle.std.proofs.Common.{refl}
use Rattle.std.specs.Prelude.{◌≡◌, true, Some, [], ◌∷◌}
use Rattle.hm_base.specs.Pages.{one_page}
use Rattle.hm_base.specs.Program.{Program}
use Rattle.hm_base.specs.declared.Place.{Place}
use Rattle.hm_base.specs.declared.ops.Op.{Op}
use Rattle.hm_base.specs.declared.ops.Rights.{Rights}
use Rattle.hm_base.specs.declared.ops.Version.{Version}
use Rattle.hm_history.specs.Memory.Words.{sys_frame, dev_frame}
use Rattle.hm_history.specs.declared.TableRight.{TableRight}
use Rattle.hm_history.specs.declared.KeptAt.{KeptAt}
use Rattle.hm_history.specs.declared.KeptWhy.{KeptWhy}
use Rattle.hm_history.specs.declared.Kind.{Kind}
use Rattle.hm_linux.specs.Variants.{linux}
use Rattle.hm_linux.proofs.Way.{pages, came_to}

-- the race
abbrev script : Program
script = record {
  version = Version.Two;
  frames = 64;
  devices = 16 ∷ 16 ∷ [];
  skip = 0;
  actors =
      ((Op.Map 0 (one_page 16) Rights.ReadWrite) ∷ (Op.Store 0 0x10000 (65 ∷ [])) ∷
      (Op.Attach 0 0 0 (pages 16 4)) ∷ (Op.Unmap 0 (one_page 16)) ∷ []) ∷
      ((Op.ToDevice 0 (one_page 16)) ∷ []) ∷
      [];
  schedule = [];
}

pub way_0 : came_to linux script 0 8
    (0 ∷ 0 ∷ 0 ∷ 0 ∷ 0 ∷ 0 ∷ 0 ∷ 1 ∷ 1 ∷ 1 ∷ 1 ∷ 1 ∷ 1 ∷ [])
    ≡ ((3, Kind.Wlock 0) ∷ (2, Kind.Start 0 (one_page 16) 3) ∷ (3, Kind.Told 0 (one_page 16) 3) ∷
    (3, Kind.Place 0 16 Place.Empty) ∷ (3, Kind.Drop (sys_frame 0)) ∷ (3, Kind.End 0 (one_page 16) 4) ∷
    (3, Kind.Unmapped 0 (one_page 16)) ∷ (1, Kind.Rlock 0) ∷ (1, Kind.Start 0 (one_page 16) 5) ∷
    (1, Kind.Told 0 (one_page 16) 5) ∷ (1, Kind.Kept (KeptAt.Page 16) KeptWhy.NotHere) ∷
    (1, Kind.End 0 (one_page 16) 6) ∷ (1, Kind.Migrated 0) ∷ [])
way_0 = refl

pub way_1 : came_to linux script 0 8
    (1 ∷ 1 ∷ 1 ∷ 1 ∷ 1 ∷ 1 ∷ 1 ∷ 1 ∷ 1 ∷ 1 ∷ 1 ∷ 1 ∷ 1 ∷ 1 ∷ 1 ∷ 1 ∷ 1 ∷ 1 ∷ 1 ∷ 1 ∷ 0 ∷ 0 ∷ 0 ∷ 0 ∷ 0 ∷ 0 ∷ 0 ∷ [])
    ≡ ((3, Kind.Rlock 0) ∷ (1, Kind.Start 0 (one_page 16) 3) ∷ (1, Kind.Told 0 (one_page 16) 3) ∷
    (1, Kind.Place 0 16 (Place.Moving (sys_frame 0) true)) ∷ (1, Kind.End 0 (one_page 16) 4) ∷
    (1, Kind.Take (dev_frame 0 0)) ∷ (1, Kind.Copied (sys_frame 0) (dev_frame 0 0) (Some 0)) ∷
    (1, Kind.Copied (sys_frame 0) (dev_frame 0 0) (Some 1)) ∷
    (1, Kind.Copied (sys_frame 0) (dev_frame 0 0) (Some 2)) ∷
    (1, Kind.Copied (sys_frame 0) (dev_frame 0 0) (Some 3)) ∷
    (1, Kind.Copied (sys_frame 0) (dev_frame 0 0) (Some 4)) ∷
    (1, Kind.Copied (sys_frame 0) (dev_frame 0 0) (Some 5)) ∷
    (1, Kind.Copied (sys_frame 0) (dev_frame 0 0) (Some 6)) ∷
    (1, Kind.Copied (sys_frame 0) (dev_frame 0 0) (Some 7)) ∷ (1, Kind.Committed (sys_frame 0) (dev_frame 0 0)) ∷
    (1, Kind.Set 0 16 (Some (dev_frame 0 0)) TableRight.Write 23) ∷ (1, Kind.Place 0 16 (Place.Own 0 0 true)) ∷
    (1, Kind.Drop (sys_frame 0)) ∷ (1, Kind.Done (dev_frame 0 0)) ∷ (1, Kind.Migrated 1) ∷ (2, Kind.Wlock 0) ∷
    (2, Kind.Start 0 (one_page 16) 5) ∷ (2, Kind.Told 0 (one_page 16) 5) ∷ (2, Kind.Place 0 16 Place.Empty) ∷
    (2, Kind.Drop (dev_frame 0 0)) ∷ (2, Kind.End 0 (one_page 16) 6) ∷ (2, Kind.Unmapped 0 (one_page 16)) ∷ [])
way_1 = refl
