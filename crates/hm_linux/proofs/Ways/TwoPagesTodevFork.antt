-- Ways through the race two_pages_todev_fork, entry by entry.
use Rattle.std.proofs.Common.{refl}
use Rattle.std.specs.Prelude.{◌≡◌, true, false, Some, None, [], ◌∷◌}
use Rattle.hm_base.specs.Pages.{one_page, all_pages}
use Rattle.hm_base.specs.Program.{Program}
use Rattle.hm_base.specs.declared.Place.{Place}
use Rattle.hm_base.specs.declared.ops.Op.{Op}
use Rattle.hm_base.specs.declared.ops.Rights.{Rights}
use Rattle.hm_base.specs.declared.ops.Version.{Version}
use Rattle.hm_history.specs.Memory.Words.{sys_frame, dev_frame}
use Rattle.hm_history.specs.declared.Who.{Who}
use Rattle.hm_history.specs.declared.TableRight.{TableRight}
use Rattle.hm_history.specs.declared.KeptAt.{KeptAt}
use Rattle.hm_history.specs.declared.KeptWhy.{KeptWhy}
use Rattle.hm_history.specs.declared.Kind.{Kind}
use Rattle.hm_linux.specs.Variants.{linux}
use Rattle.hm_linux.proofs.Way.{pages, came_to}

-- the race
abbrev script : Program
script = record {
  version = Version.Two;
  frames = 64;
  devices = 16 ∷ 16 ∷ [];
  skip = 0;
  actors =
      ((Op.Map 0 (pages 16 2) Rights.ReadWrite) ∷ (Op.Store 0 0x10000 (65 ∷ [])) ∷
      (Op.Store 0 0x11000 (65 ∷ [])) ∷ (Op.Attach 0 0 0 (pages 16 4)) ∷ (Op.ToDevice 0 (pages 16 2)) ∷ []) ∷
      ((Op.Fork 0 1) ∷ (Op.Load 1 0x10000 1) ∷ (Op.Store 1 0x11000 (66 ∷ [])) ∷ []) ∷
      [];
  schedule = [];
}

pub way_0 : came_to linux script 0 13
    (1 ∷ 1 ∷ 1 ∷ 1 ∷ 1 ∷ 1 ∷ 1 ∷ 1 ∷ 1 ∷ 1 ∷ 0 ∷ 0 ∷ 0 ∷ 0 ∷ 0 ∷ 0 ∷ 0 ∷ 1 ∷ 0 ∷ 0 ∷ 1 ∷ 1 ∷ 1 ∷ 1 ∷ 1 ∷ 0 ∷ 0 ∷ 0 ∷
    0 ∷ 0 ∷ 0 ∷ 0 ∷ 0 ∷ 0 ∷ 0 ∷ 0 ∷ 0 ∷ 0 ∷ 0 ∷ 0 ∷ 0 ∷ 0 ∷ 0 ∷ 0 ∷ 1 ∷ 1 ∷ 1 ∷ [])
    ≡ ((3, Kind.Wlock 0) ∷ (1, Kind.Named 0 1) ∷ (1, Kind.Start 0 all_pages 3) ∷ (1, Kind.Told 0 all_pages 3) ∷
    (1, Kind.Place 0 16 (Place.Sys 0 false)) ∷ (1, Kind.Place 1 16 (Place.Sys 0 false)) ∷
    (1, Kind.Place 0 17 (Place.Sys 1 false)) ∷ (1, Kind.Place 1 17 (Place.Sys 1 false)) ∷
    (1, Kind.End 0 all_pages 4) ∷ (1, Kind.Forked 0 1) ∷ (3, Kind.Rlock 0) ∷ (3, Kind.Start 0 (pages 16 2) 5) ∷
    (3, Kind.Told 0 (pages 16 2) 5) ∷ (3, Kind.Place 0 16 (Place.Moving (sys_frame 0) false)) ∷
    (3, Kind.Place 0 17 (Place.Moving (sys_frame 1) false)) ∷ (3, Kind.End 0 (pages 16 2) 6) ∷
    (3, Kind.Start 1 (one_page 16) 2) ∷ (3, Kind.Loaded (Who.Cpu 1) 0x10000 (65 ∷ [])) ∷
    (3, Kind.Place 1 16 (Place.Moving (sys_frame 0) false)) ∷ (3, Kind.End 1 (one_page 16) 2) ∷
    (3, Kind.Rlock 1) ∷ (3, Kind.Take (sys_frame 2)) ∷ (3, Kind.Copied (sys_frame 1) (sys_frame 2) None) ∷
    (3, Kind.Start 1 (one_page 17) 2) ∷ (3, Kind.Place 1 17 (Place.Sys 2 true)) ∷ (3, Kind.Take (dev_frame 0 0)) ∷
    (3, Kind.Copied (sys_frame 0) (dev_frame 0 0) (Some 0)) ∷
    (3, Kind.Copied (sys_frame 0) (dev_frame 0 0) (Some 1)) ∷
    (3, Kind.Copied (sys_frame 0) (dev_frame 0 0) (Some 2)) ∷
    (3, Kind.Copied (sys_frame 0) (dev_frame 0 0) (Some 3)) ∷
    (3, Kind.Copied (sys_frame 0) (dev_frame 0 0) (Some 4)) ∷
    (3, Kind.Copied (sys_frame 0) (dev_frame 0 0) (Some 5)) ∷
    (3, Kind.Copied (sys_frame 0) (dev_frame 0 0) (Some 6)) ∷
    (3, Kind.Copied (sys_frame 0) (dev_frame 0 0) (Some 7)) ∷
    (3, Kind.Kept (KeptAt.Page 17) (KeptWhy.LockedBy 1)) ∷ (3, Kind.Committed (sys_frame 0) (dev_frame 0 0)) ∷
    (3, Kind.Set 0 16 (Some (dev_frame 0 0)) TableRight.Read 49) ∷ (3, Kind.Place 0 16 (Place.Own 0 0 false)) ∷
    (3, Kind.Place 1 16 (Place.Own 0 0 false)) ∷ (3, Kind.Drop (sys_frame 0)) ∷ (3, Kind.Done (dev_frame 0 0)) ∷
    (3, Kind.Place 0 17 (Place.Sys 1 false)) ∷ (3, Kind.Done (sys_frame 1)) ∷ (3, Kind.Migrated 1) ∷
    (1, Kind.End 1 (one_page 17) 2) ∷ (1, Kind.Runlock 1) ∷ (1, Kind.Stored (Who.Cpu 1) 0x11000 (66 ∷ [])) ∷ [])
way_0 = refl
