-- Ways through the race dadd_against_todev, entry by entry.
use Rattle.std.proofs.Common.{refl}
use Rattle.std.specs.Prelude.{◌≡◌, true, Some, [], ◌∷◌}
use Rattle.hm_base.specs.Pages.{one_page}
use Rattle.hm_base.specs.Program.{Program}
use Rattle.hm_base.specs.declared.Place.{Place}
use Rattle.hm_base.specs.declared.cause.Cause.{Cause}
use Rattle.hm_base.specs.declared.ops.Op.{Op}
use Rattle.hm_base.specs.declared.ops.Rights.{Rights}
use Rattle.hm_base.specs.declared.ops.Version.{Version}
use Rattle.hm_history.specs.Memory.Words.{sys_frame, dev_frame}
use Rattle.hm_history.specs.declared.Who.{Who}
use Rattle.hm_history.specs.declared.TableRight.{TableRight}
use Rattle.hm_history.specs.declared.Kind.{Kind}
use Rattle.hm_linux.specs.Variants.{linux}
use Rattle.hm_linux.proofs.Way.{pages, came_to}

-- the race
abbrev script : Program
script = record {
  version = Version.Two;
  frames = 64;
  devices = 16 ∷ 16 ∷ [];
  skip = 0;
  actors =
      ((Op.Map 0 (one_page 16) Rights.ReadWrite) ∷ (Op.Store 0 0x10000 (65 ∷ [])) ∷
      (Op.Attach 0 0 0 (pages 16 4)) ∷ (Op.Attach 1 1 0 (pages 16 4)) ∷ (Op.Add 0 0x10000 1) ∷ []) ∷
      ((Op.ToDevice 1 (one_page 16)) ∷ (Op.Load 0 0x10000 1) ∷ []) ∷
      [];
  schedule = [];
}

pub way_0 : came_to linux script 0 9
    (0 ∷ 1 ∷ 1 ∷ 1 ∷ 1 ∷ 1 ∷ 1 ∷ 1 ∷ 1 ∷ 1 ∷ 1 ∷ 1 ∷ 1 ∷ 1 ∷ 1 ∷ 1 ∷ 1 ∷ 1 ∷ 1 ∷ 1 ∷ 1 ∷ 1 ∷ 1 ∷ 1 ∷ 1 ∷ 1 ∷ 1 ∷ 1 ∷
    1 ∷ 1 ∷ 1 ∷ 1 ∷ 1 ∷ 1 ∷ 1 ∷ 1 ∷ 1 ∷ 1 ∷ 1 ∷ 0 ∷ 1 ∷ 1 ∷ 1 ∷ 1 ∷ [])
    ≡ ((3, Kind.Rlock 0) ∷ (3, Kind.Rlock 0) ∷ (3, Kind.Start 0 (one_page 16) 3) ∷ (3, Kind.Told 0 (one_page 16) 3) ∷
    (3, Kind.Told 1 (one_page 16) 3) ∷ (3, Kind.Place 0 16 (Place.Moving (sys_frame 0) true)) ∷
    (1, Kind.End 0 (one_page 16) 4) ∷ (1, Kind.Take (dev_frame 1 0)) ∷
    (1, Kind.Copied (sys_frame 0) (dev_frame 1 0) (Some 0)) ∷
    (1, Kind.Copied (sys_frame 0) (dev_frame 1 0) (Some 1)) ∷
    (1, Kind.Copied (sys_frame 0) (dev_frame 1 0) (Some 2)) ∷
    (1, Kind.Copied (sys_frame 0) (dev_frame 1 0) (Some 3)) ∷
    (1, Kind.Copied (sys_frame 0) (dev_frame 1 0) (Some 4)) ∷
    (1, Kind.Copied (sys_frame 0) (dev_frame 1 0) (Some 5)) ∷
    (1, Kind.Copied (sys_frame 0) (dev_frame 1 0) (Some 6)) ∷
    (1, Kind.Copied (sys_frame 0) (dev_frame 1 0) (Some 7)) ∷ (1, Kind.Committed (sys_frame 0) (dev_frame 1 0)) ∷
    (1, Kind.Set 1 16 (Some (dev_frame 1 0)) TableRight.Write 26) ∷ (1, Kind.Place 0 16 (Place.Own 1 0 true)) ∷
    (1, Kind.Drop (sys_frame 0)) ∷ (1, Kind.Done (dev_frame 1 0)) ∷ (3, Kind.Migrated 1) ∷ (3, Kind.Rlock 0) ∷
    (3, Kind.Start 0 (one_page 16) 5) ∷ (3, Kind.Told 0 (one_page 16) 5) ∷ (3, Kind.Told 1 (one_page 16) 5) ∷
    (3, Kind.Place 0 16 (Place.Moving (dev_frame 1 0) true)) ∷ (1, Kind.End 0 (one_page 16) 6) ∷
    (1, Kind.Take (sys_frame 0)) ∷ (1, Kind.Copied (dev_frame 1 0) (sys_frame 0) (Some 0)) ∷
    (1, Kind.Copied (dev_frame 1 0) (sys_frame 0) (Some 1)) ∷
    (1, Kind.Copied (dev_frame 1 0) (sys_frame 0) (Some 2)) ∷
    (1, Kind.Copied (dev_frame 1 0) (sys_frame 0) (Some 3)) ∷
    (1, Kind.Copied (dev_frame 1 0) (sys_frame 0) (Some 4)) ∷
    (1, Kind.Copied (dev_frame 1 0) (sys_frame 0) (Some 5)) ∷
    (1, Kind.Copied (dev_frame 1 0) (sys_frame 0) (Some 6)) ∷
    (1, Kind.Copied (dev_frame 1 0) (sys_frame 0) (Some 7)) ∷ (1, Kind.Committed (dev_frame 1 0) (sys_frame 0)) ∷
    (1, Kind.Place 0 16 (Place.Sys 0 true)) ∷ (3, Kind.Failed (Who.Mirror 0) 0x10000 1 Cause.Never) ∷
    (1, Kind.Drop (dev_frame 1 0)) ∷ (1, Kind.Done (sys_frame 0)) ∷ (1, Kind.Runlock 0) ∷
    (1, Kind.Loaded (Who.Cpu 0) 0x10000 (65 ∷ [])) ∷ [])
way_0 = refl
