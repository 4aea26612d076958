-- Ways through the race dstore_in_device_after_fork, entry by entry.
use Rattle.std.proofs.Common.{refl}
use Rattle.std.specs.Prelude.{◌≡◌, false, Some, [], ◌∷◌}
use Rattle.hm_base.specs.Pages.{one_page}
use Rattle.hm_base.specs.Program.{Program}
use Rattle.hm_base.specs.declared.Place.{Place}
use Rattle.hm_base.specs.declared.cause.Cause.{Cause}
use Rattle.hm_base.specs.declared.ops.Op.{Op}
use Rattle.hm_base.specs.declared.ops.Rights.{Rights}
use Rattle.hm_base.specs.declared.ops.Version.{Version}
use Rattle.hm_history.specs.Memory.Words.{sys_frame, dev_frame}
use Rattle.hm_history.specs.declared.Who.{Who}
use Rattle.hm_history.specs.declared.Kind.{Kind}
use Rattle.hm_linux.specs.Variants.{linux}
use Rattle.hm_linux.proofs.Way.{pages, came_to}

-- the race
abbrev script : Program
script = record {
  version = Version.Two;
  frames = 64;
  devices = 16 ∷ 16 ∷ [];
  skip = 0;
  actors =
      ((Op.Map 0 (one_page 16) Rights.ReadWrite) ∷ (Op.Store 0 0x10000 (65 ∷ [])) ∷
      (Op.Attach 0 0 0 (pages 16 4)) ∷ (Op.ToDevice 0 (one_page 16)) ∷ (Op.Fork 0 1) ∷
      (Op.DeviceStore 0 0x10000 (66 ∷ [])) ∷ []) ∷
      ((Op.Load 1 0x10000 1) ∷ []) ∷
      [];
  schedule = [];
}

pub way_0 : came_to linux script 0 36
    (0 ∷ 0 ∷ 0 ∷ 0 ∷ 1 ∷ 1 ∷ 1 ∷ 1 ∷ 1 ∷ 1 ∷ 1 ∷ 1 ∷ 1 ∷ 1 ∷ 1 ∷ 1 ∷ 1 ∷ 1 ∷ 1 ∷ 1 ∷ 1 ∷ 1 ∷ 1 ∷ 1 ∷ 1 ∷ 1 ∷ 1 ∷ 1 ∷
    [])
    ≡ ((3, Kind.Begin 0 5) ∷ (3, Kind.Rlock 0) ∷ (3, Kind.Runlock 0) ∷
    (3, Kind.Failed (Who.Mirror 0) 0x10000 1 Cause.Unmapped) ∷ (1, Kind.Rlock 1) ∷
    (1, Kind.Start 1 (one_page 16) 2) ∷ (1, Kind.Place 1 16 (Place.Moving (dev_frame 0 0) false)) ∷
    (1, Kind.End 1 (one_page 16) 2) ∷ (1, Kind.Start 0 (one_page 16) 7) ∷ (1, Kind.Told 0 (one_page 16) 7) ∷
    (1, Kind.Place 0 16 (Place.Moving (dev_frame 0 0) false)) ∷ (1, Kind.End 0 (one_page 16) 8) ∷
    (1, Kind.Take (sys_frame 0)) ∷ (1, Kind.Copied (dev_frame 0 0) (sys_frame 0) (Some 0)) ∷
    (1, Kind.Copied (dev_frame 0 0) (sys_frame 0) (Some 1)) ∷
    (1, Kind.Copied (dev_frame 0 0) (sys_frame 0) (Some 2)) ∷
    (1, Kind.Copied (dev_frame 0 0) (sys_frame 0) (Some 3)) ∷
    (1, Kind.Copied (dev_frame 0 0) (sys_frame 0) (Some 4)) ∷
    (1, Kind.Copied (dev_frame 0 0) (sys_frame 0) (Some 5)) ∷
    (1, Kind.Copied (dev_frame 0 0) (sys_frame 0) (Some 6)) ∷
    (1, Kind.Copied (dev_frame 0 0) (sys_frame 0) (Some 7)) ∷ (1, Kind.Committed (dev_frame 0 0) (sys_frame 0)) ∷
    (1, Kind.Place 0 16 (Place.Sys 0 false)) ∷ (1, Kind.Place 1 16 (Place.Sys 0 false)) ∷
    (1, Kind.Drop (dev_frame 0 0)) ∷ (1, Kind.Done (sys_frame 0)) ∷ (1, Kind.Runlock 1) ∷
    (1, Kind.Loaded (Who.Cpu 1) 0x10000 (65 ∷ [])) ∷ [])
way_0 = refl
