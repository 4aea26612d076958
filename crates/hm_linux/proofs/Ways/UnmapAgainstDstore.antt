-- Ways through the race unmap_against_dstore, entry by entry.
use Rattle.std.proofs.Common.{refl}
use Rattle.std.specs.Prelude.{◌≡◌, Some, [], ◌∷◌}
use Rattle.hm_base.specs.Pages.{one_page}
use Rattle.hm_base.specs.Program.{Program}
use Rattle.hm_base.specs.declared.Place.{Place}
use Rattle.hm_base.specs.declared.cause.Cause.{Cause}
use Rattle.hm_base.specs.declared.ops.Op.{Op}
use Rattle.hm_base.specs.declared.ops.Rights.{Rights}
use Rattle.hm_base.specs.declared.ops.Version.{Version}
use Rattle.hm_history.specs.Memory.Words.{sys_frame}
use Rattle.hm_history.specs.declared.Who.{Who}
use Rattle.hm_history.specs.declared.TableRight.{TableRight}
use Rattle.hm_history.specs.declared.Kind.{Kind}
use Rattle.hm_linux.specs.Variants.{linux}
use Rattle.hm_linux.proofs.Way.{pages, came_to}

-- the race
abbrev script : Program
script = record {
  version = Version.Two;
  frames = 64;
  devices = 16 ∷ 16 ∷ [];
  skip = 0;
  actors =
      ((Op.Map 0 (one_page 16) Rights.ReadWrite) ∷ (Op.Store 0 0x10000 (65 ∷ [])) ∷
      (Op.Attach 0 0 0 (pages 16 4)) ∷ (Op.Unmap 0 (one_page 16)) ∷ []) ∷
      ((Op.DeviceStore 0 0x10000 (66 ∷ [])) ∷ (Op.DeviceLoad 0 0x10000 1) ∷ []) ∷
      [];
  schedule = [];
}

pub way_0 : came_to linux script 0 8
    (0 ∷ 0 ∷ 0 ∷ 0 ∷ 0 ∷ 0 ∷ 0 ∷ 1 ∷ 1 ∷ 1 ∷ 1 ∷ 1 ∷ 1 ∷ [])
    ≡ ((3, Kind.Wlock 0) ∷ (3, Kind.Start 0 (one_page 16) 3) ∷ (3, Kind.Told 0 (one_page 16) 3) ∷
    (2, Kind.Place 0 16 Place.Empty) ∷ (2, Kind.Drop (sys_frame 0)) ∷ (2, Kind.End 0 (one_page 16) 4) ∷
    (3, Kind.Unmapped 0 (one_page 16)) ∷ (1, Kind.Begin 0 3) ∷ (1, Kind.Rlock 0) ∷
    (1, Kind.Failed (Who.Mirror 0) 0x10000 1 Cause.Unmapped) ∷ (1, Kind.Begin 0 3) ∷ (1, Kind.Rlock 0) ∷
    (1, Kind.Failed (Who.Mirror 0) 0x10000 1 Cause.Unmapped) ∷ [])
way_0 = refl

pub way_1 : came_to linux script 0 8
    (1 ∷ 1 ∷ 1 ∷ 0 ∷ 0 ∷ 1 ∷ 1 ∷ 1 ∷ 0 ∷ 0 ∷ 0 ∷ 0 ∷ 0 ∷ [])
    ≡ ((3, Kind.Begin 0 1) ∷ (3, Kind.Rlock 0) ∷ (1, Kind.Runlock 0) ∷ (3, Kind.Wlock 0) ∷
    (3, Kind.Start 0 (one_page 16) 3) ∷ (3, Kind.Set 0 16 (Some (sys_frame 0)) TableRight.Write 8) ∷
    (3, Kind.Stored (Who.Mirror 0) 0x10000 (66 ∷ [])) ∷ (3, Kind.Loaded (Who.Mirror 0) 0x10000 (66 ∷ [])) ∷
    (2, Kind.Told 0 (one_page 16) 3) ∷ (2, Kind.Place 0 16 Place.Empty) ∷ (2, Kind.Drop (sys_frame 0)) ∷
    (2, Kind.End 0 (one_page 16) 4) ∷ (2, Kind.Unmapped 0 (one_page 16)) ∷ [])
way_1 = refl

pub way_2 : came_to linux script 0 8
    (1 ∷ 1 ∷ 1 ∷ 0 ∷ 0 ∷ 1 ∷ 1 ∷ 0 ∷ 0 ∷ 0 ∷ 0 ∷ 0 ∷ 1 ∷ 1 ∷ 1 ∷ [])
    ≡ ((3, Kind.Begin 0 1) ∷ (3, Kind.Rlock 0) ∷ (1, Kind.Runlock 0) ∷ (3, Kind.Wlock 0) ∷
    (3, Kind.Start 0 (one_page 16) 3) ∷ (3, Kind.Set 0 16 (Some (sys_frame 0)) TableRight.Write 8) ∷
    (3, Kind.Stored (Who.Mirror 0) 0x10000 (66 ∷ [])) ∷ (3, Kind.Told 0 (one_page 16) 3) ∷
    (2, Kind.Place 0 16 Place.Empty) ∷ (2, Kind.Drop (sys_frame 0)) ∷ (2, Kind.End 0 (one_page 16) 4) ∷
    (3, Kind.Unmapped 0 (one_page 16)) ∷ (1, Kind.Begin 0 3) ∷ (1, Kind.Rlock 0) ∷
    (1, Kind.Failed (Who.Mirror 0) 0x10000 1 Cause.Unmapped) ∷ [])
way_2 = refl
