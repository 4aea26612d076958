-- Ways through the race first_attach, entry by entry.
use Rattle.std.proofs.Common.{refl}
use Rattle.std.specs.Prelude.{◌≡◌, true, Some, None, [], ◌∷◌}
use Rattle.hm_base.specs.Pages.{one_page}
use Rattle.hm_base.specs.Program.{Program}
use Rattle.hm_base.specs.declared.Place.{Place}
use Rattle.hm_base.specs.declared.ops.Op.{Op}
use Rattle.hm_base.specs.declared.ops.Rights.{Rights}
use Rattle.hm_base.specs.declared.ops.Version.{Version}
use Rattle.hm_history.specs.Memory.Words.{sys_frame}
use Rattle.hm_history.specs.declared.Who.{Who}
use Rattle.hm_history.specs.declared.TableRight.{TableRight}
use Rattle.hm_history.specs.declared.Kind.{Kind}
use Rattle.hm_linux.specs.Variants.{linux}
use Rattle.hm_linux.proofs.Way.{came_to}

-- the race
abbrev script : Program
script = record {
  version = Version.Two;
  frames = 64;
  devices = 16 ∷ [];
  skip = 0;
  actors =
      ((Op.Store 0 0x10000 (66 ∷ [])) ∷ []) ∷
      ((Op.Attach 0 0 0 (one_page 16)) ∷ (Op.DeviceLoad 0 0x10000 1) ∷ []) ∷
      ((Op.Map 0 (one_page 16) Rights.ReadWrite) ∷ (Op.Store 0 0x10000 (65 ∷ [])) ∷ (Op.Fork 0 1) ∷ []) ∷
      [];
  schedule = [];
}

pub way_0 : came_to linux script 2 14
    (0 ∷ 0 ∷ 0 ∷ 0 ∷ 0 ∷ 0 ∷ 0 ∷ 0 ∷ 1 ∷ 1 ∷ 1 ∷ 1 ∷ 1 ∷ 1 ∷ [])
    ≡ ((6, Kind.Rlock 0) ∷ (6, Kind.Take (sys_frame 1)) ∷ (6, Kind.Copied (sys_frame 0) (sys_frame 1) None) ∷
    (6, Kind.Start 0 (one_page 16) 2) ∷ (4, Kind.Place 0 16 (Place.Sys 1 true)) ∷
    (4, Kind.End 0 (one_page 16) 2) ∷ (6, Kind.Runlock 0) ∷ (6, Kind.Stored (Who.Cpu 0) 0x10000 (66 ∷ [])) ∷
    (2, Kind.Attached 0 0 0 (one_page 16) 1) ∷ (2, Kind.Begin 0 1) ∷ (2, Kind.Rlock 0) ∷ (2, Kind.Runlock 0) ∷
    (2, Kind.Set 0 16 (Some (sys_frame 1)) TableRight.Write 23) ∷
    (2, Kind.Loaded (Who.Mirror 0) 0x10000 (66 ∷ [])) ∷ [])
way_0 = refl

pub way_1 : came_to linux script 2 14
    (0 ∷ 0 ∷ 0 ∷ 0 ∷ 0 ∷ 0 ∷ 0 ∷ 1 ∷ 1 ∷ 1 ∷ 1 ∷ 1 ∷ 1 ∷ 0 ∷ [])
    ≡ ((6, Kind.Rlock 0) ∷ (6, Kind.Take (sys_frame 1)) ∷ (6, Kind.Copied (sys_frame 0) (sys_frame 1) None) ∷
    (6, Kind.Start 0 (one_page 16) 2) ∷ (4, Kind.Place 0 16 (Place.Sys 1 true)) ∷
    (4, Kind.End 0 (one_page 16) 2) ∷ (6, Kind.Runlock 0) ∷ (6, Kind.Attached 0 0 0 (one_page 16) 1) ∷
    (6, Kind.Begin 0 1) ∷ (6, Kind.Rlock 0) ∷ (6, Kind.Runlock 0) ∷
    (6, Kind.Set 0 16 (Some (sys_frame 1)) TableRight.Write 22) ∷
    (6, Kind.Loaded (Who.Mirror 0) 0x10000 (65 ∷ [])) ∷ (4, Kind.Stored (Who.Cpu 0) 0x10000 (66 ∷ [])) ∷ [])
way_1 = refl
