-- Ways through the race dadd_of_two_devices, entry by entry.
use Rattle.std.proofs.Common.{refl}
use Rattle.std.specs.Prelude.{◌≡◌, true, Some, [], ◌∷◌}
use Rattle.hm_base.specs.Pages.{one_page}
use Rattle.hm_base.specs.Program.{Program}
use Rattle.hm_base.specs.declared.Place.{Place}
use Rattle.hm_base.specs.declared.cause.Cause.{Cause}
use Rattle.hm_base.specs.declared.ops.Op.{Op}
use Rattle.hm_base.specs.declared.ops.Rights.{Rights}
use Rattle.hm_base.specs.declared.ops.Version.{Version}
use Rattle.hm_history.specs.Memory.Words.{sys_frame}
use Rattle.hm_history.specs.declared.Who.{Who}
use Rattle.hm_history.specs.declared.TableRight.{TableRight}
use Rattle.hm_history.specs.declared.Kind.{Kind}
use Rattle.hm_linux.specs.Variants.{linux}
use Rattle.hm_linux.proofs.Way.{pages, came_to}

-- the race
abbrev script : Program
script = record {
  version = Version.Two;
  frames = 64;
  devices = 16 ∷ 16 ∷ [];
  skip = 0;
  actors =
      ((Op.Map 0 (one_page 16) Rights.ReadWrite) ∷ (Op.Store 0 0x10000 (65 ∷ [])) ∷
      (Op.Attach 0 0 0 (pages 16 4)) ∷ (Op.Attach 1 1 0 (pages 16 4)) ∷ (Op.Add 0 0x10000 1) ∷
      (Op.Load 0 0x10000 1) ∷ []) ∷
      ((Op.Add 1 0x10000 1) ∷ (Op.Load 0 0x10000 1) ∷ []) ∷
      [];
  schedule = [];
}

pub way_0 : came_to linux script 0 9
    (0 ∷ 0 ∷ 0 ∷ 0 ∷ 1 ∷ 1 ∷ 0 ∷ 0 ∷ 1 ∷ 1 ∷ 1 ∷ 0 ∷ 0 ∷ 0 ∷ 0 ∷ 0 ∷ 0 ∷ 0 ∷ 0 ∷ 0 ∷ 0 ∷ 0 ∷ 0 ∷ 1 ∷ 1 ∷ [])
    ≡ ((3, Kind.Rlock 0) ∷ (3, Kind.Start 0 (one_page 16) 3) ∷ (3, Kind.Told 0 (one_page 16) 3) ∷
    (3, Kind.Told 1 (one_page 16) 3) ∷ (3, Kind.Rlock 0) ∷ (3, Kind.Start 0 (one_page 16) 3) ∷
    (3, Kind.Place 0 16 (Place.Exclusive 0 0)) ∷ (3, Kind.End 0 (one_page 16) 3) ∷
    (1, Kind.Told 0 (one_page 16) 3) ∷ (1, Kind.Told 1 (one_page 16) 3) ∷ (1, Kind.End 0 (one_page 16) 4) ∷
    (3, Kind.Set 0 16 (Some (sys_frame 0)) TableRight.Sole 20) ∷ (3, Kind.Runlock 0) ∷
    (3, Kind.Fetched 0 0x10000 (65 ∷ [])) ∷ (3, Kind.Added 0 0x10000 65 66) ∷ (3, Kind.Rlock 0) ∷
    (3, Kind.Start 0 (one_page 16) 5) ∷ (3, Kind.Told 0 (one_page 16) 5) ∷ (3, Kind.Told 1 (one_page 16) 5) ∷
    (3, Kind.Place 0 16 (Place.Sys 0 true)) ∷ (3, Kind.End 0 (one_page 16) 6) ∷ (3, Kind.Runlock 0) ∷
    (3, Kind.Loaded (Who.Cpu 0) 0x10000 (66 ∷ [])) ∷ (1, Kind.Failed (Who.Mirror 1) 0x10000 1 Cause.Never) ∷
    (1, Kind.Loaded (Who.Cpu 0) 0x10000 (66 ∷ [])) ∷ [])
way_0 = refl

pub way_1 : came_to linux script 0 9
    (0 ∷ 0 ∷ 0 ∷ 0 ∷ 1 ∷ 1 ∷ 1 ∷ 1 ∷ 1 ∷ 0 ∷ 0 ∷ 0 ∷ 1 ∷ 1 ∷ 0 ∷ 0 ∷ 1 ∷ 1 ∷ 1 ∷ 0 ∷ 0 ∷ 0 ∷ 0 ∷ 0 ∷ 1 ∷ [])
    ≡ ((3, Kind.Rlock 0) ∷ (3, Kind.Start 0 (one_page 16) 3) ∷ (3, Kind.Told 0 (one_page 16) 3) ∷
    (3, Kind.Told 1 (one_page 16) 3) ∷ (3, Kind.Rlock 0) ∷ (3, Kind.Start 0 (one_page 16) 3) ∷
    (3, Kind.Told 0 (one_page 16) 3) ∷ (3, Kind.Told 1 (one_page 16) 3) ∷
    (3, Kind.Place 0 16 (Place.Exclusive 0 1)) ∷ (3, Kind.End 0 (one_page 16) 3) ∷
    (3, Kind.Failed (Who.Mirror 0) 0x10000 1 Cause.Never) ∷ (3, Kind.Rlock 0) ∷ (1, Kind.End 0 (one_page 16) 4) ∷
    (1, Kind.Set 1 16 (Some (sys_frame 0)) TableRight.Sole 22) ∷ (3, Kind.Start 0 (one_page 16) 5) ∷
    (3, Kind.Told 0 (one_page 16) 5) ∷ (3, Kind.Runlock 0) ∷ (3, Kind.Fetched 1 0x10000 (65 ∷ [])) ∷
    (3, Kind.Added 1 0x10000 65 66) ∷ (3, Kind.Told 1 (one_page 16) 5) ∷ (3, Kind.Place 0 16 (Place.Sys 0 true)) ∷
    (3, Kind.End 0 (one_page 16) 6) ∷ (3, Kind.Runlock 0) ∷ (3, Kind.Loaded (Who.Cpu 0) 0x10000 (66 ∷ [])) ∷
    (1, Kind.Loaded (Who.Cpu 0) 0x10000 (66 ∷ [])) ∷ [])
way_1 = refl

pub way_2 : came_to linux script 0 9
    (0 ∷ 0 ∷ 0 ∷ 0 ∷ 0 ∷ 0 ∷ 0 ∷ 0 ∷ 0 ∷ 0 ∷ 0 ∷ 0 ∷ 0 ∷ 0 ∷ 0 ∷ 0 ∷ 1 ∷ 1 ∷ 1 ∷ 1 ∷ 1 ∷ 1 ∷ 1 ∷ 0 ∷ 0 ∷ 1 ∷ 1 ∷ 1 ∷
    0 ∷ 0 ∷ 0 ∷ 0 ∷ 0 ∷ 1 ∷ [])
    ≡ ((3, Kind.Rlock 0) ∷ (3, Kind.Start 0 (one_page 16) 3) ∷ (3, Kind.Told 0 (one_page 16) 3) ∷
    (3, Kind.Told 1 (one_page 16) 3) ∷ (3, Kind.Place 0 16 (Place.Exclusive 0 0)) ∷
    (3, Kind.End 0 (one_page 16) 4) ∷ (3, Kind.Set 0 16 (Some (sys_frame 0)) TableRight.Sole 15) ∷
    (3, Kind.Runlock 0) ∷ (3, Kind.Fetched 0 0x10000 (65 ∷ [])) ∷ (3, Kind.Added 0 0x10000 65 66) ∷
    (3, Kind.Rlock 0) ∷ (3, Kind.Start 0 (one_page 16) 5) ∷ (3, Kind.Told 0 (one_page 16) 5) ∷
    (3, Kind.Told 1 (one_page 16) 5) ∷ (3, Kind.Place 0 16 (Place.Sys 0 true)) ∷ (3, Kind.End 0 (one_page 16) 6) ∷
    (3, Kind.Rlock 0) ∷ (3, Kind.Start 0 (one_page 16) 7) ∷ (3, Kind.Told 0 (one_page 16) 7) ∷
    (3, Kind.Told 1 (one_page 16) 7) ∷ (3, Kind.Place 0 16 (Place.Exclusive 0 1)) ∷
    (1, Kind.End 0 (one_page 16) 8) ∷ (1, Kind.Set 1 16 (Some (sys_frame 0)) TableRight.Sole 31) ∷
    (3, Kind.Start 0 (one_page 16) 9) ∷ (3, Kind.Told 0 (one_page 16) 9) ∷ (3, Kind.Runlock 0) ∷
    (3, Kind.Fetched 1 0x10000 (66 ∷ [])) ∷ (3, Kind.Added 1 0x10000 66 67) ∷ (3, Kind.Told 1 (one_page 16) 9) ∷
    (3, Kind.Place 0 16 (Place.Sys 0 true)) ∷ (3, Kind.End 0 (one_page 16) 10) ∷ (3, Kind.Runlock 0) ∷
    (3, Kind.Loaded (Who.Cpu 0) 0x10000 (67 ∷ [])) ∷ (1, Kind.Loaded (Who.Cpu 0) 0x10000 (67 ∷ [])) ∷ [])
way_2 = refl

pub way_3 : came_to linux script 0 9
    (0 ∷ 0 ∷ 0 ∷ 0 ∷ 0 ∷ 0 ∷ 0 ∷ 0 ∷ 0 ∷ 0 ∷ 1 ∷ 1 ∷ 1 ∷ 1 ∷ 1 ∷ 0 ∷ 1 ∷ 1 ∷ 1 ∷ 1 ∷ 1 ∷ 1 ∷ 1 ∷ 1 ∷ 1 ∷ 1 ∷ 1 ∷ 1 ∷
    1 ∷ 1 ∷ 1 ∷ 1 ∷ 1 ∷ 1 ∷ [])
    ≡ ((3, Kind.Rlock 0) ∷ (3, Kind.Start 0 (one_page 16) 3) ∷ (3, Kind.Told 0 (one_page 16) 3) ∷
    (3, Kind.Told 1 (one_page 16) 3) ∷ (3, Kind.Place 0 16 (Place.Exclusive 0 0)) ∷
    (3, Kind.End 0 (one_page 16) 4) ∷ (3, Kind.Set 0 16 (Some (sys_frame 0)) TableRight.Sole 15) ∷
    (3, Kind.Runlock 0) ∷ (3, Kind.Fetched 0 0x10000 (65 ∷ [])) ∷ (3, Kind.Added 0 0x10000 65 66) ∷
    (3, Kind.Rlock 0) ∷ (3, Kind.Start 0 (one_page 16) 5) ∷ (3, Kind.Told 0 (one_page 16) 5) ∷
    (3, Kind.Told 1 (one_page 16) 5) ∷ (3, Kind.Place 0 16 (Place.Sys 0 true)) ∷
    (3, Kind.Loaded (Who.Cpu 0) 0x10000 (66 ∷ [])) ∷ (1, Kind.End 0 (one_page 16) 6) ∷
    (1, Kind.Start 0 (one_page 16) 7) ∷ (1, Kind.Told 0 (one_page 16) 7) ∷ (1, Kind.Told 1 (one_page 16) 7) ∷
    (1, Kind.Place 0 16 (Place.Exclusive 0 1)) ∷ (1, Kind.End 0 (one_page 16) 8) ∷
    (1, Kind.Set 1 16 (Some (sys_frame 0)) TableRight.Sole 31) ∷ (1, Kind.Runlock 0) ∷
    (1, Kind.Fetched 1 0x10000 (66 ∷ [])) ∷ (1, Kind.Added 1 0x10000 66 67) ∷ (1, Kind.Rlock 0) ∷
    (1, Kind.Start 0 (one_page 16) 9) ∷ (1, Kind.Told 0 (one_page 16) 9) ∷ (1, Kind.Told 1 (one_page 16) 9) ∷
    (1, Kind.Place 0 16 (Place.Sys 0 true)) ∷ (1, Kind.End 0 (one_page 16) 10) ∷ (1, Kind.Runlock 0) ∷
    (1, Kind.Loaded (Who.Cpu 0) 0x10000 (67 ∷ [])) ∷ [])
way_3 = refl

pub way_4 : came_to linux script 0 9
    (0 ∷ 1 ∷ 1 ∷ 1 ∷ 1 ∷ 1 ∷ 1 ∷ 1 ∷ 0 ∷ 0 ∷ 1 ∷ 1 ∷ 1 ∷ 0 ∷ 0 ∷ 0 ∷ 0 ∷ 0 ∷ 0 ∷ 0 ∷ 0 ∷ 0 ∷ 0 ∷ 0 ∷ 0 ∷ 0 ∷ 0 ∷ 0 ∷
    0 ∷ 0 ∷ 0 ∷ 0 ∷ 0 ∷ 1 ∷ [])
    ≡ ((3, Kind.Rlock 0) ∷ (3, Kind.Rlock 0) ∷ (3, Kind.Start 0 (one_page 16) 3) ∷ (3, Kind.Told 0 (one_page 16) 3) ∷
    (3, Kind.Told 1 (one_page 16) 3) ∷ (3, Kind.Place 0 16 (Place.Exclusive 0 1)) ∷
    (1, Kind.End 0 (one_page 16) 4) ∷ (1, Kind.Set 1 16 (Some (sys_frame 0)) TableRight.Sole 16) ∷
    (3, Kind.Start 0 (one_page 16) 5) ∷ (3, Kind.Told 0 (one_page 16) 5) ∷ (3, Kind.Runlock 0) ∷
    (3, Kind.Fetched 1 0x10000 (65 ∷ [])) ∷ (3, Kind.Added 1 0x10000 65 66) ∷ (3, Kind.Told 1 (one_page 16) 5) ∷
    (3, Kind.Place 0 16 (Place.Sys 0 true)) ∷ (3, Kind.End 0 (one_page 16) 6) ∷
    (3, Kind.Start 0 (one_page 16) 7) ∷ (3, Kind.Told 0 (one_page 16) 7) ∷ (3, Kind.Told 1 (one_page 16) 7) ∷
    (3, Kind.Place 0 16 (Place.Exclusive 0 0)) ∷ (3, Kind.End 0 (one_page 16) 8) ∷
    (3, Kind.Set 0 16 (Some (sys_frame 0)) TableRight.Sole 30) ∷ (3, Kind.Runlock 0) ∷
    (3, Kind.Fetched 0 0x10000 (66 ∷ [])) ∷ (3, Kind.Added 0 0x10000 66 67) ∷ (3, Kind.Rlock 0) ∷
    (3, Kind.Start 0 (one_page 16) 9) ∷ (3, Kind.Told 0 (one_page 16) 9) ∷ (3, Kind.Told 1 (one_page 16) 9) ∷
    (3, Kind.Place 0 16 (Place.Sys 0 true)) ∷ (3, Kind.End 0 (one_page 16) 10) ∷ (3, Kind.Runlock 0) ∷
    (3, Kind.Loaded (Who.Cpu 0) 0x10000 (67 ∷ [])) ∷ (1, Kind.Loaded (Who.Cpu 0) 0x10000 (67 ∷ [])) ∷ [])
way_4 = refl

pub way_5 : came_to linux script 0 9
    (0 ∷ 1 ∷ 1 ∷ 1 ∷ 1 ∷ 1 ∷ 1 ∷ 1 ∷ 0 ∷ 0 ∷ 1 ∷ 1 ∷ 1 ∷ 0 ∷ 0 ∷ 0 ∷ 0 ∷ 0 ∷ 0 ∷ 1 ∷ 0 ∷ 0 ∷ 0 ∷ 0 ∷ 0 ∷ 0 ∷ 0 ∷ 0 ∷
    0 ∷ 0 ∷ 0 ∷ 0 ∷ 0 ∷ 0 ∷ [])
    ≡ ((3, Kind.Rlock 0) ∷ (3, Kind.Rlock 0) ∷ (3, Kind.Start 0 (one_page 16) 3) ∷ (3, Kind.Told 0 (one_page 16) 3) ∷
    (3, Kind.Told 1 (one_page 16) 3) ∷ (3, Kind.Place 0 16 (Place.Exclusive 0 1)) ∷
    (1, Kind.End 0 (one_page 16) 4) ∷ (1, Kind.Set 1 16 (Some (sys_frame 0)) TableRight.Sole 16) ∷
    (3, Kind.Start 0 (one_page 16) 5) ∷ (3, Kind.Told 0 (one_page 16) 5) ∷ (3, Kind.Runlock 0) ∷
    (3, Kind.Fetched 1 0x10000 (65 ∷ [])) ∷ (3, Kind.Added 1 0x10000 65 66) ∷ (3, Kind.Told 1 (one_page 16) 5) ∷
    (3, Kind.Place 0 16 (Place.Sys 0 true)) ∷ (3, Kind.End 0 (one_page 16) 6) ∷
    (3, Kind.Start 0 (one_page 16) 7) ∷ (3, Kind.Told 0 (one_page 16) 7) ∷ (3, Kind.Told 1 (one_page 16) 7) ∷
    (3, Kind.Loaded (Who.Cpu 0) 0x10000 (66 ∷ [])) ∷ (2, Kind.Place 0 16 (Place.Exclusive 0 0)) ∷
    (2, Kind.End 0 (one_page 16) 8) ∷ (2, Kind.Set 0 16 (Some (sys_frame 0)) TableRight.Sole 31) ∷
    (2, Kind.Runlock 0) ∷ (2, Kind.Fetched 0 0x10000 (66 ∷ [])) ∷ (2, Kind.Added 0 0x10000 66 67) ∷
    (2, Kind.Rlock 0) ∷ (2, Kind.Start 0 (one_page 16) 9) ∷ (2, Kind.Told 0 (one_page 16) 9) ∷
    (2, Kind.Told 1 (one_page 16) 9) ∷ (2, Kind.Place 0 16 (Place.Sys 0 true)) ∷
    (2, Kind.End 0 (one_page 16) 10) ∷ (2, Kind.Runlock 0) ∷ (2, Kind.Loaded (Who.Cpu 0) 0x10000 (67 ∷ [])) ∷ [])
way_5 = refl

pub way_6 : came_to linux script 0 9
    (0 ∷ 0 ∷ 0 ∷ 0 ∷ 1 ∷ 1 ∷ 0 ∷ 0 ∷ 1 ∷ 1 ∷ 1 ∷ 0 ∷ 0 ∷ 1 ∷ 1 ∷ 1 ∷ 1 ∷ 0 ∷ 1 ∷ 1 ∷ 0 ∷ 0 ∷ 0 ∷ 1 ∷ 1 ∷ 1 ∷ 0 ∷ 0 ∷
    0 ∷ 0 ∷ 0 ∷ 0 ∷ 0 ∷ 0 ∷ 0 ∷ 0 ∷ 0 ∷ 0 ∷ 0 ∷ 0 ∷ [])
    ≡ ((3, Kind.Rlock 0) ∷ (3, Kind.Start 0 (one_page 16) 3) ∷ (3, Kind.Told 0 (one_page 16) 3) ∷
    (3, Kind.Told 1 (one_page 16) 3) ∷ (3, Kind.Rlock 0) ∷ (3, Kind.Start 0 (one_page 16) 3) ∷
    (3, Kind.Place 0 16 (Place.Exclusive 0 0)) ∷ (3, Kind.End 0 (one_page 16) 3) ∷
    (1, Kind.Told 0 (one_page 16) 3) ∷ (1, Kind.Told 1 (one_page 16) 3) ∷ (1, Kind.End 0 (one_page 16) 4) ∷
    (3, Kind.Set 0 16 (Some (sys_frame 0)) TableRight.Sole 20) ∷ (3, Kind.Runlock 0) ∷
    (3, Kind.Failed (Who.Mirror 1) 0x10000 1 Cause.Never) ∷ (3, Kind.Rlock 0) ∷
    (3, Kind.Start 0 (one_page 16) 5) ∷ (3, Kind.Told 0 (one_page 16) 5) ∷ (3, Kind.Rlock 0) ∷
    (1, Kind.Told 1 (one_page 16) 5) ∷ (1, Kind.Place 0 16 (Place.Sys 0 true)) ∷
    (3, Kind.Start 0 (one_page 16) 5) ∷ (3, Kind.Told 0 (one_page 16) 5) ∷ (3, Kind.Told 1 (one_page 16) 5) ∷
    (3, Kind.End 0 (one_page 16) 5) ∷ (3, Kind.Runlock 0) ∷ (3, Kind.Loaded (Who.Cpu 0) 0x10000 (65 ∷ [])) ∷
    (2, Kind.Place 0 16 (Place.Exclusive 0 0)) ∷ (2, Kind.End 0 (one_page 16) 6) ∷
    (2, Kind.Set 0 16 (Some (sys_frame 0)) TableRight.Sole 37) ∷ (2, Kind.Runlock 0) ∷
    (2, Kind.Fetched 0 0x10000 (65 ∷ [])) ∷ (2, Kind.Added 0 0x10000 65 66) ∷ (2, Kind.Rlock 0) ∷
    (2, Kind.Start 0 (one_page 16) 7) ∷ (2, Kind.Told 0 (one_page 16) 7) ∷ (2, Kind.Told 1 (one_page 16) 7) ∷
    (2, Kind.Place 0 16 (Place.Sys 0 true)) ∷ (2, Kind.End 0 (one_page 16) 8) ∷ (2, Kind.Runlock 0) ∷
    (2, Kind.Loaded (Who.Cpu 0) 0x10000 (66 ∷ [])) ∷ [])
way_6 = refl

pub way_7 : came_to linux script 0 9
    (0 ∷ 0 ∷ 0 ∷ 0 ∷ 1 ∷ 1 ∷ 1 ∷ 1 ∷ 1 ∷ 0 ∷ 0 ∷ 0 ∷ 1 ∷ 1 ∷ 0 ∷ 0 ∷ 0 ∷ 0 ∷ 0 ∷ 0 ∷ 0 ∷ 1 ∷ 1 ∷ 1 ∷ 1 ∷ 1 ∷ 1 ∷ 1 ∷
    1 ∷ 1 ∷ 1 ∷ 1 ∷ 1 ∷ 1 ∷ 1 ∷ 1 ∷ 1 ∷ 1 ∷ 1 ∷ 1 ∷ [])
    ≡ ((3, Kind.Rlock 0) ∷ (3, Kind.Start 0 (one_page 16) 3) ∷ (3, Kind.Told 0 (one_page 16) 3) ∷
    (3, Kind.Told 1 (one_page 16) 3) ∷ (3, Kind.Rlock 0) ∷ (3, Kind.Start 0 (one_page 16) 3) ∷
    (3, Kind.Told 0 (one_page 16) 3) ∷ (3, Kind.Told 1 (one_page 16) 3) ∷
    (3, Kind.Place 0 16 (Place.Exclusive 0 1)) ∷ (3, Kind.End 0 (one_page 16) 3) ∷
    (3, Kind.Failed (Who.Mirror 0) 0x10000 1 Cause.Never) ∷ (3, Kind.Rlock 0) ∷ (1, Kind.End 0 (one_page 16) 4) ∷
    (1, Kind.Set 1 16 (Some (sys_frame 0)) TableRight.Sole 22) ∷ (3, Kind.Start 0 (one_page 16) 5) ∷
    (3, Kind.Told 0 (one_page 16) 5) ∷ (3, Kind.Told 1 (one_page 16) 5) ∷
    (3, Kind.Place 0 16 (Place.Sys 0 true)) ∷ (3, Kind.End 0 (one_page 16) 6) ∷ (3, Kind.Runlock 0) ∷
    (3, Kind.Loaded (Who.Cpu 0) 0x10000 (65 ∷ [])) ∷ (1, Kind.Runlock 0) ∷ (1, Kind.Rlock 0) ∷
    (1, Kind.Start 0 (one_page 16) 7) ∷ (1, Kind.Told 0 (one_page 16) 7) ∷ (1, Kind.Told 1 (one_page 16) 7) ∷
    (1, Kind.Place 0 16 (Place.Exclusive 0 1)) ∷ (1, Kind.End 0 (one_page 16) 8) ∷
    (1, Kind.Set 1 16 (Some (sys_frame 0)) TableRight.Sole 37) ∷ (1, Kind.Runlock 0) ∷
    (1, Kind.Fetched 1 0x10000 (65 ∷ [])) ∷ (1, Kind.Added 1 0x10000 65 66) ∷ (1, Kind.Rlock 0) ∷
    (1, Kind.Start 0 (one_page 16) 9) ∷ (1, Kind.Told 0 (one_page 16) 9) ∷ (1, Kind.Told 1 (one_page 16) 9) ∷
    (1, Kind.Place 0 16 (Place.Sys 0 true)) ∷ (1, Kind.End 0 (one_page 16) 10) ∷ (1, Kind.Runlock 0) ∷
    (1, Kind.Loaded (Who.Cpu 0) 0x10000 (66 ∷ [])) ∷ [])
way_7 = refl
