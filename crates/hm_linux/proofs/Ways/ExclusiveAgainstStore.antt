-- Ways through the race exclusive_against_store, entry by entry.
use Rattle.std.proofs.Common.{refl}
use Rattle.std.specs.Prelude.{◌≡◌, true, Some, [], ◌∷◌}
use Rattle.hm_base.specs.Pages.{one_page}
use Rattle.hm_base.specs.Program.{Program}
use Rattle.hm_base.specs.declared.Place.{Place}
use Rattle.hm_base.specs.declared.ops.Op.{Op}
use Rattle.hm_base.specs.declared.ops.Rights.{Rights}
use Rattle.hm_base.specs.declared.ops.Version.{Version}
use Rattle.hm_history.specs.Memory.Words.{sys_frame}
use Rattle.hm_history.specs.declared.Who.{Who}
use Rattle.hm_history.specs.declared.TableRight.{TableRight}
use Rattle.hm_history.specs.declared.Kind.{Kind}
use Rattle.hm_linux.specs.Variants.{linux}
use Rattle.hm_linux.proofs.Way.{pages, came_to}

-- the race
abbrev script : Program
script = record {
  version = Version.Two;
  frames = 64;
  devices = 16 ∷ 16 ∷ [];
  skip = 0;
  actors =
      ((Op.Map 0 (one_page 16) Rights.ReadWrite) ∷ (Op.Store 0 0x10000 (65 ∷ [])) ∷
      (Op.Attach 0 0 0 (pages 16 4)) ∷ (Op.Add 0 0x10000 1) ∷ []) ∷
      ((Op.Store 0 0x10000 (32 ∷ [])) ∷ (Op.Load 0 0x10000 1) ∷ []) ∷
      [];
  schedule = [];
}

pub way_0 : came_to linux script 0 8
    (0 ∷ 0 ∷ 0 ∷ 1 ∷ 1 ∷ 0 ∷ 0 ∷ 0 ∷ 0 ∷ 0 ∷ 0 ∷ [])
    ≡ ((3, Kind.Rlock 0) ∷ (3, Kind.Start 0 (one_page 16) 3) ∷ (3, Kind.Told 0 (one_page 16) 3) ∷
    (3, Kind.Stored (Who.Cpu 0) 0x10000 (32 ∷ [])) ∷ (3, Kind.Loaded (Who.Cpu 0) 0x10000 (32 ∷ [])) ∷
    (2, Kind.Place 0 16 (Place.Exclusive 0 0)) ∷ (2, Kind.End 0 (one_page 16) 4) ∷
    (2, Kind.Set 0 16 (Some (sys_frame 0)) TableRight.Sole 15) ∷ (2, Kind.Runlock 0) ∷
    (2, Kind.Fetched 0 0x10000 (32 ∷ [])) ∷ (2, Kind.Added 0 0x10000 32 33) ∷ [])
way_0 = refl

pub way_1 : came_to linux script 0 8
    (0 ∷ 0 ∷ 0 ∷ 0 ∷ 0 ∷ 0 ∷ 0 ∷ 0 ∷ 0 ∷ 1 ∷ 1 ∷ 1 ∷ 1 ∷ 1 ∷ 1 ∷ 1 ∷ 1 ∷ [])
    ≡ ((3, Kind.Rlock 0) ∷ (3, Kind.Start 0 (one_page 16) 3) ∷ (3, Kind.Told 0 (one_page 16) 3) ∷
    (3, Kind.Place 0 16 (Place.Exclusive 0 0)) ∷ (3, Kind.End 0 (one_page 16) 4) ∷
    (3, Kind.Set 0 16 (Some (sys_frame 0)) TableRight.Sole 13) ∷ (3, Kind.Runlock 0) ∷
    (3, Kind.Fetched 0 0x10000 (65 ∷ [])) ∷ (3, Kind.Added 0 0x10000 65 66) ∷ (1, Kind.Rlock 0) ∷
    (1, Kind.Start 0 (one_page 16) 5) ∷ (1, Kind.Told 0 (one_page 16) 5) ∷
    (1, Kind.Place 0 16 (Place.Sys 0 true)) ∷ (1, Kind.End 0 (one_page 16) 6) ∷ (1, Kind.Runlock 0) ∷
    (1, Kind.Stored (Who.Cpu 0) 0x10000 (32 ∷ [])) ∷ (1, Kind.Loaded (Who.Cpu 0) 0x10000 (32 ∷ [])) ∷ [])
way_1 = refl

pub way_2 : came_to linux script 0 8
    (0 ∷ 0 ∷ 0 ∷ 1 ∷ 0 ∷ 0 ∷ 0 ∷ 0 ∷ 0 ∷ 0 ∷ 1 ∷ 1 ∷ 1 ∷ 1 ∷ 1 ∷ 1 ∷ 1 ∷ [])
    ≡ ((3, Kind.Rlock 0) ∷ (3, Kind.Start 0 (one_page 16) 3) ∷ (3, Kind.Told 0 (one_page 16) 3) ∷
    (3, Kind.Stored (Who.Cpu 0) 0x10000 (32 ∷ [])) ∷ (3, Kind.Place 0 16 (Place.Exclusive 0 0)) ∷
    (3, Kind.End 0 (one_page 16) 4) ∷ (3, Kind.Set 0 16 (Some (sys_frame 0)) TableRight.Sole 14) ∷
    (3, Kind.Runlock 0) ∷ (3, Kind.Fetched 0 0x10000 (32 ∷ [])) ∷ (3, Kind.Added 0 0x10000 32 33) ∷
    (1, Kind.Rlock 0) ∷ (1, Kind.Start 0 (one_page 16) 5) ∷ (1, Kind.Told 0 (one_page 16) 5) ∷
    (1, Kind.Place 0 16 (Place.Sys 0 true)) ∷ (1, Kind.End 0 (one_page 16) 6) ∷ (1, Kind.Runlock 0) ∷
    (1, Kind.Loaded (Who.Cpu 0) 0x10000 (33 ∷ [])) ∷ [])
way_2 = refl
