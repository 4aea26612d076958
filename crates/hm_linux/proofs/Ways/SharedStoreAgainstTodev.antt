-- Ways through the race shared_store_against_todev, entry by entry.
use Rattle.std.proofs.Common.{refl}
use Rattle.std.specs.Prelude.{◌≡◌, true, false, None, [], ◌∷◌}
use Rattle.hm_base.specs.Pages.{one_page}
use Rattle.hm_base.specs.Program.{Program}
use Rattle.hm_base.specs.declared.Place.{Place}
use Rattle.hm_base.specs.declared.ops.Op.{Op}
use Rattle.hm_base.specs.declared.ops.Rights.{Rights}
use Rattle.hm_base.specs.declared.ops.Version.{Version}
use Rattle.hm_history.specs.Memory.Words.{sys_frame}
use Rattle.hm_history.specs.declared.Who.{Who}
use Rattle.hm_history.specs.declared.KeptAt.{KeptAt}
use Rattle.hm_history.specs.declared.KeptWhy.{KeptWhy}
use Rattle.hm_history.specs.declared.Kind.{Kind}
use Rattle.hm_linux.specs.Variants.{linux}
use Rattle.hm_linux.proofs.Way.{pages, came_to}

-- the race
abbrev script : Program
script = record {
  version = Version.Two;
  frames = 64;
  devices = 16 ∷ 16 ∷ [];
  skip = 0;
  actors =
      ((Op.Map 0 (one_page 16) Rights.ReadWrite) ∷ (Op.Store 0 0x10000 (65 ∷ [])) ∷
      (Op.Attach 0 0 0 (pages 16 4)) ∷ (Op.Fork 0 1) ∷ (Op.Store 0 0x10000 (66 ∷ [])) ∷ []) ∷
      ((Op.ToDevice 0 (one_page 16)) ∷ []) ∷
      [];
  schedule = [];
}

pub way_0 : came_to linux script 0 16
    (0 ∷ 0 ∷ 0 ∷ 0 ∷ 0 ∷ 1 ∷ 1 ∷ 1 ∷ 1 ∷ 1 ∷ 1 ∷ 1 ∷ 1 ∷ 1 ∷ 1 ∷ 0 ∷ 0 ∷ 0 ∷ 0 ∷ 1 ∷ 1 ∷ 1 ∷ [])
    ≡ ((3, Kind.Rlock 0) ∷ (3, Kind.Take (sys_frame 1)) ∷ (3, Kind.Copied (sys_frame 0) (sys_frame 1) None) ∷
    (3, Kind.Start 0 (one_page 16) 5) ∷ (3, Kind.Told 0 (one_page 16) 5) ∷ (3, Kind.Rlock 0) ∷
    (3, Kind.Start 0 (one_page 16) 5) ∷ (3, Kind.Told 0 (one_page 16) 5) ∷
    (3, Kind.Place 0 16 (Place.Moving (sys_frame 0) false)) ∷ (3, Kind.End 0 (one_page 16) 5) ∷
    (3, Kind.Start 1 (one_page 16) 2) ∷ (3, Kind.Place 1 16 (Place.Moving (sys_frame 0) false)) ∷
    (3, Kind.End 1 (one_page 16) 2) ∷ (3, Kind.Kept (KeptAt.Page 16) (KeptWhy.LockedBy 0)) ∷
    (3, Kind.Place 0 16 (Place.Sys 0 false)) ∷ (3, Kind.Place 0 16 (Place.Sys 1 true)) ∷
    (3, Kind.End 0 (one_page 16) 6) ∷ (3, Kind.Runlock 0) ∷ (3, Kind.Stored (Who.Cpu 0) 0x10000 (66 ∷ [])) ∷
    (1, Kind.Place 1 16 (Place.Sys 0 false)) ∷ (1, Kind.Done (sys_frame 0)) ∷ (1, Kind.Migrated 0) ∷ [])
way_0 = refl
