-- Ways through the race exclusive_stays, entry by entry.
use Rattle.std.proofs.Common.{refl}
use Rattle.std.specs.Prelude.{◌≡◌, Some, [], ◌∷◌}
use Rattle.hm_base.specs.Pages.{one_page}
use Rattle.hm_base.specs.Program.{Program}
use Rattle.hm_base.specs.declared.Place.{Place}
use Rattle.hm_base.specs.declared.ops.Op.{Op}
use Rattle.hm_base.specs.declared.ops.Rights.{Rights}
use Rattle.hm_base.specs.declared.ops.Version.{Version}
use Rattle.hm_history.specs.Memory.Words.{sys_frame}
use Rattle.hm_history.specs.declared.Who.{Who}
use Rattle.hm_history.specs.declared.TableRight.{TableRight}
use Rattle.hm_history.specs.declared.Kind.{Kind}
use Rattle.hm_linux.specs.Variants.{linux}
use Rattle.hm_linux.proofs.Way.{came_to}

-- the race
abbrev script : Program
script = record {
  version = Version.Two;
  frames = 64;
  devices = 16 ∷ [];
  skip = 0;
  actors =
      ((Op.Exclusive 0 16) ∷ []) ∷
      ((Op.Store 0 0x10000 (66 ∷ [])) ∷ []) ∷
      ((Op.Map 0 (one_page 16) Rights.ReadWrite) ∷ (Op.Store 0 0x10000 (65 ∷ [])) ∷
      (Op.Attach 0 0 0 (one_page 16)) ∷ []) ∷
      [];
  schedule = [];
}

pub way_0 : came_to linux script 2 8
    (0 ∷ 0 ∷ 0 ∷ 1 ∷ 0 ∷ 0 ∷ 0 ∷ 0 ∷ [])
    ≡ ((6, Kind.Rlock 0) ∷ (6, Kind.Start 0 (one_page 16) 3) ∷ (6, Kind.Told 0 (one_page 16) 3) ∷
    (6, Kind.Stored (Who.Cpu 0) 0x10000 (66 ∷ [])) ∷ (4, Kind.Place 0 16 (Place.Exclusive 0 0)) ∷
    (4, Kind.End 0 (one_page 16) 4) ∷ (4, Kind.Set 0 16 (Some (sys_frame 0)) TableRight.Sole 14) ∷
    (4, Kind.Excluded 0 16) ∷ [])
way_0 = refl
