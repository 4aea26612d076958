-- Ways through the race snap_against_store, entry by entry.
use Rattle.std.proofs.Common.{refl}
use Rattle.std.specs.Prelude.{◌≡◌, true, None, [], ◌∷◌}
use Rattle.hm_base.specs.Pages.{one_page}
use Rattle.hm_base.specs.Program.{Program}
use Rattle.hm_base.specs.declared.Place.{Place}
use Rattle.hm_base.specs.declared.ops.Op.{Op}
use Rattle.hm_base.specs.declared.ops.Rights.{Rights}
use Rattle.hm_base.specs.declared.ops.Version.{Version}
use Rattle.hm_history.specs.Memory.Words.{sys_frame}
use Rattle.hm_history.specs.declared.Who.{Who}
use Rattle.hm_history.specs.declared.Kind.{Kind}
use Rattle.hm_linux.specs.Variants.{linux}
use Rattle.hm_linux.proofs.Way.{pages, answered_in, came_to}

-- the race
abbrev script : Program
script = record {
  version = Version.Two;
  frames = 64;
  devices = 16 ∷ 16 ∷ [];
  skip = 0;
  actors =
      ((Op.Map 0 (one_page 16) Rights.ReadWrite) ∷ (Op.Store 0 0x10000 (65 ∷ [])) ∷ (Op.Fork 0 1) ∷
      (Op.Attach 0 0 0 (pages 16 4)) ∷ (Op.Store 0 0x10000 (66 ∷ [])) ∷ []) ∷
      ((Op.Snap 0 (one_page 16)) ∷ (Op.Snap 0 (one_page 16)) ∷ []) ∷
      [];
  schedule = [];
}

-- an invalidation of its page meets the snapshot of actor 1, which waits for the end of it and is repeated
pub way_0 : came_to linux script 0 15
    (1 ∷ 1 ∷ 0 ∷ 0 ∷ 0 ∷ 0 ∷ 1 ∷ 0 ∷ 0 ∷ 0 ∷ 1 ∷ 1 ∷ 1 ∷ 0 ∷ 0 ∷ 1 ∷ 1 ∷ 1 ∷ [])
    ≡ ((3, Kind.Rlock 0) ∷ (3, Kind.Seen 0 16 1) ∷ (3, Kind.Rlock 0) ∷ (3, Kind.Take (sys_frame 1)) ∷
    (3, Kind.Copied (sys_frame 0) (sys_frame 1) None) ∷ (3, Kind.Start 0 (one_page 16) 3) ∷ (3, Kind.Retry 0) ∷
    (2, Kind.Told 0 (one_page 16) 3) ∷ (2, Kind.Place 0 16 (Place.Sys 1 true)) ∷
    (2, Kind.End 0 (one_page 16) 4) ∷ (3, Kind.Rlock 0) ∷ (3, Kind.Seen 0 16 2) ∷ (3, Kind.Runlock 0) ∷
    (3, Kind.Runlock 0) ∷ (3, Kind.Stored (Who.Cpu 0) 0x10000 (66 ∷ [])) ∷ (1, Kind.Rlock 0) ∷
    (1, Kind.Seen 0 16 2) ∷ (1, Kind.Runlock 0) ∷ [])
way_0 = refl

-- what it saw before does not count
pub said_0 : answered_in linux script 0 15
    (1 ∷ 1 ∷ 0 ∷ 0 ∷ 0 ∷ 0 ∷ 1 ∷ 0 ∷ 0 ∷ 0 ∷ 1 ∷ 1 ∷ 1 ∷ 0 ∷ 0 ∷ 1 ∷ 1 ∷ 1 ∷ [])
    ≡ ((Kind.Stored (Who.Cpu 0) 0x10000 (66 ∷ []) ∷ []) ∷ (Kind.Seen 0 16 2 ∷ Kind.Seen 0 16 2 ∷ []) ∷ [])
said_0 = refl
