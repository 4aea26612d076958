-- The mirrors and tables show those of a history, and what a change of them asks of these.
use Rattle.std.specs.Prelude.{◌≡◌, ℕ, ◌<◌, true, Option, Some, None, is_none, option_map, List, length, ⊤}
use Rattle.hm_base.specs.Pages.{covers}
use Rattle.hm_history.specs.Memory.Plain.{MirrorState, Attachment, Attached, Detaching, Gone, mirror_passes}
use Rattle.hm_history.specs.Memory.Places.{TableEntry}
use Rattle.hm_history.specs.declared.Kind.{Kind}
use Rattle.hm_mirrors.specs.Entries.{is_kept_right}
use Rattle.hm_mirrors.specs.Mirrors.{mirror_at, info_of, table_of}
use Rattle.hm_mirrors.specs.declared.info.MirrorStage.{MirrorStage}
use Rattle.hm_mirrors.specs.declared.info.MirrorInfo.{MirrorInfo}
use Rattle.hm_mirrors.specs.declared.info.Mirror.{Mirror}

-- the stage of the definitions that a mirror's stage stands for
abbrev pub attachment_of : MirrorStage → Attachment
attachment_of MirrorStage.Attached = Attached
attachment_of MirrorStage.Detaching = Detaching
attachment_of MirrorStage.Gone = Gone

-- the mirror of the definitions that the information stands for
abbrev pub state_of : MirrorInfo → MirrorState
state_of x = record { dev = x.device; proc = x.process; window = x.window; stage = attachment_of x.stage }

-- a mirror's table is one of its window
abbrev pub HasWindow : Option Mirror → Type 0
HasWindow None = ⊤
HasWindow (Some x) = x.table.window ≡ x.info.window

-- the mirrors show those of a state, with their tables and devices
pub record MirrorsShown (mirrors : ℕ → Option MirrorState) (table : ℕ → ℕ → Option TableEntry) (device : ℕ → Option ℕ)
    (xs : List (Option Mirror)) : Type 0 where
  pub len : length xs ≡ 32
  pub infos : (m : ℕ) → m < 32 → option_map state_of (info_of xs m) ≡ mirrors m
  pub windows : (m : ℕ) → m < 32 → HasWindow (mirror_at xs m)
  pub entries : (m v : ℕ) → m < 32 → table_of xs m v ≡ table m v
  pub devices : (m : ℕ) → m < 32 → option_map (λ x. x.device) (info_of xs m) ≡ device m

-- what a change asks of the state: a mirror that comes was not there, and an entry is set in the window of a mirror
-- that is there
abbrev pub MirrorsFit : (ℕ → Option MirrorState) → Kind → Type 0
MirrorsFit mirrors (Kind.Attached m d p r q) = is_none (mirrors m) ≡ true
MirrorsFit mirrors (Kind.Set m v f w from) =
    (mirror_passes (λ x. covers x.window v) (mirrors m) ≡ true) × (is_kept_right f w ≡ true)
MirrorsFit mirrors k = ⊤
