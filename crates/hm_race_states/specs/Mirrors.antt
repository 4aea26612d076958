-- The mirrors of a state, as contracts see them.
use Rattle.std.specs.Prelude.{◌≡◌, ℕ, suc, Option, Some, None, List}
use Rattle.hm_history.specs.Memory.Plain.{Plain, MirrorState, Attachment, plain_start}
use Rattle.hm_history.specs.Memory.Plain as stage
use Rattle.hm_race_keys.specs.Sparse.{found, mixed}
use Rattle.hm_race_keys.specs.declared.sparse.Item.{Item}
use Rattle.hm_race_states.specs.declared.mirrors.RaceMirror.{RaceMirror}
use Rattle.hm_race_states.specs.declared.mirrors.RaceAttachment.{RaceAttachment}
use Rattle.hm_race_states.specs.declared.mirrors.RaceAttachment.TheVariants.{Attached, Detaching, Gone}

-- the stage of the definitions that a kept one stands for
abbrev pub attachment_of : RaceAttachment → Attachment
attachment_of Attached = stage.Attached
attachment_of Detaching = stage.Detaching
attachment_of Gone = stage.Gone

-- a stage as a number
abbrev pub stage_number : RaceAttachment → ℕ
stage_number Attached = 1
stage_number Detaching = 2
stage_number Gone = 3

-- the mirror of the definitions that a kept one stands for
abbrev pub mirror_of : Option RaceMirror → Option MirrorState
mirror_of None = None
mirror_of (Some x) = Some (record { dev = x.dev; proc = x.proc; window = x.window; stage = attachment_of x.stage })

-- the mirrors of the definitions, by the items of row 0
abbrev pub mirrors_in : List (Item RaceMirror) → ℕ → Option MirrorState
mirrors_in xs m = mirror_of (found xs 0 m)

-- all items stand in row 0
abbrev pub AreMirrors : List (Item RaceMirror) → Type 0
AreMirrors xs = (r k : ℕ) → found xs (suc r) k ≡ None

-- a plain state with these mirrors, for definitions that read no more of one
abbrev pub plain_by : (ℕ → Option MirrorState) → Plain
plain_by f = record plain_start { mirrors = f }

-- a sum with a mirror mixed in
abbrev pub mixed_mirror : RaceMirror → ℕ → ℕ
mixed_mirror x sum =
    mixed (mixed (mixed (mixed (mixed sum x.dev) x.proc) x.window.first) x.window.count) (stage_number x.stage)
