-- Whether an actor was short of a frame, entry by entry.
use Rattle.std.specs.Prelude.{ℕ, Bool, not, ◌&&◌, ◌==◌, is_none, if◌then◌else◌, [], ◌∷◌}
use Rattle.hm_base.specs.Program.{Program}
use Rattle.hm_base.specs.declared.PoolId.{PoolId}
use Rattle.hm_history.specs.Memory.Rules.{is_finishing, is_no_frame}
use Rattle.hm_history.specs.Memory.Places.{Places, lowest_free}
use Rattle.hm_history.specs.declared.Entry.{Entry}

-- whether the actor was short after one entry more; s is the places before it
abbrev pub short_next : Program → Places → ℕ → Bool → Entry → Bool
short_next c s a short e =
    if (e.actor == a) && not (is_finishing e.kind) then is_no_frame (e ∷ []) && is_none
    (lowest_free c s PoolId.System) else short
