-- What computation tells: the right driver's turns, and the races.
use Rattle.std.proofs.Common.{refl}
use Rattle.hm_flaws.specs.Laws.{RightIsDue, UncomparedIsStale, OwnIgnoredLosesStore, LostHeldSticks}

pub right_is_due : RightIsDue
right_is_due c t a = refl

pub uncompared_is_stale : UncomparedIsStale
uncompared_is_stale = (record { flawed = refl; each = refl; right = refl }, record { flawed = refl; each = refl; right = refl })

pub own_ignored_loses_store : OwnIgnoredLosesStore
own_ignored_loses_store = record { flawed = refl; each = refl; right = refl }

pub lost_held_sticks : LostHeldSticks
lost_held_sticks = record { unbroken = refl; stuck = refl; right = refl }
