-- Intervals that a list keeps up to the last that is there.
use Rattle.std.proofs.Common.{◌≡◌, ℕ, ◌≤◌, Option, None, List, length, ap}
use Rattle.std.proofs.Math.ListN.{get_or-eq_default}
use Rattle.hm_folds.specs.declared.intervals.KeptInterval.{KeptInterval}
use Rattle.hm_folds.specs.Kept.{interval_of, interval_at}

-- past its end a list has none
pub none_past : (xs : List (Option KeptInterval)) (m : ℕ) → length xs ≤ m → interval_at xs m ≡ None
none_past xs m l = let none : Option KeptInterval = None in ap interval_of (get_or-eq_default xs none l)
