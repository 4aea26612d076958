-- The pages that a migration skips, as the bits of a word.
use Rattle.std.specs.Prelude.{ℕ, zero, suc, ◌+◌, ◌*◌, if◌then◌else◌, min, List, map}
use Rattle.hm_base.specs.declared.ops.Op.{Op}
use Rattle.skip_rules.specs.Rules.{divides}

-- 1 if the page is skipped
abbrev pub bit_of : ℕ → ℕ → ℕ
bit_of every page = if divides every page then 1 else 0

-- of n pages from the first on, which has the lowest bit
abbrev pub mask_of : ℕ → ℕ → ℕ → ℕ
mask_of every first zero = 0
mask_of every first (suc n) = bit_of every first + 2 * mask_of every (first + 1) n

-- of the pages of a migration to a device; no other operation has any
abbrev pub mask_of_op : ℕ → Op → ℕ
mask_of_op every (Op.ToDevice m r) = mask_of every r.first (min r.count 64)
mask_of_op every _ = 0

-- those of operations
abbrev pub masks_of : ℕ → List Op → List ℕ
masks_of every ops = map (mask_of_op every) ops
