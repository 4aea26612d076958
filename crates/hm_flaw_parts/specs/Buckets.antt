-- Numbers made of marks.
use Rattle.std.specs.Prelude.{ℕ, zero, suc, Bool, if◌then◌else◌, length}
use Rattle.hm_race_keys.specs.Sparse.{mixed}
use Rattle.hm_flaw_parts.specs.Marks.{Marked}

-- a sum with whether the first actors were short of a frame mixed in
unfoldable pub mixed_short : ℕ → ℕ → (ℕ → Bool) → ℕ
mixed_short sum zero f = sum
mixed_short sum (suc n) f = mixed (mixed_short sum n f) (if f n then 1 else 0)

-- a sum with the marks mixed in: how many spans mirrors were told of, and which actors were short of a frame
abbrev pub marks_number : ℕ → Marked → ℕ
marks_number sum x = mixed_short (mixed sum (length x.told)) 16 x.short
