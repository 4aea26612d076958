-- Which entries are answers to accesses and snapshots, and numbers made of answers.
use Rattle.std.specs.Prelude.{ℕ, Bool, true, false, List, [], ◌∷◌, length}
use Rattle.hm_history.specs.declared.Kind.{Kind}
use Rattle.hm_race_keys.specs.Sparse.{mixed}

-- an entry is no answer to an access or a snapshot
abbrev pub is_plain : Kind → Bool
is_plain (Kind.Loaded x at bs) = false
is_plain (Kind.Stored x at bs) = false
is_plain (Kind.Failed x at n c) = false
is_plain (Kind.Seen m v c) = false
is_plain (Kind.Added m at was now) = false
is_plain _ = true

-- a sum with bytes mixed in
abbrev pub mixed_bytes : ℕ → List ℕ → ℕ
mixed_bytes sum [] = sum
mixed_bytes sum (b ∷ bs) = mixed_bytes (mixed sum b) bs

-- a sum with what an answer tells mixed in: the bytes, the address of a failure, and counts
abbrev pub mixed_kind : ℕ → Kind → ℕ
mixed_kind sum (Kind.Loaded x at bs) = mixed_bytes (mixed sum 1) bs
mixed_kind sum (Kind.Stored x at bs) = mixed_bytes (mixed sum 2) bs
mixed_kind sum (Kind.Failed x at n c) = mixed (mixed sum 3) at
mixed_kind sum (Kind.Migrated n) = mixed (mixed sum 4) n
mixed_kind sum (Kind.Evicted n) = mixed (mixed sum 5) n
mixed_kind sum (Kind.Seen m v c) = mixed (mixed sum 6) c
mixed_kind sum (Kind.Added m at was now) = mixed (mixed sum 7) was
mixed_kind sum _ = mixed sum 0

-- a sum with the answers of one actor mixed in
abbrev pub mixed_kinds : ℕ → List Kind → ℕ
mixed_kinds sum [] = sum
mixed_kinds sum (k ∷ ks) = mixed_kinds (mixed_kind sum k) ks

-- a sum with the answers of all actors mixed in, and how many each has
abbrev pub mixed_lists : ℕ → List (List Kind) → ℕ
mixed_lists sum [] = sum
mixed_lists sum (x ∷ xs) = mixed_lists (mixed_kinds (mixed sum (length x)) x) xs
