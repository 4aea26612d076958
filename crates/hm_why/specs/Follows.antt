-- What is kept of the front of a history.
use Rattle.std.specs.Prelude.{◌≡◌, ℕ, ◌<◌, ◌^◌, List}
use Rattle.hm_history.specs.declared.Entry.{Entry}
use Rattle.hm_why.specs.Sources.{owners_at, source_of}
use Rattle.hm_why.specs.Writers.{owner_in, source_in, IsSized}
use Rattle.hm_why.specs.declared.writers.Writers.{Writers}

-- the processes of mirrors, and the source of each byte, before position i
pub record Follows (w : Writers) (h : List Entry) (i : ℕ) : Type 0 where
  pub sized : IsSized w
  pub owners : (m : ℕ) → owner_in w m ≡ owners_at h i m
  pub sources : (q b : ℕ) → b < 2 ^ 48 → source_in w q b ≡ source_of h i q b
