-- The pools of the tables have as many frames as those of which is kept what is held.
use Rattle.std.specs.Prelude.{◌≡◌, List}
use Rattle.hm_base.specs.declared.PoolId.{PoolId}
use Rattle.hm_tables.specs.Values.{Tables, size_in}
use Rattle.hm_folds.specs.HeldFrames.{frames_in}
use Rattle.hm_folds.specs.declared.held.HeldNumbers.{HeldNumbers}

-- for each pool, tables and held frames speak of the same frames
pub record IsFitted (tables : Tables) (held : List HeldNumbers) : Type 0 where
  pub sizes : (pool : PoolId) → frames_in held pool ≡ size_in tables.pools pool
