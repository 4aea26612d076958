-- How a pool keeps its frames.
use Rattle.std.specs.Prelude.{◌≡◌, not, map}
use Rattle.frame_pool.specs.Frames.{Frames, IsFrames}
use Rattle.frame_pool.specs.declared.pool.Pool.TheInside.{Inside}

-- what contracts see of what a pool keeps
abbrev pub frames_of : Inside → Frames
frames_of a = record { held = a.held; bytes = a.bytes; locks = a.locks.items; withdrawn = a.withdrawn }

-- what a pool keeps fits together; the list of free frames, which is searched, is that of frames not held
pub record IsPool (a : Inside) : Type 0 where
  pub frames : IsFrames (frames_of a)
  pub free : a.free ≡ map not a.held
