-- A pool of frames of 4,096 bytes, as contracts see it.
use Rattle.std.specs.Prelude.{◌≡◌, ℕ, ◌+◌, ◌-◌, ◌*◌, ◌<◌, ◌^◌, Bool, true, false, not, Option, Some, None, List, ◌++◌}
use Rattle.std.specs.Prelude.{length, replicate, slice_set, slice_index_or, slice_range, if◌then◌else◌}
use Rattle.std.specs.List.{position, splice}
use Rattle.frame_pool.specs.declared.pool.Piece.{Piece}
use Rattle.frame_pool.specs.declared.pool.Piece.TheVariants.{All, Part}

-- by a frame's number: whether it is held, its bytes in a row with those of the others, and the actor that has it
-- locked
pub record Frames : Type 0 where
  pub held : List Bool
  pub bytes : List ℕ
  pub locks : List (Option ℕ)
  pub withdrawn : Bool

-- the lists of a pool fit each other: each frame has its bytes and a place for its lock
pub record IsFrames (f : Frames) : Type 0 where
  pub bytes_len : length f.bytes ≡ length f.held * 4096
  pub locks_len : length f.locks ≡ length f.held
  pub few : length f.held < 2 ^ 32

-- a pool of this many frames, none of which is held
abbrev pub fresh : ℕ → Frames
fresh n =
    record { held = replicate n false; bytes = replicate (n * 4096) 0; locks = replicate n None; withdrawn = false }

-- the frame is held; one that the pool does not have is not
abbrev pub is_held : Frames → ℕ → Bool
is_held f n = slice_index_or f.held n false

-- the actor that has the frame locked
abbrev pub locker : Frames → ℕ → Option ℕ
locker f n = slice_index_or f.locks n None

-- the list with these items over its own from there on
abbrev pub overwritten : List ℕ → ℕ → List ℕ → List ℕ
overwritten xs at ys = splice xs at (at + length ys) ys

-- this many bytes of the pool
abbrev pub part_of : List ℕ → ℕ → ℕ → List ℕ
part_of xs at n = slice_range xs at (at + n)

-- this many bytes: these first, and then zeros
abbrev pub padded : List ℕ → ℕ → List ℕ
padded xs n = xs ++ replicate (n - length xs) 0

-- the bytes of a frame that was just taken
unfoldable pub zero_frame : List ℕ
zero_frame = replicate 4096 0

-- the frame that a take gives; none of a pool that is withdrawn
abbrev pub lowest_free : Frames → Option ℕ
lowest_free f = if f.withdrawn then None else position not f.held

-- the frame is held, and shows zeros
abbrev pub taken : Frames → ℕ → Frames
taken f n = record f { held = slice_set f.held n true; bytes = overwritten f.bytes (n * 4096) zero_frame }

-- the lowest free frame is taken, if there is one
abbrev pub lowest_taken : Frames → Option ℕ → Frames
lowest_taken f None = f
lowest_taken f (Some n) = taken f n

-- the frame is free, and nobody has it locked
abbrev pub dropped : Frames → ℕ → Frames
dropped f n = record f { held = slice_set f.held n false; locks = slice_set f.locks n None }

-- the frame's bytes from an offset on are these
abbrev pub written : Frames → ℕ → ℕ → List ℕ → Frames
written f n offset ys = record f { bytes = overwritten f.bytes (n * 4096 + offset) ys }

-- the actor has the frame locked
abbrev pub locked : Frames → ℕ → ℕ → Frames
locked f n a = record f { locks = slice_set f.locks n (Some a) }

-- nobody has the frame locked
abbrev pub unlocked : Frames → ℕ → Frames
unlocked f n = record f { locks = slice_set f.locks n None }

-- where a piece begins in its frame, and how many bytes it has
abbrev pub piece_start : Piece → ℕ
piece_start All = 0
piece_start (Part k) = k * 512

-- how many bytes a piece has
abbrev pub piece_len : Piece → ℕ
piece_len All = 4096
piece_len (Part k) = 512

-- the whole of a frame, or one of its eight parts
abbrev pub IsPiece : Piece → Type 0
IsPiece All = Unit {0}
IsPiece (Part k) = k < 8

-- the bytes of a frame's piece
abbrev pub piece_of : Frames → ℕ → Piece → List ℕ
piece_of f n p = part_of f.bytes (n * 4096 + piece_start p) (piece_len p)

-- a frame's piece has the bytes of the source's
abbrev pub copied : Frames → ℕ → Frames → ℕ → Piece → Frames
copied from src to dst p = written to dst (piece_start p) (piece_of from src p)
