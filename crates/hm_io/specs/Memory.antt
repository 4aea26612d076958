-- What sources and sinks in memory with planned faults do.
use Rattle.std.specs.Prelude.{ℕ, ◌-◌, min, Bool, false, nat_lt, ◌==◌, if◌then◌else◌, List, [], ◌++◌, length, drop}
use Rattle.hm_io.specs.Plan.{Plan, fails, after_call}
use Rattle.hm_io.specs.declared.Got.{Got}
use Rattle.hm_io.specs.declared.Got.TheVariants as got
use Rattle.hm_io.specs.declared.Put.{Put}
use Rattle.hm_io.specs.declared.Put.TheVariants as put

-- bytes that are left, which come in pieces of at most `piece`
pub record Feed : Type 0 where
  pub left : List ℕ
  pub piece : ℕ
  pub plan : Plan

-- all bytes are left, and no call was made yet
abbrev pub feed_start : List ℕ → ℕ → List ℕ → Feed
feed_start bytes piece failing =
    record { left = bytes; piece = piece; plan = record { failing = failing; calls = 0; faults = 0 } }

-- how many bytes a call gives that does not fail
abbrev pub feed_count : Feed → ℕ → ℕ
feed_count s room = min (min s.piece room) (length s.left)

-- what the next call answers: a fault if one is planned, else the end or a number of bytes
abbrev pub feed_gives : Feed → ℕ → Got
feed_gives s room =
    if fails s.plan false then got.Failed
    else (if feed_count s room == 0 then got.Ended else got.Bytes (feed_count s room))

-- the source after the next call: what was given is left no more, and a fault loses nothing
abbrev pub feed_after : Feed → ℕ → Feed
feed_after s room = record {
  left = if fails s.plan false then s.left else drop (feed_count s room) s.left;
  piece = s.piece;
  plan = after_call s.plan false;
}

-- bytes that are held, with room for `room` in all
pub record Store : Type 0 where
  pub bytes : List ℕ
  pub room : ℕ
  pub plan : Plan

-- nothing is held, and no call was made yet
abbrev pub store_start : ℕ → List ℕ → Store
store_start room failing =
    record { bytes = []; room = room; plan = record { failing = failing; calls = 0; faults = 0 } }

-- the piece does not fit the room that is left
abbrev pub is_too_much : Store → List ℕ → Bool
is_too_much s from = nat_lt (s.room - length s.bytes) (length from)

-- what the next call answers: a fault if one is planned or the piece does not fit, else that it took all
abbrev pub store_gives : Store → List ℕ → Put
store_gives s from = if fails s.plan (is_too_much s from) then put.Failed else put.Took (length from)

-- the sink after the next call: it holds the piece, or after a fault what it held before
abbrev pub store_after : Store → List ℕ → Store
store_after s from = record {
  bytes = if fails s.plan (is_too_much s from) then s.bytes else (s.bytes ++ from);
  room = s.room;
  plan = after_call s.plan (is_too_much s from);
}
