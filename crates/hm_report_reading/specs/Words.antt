-- What the words of an entry's line tell, each by its reader. A letter before a number, and what would make the word
-- another's, is left to the comparison of the whole line.
use Rattle.std.specs.Prelude.{ℕ, ◌+◌, ◌-◌, ◌*◌, ◌%◌, ◌^◌, Bool, false, ◌&&◌, ◌||◌, ◌==◌, if◌then◌else◌, nat_lt, nat_le}
use Rattle.std.specs.Prelude.{Option, Some, None, List, [], ◌∷◌, Result, Ok, Err, drop, codes}
use Rattle.std.specs.Str.{bytes_eq}
use Rattle.hm_base.specs.Pages.{Pages, span}
use Rattle.hm_base.specs.PlaceWords.{sys_frame, dev_frame}
use Rattle.hm_base.specs.declared.Frame.{Frame}
use Rattle.hm_base.specs.declared.Place.{Place}
use Rattle.hm_base.specs.declared.PoolId.{PoolId}
use Rattle.hm_base.specs.declared.cause.Cause.{Cause}
use Rattle.hm_base.specs.declared.ops.Rights.{Rights}
use Rattle.hm_history.specs.declared.KeptAt.{KeptAt}
use Rattle.hm_history.specs.declared.KeptWhy.{KeptWhy}
use Rattle.hm_history.specs.declared.TableRight.{TableRight}
use Rattle.hm_history.specs.declared.Who.{Who}
use Rattle.hm_script.specs.Gives.{◌>>=◌}
use Rattle.hm_script.specs.Numerals.{number}
use Rattle.hm_script.specs.Splitting.{word}
use Rattle.hm_script.specs.declared.reason.Reason.{Reason}

-- the number, if it is below the limit
abbrev pub below : ℕ → ℕ → Result ℕ Reason
below limit n = if nat_lt n limit then Ok n else Err Reason.Range

-- the word begins with this letter
abbrev pub begins : ℕ → List ℕ → Bool
begins letter [] = false
begins letter (c ∷ w) = c == letter

-- a number below the limit, after one letter
unfoldable pub numbered : ℕ → List ℕ → Result ℕ Reason
numbered limit w = do
  n ← number (drop 1 w)
  below limit n

unfoldable pub page_at : List ℕ → Result ℕ Reason
page_at w = do
  n ← number w
  below (2 ^ 36) n

-- the span of these pages, if there are such
abbrev pub checked_span : ℕ → ℕ → Result Pages Reason
checked_span first count =
    if nat_le 1 count && nat_le (first + count) (2 ^ 36) then Ok (span first count) else Err Reason.Range

unfoldable pub span_at : List ℕ → List ℕ → Result Pages Reason
span_at first count = do
  v ← number first
  n ← number count
  checked_span v n

-- the value of a hexadecimal digit
abbrev pub nibble : ℕ → ℕ
nibble c = if nat_lt c 97 then (c - 48) % 16 else (c - 87) % 16

-- the byte of two hexadecimal digits
abbrev pub pair : ℕ → ℕ → ℕ
pair high low = 16 * nibble high + nibble low

-- the byte of two hexadecimal digits
abbrev pub byte_at : List ℕ → ℕ
byte_at (high ∷ low ∷ w) = pair high low
byte_at _ = 0

-- the bytes of a word of such digits; a digit left over is passed over
abbrev pub bytes_at : List ℕ → List ℕ
bytes_at (high ∷ low ∷ w) = pair high low ∷ bytes_at w
bytes_at _ = []

-- what an area allows
abbrev pub right_at : List ℕ → Rights
right_at w = if bytes_eq w (codes "rw") then Rights.ReadWrite else Rights.Read

-- a mirror, if the letter is `m`, and else a process
unfoldable pub who_at : List ℕ → Result Who Reason
who_at w = do
  n ← numbered 32 w
  Ok (if begins 109 w then Who.Mirror n else Who.Cpu n)

-- the system's frame that a word tells
abbrev pub system_frame_at : List ℕ → Result Frame Reason
system_frame_at w = do
  n ← numbered (2 ^ 32) w
  Ok (sys_frame n)

-- a device's number has one digit, and a point stands after it
abbrev pub device_frame_at : List ℕ → Result Frame Reason
device_frame_at (_ ∷ digit ∷ _ ∷ rest) = do
  d ← number (digit ∷ [])
  e ← below 4 d
  n ← number rest
  m ← below (2 ^ 32) n
  Ok (dev_frame e m)
device_frame_at _ = Err Reason.Number

-- a frame of the system, if the letter is `s`, and else of a device
unfoldable pub frame_at : List ℕ → Result Frame Reason
frame_at w = if begins 115 w then system_frame_at w else device_frame_at w

unfoldable pub target_at : List ℕ → Result (Option Frame) Reason
target_at w = if bytes_eq w (codes "zero") then Ok None else (do
  f ← frame_at w
  Ok (Some f))

-- the right that a word tells; a word that tells none is found out when the line is compared
abbrev pub table_right_at : List ℕ → TableRight
table_right_at w = if bytes_eq w (codes "r") then TableRight.Read
    else (if bytes_eq w (codes "w") then TableRight.Write else TableRight.Sole)

unfoldable pub part_at : List ℕ → Result (Option ℕ) Reason
part_at w = if bytes_eq w (codes "all") then Ok None else (do
  n ← number w
  k ← below 256 n
  Ok (Some k))

-- a frame, if the letter is `s` or `d`, and else a page
unfoldable pub kept_at : List ℕ → Result KeptAt Reason
kept_at w = if begins 115 w || begins 100 w then (do
  f ← frame_at w
  Ok (KeptAt.Frame f)) else (do
    v ← page_at w
    Ok (KeptAt.Page v))

-- the cause of this number
abbrev pub cause_of : ℕ → Result Cause Reason
cause_of n = if n == 0 then Ok Cause.Never
    else (if n == 1 then Ok Cause.Unmapped
    else (if n == 2 then Ok Cause.Forbidden
    else (if n == 3 then Ok Cause.NoFrame
    else (if n == 4 then Ok Cause.Outside
    else (if n == 5 then Ok Cause.Overlap
    else (if n == 6 then Ok Cause.TooManyAreas
    else (if n == 7 then Ok Cause.NameTaken
    else (if n == 8 then Ok Cause.NoProcess
    else (if n == 9 then Ok Cause.MirrorTaken
    else (if n == 10 then Ok Cause.Removed
    else Err Reason.Range))))))))))

unfoldable pub cause_at : List ℕ → Result Cause Reason
cause_at w = do
  n ← number w
  cause_of n

-- the word says that a place may be written through
abbrev pub writes : List ℕ → Bool
writes w = bytes_eq w (codes "w")

-- the number of a frame of the system
abbrev pub system_number : PoolId → ℕ → Result ℕ Reason
system_number PoolId.System n = Ok n
system_number (PoolId.Device d) n = Err Reason.Word

-- a place in a device's memory; one in the system's memory is not called so
abbrev pub own_place : PoolId → ℕ → Bool → Result Place Reason
own_place PoolId.System n w = Err Reason.Word
own_place (PoolId.Device d) n w = Ok (Place.Own d n w)

-- a place with a frame, of this name
abbrev pub framed_place : List ℕ → Frame → List ℕ → Result Place Reason
framed_place name f last =
    if bytes_eq name (codes "sys") then (do
      n ← system_number f.pool f.number
      Ok (Place.Sys n (writes last)))
    else (if bytes_eq name (codes "own") then own_place f.pool f.number (writes last)
    else (if bytes_eq name (codes "moving") then Ok (Place.Moving f (writes last)) else (do
      n ← system_number f.pool f.number
      a ← numbered 16 last
      Ok (Place.Exclusive n a))))

-- the place that the words from the sixth on tell
unfoldable pub place_at : List (List ℕ) → Result Place Reason
place_at ws = if bytes_eq (word 5 ws) (codes "none") then Ok Place.Empty
    else (if bytes_eq (word 5 ws) (codes "zero") then Ok Place.Zero else (do
      f ← frame_at (word 6 ws)
      framed_place (word 5 ws) f (word 7 ws)))

-- the reason that the words from the fifth on tell
unfoldable pub why_at : List (List ℕ) → Result KeptWhy Reason
why_at ws = if bytes_eq (word 4 ws) (codes "nothere") then Ok KeptWhy.NotHere
    else (if bytes_eq (word 4 ws) (codes "locked") then (do
      a ← numbered 16 (word 5 ws)
      Ok (KeptWhy.LockedBy a))
    else (if bytes_eq (word 4 ws) (codes "noframe") then Ok KeptWhy.NoFrame
    else (if bytes_eq (word 4 ws) (codes "skipped") then Ok KeptWhy.Skipped
    else (if bytes_eq (word 4 ws) (codes "lost") then Ok KeptWhy.Lost else Err Reason.Word))))
