-- What the words of an event's line tell, each by its reader. A letter before a number, and what would make the word
-- another's, is left to the comparison of the whole line.
use Rattle.std.specs.Prelude.{ℕ, zero, suc, ◌+◌, Bool, false, ◌==◌, if◌then◌else◌, Option, Some, None, List, [], ◌∷◌}
use Rattle.std.specs.Prelude.{Result, Ok, drop, take, codes}
use Rattle.std.specs.List.{find, position_or_len}
use Rattle.std.specs.Option.{ok_or}
use Rattle.std.specs.Str.{bytes_eq}
use Rattle.hm_base.specs.Pages.{Pages, span}
use Rattle.hm_history.specs.declared.TableRight.{TableRight}
use Rattle.hm_protocol.specs.declared.events.Reason.{Reason as StartReason}
use Rattle.hm_protocol.specs.declared.events.TraceFrame.{TraceFrame}
use Rattle.hm_script.specs.Gives.{◌>>=◌}
use Rattle.hm_script.specs.Numerals.{number}
use Rattle.hm_script.specs.Splitting.{word}
use Rattle.hm_script.specs.declared.reason.Reason.{Reason}
use Rattle.hm_trace.specs.Spelling.{reason_text}

-- the word at this place of those that are left
abbrev pub field : ℕ → List (List ℕ) → List ℕ
field zero ws = word 0 ws
field (suc k) ws = field k (drop 1 ws)

-- the word begins with this letter
abbrev pub begins : ℕ → List ℕ → Bool
begins letter [] = false
begins letter (c ∷ w) = c == letter

-- a number after one letter
unfoldable pub lettered : List ℕ → Result ℕ Reason
lettered w = number (drop 1 w)

-- a device, or that there is none
unfoldable pub owner_at : List ℕ → Result (Option ℕ) Reason
owner_at w = if bytes_eq w (codes "-") then Ok None else (do
  d ← lettered w
  Ok (Some d))

-- pages from the first on
unfoldable pub span_at : List ℕ → List ℕ → Result Pages Reason
span_at v n = do
  first ← number v
  count ← number n
  Ok (span first count)

-- what stands before the first point
abbrev pub before_point : List ℕ → List ℕ
before_point w = take (position_or_len (λ b. b == 46) w) w

-- what stands after it
abbrev pub after_point : List ℕ → List ℕ
after_point w = drop (position_or_len (λ b. b == 46) w + 1) w

-- a frame of a device, of its private memory if the letter is `d`
unfoldable pub device_frame_at : List ℕ → Result TraceFrame Reason
device_frame_at w = do
  d ← lettered (before_point w)
  n ← number (after_point w)
  Ok (if begins 100 w then TraceFrame.Private d n else TraceFrame.Coherent d n)

-- a frame; its first letter tells what it is of
unfoldable pub frame_at : List ℕ → Result TraceFrame Reason
frame_at w = if begins 115 w then (do
  n ← lettered w
  Ok (TraceFrame.System n)) else (if begins 122 w then Ok TraceFrame.ZeroPage
    else (if begins 110 w then Ok TraceFrame.Nothing else device_frame_at w))

-- the call did what it was to do
abbrev pub done_at : List ℕ → Bool
done_at w = bytes_eq w (codes "done")

-- somebody holds the mmap lock
abbrev pub locked_at : List ℕ → Bool
locked_at w = bytes_eq w (codes "locked")

-- the migration goes to a device
abbrev pub to_device_at : List ℕ → Bool
to_device_at w = bytes_eq w (codes "todev")

-- the page may be written
abbrev pub writes_at : List ℕ → Bool
writes_at w = bytes_eq w (codes "w")

-- the right of a table's entry
abbrev pub right_at : List ℕ → TableRight
right_at w = if bytes_eq w (codes "r") then TableRight.Read
    else (if bytes_eq w (codes "w") then TableRight.Write else TableRight.Sole)

-- every reason of an invalidation
abbrev pub all_reasons : List StartReason
all_reasons = StartReason.Unmap ∷ StartReason.Clear ∷ StartReason.ProtectArea ∷ StartReason.ProtectPage
    ∷ StartReason.SoftDirty ∷ StartReason.Release ∷ StartReason.Migrate ∷ StartReason.Exclusive ∷ []

-- the reason of this name
unfoldable pub reason_named : List ℕ → Option StartReason
reason_named w = find (λ why. bytes_eq (reason_text why) w) all_reasons

-- why an invalidation begins
unfoldable pub reason_at : List ℕ → Result StartReason Reason
reason_at w = ok_or (reason_named w) Reason.Word
