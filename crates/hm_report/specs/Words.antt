-- The words of the lines of entries.
use Rattle.std.specs.Prelude.{ℕ, ◌+◌, ◌/◌, ◌%◌, Bool, false, if◌then◌else◌, Option, Some, None, List, [], ◌∷◌, ◌++◌}
use Rattle.std.specs.Prelude.{codes}
use Rattle.std.specs.Fmt.{decimal, digit_glyph}
use Rattle.hm_base.specs.PlaceWords.{sys_frame, dev_frame}
use Rattle.hm_base.specs.declared.PoolId.{PoolId}
use Rattle.hm_base.specs.declared.cause.Cause.{Cause}
use Rattle.hm_base.specs.declared.Frame.{Frame}
use Rattle.hm_base.specs.declared.Place.{Place}
use Rattle.hm_base.specs.declared.Span.{Span}
use Rattle.hm_history.specs.declared.Who.{Who}
use Rattle.hm_history.specs.declared.TableRight.{TableRight}
use Rattle.hm_history.specs.declared.KeptAt.{KeptAt}
use Rattle.hm_history.specs.declared.KeptWhy.{KeptWhy}
use Rattle.hm_history.specs.declared.Kind.{Kind}
use Rattle.hm_script.specs.Spelling.{address_text, hex_text, right_text}

-- a process, as a word of a line
abbrev pub proc_text : ℕ → List ℕ
proc_text p = codes "p" ++ decimal p

-- a mirror, as a word of a line
abbrev pub mirror_text : ℕ → List ℕ
mirror_text m = codes "m" ++ decimal m

-- a device, as a word of a line
abbrev pub device_text : ℕ → List ℕ
device_text d = codes "d" ++ decimal d

-- an actor, as a word of a line
abbrev pub actor_text : ℕ → List ℕ
actor_text a = codes "a" ++ decimal a

-- whose access it is: a process's, or a mirror's for its device
abbrev pub who_text : Who → List ℕ
who_text (Who.Cpu p) = proc_text p
who_text (Who.Mirror m) = mirror_text m

-- two hexadecimal digits
abbrev pub byte_text : ℕ → List ℕ
byte_text b = digit_glyph false (b / 16) ∷ digit_glyph false (b % 16) ∷ []

-- the two digits of a number below 100
abbrev pub pair_text : ℕ → List ℕ
pair_text n = (48 + n / 10) ∷ (48 + n % 10) ∷ []

-- a frame of the system or of a device, by its number there
abbrev pub frame_in : PoolId → ℕ → List ℕ
frame_in PoolId.System n = codes "s" ++ decimal n
frame_in (PoolId.Device d) n = device_text d ++ (codes "." ++ decimal n)

-- a frame, as a word of a line
abbrev pub frame_text : Frame → List ℕ
frame_text f = frame_in f.pool f.number

-- whether a place may be written through
abbrev pub write_text : Bool → List ℕ
write_text w = if w then codes "w" else codes "r"

-- what a page table has for a page; a report's reader tells the kind by the first word
abbrev pub place_words : Place → List (List ℕ)
place_words Place.Empty = codes "none" ∷ []
place_words Place.Zero = codes "zero" ∷ []
place_words (Place.Sys n w) = codes "sys" ∷ frame_text (sys_frame n) ∷ write_text w ∷ []
place_words (Place.Own d n w) = codes "own" ∷ frame_text (dev_frame d n) ∷ write_text w ∷ []
place_words (Place.Moving f w) = codes "moving" ∷ frame_text f ∷ write_text w ∷ []
place_words (Place.Exclusive n a) = codes "excl" ∷ frame_text (sys_frame n) ∷ actor_text a ∷ []

-- what a table entry names: a frame, or the zero page
abbrev pub target_text : Option Frame → List ℕ
target_text None = codes "zero"
target_text (Some f) = frame_text f

-- the right of an entry in a mirror's table
abbrev pub table_right_text : TableRight → List ℕ
table_right_text TableRight.Read = codes "r"
table_right_text TableRight.Write = codes "w"
table_right_text TableRight.Sole = codes "x"

-- which eighth of a frame, or all of it
abbrev pub part_text : Option ℕ → List ℕ
part_text None = codes "all"
part_text (Some k) = decimal k

-- what a migration left behind: a page by its number, or a frame
abbrev pub kept_text : KeptAt → List ℕ
kept_text (KeptAt.Page v) = decimal v
kept_text (KeptAt.Frame f) = frame_text f

-- the number of a cause. No report has 0
abbrev pub cause_number : Cause → ℕ
cause_number Cause.Never = 0
cause_number Cause.Unmapped = 1
cause_number Cause.Forbidden = 2
cause_number Cause.NoFrame = 3
cause_number Cause.Outside = 4
cause_number Cause.Overlap = 5
cause_number Cause.TooManyAreas = 6
cause_number Cause.NameTaken = 7
cause_number Cause.NoProcess = 8
cause_number Cause.MirrorTaken = 9
cause_number Cause.Removed = 10

-- why it was left behind
abbrev pub why_words : KeptWhy → List (List ℕ)
why_words KeptWhy.NotHere = codes "nothere" ∷ []
why_words (KeptWhy.LockedBy b) = codes "locked" ∷ actor_text b ∷ []
why_words KeptWhy.NoFrame = codes "noframe" ∷ []
why_words KeptWhy.Skipped = codes "skipped" ∷ []
why_words KeptWhy.Lost = codes "lost" ∷ []

-- the words of an `attached`, but for its sequence
abbrev pub interval_words : ℕ → ℕ → ℕ → Span → List (List ℕ)
interval_words m d p r =
    codes "attached" ∷ mirror_text m ∷ device_text d ∷ proc_text p ∷ decimal r.first ∷ decimal r.count ∷ []

-- the words of an entry after its position and actor. Two kinds never have the same words, so a report can be read
-- back
abbrev pub kind_words : Kind → List (List ℕ)
kind_words (Kind.Loaded x a bs) = codes "loaded" ∷ who_text x ∷ address_text a ∷ hex_text bs ∷ []
kind_words (Kind.Stored x a bs) = codes "stored" ∷ who_text x ∷ address_text a ∷ hex_text bs ∷ []
kind_words (Kind.Failed x a n why) =
    codes "failed" ∷ who_text x ∷ address_text a ∷ decimal n ∷ decimal (cause_number why) ∷ []
kind_words (Kind.Mapped p r w) = codes "mapped" ∷ proc_text p ∷ decimal r.first ∷ decimal r.count ∷ right_text w ∷ []
kind_words (Kind.Unmapped p r) = codes "unmapped" ∷ proc_text p ∷ decimal r.first ∷ decimal r.count ∷ []
kind_words (Kind.Protected p r w) =
    codes "protected" ∷ proc_text p ∷ decimal r.first ∷ decimal r.count ∷ right_text w ∷ []
kind_words (Kind.Forked p c) = codes "forked" ∷ proc_text p ∷ proc_text c ∷ []
kind_words (Kind.Exited p) = codes "exited" ∷ proc_text p ∷ []
kind_words (Kind.Attached m d p r q) =
    codes "attached"
    ∷ mirror_text m
    ∷ device_text d
    ∷ proc_text p
    ∷ decimal r.first
    ∷ decimal r.count
    ∷ decimal q
    ∷ []
kind_words (Kind.Detaching m q) = codes "detaching" ∷ mirror_text m ∷ decimal q ∷ []
kind_words (Kind.Detached m) = codes "detached" ∷ mirror_text m ∷ []
kind_words (Kind.Refused why) = codes "refused" ∷ decimal (cause_number why) ∷ []
kind_words (Kind.Migrated n) = codes "migrated" ∷ decimal n ∷ []
kind_words (Kind.Seen m v c) = codes "seen" ∷ mirror_text m ∷ decimal v ∷ byte_text c ∷ []
kind_words (Kind.Evicted n) = codes "evicted" ∷ decimal n ∷ []
kind_words (Kind.Removed d) = codes "removed" ∷ device_text d ∷ []
kind_words (Kind.Rlock p) = codes "rlock" ∷ proc_text p ∷ []
kind_words (Kind.Runlock p) = codes "runlock" ∷ proc_text p ∷ []
kind_words (Kind.Wlock p) = codes "wlock" ∷ proc_text p ∷ []
kind_words (Kind.Named p c) = codes "named" ∷ proc_text p ∷ proc_text c ∷ []
kind_words (Kind.Take f) = codes "take" ∷ frame_text f ∷ []
kind_words (Kind.Drop f) = codes "drop" ∷ frame_text f ∷ []
kind_words (Kind.Place p v x) = codes "place" ∷ proc_text p ∷ decimal v ∷ place_words x
kind_words (Kind.Start p r q) = codes "start" ∷ proc_text p ∷ decimal r.first ∷ decimal r.count ∷ decimal q ∷ []
kind_words (Kind.Told m r q) = codes "told" ∷ mirror_text m ∷ decimal r.first ∷ decimal r.count ∷ decimal q ∷ []
kind_words (Kind.End p r q) = codes "end" ∷ proc_text p ∷ decimal r.first ∷ decimal r.count ∷ decimal q ∷ []
kind_words (Kind.Begin m q) = codes "begin" ∷ mirror_text m ∷ decimal q ∷ []
kind_words (Kind.Retry m) = codes "retry" ∷ mirror_text m ∷ []
kind_words (Kind.Set m v f w from) =
    codes "set" ∷ mirror_text m ∷ decimal v ∷ target_text f ∷ table_right_text w ∷ decimal from ∷ []
kind_words (Kind.Fresh p v) = codes "fresh" ∷ proc_text p ∷ decimal v ∷ []
kind_words (Kind.Copied f g k) = codes "copied" ∷ frame_text f ∷ frame_text g ∷ part_text k ∷ []
kind_words (Kind.Committed f g) = codes "committed" ∷ frame_text f ∷ frame_text g ∷ []
kind_words (Kind.Kept at why) = codes "kept" ∷ kept_text at ∷ why_words why
kind_words (Kind.Done f) = codes "done" ∷ frame_text f ∷ []
kind_words (Kind.Withdrawn d) = codes "withdrawn" ∷ device_text d ∷ []
kind_words (Kind.Excluded m v) = codes "excluded" ∷ mirror_text m ∷ decimal v ∷ []
kind_words (Kind.Fetched m a bs) = codes "fetched" ∷ mirror_text m ∷ address_text a ∷ hex_text bs ∷ []
kind_words (Kind.Added m a was now) =
    codes "added" ∷ mirror_text m ∷ address_text a ∷ byte_text was ∷ byte_text now ∷ []

-- the words of a kind but for the bytes that were read or written, and those
abbrev pub head_words : Kind → List (List ℕ)
head_words (Kind.Loaded x a bs) = codes "loaded" ∷ who_text x ∷ address_text a ∷ []
head_words (Kind.Stored x a bs) = codes "stored" ∷ who_text x ∷ address_text a ∷ []
head_words (Kind.Fetched m a bs) = codes "fetched" ∷ mirror_text m ∷ address_text a ∷ []
head_words k = kind_words k

-- the bytes that were read or written, with the space before them; they may be long, so they are written apart
abbrev pub tail_text : Kind → List ℕ
tail_text (Kind.Loaded x a bs) = 32 ∷ hex_text bs
tail_text (Kind.Stored x a bs) = 32 ∷ hex_text bs
tail_text (Kind.Fetched m a bs) = 32 ∷ hex_text bs
tail_text _ = []
