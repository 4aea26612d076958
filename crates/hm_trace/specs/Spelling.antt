-- The one text of each event: the words of its line.
use Rattle.std.specs.Prelude.{ℕ, Bool, if◌then◌else◌, Option, Some, None, List, [], ◌∷◌, ◌++◌, codes}
use Rattle.std.specs.Fmt.{decimal}
use Rattle.hm_protocol.specs.declared.events.Event.{Event}
use Rattle.hm_protocol.specs.declared.events.Reason.{Reason}
use Rattle.hm_protocol.specs.declared.events.Recorded.{Recorded}
use Rattle.hm_protocol.specs.declared.events.TraceFrame.{TraceFrame}
use Rattle.hm_protocol.specs.declared.events.Traced.{Traced}
use Rattle.hm_report.specs.Words.{actor_text, device_text, mirror_text, proc_text, table_right_text, write_text}
use Rattle.hm_script.specs.Spelling.{line}

-- ---- words

-- a device, or that there is none
abbrev pub owner_text : Option ℕ → List ℕ
owner_text None = codes "-"
owner_text (Some d) = device_text d

-- a frame: of the system, of a device's private memory, or of a device's memory that the CPU uses too
abbrev pub frame_text : TraceFrame → List ℕ
frame_text TraceFrame.Nothing = codes "none"
frame_text TraceFrame.ZeroPage = codes "zero"
frame_text (TraceFrame.System n) = codes "s" ++ decimal n
frame_text (TraceFrame.Private d n) = (codes "d" ++ decimal d) ++ (codes "." ++ decimal n)
frame_text (TraceFrame.Coherent d n) = (codes "c" ++ decimal d) ++ (codes "." ++ decimal n)

-- whether a call did what it was to do
abbrev pub done_text : Bool → List ℕ
done_text done = if done then codes "done" else codes "failed"

-- whether somebody holds the mmap lock
abbrev pub lock_text : Bool → List ℕ
lock_text locked = if locked then codes "locked" else codes "unlocked"

-- whether a migration goes to a device or comes from one
abbrev pub way_text : Bool → List ℕ
way_text to_device = if to_device then codes "todev" else codes "tosys"

-- why an invalidation begins
abbrev pub reason_text : Reason → List ℕ
reason_text Reason.Unmap = codes "unmap"
reason_text Reason.Clear = codes "clear"
reason_text Reason.ProtectArea = codes "protect_vma"
reason_text Reason.ProtectPage = codes "protect_page"
reason_text Reason.SoftDirty = codes "soft_dirty"
reason_text Reason.Release = codes "release"
reason_text Reason.Migrate = codes "migrate"
reason_text Reason.Exclusive = codes "exclusive"

-- ---- lines

-- the words of an event, the first of which names it
abbrev pub event_words : Event → List (List ℕ)
event_words (Event.Insert m p r d) =
    codes "insert" ∷ mirror_text m ∷ proc_text p ∷ decimal r.first ∷ decimal r.count ∷ owner_text d ∷ []
event_words (Event.Inserted m q done) = codes "inserted" ∷ mirror_text m ∷ decimal q ∷ done_text done ∷ []
event_words (Event.Remove m) = codes "remove" ∷ mirror_text m ∷ []
event_words (Event.Removed m) = codes "removed" ∷ mirror_text m ∷ []
event_words (Event.Start p r why d) =
    codes "start" ∷ proc_text p ∷ decimal r.first ∷ decimal r.count ∷ reason_text why ∷ owner_text d ∷ []
event_words (Event.End p r) = codes "end" ∷ proc_text p ∷ decimal r.first ∷ decimal r.count ∷ []
event_words (Event.Tell m r q) =
    codes "tell" ∷ mirror_text m ∷ decimal r.first ∷ decimal r.count ∷ decimal q ∷ []
event_words (Event.Told m q done) = codes "told" ∷ mirror_text m ∷ decimal q ∷ done_text done ∷ []
event_words (Event.Begin m q) = codes "begin" ∷ mirror_text m ∷ decimal q ∷ []
event_words (Event.Walk m r q locked d) =
    codes "walk" ∷ mirror_text m ∷ decimal r.first ∷ decimal r.count ∷ decimal q ∷ lock_text locked ∷ owner_text d ∷ []
event_words (Event.Found m v f w) = codes "found" ∷ mirror_text m ∷ decimal v ∷ frame_text f ∷ write_text w ∷ []
event_words (Event.Walked m done) = codes "walked" ∷ mirror_text m ∷ done_text done ∷ []
event_words (Event.Setup p r to_device d) =
    codes "setup" ∷ proc_text p ∷ decimal r.first ∷ decimal r.count ∷ way_text to_device ∷ owner_text d ∷ []
event_words (Event.From v f w) = codes "from" ∷ decimal v ∷ frame_text f ∷ write_text w ∷ []
event_words (Event.Ready p) = codes "ready" ∷ proc_text p ∷ []
event_words (Event.Moved v f) = codes "moved" ∷ decimal v ∷ frame_text f ∷ []
event_words (Event.Stayed v f) = codes "stayed" ∷ decimal v ∷ frame_text f ∷ []
event_words (Event.Paged p) = codes "pages" ∷ proc_text p ∷ []
event_words (Event.Finalize p) = codes "finalize" ∷ proc_text p ∷ []
event_words (Event.Set m v f right) =
    codes "set" ∷ mirror_text m ∷ decimal v ∷ frame_text f ∷ table_right_text right ∷ []
event_words (Event.Erase m v) = codes "erase" ∷ mirror_text m ∷ decimal v ∷ []
event_words (Event.Use m r w) =
    codes "use" ∷ mirror_text m ∷ decimal r.first ∷ decimal r.count ∷ write_text w ∷ []
event_words (Event.Fetch m v) = codes "fetch" ∷ mirror_text m ∷ decimal v ∷ []
event_words (Event.Add m v) = codes "add" ∷ mirror_text m ∷ decimal v ∷ []
event_words (Event.Take f) = codes "take" ∷ frame_text f ∷ []
event_words (Event.Free f) = codes "free" ∷ frame_text f ∷ []
event_words (Event.Withdraw d) = codes "withdraw" ∷ device_text d ∷ []
event_words (Event.Gone d) = codes "gone" ∷ device_text d ∷ []
event_words (Event.Pass f) = codes "pass" ∷ frame_text f ∷ []

-- the line of an event, with its number and its thread
abbrev pub event_line : ℕ → Traced → List ℕ
event_line at e = line (decimal at ∷ actor_text e.thread ∷ event_words e.event)

-- a word, if it is to be there
abbrev pub word_if : Bool → List ℕ → List (List ℕ)
word_if here w = if here then w ∷ [] else []

-- the words of what was recorded, in this order
abbrev pub recorded_words : Recorded → List (List ℕ)
recorded_words r = word_if r.set (codes "set") ++ (word_if r.erase (codes "erase") ++ (word_if r.uses (codes "use")
    ++ (word_if r.take (codes "take") ++ (word_if r.free (codes "free") ++ word_if r.model (codes "model")))))

-- the line that says what was recorded, beside the kernel's own events
abbrev pub names_line : Recorded → List ℕ
names_line r = line (codes "names" ∷ recorded_words r)

-- the line that says that so many events with a number are not there, and so many calls without one
abbrev pub lost_line : ℕ → ℕ → List ℕ
lost_line count missed = line (codes "lost" ∷ decimal count ∷ decimal missed ∷ [])
