-- The words that name the events.
use Rattle.std.specs.Prelude.{ℕ, Bool, true, false, Option, List, [], ◌∷◌, codes}
use Rattle.std.specs.List.{find}
use Rattle.std.specs.Str.{bytes_eq}
use Rattle.hm_protocol.specs.declared.events.Event.{Event}
use Rattle.hm_trace.specs.declared.event_word.EventWord.{EventWord}

-- the word of an event, as it stands in a line after the thread
abbrev pub word_text : EventWord → List ℕ
word_text EventWord.Found = codes "found"
word_text EventWord.Use = codes "use"
word_text EventWord.Set = codes "set"
word_text EventWord.Erase = codes "erase"
word_text EventWord.Start = codes "start"
word_text EventWord.End = codes "end"
word_text EventWord.Tell = codes "tell"
word_text EventWord.Told = codes "told"
word_text EventWord.Begin = codes "begin"
word_text EventWord.Walk = codes "walk"
word_text EventWord.Walked = codes "walked"
word_text EventWord.From = codes "from"
word_text EventWord.Moved = codes "moved"
word_text EventWord.Stayed = codes "stayed"
word_text EventWord.Setup = codes "setup"
word_text EventWord.Ready = codes "ready"
word_text EventWord.Paged = codes "pages"
word_text EventWord.Finalize = codes "finalize"
word_text EventWord.Take = codes "take"
word_text EventWord.Free = codes "free"
word_text EventWord.Insert = codes "insert"
word_text EventWord.Inserted = codes "inserted"
word_text EventWord.Remove = codes "remove"
word_text EventWord.Removed = codes "removed"
word_text EventWord.Fetch = codes "fetch"
word_text EventWord.Add = codes "add"
word_text EventWord.Withdraw = codes "withdraw"
word_text EventWord.Gone = codes "gone"
word_text EventWord.Pass = codes "pass"

-- every word, in the order in which one is looked for: the frequent ones first
abbrev pub all_words : List EventWord
all_words =
    EventWord.Found
    ∷ EventWord.Use
    ∷ EventWord.Set
    ∷ EventWord.Erase
    ∷ EventWord.Start
    ∷ EventWord.End
    ∷ EventWord.Tell
    ∷ EventWord.Told
    ∷ EventWord.Begin
    ∷ EventWord.Walk
    ∷ EventWord.Walked
    ∷ EventWord.From
    ∷ EventWord.Moved
    ∷ EventWord.Stayed
    ∷ EventWord.Setup
    ∷ EventWord.Ready
    ∷ EventWord.Paged
    ∷ EventWord.Finalize
    ∷ EventWord.Take
    ∷ EventWord.Free
    ∷ EventWord.Insert
    ∷ EventWord.Inserted
    ∷ EventWord.Remove
    ∷ EventWord.Removed
    ∷ EventWord.Fetch
    ∷ EventWord.Add
    ∷ EventWord.Withdraw
    ∷ EventWord.Gone
    ∷ EventWord.Pass
    ∷ []

-- the event that the word names
unfoldable pub event_named : List ℕ → Option EventWord
event_named w = find (λ e. bytes_eq (word_text e) w) all_words

-- the word of each event
abbrev pub event_word : Event → EventWord
event_word (Event.Found m v f w) = EventWord.Found
event_word (Event.Use m r w) = EventWord.Use
event_word (Event.Set m v f right) = EventWord.Set
event_word (Event.Erase m v) = EventWord.Erase
event_word (Event.Start p r why d) = EventWord.Start
event_word (Event.End p r) = EventWord.End
event_word (Event.Tell m r q) = EventWord.Tell
event_word (Event.Told m q t) = EventWord.Told
event_word (Event.Begin m q) = EventWord.Begin
event_word (Event.Walk m r q l d) = EventWord.Walk
event_word (Event.Walked m t) = EventWord.Walked
event_word (Event.From v f w) = EventWord.From
event_word (Event.Moved v f) = EventWord.Moved
event_word (Event.Stayed v f) = EventWord.Stayed
event_word (Event.Setup p r t d) = EventWord.Setup
event_word (Event.Ready p) = EventWord.Ready
event_word (Event.Paged p) = EventWord.Paged
event_word (Event.Finalize p) = EventWord.Finalize
event_word (Event.Take f) = EventWord.Take
event_word (Event.Free f) = EventWord.Free
event_word (Event.Insert m p r d) = EventWord.Insert
event_word (Event.Inserted m q t) = EventWord.Inserted
event_word (Event.Remove m) = EventWord.Remove
event_word (Event.Removed m) = EventWord.Removed
event_word (Event.Fetch m v) = EventWord.Fetch
event_word (Event.Add m v) = EventWord.Add
event_word (Event.Withdraw d) = EventWord.Withdraw
event_word (Event.Gone d) = EventWord.Gone
event_word (Event.Pass f) = EventWord.Pass

-- the driver itself does it, in a look-up or with its table
abbrev pub is_of_driver : Event → Bool
is_of_driver (Event.Found m v f w) = true
is_of_driver (Event.Use m r w) = true
is_of_driver (Event.Set m v f right) = true
is_of_driver (Event.Erase m v) = true
is_of_driver (Event.Begin m q) = true
is_of_driver (Event.Walk m r q l d) = true
is_of_driver (Event.Walked m t) = true
is_of_driver (Event.Fetch m v) = true
is_of_driver (Event.Add m v) = true
is_of_driver e = false

-- it is one of a migration, or of the frames of a device
abbrev pub is_of_frames : Event → Bool
is_of_frames (Event.From v f w) = true
is_of_frames (Event.Moved v f) = true
is_of_frames (Event.Stayed v f) = true
is_of_frames (Event.Setup p r t d) = true
is_of_frames (Event.Ready p) = true
is_of_frames (Event.Paged p) = true
is_of_frames (Event.Finalize p) = true
is_of_frames (Event.Take f) = true
is_of_frames (Event.Free f) = true
is_of_frames (Event.Withdraw d) = true
is_of_frames (Event.Gone d) = true
is_of_frames (Event.Pass f) = true
is_of_frames e = false
