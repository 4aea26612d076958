-- Each event's words are read back, and each is made of bytes of words.
use Rattle.std.proofs.Common.{◌≡◌, true, Some, Ok, drop, refl}
use Rattle.std.specs.List.{list_all}
use Rattle.hm_protocol.specs.declared.events.Event.{Event}
use Rattle.hm_script.specs.Splitting.{word}
use Rattle.hm_script.proofs.Readers.{numbers}
use Rattle.hm_trace.specs.EventWords.{event_named, event_word}
use Rattle.hm_trace.specs.Events.{event_at}
use Rattle.hm_trace.specs.Fits.{FitsEvent}
use Rattle.hm_trace.specs.Spelling.{event_words}
use Rattle.hm_trace.proofs.WordsAgain.{is_word, decimal_words, device_words, done_again, done_words, frame_again, frame_words, lettered_again, lock_again, lock_words, mirror_words, owner_again, owner_words, proc_words, reason_again, reason_words, right_again, right_words, span_again, way_again, way_words, write_again, write_words}

-- the word of each event names it
pub named-again : (e : Event) → event_named (word 0 (event_words e)) ≡ Some (event_word e)
unfolding event_named
named-again (Event.Found m v f w) = refl
named-again (Event.Use m r w) = refl
named-again (Event.Set m v f right) = refl
named-again (Event.Erase m v) = refl
named-again (Event.Start p r why d) = refl
named-again (Event.End p r) = refl
named-again (Event.Tell m r q) = refl
named-again (Event.Told m q t) = refl
named-again (Event.Begin m q) = refl
named-again (Event.Walk m r q l d) = refl
named-again (Event.Walked m t) = refl
named-again (Event.From v f w) = refl
named-again (Event.Moved v f) = refl
named-again (Event.Stayed v f) = refl
named-again (Event.Setup p r t d) = refl
named-again (Event.Ready p) = refl
named-again (Event.Paged p) = refl
named-again (Event.Finalize p) = refl
named-again (Event.Take f) = refl
named-again (Event.Free f) = refl
named-again (Event.Insert m p r d) = refl
named-again (Event.Inserted m q t) = refl
named-again (Event.Remove m) = refl
named-again (Event.Removed m) = refl
named-again (Event.Fetch m v) = refl
named-again (Event.Add m v) = refl
named-again (Event.Withdraw d) = refl
named-again (Event.Gone d) = refl
named-again (Event.Pass f) = refl

pub event-again : (e : Event) → FitsEvent e → event_at (event_word e) (drop 1 (event_words e)) ≡ Ok e
unfolding event_at
event-again (Event.Found m v f w) h = rw (lettered_again 109 m h.0, numbers.again v h.1, frame_again f h.2, write_again w) refl
event-again (Event.Use m r w) h = rw (lettered_again 109 m h.0, span_again r h.1, write_again w) refl
event-again (Event.Set m v f right) h = rw (lettered_again 109 m h.0, numbers.again v h.1, frame_again f h.2, right_again right) refl
event-again (Event.Erase m v) h = rw (lettered_again 109 m h.0, numbers.again v h.1) refl
event-again (Event.Start p r why d) h = rw (lettered_again 112 p h.0, span_again r h.1, reason_again why, owner_again d h.2) refl
event-again (Event.End p r) h = rw (lettered_again 112 p h.0, span_again r h.1) refl
event-again (Event.Tell m r q) h = rw (lettered_again 109 m h.0, span_again r h.1, numbers.again q h.2) refl
event-again (Event.Told m q t) h = rw (lettered_again 109 m h.0, numbers.again q h.1, done_again t) refl
event-again (Event.Begin m q) h = rw (lettered_again 109 m h.0, numbers.again q h.1) refl
event-again (Event.Walk m r q l d) h = rw (lettered_again 109 m h.0, span_again r h.1, numbers.again q h.2, lock_again l, owner_again d h.3) refl
event-again (Event.Walked m t) h = rw (lettered_again 109 m h, done_again t) refl
event-again (Event.From v f w) h = rw (numbers.again v h.0, frame_again f h.1, write_again w) refl
event-again (Event.Moved v f) h = rw (numbers.again v h.0, frame_again f h.1) refl
event-again (Event.Stayed v f) h = rw (numbers.again v h.0, frame_again f h.1) refl
event-again (Event.Setup p r t d) h = rw (lettered_again 112 p h.0, span_again r h.1, way_again t, owner_again d h.2) refl
event-again (Event.Ready p) h = rw (lettered_again 112 p h) refl
event-again (Event.Paged p) h = rw (lettered_again 112 p h) refl
event-again (Event.Finalize p) h = rw (lettered_again 112 p h) refl
event-again (Event.Take f) h = rw (frame_again f h) refl
event-again (Event.Free f) h = rw (frame_again f h) refl
event-again (Event.Insert m p r d) h = rw (lettered_again 109 m h.0, lettered_again 112 p h.1, span_again r h.2, owner_again d h.3) refl
event-again (Event.Inserted m q t) h = rw (lettered_again 109 m h.0, numbers.again q h.1, done_again t) refl
event-again (Event.Remove m) h = rw (lettered_again 109 m h) refl
event-again (Event.Removed m) h = rw (lettered_again 109 m h) refl
event-again (Event.Fetch m v) h = rw (lettered_again 109 m h.0, numbers.again v h.1) refl
event-again (Event.Add m v) h = rw (lettered_again 109 m h.0, numbers.again v h.1) refl
event-again (Event.Withdraw d) h = rw (lettered_again 100 d h) refl
event-again (Event.Gone d) h = rw (lettered_again 100 d h) refl
event-again (Event.Pass f) h = rw (frame_again f h) refl

pub event-words : (e : Event) → FitsEvent e → list_all is_word (event_words e) ≡ true
event-words (Event.Found m v f w) h = rw (mirror_words m h.0, decimal_words v h.1, frame_words f h.2, write_words w) refl
event-words (Event.Use m r w) h = rw (mirror_words m h.0, decimal_words r.first h.1.0, decimal_words r.count h.1.1, write_words w) refl
event-words (Event.Set m v f right) h = rw (mirror_words m h.0, decimal_words v h.1, frame_words f h.2, right_words right) refl
event-words (Event.Erase m v) h = rw (mirror_words m h.0, decimal_words v h.1) refl
event-words (Event.Start p r why d) h = rw (proc_words p h.0, decimal_words r.first h.1.0, decimal_words r.count h.1.1, reason_words why, owner_words d h.2) refl
event-words (Event.End p r) h = rw (proc_words p h.0, decimal_words r.first h.1.0, decimal_words r.count h.1.1) refl
event-words (Event.Tell m r q) h = rw (mirror_words m h.0, decimal_words r.first h.1.0, decimal_words r.count h.1.1, decimal_words q h.2) refl
event-words (Event.Told m q t) h = rw (mirror_words m h.0, decimal_words q h.1, done_words t) refl
event-words (Event.Begin m q) h = rw (mirror_words m h.0, decimal_words q h.1) refl
event-words (Event.Walk m r q l d) h = rw (mirror_words m h.0, decimal_words r.first h.1.0, decimal_words r.count h.1.1, decimal_words q h.2, lock_words l, owner_words d h.3) refl
event-words (Event.Walked m t) h = rw (mirror_words m h, done_words t) refl
event-words (Event.From v f w) h = rw (decimal_words v h.0, frame_words f h.1, write_words w) refl
event-words (Event.Moved v f) h = rw (decimal_words v h.0, frame_words f h.1) refl
event-words (Event.Stayed v f) h = rw (decimal_words v h.0, frame_words f h.1) refl
event-words (Event.Setup p r t d) h = rw (proc_words p h.0, decimal_words r.first h.1.0, decimal_words r.count h.1.1, way_words t, owner_words d h.2) refl
event-words (Event.Ready p) h = rw (proc_words p h) refl
event-words (Event.Paged p) h = rw (proc_words p h) refl
event-words (Event.Finalize p) h = rw (proc_words p h) refl
event-words (Event.Take f) h = rw (frame_words f h) refl
event-words (Event.Free f) h = rw (frame_words f h) refl
event-words (Event.Insert m p r d) h = rw (mirror_words m h.0, proc_words p h.1, decimal_words r.first h.2.0, decimal_words r.count h.2.1, owner_words d h.3) refl
event-words (Event.Inserted m q t) h = rw (mirror_words m h.0, decimal_words q h.1, done_words t) refl
event-words (Event.Remove m) h = rw (mirror_words m h) refl
event-words (Event.Removed m) h = rw (mirror_words m h) refl
event-words (Event.Fetch m v) h = rw (mirror_words m h.0, decimal_words v h.1) refl
event-words (Event.Add m v) h = rw (mirror_words m h.0, decimal_words v h.1) refl
event-words (Event.Withdraw d) h = rw (device_words d h) refl
event-words (Event.Gone d) h = rw (device_words d h) refl
event-words (Event.Pass f) h = rw (frame_words f h) refl
