-- Reading the words of an event's line. The line is compared with the event's text afterwards, so that a reader may
-- pass over what it need not know.
use Rattle.std.specs.Prelude.{ℕ, List, Result, Ok}
use Rattle.hm_protocol.specs.declared.events.Event.{Event}
use Rattle.hm_script.specs.Gives.{◌>>=◌}
use Rattle.hm_script.specs.Numerals.{number}
use Rattle.hm_script.specs.declared.reason.Reason.{Reason}
use Rattle.hm_trace.specs.Words.{done_at, field, frame_at, lettered, locked_at, owner_at, reason_at, right_at}
use Rattle.hm_trace.specs.Words.{span_at, to_device_at, writes_at}
use Rattle.hm_trace.specs.declared.event_word.EventWord.{EventWord}

-- the event that the words after its name tell
unfoldable pub event_at : EventWord → List (List ℕ) → Result Event Reason
event_at EventWord.Found ws = do
  m ← lettered (field 0 ws)
  v ← number (field 1 ws)
  f ← frame_at (field 2 ws)
  Ok (Event.Found m v f (writes_at (field 3 ws)))
event_at EventWord.Use ws = do
  m ← lettered (field 0 ws)
  r ← span_at (field 1 ws) (field 2 ws)
  Ok (Event.Use m r (writes_at (field 3 ws)))
event_at EventWord.Set ws = do
  m ← lettered (field 0 ws)
  v ← number (field 1 ws)
  f ← frame_at (field 2 ws)
  Ok (Event.Set m v f (right_at (field 3 ws)))
event_at EventWord.Erase ws = do
  m ← lettered (field 0 ws)
  v ← number (field 1 ws)
  Ok (Event.Erase m v)
event_at EventWord.Start ws = do
  p ← lettered (field 0 ws)
  r ← span_at (field 1 ws) (field 2 ws)
  why ← reason_at (field 3 ws)
  d ← owner_at (field 4 ws)
  Ok (Event.Start p r why d)
event_at EventWord.End ws = do
  p ← lettered (field 0 ws)
  r ← span_at (field 1 ws) (field 2 ws)
  Ok (Event.End p r)
event_at EventWord.Tell ws = do
  m ← lettered (field 0 ws)
  r ← span_at (field 1 ws) (field 2 ws)
  q ← number (field 3 ws)
  Ok (Event.Tell m r q)
event_at EventWord.Told ws = do
  m ← lettered (field 0 ws)
  q ← number (field 1 ws)
  Ok (Event.Told m q (done_at (field 2 ws)))
event_at EventWord.Begin ws = do
  m ← lettered (field 0 ws)
  q ← number (field 1 ws)
  Ok (Event.Begin m q)
event_at EventWord.Walk ws = do
  m ← lettered (field 0 ws)
  r ← span_at (field 1 ws) (field 2 ws)
  q ← number (field 3 ws)
  d ← owner_at (field 5 ws)
  Ok (Event.Walk m r q (locked_at (field 4 ws)) d)
event_at EventWord.Walked ws = do
  m ← lettered (field 0 ws)
  Ok (Event.Walked m (done_at (field 1 ws)))
event_at EventWord.From ws = do
  v ← number (field 0 ws)
  f ← frame_at (field 1 ws)
  Ok (Event.From v f (writes_at (field 2 ws)))
event_at EventWord.Moved ws = do
  v ← number (field 0 ws)
  f ← frame_at (field 1 ws)
  Ok (Event.Moved v f)
event_at EventWord.Stayed ws = do
  v ← number (field 0 ws)
  f ← frame_at (field 1 ws)
  Ok (Event.Stayed v f)
event_at EventWord.Setup ws = do
  p ← lettered (field 0 ws)
  r ← span_at (field 1 ws) (field 2 ws)
  d ← owner_at (field 4 ws)
  Ok (Event.Setup p r (to_device_at (field 3 ws)) d)
event_at EventWord.Ready ws = do
  p ← lettered (field 0 ws)
  Ok (Event.Ready p)
event_at EventWord.Paged ws = do
  p ← lettered (field 0 ws)
  Ok (Event.Paged p)
event_at EventWord.Finalize ws = do
  p ← lettered (field 0 ws)
  Ok (Event.Finalize p)
event_at EventWord.Take ws = do
  f ← frame_at (field 0 ws)
  Ok (Event.Take f)
event_at EventWord.Free ws = do
  f ← frame_at (field 0 ws)
  Ok (Event.Free f)
event_at EventWord.Insert ws = do
  m ← lettered (field 0 ws)
  p ← lettered (field 1 ws)
  r ← span_at (field 2 ws) (field 3 ws)
  d ← owner_at (field 4 ws)
  Ok (Event.Insert m p r d)
event_at EventWord.Inserted ws = do
  m ← lettered (field 0 ws)
  q ← number (field 1 ws)
  Ok (Event.Inserted m q (done_at (field 2 ws)))
event_at EventWord.Remove ws = do
  m ← lettered (field 0 ws)
  Ok (Event.Remove m)
event_at EventWord.Removed ws = do
  m ← lettered (field 0 ws)
  Ok (Event.Removed m)
event_at EventWord.Fetch ws = do
  m ← lettered (field 0 ws)
  v ← number (field 1 ws)
  Ok (Event.Fetch m v)
event_at EventWord.Add ws = do
  m ← lettered (field 0 ws)
  v ← number (field 1 ws)
  Ok (Event.Add m v)
event_at EventWord.Withdraw ws = do
  d ← lettered (field 0 ws)
  Ok (Event.Withdraw d)
event_at EventWord.Gone ws = do
  d ← lettered (field 0 ws)
  Ok (Event.Gone d)
event_at EventWord.Pass ws = do
  f ← frame_at (field 0 ws)
  Ok (Event.Pass f)
