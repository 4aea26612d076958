-- Reading the words of an entry's line. The line is compared with the entry's text afterwards, so that a reader may
-- pass over what it need not know.
use Rattle.std.specs.Prelude.{ℕ, Bool, true, false, Option, Some, None, List, Result, Ok, Err}
use Rattle.hm_history.specs.declared.Entry.{Entry}
use Rattle.hm_history.specs.declared.Kind.{Kind}
use Rattle.hm_script.specs.Gives.{◌>>=◌}
use Rattle.hm_script.specs.Numerals.{number, address}
use Rattle.hm_script.specs.Splitting.{word}
use Rattle.hm_script.specs.declared.reason.Reason.{Reason}
use Rattle.hm_report_reading.specs.KindWords.{kind_named}
use Rattle.hm_report_reading.specs.Words.{byte_at, bytes_at, cause_at, frame_at, kept_at, numbered, page_at, part_at}
use Rattle.hm_report_reading.specs.Words.{place_at, right_at, span_at, table_right_at, target_at, who_at, why_at}
use Rattle.hm_report_reading.specs.declared.kind_word.KindWord.{KindWord}

-- the kinds that tell the bytes of an access
abbrev pub has_bytes : KindWord → Bool
has_bytes KindWord.Loaded = true
has_bytes KindWord.Stored = true
has_bytes KindWord.Fetched = true
has_bytes _ = false

-- the kind that the words from the fourth on tell
unfoldable pub kind_at : KindWord → List (List ℕ) → Result Kind Reason
kind_at KindWord.Loaded ws = do
  x ← who_at (word 3 ws)
  a ← address (word 4 ws)
  Ok (Kind.Loaded x a (bytes_at (word 5 ws)))
kind_at KindWord.Stored ws = do
  x ← who_at (word 3 ws)
  a ← address (word 4 ws)
  Ok (Kind.Stored x a (bytes_at (word 5 ws)))
kind_at KindWord.Failed ws = do
  x ← who_at (word 3 ws)
  a ← address (word 4 ws)
  n ← number (word 5 ws)
  why ← cause_at (word 6 ws)
  Ok (Kind.Failed x a n why)
kind_at KindWord.Mapped ws = do
  p ← numbered 32 (word 3 ws)
  r ← span_at (word 4 ws) (word 5 ws)
  Ok (Kind.Mapped p r (right_at (word 6 ws)))
kind_at KindWord.Unmapped ws = do
  p ← numbered 32 (word 3 ws)
  r ← span_at (word 4 ws) (word 5 ws)
  Ok (Kind.Unmapped p r)
kind_at KindWord.Protected ws = do
  p ← numbered 32 (word 3 ws)
  r ← span_at (word 4 ws) (word 5 ws)
  Ok (Kind.Protected p r (right_at (word 6 ws)))
kind_at KindWord.Forked ws = do
  p ← numbered 32 (word 3 ws)
  c ← numbered 32 (word 4 ws)
  Ok (Kind.Forked p c)
kind_at KindWord.Exited ws = do
  p ← numbered 32 (word 3 ws)
  Ok (Kind.Exited p)
kind_at KindWord.Attached ws = do
  m ← numbered 32 (word 3 ws)
  d ← numbered 4 (word 4 ws)
  p ← numbered 32 (word 5 ws)
  r ← span_at (word 6 ws) (word 7 ws)
  q ← number (word 8 ws)
  Ok (Kind.Attached m d p r q)
kind_at KindWord.Detaching ws = do
  m ← numbered 32 (word 3 ws)
  q ← number (word 4 ws)
  Ok (Kind.Detaching m q)
kind_at KindWord.Detached ws = do
  m ← numbered 32 (word 3 ws)
  Ok (Kind.Detached m)
kind_at KindWord.Refused ws = do
  why ← cause_at (word 3 ws)
  Ok (Kind.Refused why)
kind_at KindWord.Migrated ws = do
  n ← number (word 3 ws)
  Ok (Kind.Migrated n)
kind_at KindWord.Seen ws = do
  m ← numbered 32 (word 3 ws)
  v ← page_at (word 4 ws)
  Ok (Kind.Seen m v (byte_at (word 5 ws)))
kind_at KindWord.Evicted ws = do
  n ← number (word 3 ws)
  Ok (Kind.Evicted n)
kind_at KindWord.Removed ws = do
  d ← numbered 4 (word 3 ws)
  Ok (Kind.Removed d)
kind_at KindWord.Rlock ws = do
  p ← numbered 32 (word 3 ws)
  Ok (Kind.Rlock p)
kind_at KindWord.Runlock ws = do
  p ← numbered 32 (word 3 ws)
  Ok (Kind.Runlock p)
kind_at KindWord.Wlock ws = do
  p ← numbered 32 (word 3 ws)
  Ok (Kind.Wlock p)
kind_at KindWord.Named ws = do
  p ← numbered 32 (word 3 ws)
  c ← numbered 32 (word 4 ws)
  Ok (Kind.Named p c)
kind_at KindWord.Take ws = do
  f ← frame_at (word 3 ws)
  Ok (Kind.Take f)
kind_at KindWord.Drop ws = do
  f ← frame_at (word 3 ws)
  Ok (Kind.Drop f)
kind_at KindWord.Place ws = do
  p ← numbered 32 (word 3 ws)
  v ← page_at (word 4 ws)
  x ← place_at ws
  Ok (Kind.Place p v x)
kind_at KindWord.Start ws = do
  p ← numbered 32 (word 3 ws)
  r ← span_at (word 4 ws) (word 5 ws)
  q ← number (word 6 ws)
  Ok (Kind.Start p r q)
kind_at KindWord.Told ws = do
  m ← numbered 32 (word 3 ws)
  r ← span_at (word 4 ws) (word 5 ws)
  q ← number (word 6 ws)
  Ok (Kind.Told m r q)
kind_at KindWord.End ws = do
  p ← numbered 32 (word 3 ws)
  r ← span_at (word 4 ws) (word 5 ws)
  q ← number (word 6 ws)
  Ok (Kind.End p r q)
kind_at KindWord.Begin ws = do
  m ← numbered 32 (word 3 ws)
  q ← number (word 4 ws)
  Ok (Kind.Begin m q)
kind_at KindWord.Retry ws = do
  m ← numbered 32 (word 3 ws)
  Ok (Kind.Retry m)
kind_at KindWord.Set ws = do
  m ← numbered 32 (word 3 ws)
  v ← page_at (word 4 ws)
  f ← target_at (word 5 ws)
  from ← number (word 7 ws)
  Ok (Kind.Set m v f (table_right_at (word 6 ws)) from)
kind_at KindWord.Fresh ws = do
  p ← numbered 32 (word 3 ws)
  v ← page_at (word 4 ws)
  Ok (Kind.Fresh p v)
kind_at KindWord.Copied ws = do
  f ← frame_at (word 3 ws)
  g ← frame_at (word 4 ws)
  k ← part_at (word 5 ws)
  Ok (Kind.Copied f g k)
kind_at KindWord.Committed ws = do
  f ← frame_at (word 3 ws)
  g ← frame_at (word 4 ws)
  Ok (Kind.Committed f g)
kind_at KindWord.Kept ws = do
  at ← kept_at (word 3 ws)
  why ← why_at ws
  Ok (Kind.Kept at why)
kind_at KindWord.Done ws = do
  f ← frame_at (word 3 ws)
  Ok (Kind.Done f)
kind_at KindWord.Withdrawn ws = do
  d ← numbered 4 (word 3 ws)
  Ok (Kind.Withdrawn d)
kind_at KindWord.Excluded ws = do
  m ← numbered 32 (word 3 ws)
  v ← page_at (word 4 ws)
  Ok (Kind.Excluded m v)
kind_at KindWord.Fetched ws = do
  m ← numbered 32 (word 3 ws)
  a ← address (word 4 ws)
  Ok (Kind.Fetched m a (bytes_at (word 5 ws)))
kind_at KindWord.Added ws = do
  m ← numbered 32 (word 3 ws)
  a ← address (word 4 ws)
  Ok (Kind.Added m a (byte_at (word 5 ws)) (byte_at (word 6 ws)))

-- the kind of a line, if its word is that of a kind
abbrev pub named_kind : Option KindWord → List (List ℕ) → Result Kind Reason
named_kind None ws = Err Reason.Word
named_kind (Some k) ws = kind_at k ws

-- the entry of a line of these words, of which the first is its position
abbrev pub entry_at : List (List ℕ) → Result Entry Reason
entry_at ws = do
  a ← numbered 16 (word 1 ws)
  k ← named_kind (kind_named (word 2 ws)) ws
  Ok (record { actor = a; kind = k })
