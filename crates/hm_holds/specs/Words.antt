-- The words of entries.
use Rattle.std.specs.Prelude.{ℕ, ◌==◌, Bool}
use Rattle.hm_history.specs.declared.Kind.{Kind}
use Rattle.hm_holds.specs.declared.words.Word.{Word}

-- the word of an entry of this kind
abbrev pub word_of : Kind → Word
word_of (Kind.Loaded a b c) = Word.Loaded
word_of (Kind.Stored a b c) = Word.Stored
word_of (Kind.Failed a b c d) = Word.Failed
word_of (Kind.Mapped a b c) = Word.Mapped
word_of (Kind.Unmapped a b) = Word.Unmapped
word_of (Kind.Protected a b c) = Word.Protected
word_of (Kind.Forked a b) = Word.Forked
word_of (Kind.Exited a) = Word.Exited
word_of (Kind.Attached a b c d e) = Word.Attached
word_of (Kind.Detaching a b) = Word.Detaching
word_of (Kind.Detached a) = Word.Detached
word_of (Kind.Refused a) = Word.Refused
word_of (Kind.Migrated a) = Word.Migrated
word_of (Kind.Seen a b c) = Word.Seen
word_of (Kind.Evicted a) = Word.Evicted
word_of (Kind.Removed a) = Word.Removed
word_of (Kind.Rlock a) = Word.Rlock
word_of (Kind.Runlock a) = Word.Runlock
word_of (Kind.Wlock a) = Word.Wlock
word_of (Kind.Named a b) = Word.Named
word_of (Kind.Take a) = Word.Take
word_of (Kind.Drop a) = Word.Drop
word_of (Kind.Place a b c) = Word.Place
word_of (Kind.Start a b c) = Word.Start
word_of (Kind.Told a b c) = Word.Told
word_of (Kind.End a b c) = Word.End
word_of (Kind.Begin a b) = Word.Begin
word_of (Kind.Retry a) = Word.Retry
word_of (Kind.Set a b c d e) = Word.Set
word_of (Kind.Fresh a b) = Word.Fresh
word_of (Kind.Copied a b c) = Word.Copied
word_of (Kind.Committed a b) = Word.Committed
word_of (Kind.Kept a b) = Word.Kept
word_of (Kind.Done a) = Word.Done
word_of (Kind.Withdrawn a) = Word.Withdrawn
word_of (Kind.Excluded a b) = Word.Excluded
word_of (Kind.Fetched a b c) = Word.Fetched
word_of (Kind.Added a b c d) = Word.Added

-- a number for each word, by which words are compared
abbrev pub word_number : Word → ℕ
word_number Word.Loaded = 0
word_number Word.Stored = 1
word_number Word.Failed = 2
word_number Word.Mapped = 3
word_number Word.Unmapped = 4
word_number Word.Protected = 5
word_number Word.Forked = 6
word_number Word.Exited = 7
word_number Word.Attached = 8
word_number Word.Detaching = 9
word_number Word.Detached = 10
word_number Word.Refused = 11
word_number Word.Migrated = 12
word_number Word.Seen = 13
word_number Word.Evicted = 14
word_number Word.Removed = 15
word_number Word.Rlock = 16
word_number Word.Runlock = 17
word_number Word.Wlock = 18
word_number Word.Named = 19
word_number Word.Take = 20
word_number Word.Drop = 21
word_number Word.Place = 22
word_number Word.Start = 23
word_number Word.Told = 24
word_number Word.End = 25
word_number Word.Begin = 26
word_number Word.Retry = 27
word_number Word.Set = 28
word_number Word.Fresh = 29
word_number Word.Copied = 30
word_number Word.Committed = 31
word_number Word.Kept = 32
word_number Word.Done = 33
word_number Word.Withdrawn = 34
word_number Word.Excluded = 35
word_number Word.Fetched = 36
word_number Word.Added = 37

-- the two are the same
abbrev pub same_word : Word → Word → Bool
same_word v w = word_number v == word_number w
