-- The words that name the kinds of entries.
use Rattle.std.specs.Prelude.{ℕ, Option, List, [], ◌∷◌, codes}
use Rattle.std.specs.List.{find}
use Rattle.std.specs.Str.{bytes_eq}
use Rattle.hm_history.specs.declared.Kind.{Kind}
use Rattle.hm_report_reading.specs.declared.kind_word.KindWord.{KindWord}

-- the word of a kind, as it stands in a line after the actor
abbrev pub kind_text : KindWord → List ℕ
kind_text KindWord.Loaded = codes "loaded"
kind_text KindWord.Stored = codes "stored"
kind_text KindWord.Failed = codes "failed"
kind_text KindWord.Mapped = codes "mapped"
kind_text KindWord.Unmapped = codes "unmapped"
kind_text KindWord.Protected = codes "protected"
kind_text KindWord.Forked = codes "forked"
kind_text KindWord.Exited = codes "exited"
kind_text KindWord.Attached = codes "attached"
kind_text KindWord.Detaching = codes "detaching"
kind_text KindWord.Detached = codes "detached"
kind_text KindWord.Refused = codes "refused"
kind_text KindWord.Migrated = codes "migrated"
kind_text KindWord.Seen = codes "seen"
kind_text KindWord.Evicted = codes "evicted"
kind_text KindWord.Removed = codes "removed"
kind_text KindWord.Rlock = codes "rlock"
kind_text KindWord.Runlock = codes "runlock"
kind_text KindWord.Wlock = codes "wlock"
kind_text KindWord.Named = codes "named"
kind_text KindWord.Take = codes "take"
kind_text KindWord.Drop = codes "drop"
kind_text KindWord.Place = codes "place"
kind_text KindWord.Start = codes "start"
kind_text KindWord.Told = codes "told"
kind_text KindWord.End = codes "end"
kind_text KindWord.Begin = codes "begin"
kind_text KindWord.Retry = codes "retry"
kind_text KindWord.Set = codes "set"
kind_text KindWord.Fresh = codes "fresh"
kind_text KindWord.Copied = codes "copied"
kind_text KindWord.Committed = codes "committed"
kind_text KindWord.Kept = codes "kept"
kind_text KindWord.Done = codes "done"
kind_text KindWord.Withdrawn = codes "withdrawn"
kind_text KindWord.Excluded = codes "excluded"
kind_text KindWord.Fetched = codes "fetched"
kind_text KindWord.Added = codes "added"

-- every word, in the order in which one is looked for
abbrev pub all_kinds : List KindWord
all_kinds =
    KindWord.Loaded
    ∷ KindWord.Stored
    ∷ KindWord.Failed
    ∷ KindWord.Mapped
    ∷ KindWord.Unmapped
    ∷ KindWord.Protected
    ∷ KindWord.Forked
    ∷ KindWord.Exited
    ∷ KindWord.Attached
    ∷ KindWord.Detaching
    ∷ KindWord.Detached
    ∷ KindWord.Refused
    ∷ KindWord.Migrated
    ∷ KindWord.Seen
    ∷ KindWord.Evicted
    ∷ KindWord.Removed
    ∷ KindWord.Rlock
    ∷ KindWord.Runlock
    ∷ KindWord.Wlock
    ∷ KindWord.Named
    ∷ KindWord.Take
    ∷ KindWord.Drop
    ∷ KindWord.Place
    ∷ KindWord.Start
    ∷ KindWord.Told
    ∷ KindWord.End
    ∷ KindWord.Begin
    ∷ KindWord.Retry
    ∷ KindWord.Set
    ∷ KindWord.Fresh
    ∷ KindWord.Copied
    ∷ KindWord.Committed
    ∷ KindWord.Kept
    ∷ KindWord.Done
    ∷ KindWord.Withdrawn
    ∷ KindWord.Excluded
    ∷ KindWord.Fetched
    ∷ KindWord.Added
    ∷ []

-- the kind that the word names
unfoldable pub kind_named : List ℕ → Option KindWord
kind_named word = find (λ kind. bytes_eq (kind_text kind) word) all_kinds

-- the word of a kind
abbrev pub kind_word : Kind → KindWord
kind_word (Kind.Loaded x a bs) = KindWord.Loaded
kind_word (Kind.Stored x a bs) = KindWord.Stored
kind_word (Kind.Failed x a n why) = KindWord.Failed
kind_word (Kind.Mapped p r w) = KindWord.Mapped
kind_word (Kind.Unmapped p r) = KindWord.Unmapped
kind_word (Kind.Protected p r w) = KindWord.Protected
kind_word (Kind.Forked p c) = KindWord.Forked
kind_word (Kind.Exited p) = KindWord.Exited
kind_word (Kind.Attached m d p r q) = KindWord.Attached
kind_word (Kind.Detaching m q) = KindWord.Detaching
kind_word (Kind.Detached m) = KindWord.Detached
kind_word (Kind.Refused why) = KindWord.Refused
kind_word (Kind.Migrated n) = KindWord.Migrated
kind_word (Kind.Seen m v c) = KindWord.Seen
kind_word (Kind.Evicted n) = KindWord.Evicted
kind_word (Kind.Removed d) = KindWord.Removed
kind_word (Kind.Rlock p) = KindWord.Rlock
kind_word (Kind.Runlock p) = KindWord.Runlock
kind_word (Kind.Wlock p) = KindWord.Wlock
kind_word (Kind.Named p c) = KindWord.Named
kind_word (Kind.Take f) = KindWord.Take
kind_word (Kind.Drop f) = KindWord.Drop
kind_word (Kind.Place p v x) = KindWord.Place
kind_word (Kind.Start p r q) = KindWord.Start
kind_word (Kind.Told m r q) = KindWord.Told
kind_word (Kind.End p r q) = KindWord.End
kind_word (Kind.Begin m q) = KindWord.Begin
kind_word (Kind.Retry m) = KindWord.Retry
kind_word (Kind.Set m v f w from) = KindWord.Set
kind_word (Kind.Fresh p v) = KindWord.Fresh
kind_word (Kind.Copied f g k) = KindWord.Copied
kind_word (Kind.Committed f g) = KindWord.Committed
kind_word (Kind.Kept at why) = KindWord.Kept
kind_word (Kind.Done f) = KindWord.Done
kind_word (Kind.Withdrawn d) = KindWord.Withdrawn
kind_word (Kind.Excluded m v) = KindWord.Excluded
kind_word (Kind.Fetched m a bs) = KindWord.Fetched
kind_word (Kind.Added m a was now) = KindWord.Added
