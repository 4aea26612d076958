use Rattle.std.proofs.Common.{refl}
use Rattle.hm_history.specs.declared.Kind.{Kind}
use Rattle.hm_holds.specs.Words.{word_of}
use Rattle.hm_held_search.specs.Text.{BeginsWith, word_text}
use Rattle.hm_held_search.proofs.text.words_are_of_entries.Goals as goal

word_first : (k : Kind) → BeginsWith k (word_text (word_of k))
word_first (Kind.Loaded a b c) = record { rest = _; same = refl }
word_first (Kind.Stored a b c) = record { rest = _; same = refl }
word_first (Kind.Failed a b c d) = record { rest = _; same = refl }
word_first (Kind.Mapped a b c) = record { rest = _; same = refl }
word_first (Kind.Unmapped a b) = record { rest = _; same = refl }
word_first (Kind.Protected a b c) = record { rest = _; same = refl }
word_first (Kind.Forked a b) = record { rest = _; same = refl }
word_first (Kind.Exited a) = record { rest = _; same = refl }
word_first (Kind.Attached a b c d e) = record { rest = _; same = refl }
word_first (Kind.Detaching a b) = record { rest = _; same = refl }
word_first (Kind.Detached a) = record { rest = _; same = refl }
word_first (Kind.Refused a) = record { rest = _; same = refl }
word_first (Kind.Migrated a) = record { rest = _; same = refl }
word_first (Kind.Seen a b c) = record { rest = _; same = refl }
word_first (Kind.Evicted a) = record { rest = _; same = refl }
word_first (Kind.Removed a) = record { rest = _; same = refl }
word_first (Kind.Rlock a) = record { rest = _; same = refl }
word_first (Kind.Runlock a) = record { rest = _; same = refl }
word_first (Kind.Wlock a) = record { rest = _; same = refl }
word_first (Kind.Named a b) = record { rest = _; same = refl }
word_first (Kind.Take a) = record { rest = _; same = refl }
word_first (Kind.Drop a) = record { rest = _; same = refl }
word_first (Kind.Place a b c) = record { rest = _; same = refl }
word_first (Kind.Start a b c) = record { rest = _; same = refl }
word_first (Kind.Told a b c) = record { rest = _; same = refl }
word_first (Kind.End a b c) = record { rest = _; same = refl }
word_first (Kind.Begin a b) = record { rest = _; same = refl }
word_first (Kind.Retry a) = record { rest = _; same = refl }
word_first (Kind.Set a b c d e) = record { rest = _; same = refl }
word_first (Kind.Fresh a b) = record { rest = _; same = refl }
word_first (Kind.Copied a b c) = record { rest = _; same = refl }
word_first (Kind.Committed a b) = record { rest = _; same = refl }
word_first (Kind.Kept a b) = record { rest = _; same = refl }
word_first (Kind.Done a) = record { rest = _; same = refl }
word_first (Kind.Withdrawn a) = record { rest = _; same = refl }
word_first (Kind.Excluded a b) = record { rest = _; same = refl }
word_first (Kind.Fetched a b c) = record { rest = _; same = refl }
word_first (Kind.Added a b c d) = record { rest = _; same = refl }

pub returns : goal.returns
returns c = word_first
