-- The lines of holds.
use Rattle.std.specs.Fmt.{decimal}
use Rattle.std.specs.Prelude.{◌≡◌, ℕ, Option, Some, None, List, [], ◌∷◌, ◌++◌, codes, flat_map}
use Rattle.hm_history.specs.declared.Kind.{Kind}
use Rattle.hm_race_top.specs.Text.Text.{states_line}
use Rattle.hm_report.specs.Words.{kind_words}
use Rattle.hm_search.specs.declared.search.End.{End}
use Rattle.hm_holds.specs.Words.{word_of}
use Rattle.hm_holds.specs.declared.holds.Hold.{Hold}
use Rattle.hm_holds.specs.declared.holds.Nth.{Nth}
use Rattle.hm_holds.specs.declared.words.Word.{Word}
use Rattle.hm_held_search.specs.declared.finding.FoundHolds.{FoundHolds}

-- ---- words

-- the word, as an entry of a report begins with it after its position and its actor
abbrev pub word_text : Word → List ℕ
word_text Word.Loaded = codes "loaded"
word_text Word.Stored = codes "stored"
word_text Word.Failed = codes "failed"
word_text Word.Mapped = codes "mapped"
word_text Word.Unmapped = codes "unmapped"
word_text Word.Protected = codes "protected"
word_text Word.Forked = codes "forked"
word_text Word.Exited = codes "exited"
word_text Word.Attached = codes "attached"
word_text Word.Detaching = codes "detaching"
word_text Word.Detached = codes "detached"
word_text Word.Refused = codes "refused"
word_text Word.Migrated = codes "migrated"
word_text Word.Seen = codes "seen"
word_text Word.Evicted = codes "evicted"
word_text Word.Removed = codes "removed"
word_text Word.Rlock = codes "rlock"
word_text Word.Runlock = codes "runlock"
word_text Word.Wlock = codes "wlock"
word_text Word.Named = codes "named"
word_text Word.Take = codes "take"
word_text Word.Drop = codes "drop"
word_text Word.Place = codes "place"
word_text Word.Start = codes "start"
word_text Word.Told = codes "told"
word_text Word.End = codes "end"
word_text Word.Begin = codes "begin"
word_text Word.Retry = codes "retry"
word_text Word.Set = codes "set"
word_text Word.Fresh = codes "fresh"
word_text Word.Copied = codes "copied"
word_text Word.Committed = codes "committed"
word_text Word.Kept = codes "kept"
word_text Word.Done = codes "done"
word_text Word.Withdrawn = codes "withdrawn"
word_text Word.Excluded = codes "excluded"
word_text Word.Fetched = codes "fetched"
word_text Word.Added = codes "added"

-- the first word of an entry of a report, after its position and its actor
pub record BeginsWith (k : Kind) (word : List ℕ) : Type 0 where
  pub rest : List (List ℕ)
  pub same : kind_words k ≡ word ∷ rest

-- each entry begins with its word
abbrev pub WordsAreOfEntries : Type 0
WordsAreOfEntries = (k : Kind) → BeginsWith k (word_text (word_of k))

-- ---- lines

-- the word of an entry, and its number among those with this word
abbrev pub nth_text : Nth → List ℕ
nth_text x = 32 ∷ (word_text x.word ++ (32 ∷ decimal x.number))

-- the entry after which an actor waits; it may wait at first
abbrev pub after_text : Option Nth → List ℕ
after_text None = codes " first"
after_text (Some x) = codes " after" ++ nth_text x

-- the line of a hold
abbrev pub hold_line : Hold → List ℕ
hold_line d =
    codes "hold a"
    ++ (decimal d.actor
    ++ (after_text d.after ++ (codes " until a" ++ (decimal d.other ++ (nth_text d.until ++ 10 ∷ [])))))

-- the lines of holds
abbrev pub hold_lines : List Hold → List ℕ
hold_lines ds = flat_map hold_line ds

-- what a search for holds came to: a line for each of them, and how many states the orders come to that keep them
abbrev pub found_text : FoundHolds → List ℕ
found_text (FoundHolds.Needed holds n) = hold_lines holds.items ++ states_line n End.Whole
found_text (FoundHolds.NotSure turns) = codes "holds none\n"
found_text FoundHolds.Cut = codes "holds cut\n"
