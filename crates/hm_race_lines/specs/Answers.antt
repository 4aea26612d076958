-- The lines of an outcome's answers: as the entries' lines in a report, without their positions.
use Rattle.std.specs.Prelude.{ℕ, ◌+◌, List, [], ◌∷◌, ◌++◌}
use Rattle.std.specs.List.{flat_map}
use Rattle.hm_history.specs.declared.Kind.{Kind}
use Rattle.hm_report.specs.Line.{spaced}
use Rattle.hm_report.specs.Words.{actor_text, interval_words, head_words, tail_text}

-- the words of an answer, but for bytes that were read or written; of an `attached` its sequence is left out. No
-- outcome has entries of other kinds
abbrev pub answer_words : Kind → List (List ℕ)
answer_words (Kind.Loaded x a bs) = head_words (Kind.Loaded x a bs)
answer_words (Kind.Stored x a bs) = head_words (Kind.Stored x a bs)
answer_words (Kind.Failed x a n why) = head_words (Kind.Failed x a n why)
answer_words (Kind.Mapped p r w) = head_words (Kind.Mapped p r w)
answer_words (Kind.Unmapped p r) = head_words (Kind.Unmapped p r)
answer_words (Kind.Protected p r w) = head_words (Kind.Protected p r w)
answer_words (Kind.Forked p c) = head_words (Kind.Forked p c)
answer_words (Kind.Exited p) = head_words (Kind.Exited p)
answer_words (Kind.Attached m d p r q) = interval_words m d p r
answer_words (Kind.Detached m) = head_words (Kind.Detached m)
answer_words (Kind.Refused why) = head_words (Kind.Refused why)
answer_words (Kind.Migrated n) = head_words (Kind.Migrated n)
answer_words (Kind.Seen m v c) = head_words (Kind.Seen m v c)
answer_words (Kind.Evicted n) = head_words (Kind.Evicted n)
answer_words (Kind.Removed d) = head_words (Kind.Removed d)
answer_words (Kind.Excluded m v) = head_words (Kind.Excluded m v)
answer_words (Kind.Added m at was now) = head_words (Kind.Added m at was now)
answer_words _ = []

-- the text of an answer after its actor
abbrev pub answer_text : Kind → List ℕ
answer_text k = spaced (answer_words k) ++ tail_text k

-- the line of an actor's answer
abbrev pub answer_line : ℕ → Kind → List ℕ
answer_line a k = actor_text a ++ (spaced (answer_words k) ++ (tail_text k ++ 10 ∷ []))

-- those of all its answers
abbrev pub actor_lines : ℕ → List Kind → List ℕ
actor_lines a ks = flat_map (answer_line a) ks

-- those of the actors from one on
abbrev pub lines_from : ℕ → List (List Kind) → List ℕ
lines_from a [] = []
lines_from a (ks ∷ rest) = actor_lines a ks ++ lines_from (a + 1) rest

-- those of an outcome
abbrev pub answer_lines : List (List Kind) → List ℕ
answer_lines xs = lines_from 0 xs
