-- The summary of a generated script's history: ten lines of a word and a number.
use Rattle.std.specs.Prelude.{ℕ, Bool, true, false, not, ◌==◌, List, [], ◌∷◌, ◌++◌, length, codes, count_by, sum_by}
use Rattle.std.specs.Fmt.{decimal}
use Rattle.hm_base.specs.Program.{Program}
use Rattle.hm_history.specs.Memory.Words.{numbers}
use Rattle.hm_history.specs.Kernel.Going.{ops_of}
use Rattle.hm_history.specs.declared.Kind.{Kind}
use Rattle.hm_history.specs.declared.Entry.{Entry}
use Rattle.hm_script.specs.Spelling.{line}
use Rattle.hm_report.specs.Report.{first_unended}
use Rattle.hm_report.specs.declared.totals.Topic.{Topic}
use Rattle.hm_report.specs.declared.totals.Amount.{Amount}

-- the entry is one of that topic
abbrev pub is_of : Topic → Kind → Bool
is_of Topic.Loaded (Kind.Loaded x a bs) = true
is_of Topic.Stored (Kind.Stored x a bs) = true
is_of Topic.Failed (Kind.Failed x a n c) = true
is_of Topic.Refused (Kind.Refused n) = true
is_of Topic.Retry (Kind.Retry m) = true
is_of _ _ = false

-- how many entries of the history are of the topic
abbrev pub count_of : Topic → List Entry → ℕ
count_of topic h = count_by (λ e. is_of topic e.kind) h

-- the number that the entry tells
abbrev pub amount_in : Amount → Kind → ℕ
amount_in Amount.Migrated (Kind.Migrated n) = n
amount_in Amount.Evicted (Kind.Evicted n) = n
amount_in _ _ = 0

-- the sum of the numbers that the history's entries tell of it
abbrev pub amount_of : Amount → List Entry → ℕ
amount_of amount h = sum_by (λ e. amount_in amount e.kind) h

-- how many of the first actors have an operation that has not ended
abbrev pub unfinished_count : Program → (ℕ → ℕ) → ℕ → ℕ
unfinished_count c ended actors = count_by (λ a. not (ended a == length (ops_of c a))) (numbers 0 actors)

-- a word and its number
abbrev pub summary_line : List ℕ → ℕ → List ℕ
summary_line word n = line (word ∷ decimal n ∷ [])

-- the first four lines of numbers: what accesses and refusals came to
abbrev pub answer_lines : List Entry → List ℕ
answer_lines h = summary_line (codes "loaded") (count_of Topic.Loaded h)
    ++ (summary_line (codes "stored") (count_of Topic.Stored h)
    ++ (summary_line (codes "failed") (count_of Topic.Failed h)
    ++ summary_line (codes "refused") (count_of Topic.Refused h)))

-- the lines about migrations, evictions and look-ups that were repeated
abbrev pub move_lines : List Entry → List ℕ
move_lines h = summary_line (codes "migrated") (amount_of Amount.Migrated h)
    ++ (summary_line (codes "evicted") (amount_of Amount.Evicted h)
    ++ summary_line (codes "retry") (count_of Topic.Retry h))

-- the summary, if this gives how many operations of each actor have ended
abbrev pub summary_by : ℕ → Program → List Entry → (ℕ → ℕ) → List ℕ
summary_by n c h ended = summary_line (codes "trial") n
    ++ (summary_line (codes "entries") (length h)
    ++ (answer_lines h
    ++ (move_lines h
    ++ summary_line (codes "unfinished") (unfinished_count c ended (length c.actors)))))

-- the summary of the script that was drawn from a number, and of its history
abbrev pub summary : ℕ → Program → List Entry → List ℕ
summary n c h = summary_by n c h (first_unended c h)
