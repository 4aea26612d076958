-- The lines of the rows, and of the findings.
use Rattle.std.specs.Prelude.{ℕ, zero, suc, Bool, true, false, nat_le, if◌then◌else◌, Some, None, List, []}
use Rattle.std.specs.Prelude.{◌++◌, length, take, slice_get}
use Rattle.hm_base.specs.Program.{Program}
use Rattle.hm_history.specs.declared.Kind.{Kind}
use Rattle.hm_history.specs.declared.Entry.{Entry}
use Rattle.hm_report.specs.Report.{entry_line}
use Rattle.hm_view.specs.Standing.{standing_line}
use Rattle.hm_view.specs.Changes.{entry_change_lines}

-- how each actor stands before an entry, if the row is shown
abbrev pub stands_if : Bool → Program → List Entry → List ℕ
stands_if shown c h = if shown then standing_line c h else []

-- the row of an entry after a history
abbrev pub row : Program → List Entry → Bool → Entry → List ℕ
row c h shown e = stands_if shown c h ++ (entry_line (length h) e ++ entry_change_lines c h e)

-- the row at a position; those before `from` are not shown
abbrev pub row_at : Program → List Entry → ℕ → ℕ → List ℕ
row_at c h from i = elim (slice_get h i) [ None ↦ [] | Some e ↦ row c (take i h) (nat_le from i) e ]

-- the rows before a position
abbrev pub rows : Program → List Entry → ℕ → ℕ → List ℕ
rows c h from zero = []
rows c h from (suc i) = rows c h from i ++ row_at c h from i

-- what stands at the head
abbrev pub is_finding : Kind → Bool
is_finding (Kind.Failed x a n why) = true
is_finding (Kind.Refused why) = true
is_finding (Kind.Retry m) = true
is_finding (Kind.Kept at why) = true
is_finding (Kind.Migrated n) = true
is_finding (Kind.Evicted n) = true
is_finding k = false

-- the line of an entry, if it stands at the head
abbrev pub finding : ℕ → Entry → List ℕ
finding i e = if is_finding e.kind then entry_line i e else []

-- the same of the entry at a position, if there is one
abbrev pub finding_at : List Entry → ℕ → List ℕ
finding_at h i = elim (slice_get h i) [ None ↦ [] | Some e ↦ finding i e ]

-- the findings before a position
abbrev pub findings : List Entry → ℕ → List ℕ
findings h zero = []
findings h (suc i) = findings h i ++ finding_at h i
