-- Where a cursor comes to that stops at the end of its span.
use Rattle.std.specs.Prelude.{ℕ, nat_lt, Option, Some, None, if◌then◌else◌}

-- a page, if it lies before an end
abbrev pub page_before : ℕ → Option ℕ → Option ℕ
page_before end None = None
page_before end (Some v) = if nat_lt v end then Some v else None
