-- The spans that are erased late, as contracts see them.
use Rattle.std.specs.Prelude.{ℕ, Option, Some, None, List, [], map, slice_get}
use Rattle.hm_base.specs.Pages.{Pages}
use Rattle.hm_flaw_states.specs.declared.late_spans.LateSpan.{LateSpan}
use Rattle.hm_flaw_states.specs.declared.late_spans.ActorSpans.{ActorSpans}

-- a mirror with its span
abbrev pub pair_of : LateSpan → ℕ × Pages
pair_of x = (x.mirror, x.span)

-- the spans of an actor that may not be kept
abbrev pub spans_of : Option ActorSpans → List (ℕ × Pages)
spans_of None = []
spans_of (Some x) = map pair_of x.spans.items

-- the spans of an actor
abbrev pub late_in : List ActorSpans → ℕ → List (ℕ × Pages)
late_in xs a = spans_of (slice_get xs a)
