-- The spans that mirrors were told of, and which told a page last.
use Rattle.std.specs.Prelude.{ℕ, ◌+◌, Bool, not, ◌&&◌, ◌==◌, nat_le, if◌then◌else◌, Option, Some, None, List, [], ◌∷◌}
use Rattle.std.specs.List.{filter}
use Rattle.hm_base.specs.Pages.{Pages, covers}
use Rattle.hm_flaw_parts.specs.declared.told_spans.ToldSpan.{ToldSpan}

-- each page of the one span is a page of the other
abbrev pub is_within : Pages → Pages → Bool
is_within r s = nat_le s.first r.first && nat_le (r.first + r.count) (s.first + s.count)

-- the mirror of x was told of all its pages by n
abbrev pub is_covered : ToldSpan → ToldSpan → Bool
is_covered n x = (x.mirror == n.mirror) && is_within x.span n.span

-- the spans after one more: those that it covers are left out
abbrev pub with_told : ToldSpan → List ToldSpan → List ToldSpan
with_told n xs = n ∷ filter (λ x. not (is_covered n x)) xs

-- the position of the entry that told a page of a mirror last
abbrev pub told_in : List ToldSpan → ℕ → ℕ → Option ℕ
told_in [] m v = None
told_in (x ∷ xs) m v = if (x.mirror == m) && covers x.span v then Some x.at else told_in xs m v
