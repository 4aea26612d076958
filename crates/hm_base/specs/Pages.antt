-- Pages in a row.
use Rattle.std.specs.Prelude.{ℕ, ◌+◌, ◌^◌, ◌≤◌, Bool, ◌&&◌, nat_lt, nat_le}

-- `count` pages from the first on
pub record Pages : Type 0 where
  pub first : ℕ
  pub count : ℕ

-- a span has a page, and none above the last
pub record IsSpan (s : Pages) : Type 0 where
  pub some : 1 ≤ s.count
  pub ends : s.first + s.count ≤ 2 ^ 36

-- the span of `count` pages from this one on
abbrev pub span : ℕ → ℕ → Pages
span first count = record { first = first; count = count }

-- the span of one page
abbrev pub one_page : ℕ → Pages
one_page v = record { first = v; count = 1 }

-- the span of all pages
abbrev pub all_pages : Pages
all_pages = record { first = 0; count = 2 ^ 36 }

-- the page is one of the span's
abbrev pub covers : Pages → ℕ → Bool
covers s v = nat_le s.first v && nat_lt v (s.first + s.count)

-- some page is in both
abbrev pub overlap : Pages → Pages → Bool
overlap s r = nat_lt s.first (r.first + r.count) && nat_lt r.first (s.first + s.count)

-- each page of the first is in the second
abbrev pub lies_in : Pages → Pages → Bool
lies_in s r = nat_le r.first s.first && nat_le (s.first + s.count) (r.first + r.count)
