-- The pages that were placed, as contracts see them.
use Rattle.std.specs.Prelude.{ℕ, Option, Some, None, List, map}
use Rattle.hm_history.specs.Memory.Places.{places_start, places_next}
use Rattle.hm_history.specs.declared.Kind.{Kind}
use Rattle.hm_flaw_states.specs.declared.placed.PlacedPage.{PlacedPage}

-- a page with its process
abbrev pub page_in : PlacedPage → ℕ × ℕ
page_in x = (x.proc, x.page)

-- the pages in their order
abbrev pub pages_in : List PlacedPage → List (ℕ × ℕ)
pages_in xs = map page_in xs

-- a page that may not be there
abbrev pub some_page : Option PlacedPage → Option (ℕ × ℕ)
some_page None = None
some_page (Some x) = Some (page_in x)

-- the pages after an entry, for which the other parts do not count
abbrev pub placed_next : List (ℕ × ℕ) → Kind → List (ℕ × ℕ)
placed_next xs k = (places_next (record places_start { placed = xs }) k).placed
