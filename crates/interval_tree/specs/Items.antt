-- Intervals in the order of the tree: by first page, then by number.
use Rattle.std.specs.Prelude.{◌≢◌, ℕ, ◌+◌, ◌*◌, ◌<◌, max, min, nat_lt, nat_le, ◌==◌, Bool, true, false, ◌&&◌}
use Rattle.std.specs.Prelude.{if◌then◌else◌, Option, Some, None, List, [], ◌∷◌}
use Rattle.hm_base.specs.Pages.{Pages, overlap}
use Rattle.interval_tree.specs.declared.node.Interval.{Interval}

-- an interval's place in the order: no two intervals have one key, since a number is below 32
abbrev pub key : Interval → ℕ
key x = 32 * x.span.first + x.id

-- the page after the last one of an interval
abbrev pub upto : Interval → ℕ
upto x = x.span.first + x.span.count

-- each key is above k
abbrev pub AllAbove : ℕ → List Interval → Type 0
AllAbove k [] = Unit {0}
AllAbove k (x ∷ xs) = (k < key x) × AllAbove k xs

-- the intervals' keys rise, so that no two are equal
abbrev pub IsSorted : List Interval → Type 0
IsSorted [] = Unit {0}
IsSorted (x ∷ xs) = (x.id < 32) × AllAbove (key x) xs × IsSorted xs

-- no key is k
abbrev pub LacksKey : ℕ → List Interval → Type 0
LacksKey k [] = Unit {0}
LacksKey k (x ∷ xs) = (key x ≢ k) × LacksKey k xs

-- the intervals with one more in its place, and without those of this key
abbrev pub with_interval : Interval → List Interval → List Interval
with_interval x [] = x ∷ []
with_interval x (y ∷ ys) = if nat_lt (key x) (key y) then x ∷ (y ∷ ys) else (y ∷ with_interval x ys)

-- the intervals without those of this key
abbrev pub without_key : ℕ → List Interval → List Interval
without_key k [] = []
without_key k (y ∷ ys) = if key y == k then without_key k ys else (y ∷ without_key k ys)

-- the greatest page that an interval ends at, not itself in the interval
abbrev pub top_of : List Interval → ℕ
top_of [] = 0
top_of (x ∷ xs) = max (upto x) (top_of xs)

-- the lesser of two numbers, if there are any
abbrev pub lesser : Option ℕ → Option ℕ → Option ℕ
lesser None b = b
lesser (Some m) None = Some m
lesser (Some m) (Some n) = Some (min m n)

-- a number, if the test holds
abbrev pub id_if : Bool → ℕ → Option ℕ
id_if true m = Some m
id_if false m = None

-- the least number of the intervals that pass the test
abbrev pub least_id : (Interval → Bool) → List Interval → Option ℕ
least_id test [] = None
least_id test (x ∷ xs) = lesser (id_if (test x) x.id) (least_id test xs)

-- the interval overlaps the span, and its number is not below one
abbrev pub is_wanted : Pages → ℕ → Interval → Bool
is_wanted s from x = nat_le from x.id && overlap x.span s
