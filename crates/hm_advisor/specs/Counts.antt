-- For each attached mirror, the accessed pages of its window, with how often each was accessed.
use Rattle.std.specs.Prelude.{◌≡◌, ℕ, ◌≤◌, ◌<◌, Bool, not, ◌&&◌, ◌==◌, Option, Some, None, List, [], map, filter}
use Rattle.std.specs.Prelude.{length, slice_index_or}
use Rattle.std.specs.List.{flat_map}
use Rattle.hm_history.specs.Memory.After.{after}
use Rattle.hm_history.specs.Memory.Words.{numbers}
use Rattle.hm_history.specs.declared.Who.{Who}
use Rattle.hm_history.specs.declared.Entry.{Entry}
use Rattle.hm_advisor.specs.Accesses.{accesses, count_for, AreSized}
use Rattle.hm_advisor.specs.Windows.{window_of}
use Rattle.hm_advisor.specs.declared.accesses.Accesses.{Accesses}
use Rattle.hm_advisor.specs.declared.counts.Count.{Count}
use Rattle.hm_advisor.specs.declared.counts.Seen.{Seen}
use Rattle.hm_advisor.specs.declared.windows.Window.{Window}

-- how often a page was accessed by its process's CPU and by the mirror's device; `f` says how often
abbrev pub count_at : (Who → ℕ → ℕ) → ℕ → ℕ → ℕ → Count
count_at f m p v = record { mirror = m; page = v; cpu = f (Who.Cpu p) v; dev = f (Who.Mirror m) v }

-- one of them did
abbrev pub is_accessed : Count → Bool
is_accessed c = not ((c.cpu == 0) && (c.dev == 0))

-- the accessed ones of n pages
abbrev pub pages_counted : (Who → ℕ → ℕ) → ℕ → ℕ → ℕ → ℕ → List Count
pages_counted f m p from n = filter is_accessed (map (count_at f m p) (numbers from n))

-- the accessed pages of a mirror's window, while it is attached
abbrev pub window_counts : (Who → ℕ → ℕ) → ℕ → Option Window → List Count
window_counts f m None = []
window_counts f m (Some w) = pages_counted f m w.proc w.span.first w.span.count

-- those of the first n mirrors, in rising number
abbrev pub counts_by : (Who → ℕ → ℕ) → (ℕ → Option Window) → ℕ → List Count
counts_by f ws n = flat_map (λ m. window_counts f m (ws m)) (numbers 0 n)

-- the windows of the mirrors that are attached after a history
abbrev pub windows : List Entry → ℕ → Option Window
windows h m = window_of ((after h).plain.mirrors m)

-- the counts of a history
abbrev pub counts : List Entry → List Count
counts h = counts_by (accesses h) (windows h) 32

-- what was seen of a history
pub record HasSeen (seen : Seen) (h : List Entry) : Type 0 where
  pub sized : AreSized seen.accesses
  pub counted : (x : Who) (v : ℕ) → count_for seen.accesses x v ≡ accesses h x v
  pub mirrors : length seen.windows ≡ 32
  pub attached : (m : ℕ) → m < 32 → slice_index_or seen.windows m None ≡ windows h m

-- neither the process's CPU nor the mirror's device accessed one of these pages
abbrev pub AreUnused : Accesses → ℕ → ℕ → ℕ → ℕ → Type 0
AreUnused a m p from end =
    (v : ℕ) → from ≤ v → v < end → (count_for a (Who.Cpu p) v ≡ 0) × (count_for a (Who.Mirror m) v ≡ 0)

-- a page from there on, at most the end, and neither accessed one before it
pub record IsNextPage (a : Accesses) (m p from end page : ℕ) : Type 0 where
  pub above : from ≤ page
  pub within : page ≤ end
  pub none : AreUnused a m p from page
