-- Which processes are there, their areas, and who has their mmap locks: by number, as lists.
use Rattle.std.specs.Prelude.{◌≡◌, ℕ, ◌<◌, Bool, true, false, if◌then◌else◌, Option, Some, None, List, [], length}
use Rattle.std.specs.Prelude.{replicate, slice_set, slice_index_or}
use Rattle.hm_base.specs.Areas.{without, with_rights, with_area}
use Rattle.hm_base.specs.declared.area.Area.{Area}
use Rattle.hm_base.specs.declared.ops.Op.{Op}
use Rattle.hm_history.specs.Memory.Plain.{Plain, plain_start, area_refusal}
use Rattle.hm_history.specs.Memory.Locks.{Locks, locks_start, releases}
use Rattle.hm_history.specs.declared.locks.MapLock.{MapLock}
use Rattle.hm_history.specs.declared.Kind.{Kind}

-- by number: which processes are there, which were named, and their areas; and each actor's lock
pub record SpacesValue : Type 0 where
  pub there : List Bool
  pub named : List Bool
  pub areas : List (List Area)
  pub map_locks : List (Option MapLock)

-- process 0 is there, with nothing mapped
abbrev pub spaces_start : SpacesValue
spaces_start = record {
  there = slice_set (replicate 32 false) 0 true;
  named = replicate 32 false;
  areas = replicate 32 [];
  map_locks = replicate 16 None;
}

-- it is what these functions give below 32 processes and 16 actors
pub record SpacesShown (there named : ℕ → Bool) (areas : ℕ → List Area) (map : ℕ → Option MapLock)
    (x : SpacesValue) : Type 0 where
  pub there_len : length x.there ≡ 32
  pub named_len : length x.named ≡ 32
  pub areas_len : length x.areas ≡ 32
  pub map_len : length x.map_locks ≡ 16
  pub there_at : (p : ℕ) → p < 32 → slice_index_or x.there p false ≡ there p
  pub named_at : (p : ℕ) → p < 32 → slice_index_or x.named p false ≡ named p
  pub areas_at : (p : ℕ) → p < 32 → slice_index_or x.areas p [] ≡ areas p
  pub map_at : (a : ℕ) → a < 16 → slice_index_or x.map_locks a None ≡ map a

-- the plain state and the locks that it shows, for the definitions that read no more of them
abbrev pub plain_of : SpacesValue → Plain
plain_of x = record plain_start {
  there = λ p. slice_index_or x.there p false;
  named = λ p. slice_index_or x.named p false;
  areas = λ p. slice_index_or x.areas p [];
}

-- the locks, for definitions that read no more of them
abbrev pub locks_of : SpacesValue → Locks
locks_of x = record locks_start { map = λ a. slice_index_or x.map_locks a None }

-- ---- each part after an entry

-- which processes are there after an entry
abbrev pub there_next : Kind → List Bool → List Bool
there_next (Kind.Forked p c) xs = slice_set xs c true
there_next (Kind.Exited p) xs = slice_set xs p false
there_next k xs = xs

-- the numbers that were given to forks after an entry
abbrev pub named_next : Kind → List Bool → List Bool
named_next (Kind.Named p c) xs = slice_set xs c true
named_next k xs = xs

-- the areas of all processes after an entry
abbrev pub areas_next : Kind → List (List Area) → List (List Area)
areas_next (Kind.Mapped p r w) xs =
    slice_set xs p (with_area (record { span = r; rights = w }) (slice_index_or xs p []))
areas_next (Kind.Unmapped p r) xs = slice_set xs p (without r (slice_index_or xs p []))
areas_next (Kind.Protected p r w) xs = slice_set xs p (with_rights r w (slice_index_or xs p []))
areas_next (Kind.Forked p c) xs = slice_set xs c (slice_index_or xs p [])
areas_next (Kind.Exited p) xs = slice_set xs p []
areas_next k xs = xs

-- the mmap locks after an actor's entry
abbrev pub map_locks_next : ℕ → Kind → List (Option MapLock) → List (Option MapLock)
map_locks_next a (Kind.Rlock p) xs = slice_set xs a (Some (record { proc = p; writes = false }))
map_locks_next a (Kind.Wlock p) xs = slice_set xs a (Some (record { proc = p; writes = true }))
map_locks_next a k xs = if releases k then slice_set xs a None else xs

-- the whole after an actor's entry
abbrev pub spaces_next : ℕ → Kind → SpacesValue → SpacesValue
spaces_next a k x = record {
  there = there_next k x.there;
  named = named_next k x.named;
  areas = areas_next k x.areas;
  map_locks = map_locks_next a k x.map_locks;
}

-- what a step asks: a change of areas is not refused
abbrev pub SpacesFit : Plain → Kind → Type 0
SpacesFit s (Kind.Mapped p r w) = p < 32 → area_refusal s (Op.Map p r w) ≡ None
SpacesFit s (Kind.Unmapped p r) = p < 32 → area_refusal s (Op.Unmap p r) ≡ None
SpacesFit s (Kind.Protected p r w) = p < 32 → area_refusal s (Op.Protect p r w) ≡ None
SpacesFit s k = Unit {0}

-- the parent of a fork is one of the 32 processes
abbrev pub HasParent : Kind → Type 0
HasParent (Kind.Forked p c) = p < 32
HasParent k = Unit {0}
