-- The sources of all bytes of all processes, as they are kept.
use Rattle.std.specs.Prelude.{◌≡◌, ◌≢◌, ℕ, ◌<◌, ◌≤◌, ◌^◌, ◌&&◌, ◌==◌, if◌then◌else◌, Option, Some, None, List, length}
use Rattle.std.specs.Prelude.{slice_get, slice_index_or, unwrap_or}
use Rattle.hm_history.specs.Memory.Words.{with_at}
use Rattle.hm_history.specs.Memory.Plain.{owned}
use Rattle.hm_history.specs.declared.Who.{Who}
use Rattle.hm_history.specs.declared.Kind.{Kind}
use Rattle.hm_why.specs.Sources.{is_among, process_of, effect, source_by}
use Rattle.hm_why.specs.Changes.{entry_for}
use Rattle.hm_why.specs.declared.changes.Changes.{Changes}
use Rattle.hm_why.specs.declared.writers.Writers.{Writers}

-- the process of a mirror
abbrev pub owner_in : Writers → ℕ → Option ℕ
owner_in w m = slice_index_or w.owners m None

-- the entry that stands for an address, if there are changes
abbrev pub entry_among : ℕ → Option Changes → Option ℕ
entry_among b None = None
entry_among b (Some t) = entry_for t b

-- the changes at a place, if there is one
abbrev pub changes_at : List Changes → Option ℕ → Option Changes
changes_at xs None = None
changes_at xs (Some k) = slice_get xs k

-- the source of a byte of a process
abbrev pub source_in : Writers → ℕ → ℕ → Option ℕ
source_in w q b = entry_among b (changes_at w.changes.items (slice_get w.slots q))

-- there are changes for each process, and a place for each mirror's process
pub record IsSized (w : Writers) : Type 0 where
  pub mirrors : length w.owners ≡ 32
  pub processes : length w.slots ≡ 32
  pub places : (q k : ℕ) → slice_get w.slots q ≡ Some k → k < length w.changes.items

-- no other process has its changes where this one has them
abbrev pub IsAlone : List ℕ → ℕ → Type 0
IsAlone slots p = (q k : ℕ) → slice_get slots p ≡ Some k → slice_get slots q ≡ Some k → q ≡ p

-- no process has its changes there
abbrev pub IsFree : List ℕ → ℕ → Type 0
IsFree slots k = (q : ℕ) → slice_get slots q ≢ Some k

-- these changes stand at a place, and the others where they did
pub record IsPut (before after : List Changes) (place : ℕ) (new : Changes) : Type 0 where
  pub here : slice_get after place ≡ Some new
  pub others : (k : ℕ) → k < length before → k ≢ place → slice_get after k ≡ slice_get before k
  pub longer : length before ≤ length after
  pub holds : place < length after

-- the process has its changes alone, and no source is another
pub record IsOwn (before after : Writers) (proc : ℕ) : Type 0 where
  pub sized : IsSized after
  pub alone : IsAlone after.slots proc
  pub owners : (m : ℕ) → owner_in after m ≡ owner_in before m
  pub sources : (q b : ℕ) → source_in after q b ≡ source_in before q b

-- nothing was written, and no mirror was attached
pub record IsFresh (w : Writers) : Type 0 where
  pub owners : (m : ℕ) → owner_in w m ≡ None
  pub sources : (q b : ℕ) → source_in w q b ≡ None

-- the processes of mirrors after an entry
abbrev pub owners_next : Kind → (ℕ → Option ℕ) → ℕ → Option ℕ
owners_next (Kind.Attached m d p r q) own = with_at own m (Some p)
owners_next k own = own

-- some bytes of a process were written by this entry, and no others
pub record IsWritten (before after : Writers) (proc : Option ℕ) (addr len at : ℕ) : Type 0 where
  pub sized : IsSized after
  pub owners : (m : ℕ) → owner_in after m ≡ owner_in before m
  pub sources : (q b : ℕ) → b < 2 ^ 48 → source_in after q b
      ≡ (if owned proc (λ p. p == q) && is_among addr len b then Some at else source_in before q b)

-- the child has the sources of its parent
pub record IsCopied (before after : Writers) (parent child : ℕ) : Type 0 where
  pub sized : IsSized after
  pub owners : (m : ℕ) → owner_in after m ≡ owner_in before m
  pub sources : (q b : ℕ) → source_in after q b ≡ source_in before (if child == q then parent else q) b

-- the entry at this position was noted
pub record IsNoted (before after : Writers) (at : ℕ) (k : Kind) : Type 0 where
  pub sized : IsSized after
  pub owners : (m : ℕ) → owner_in after m ≡ owners_next k (owner_in before) m
  pub sources : (q b : ℕ) → b < 2 ^ 48
      → source_in after q b ≡ source_by (effect (owner_in before) k q b) at (source_in before) q b

-- the process of an access; 0 for a mirror that was never attached
abbrev pub process_in : Writers → Who → ℕ
process_in w x = unwrap_or (process_of (owner_in w) x) 0
