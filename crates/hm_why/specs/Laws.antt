-- The law of sources: each byte of a load came from an entry that gave it the value that was read.
use Rattle.std.specs.Prelude.{◌≡◌, ℕ, ◌+◌, ◌<◌, ◌≤◌, ◌^◌, Some, List, length, slice_index, take}
use Rattle.hm_base.specs.Program.{Program, IsScript}
use Rattle.hm_history.specs.Memory.Words.{page_of}
use Rattle.hm_history.specs.Memory.Plain.{proc_of}
use Rattle.hm_history.specs.Memory.After.{after}
use Rattle.hm_history.specs.Kernel.Legal.{Legal}
use Rattle.hm_history.specs.declared.Who.{Who}
use Rattle.hm_history.specs.declared.Kind.{Kind}
use Rattle.hm_history.specs.declared.Entry.{Entry}
use Rattle.hm_why.specs.Sources.{kind_at, ComesFrom}

-- the history is legal for some script
pub record IsLegal (h : List Entry) : Type 0 where
  pub script : Program
  pub is_script : IsScript script
  pub legal : Legal script h

-- the entry at position i is this load
abbrev pub IsLoad : List Entry → ℕ → Who → ℕ → List ℕ → Type 0
IsLoad h i x at bs = kind_at h i ≡ Some (Kind.Loaded x at bs)

-- the process whose memory an access at position i is of
abbrev pub process_at : List Entry → ℕ → Who → ℕ
process_at h i x = proc_of (after (take i h)).plain x

-- each byte of a load came from an entry that gave it the value that the load shows
abbrev pub LoadsHaveSources : Type 0
LoadsHaveSources =
    (h : List Entry) → IsLegal h → (i at : ℕ) (x : Who) (bs : List ℕ) → IsLoad h i x at bs → (k : ℕ) → k < length bs
    → (j : ℕ) × ComesFrom h i (process_at h i x) (at + k) (slice_index bs k) j

-- the bytes of a load are of one page, which is in the address space
abbrev pub LoadsLieInAPage : Type 0
LoadsLieInAPage =
    (h : List Entry) → IsLegal h → (i at : ℕ) (x : Who) (bs : List ℕ) → IsLoad h i x at bs
    → (at + length bs ≤ 2 ^ 48) × ((k : ℕ) → k < length bs → page_of (at + k) ≡ page_of at)
