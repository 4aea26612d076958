-- The sources of the bytes of loads, and the text that tells them.
use Rattle.std.specs.Prelude.{◌≡◌, ℕ, zero, suc, ◌+◌, ◌<◌, ◌≤◌, ◌^◌, Bool, true, false, Option, Some, None, IsSome}
use Rattle.std.specs.Prelude.{List, [], ◌∷◌, ◌++◌, length, map, count_by, codes, slice_index, ⊤}
use Rattle.std.specs.Fmt.{decimal}
use Rattle.hm_history.specs.Memory.Words.{numbers}
use Rattle.hm_history.specs.declared.Who.{Who}
use Rattle.hm_history.specs.declared.Kind.{Kind}
use Rattle.hm_history.specs.declared.Entry.{Entry}
use Rattle.hm_report.specs.Line.{spaced}
use Rattle.hm_report.specs.Report.{end_line}
use Rattle.hm_why.specs.Sources.{kind_at, source_of, GaveBy}
use Rattle.hm_why.specs.Laws.{process_at}

-- an entry answers a load
abbrev pub is_load : Kind → Bool
is_load (Kind.Loaded x at bs) = true
is_load k = false

-- the entry at this position is a load
abbrev pub IsLoadAt : List Entry → ℕ → Type 0
IsLoadAt h i = elim (kind_at h i) [ None ↦ ⊥ | Some k ↦ is_load k ≡ true ]

-- the sources of the bytes of a load, in their order, from the process of an access and the source of each byte
abbrev pub sources_by : (Who → ℕ) → (ℕ → ℕ → Option ℕ) → Kind → List (Option ℕ)
sources_by of source (Kind.Loaded x at bs) = map (source (of x)) (numbers at (length bs))
sources_by of source k = []

-- the sources of the bytes of the load at a position
abbrev pub load_sources : List Entry → ℕ → List (Option ℕ)
load_sources h i = elim (kind_at h i) [ None ↦ [] | Some k ↦ sources_by (process_at h i) (source_of h i) k ]

-- each source gave its byte the value that the load shows
abbrev pub GaveEach : List Entry → List ℕ → Kind → Type 0
GaveEach h found (Kind.Loaded x at bs) =
    (k : ℕ) → k < length bs → GaveBy (kind_at h (slice_index found k)) (at + k) (slice_index bs k)
GaveEach h found k = ⊤

-- so it is for the load at a position
abbrev pub GaveTheLoad : List Entry → ℕ → List ℕ → Type 0
GaveTheLoad h i found = elim (kind_at h i) [ None ↦ ⊤ | Some k ↦ GaveEach h found k ]

-- the positions, one for each byte of the load, are its sources, which gave the bytes their values
pub record AreSources (h : List Entry) (i : ℕ) (found : List ℕ) : Type 0 where
  pub sources : map (λ (j : ℕ). Some j) found ≡ load_sources h i
  pub gave : GaveTheLoad h i found

-- the bytes of a load are in the address space
abbrev pub IsLow : Kind → Type 0
IsLow (Kind.Loaded x at bs) = at + length bs ≤ 2 ^ 48
IsLow k = ⊤

-- each of this many bytes from an address on has a source
abbrev pub AllFound : (ℕ → Option ℕ) → ℕ → ℕ → Type 0
AllFound source at n = (b : ℕ) → at ≤ b → b < at + n → IsSome (source b)

-- a source in a text; that there is none, which no load of a legal history has, is a dash
abbrev pub source_text : Option ℕ → List ℕ
source_text None = codes "-"
source_text (Some j) = decimal j

-- the line of a load: its position, and the sources of its bytes
abbrev pub why_line : (Who → ℕ) → (ℕ → ℕ → Option ℕ) → ℕ → Kind → List ℕ
why_line of source i (Kind.Loaded x at bs) =
    codes "why " ++ decimal i ++ (spaced (map source_text (sources_by of source (Kind.Loaded x at bs))) ++ 10 ∷ [])
why_line of source i k = []

-- the line of the entry at a position, if that is a load
abbrev pub line_at : List Entry → ℕ → List ℕ
line_at h i = elim (kind_at h i) [ None ↦ [] | Some k ↦ why_line (process_at h i) (source_of h i) i k ]

-- the lines of the loads before position i
abbrev pub why_lines : List Entry → ℕ → List ℕ
why_lines h zero = []
why_lines h (suc i) = why_lines h i ++ line_at h i

-- how many loads there are
abbrev pub load_count : List Entry → ℕ
load_count h = count_by (λ (e : Entry). is_load e.kind) h

-- a line for each load, and the line that counts them
abbrev pub why_text : List Entry → List ℕ
why_text h = why_lines h (length h) ++ end_line (load_count h)
