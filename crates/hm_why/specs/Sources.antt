-- Where each byte of a process came from: the entry that gave it the value that it has.
use Rattle.std.specs.Prelude.{◌≡◌, ℕ, zero, suc, ◌+◌, ◌-◌, ◌<◌, Bool, true, false, ◌&&◌, nat_lt, nat_le, ◌==◌, Option}
use Rattle.std.specs.Prelude.{Some, None, List, length, slice_index, slice_get, take, option_map}
use Rattle.hm_base.specs.Pages.{covers}
use Rattle.hm_history.specs.Memory.Words.{page_of}
use Rattle.hm_history.specs.Memory.Plain.{mirror_owner, owned}
use Rattle.hm_history.specs.Memory.After.{after}
use Rattle.hm_history.specs.declared.Who.{Who}
use Rattle.hm_history.specs.declared.Kind.{Kind}
use Rattle.hm_history.specs.declared.Entry.{Entry}

-- what an entry does to a byte of a process: it gives the byte a value, it copies the byte of another process, or
-- neither
pub data Effect : Type 0 where
  Gives : Effect
  Copies : ℕ → Effect
  Leaves : Effect

-- the byte is one of this many from an address on
abbrev pub is_among : ℕ → ℕ → ℕ → Bool
is_among at n b = nat_le at b && nat_lt b (at + n)

-- it gives the byte a value, if this holds
abbrev pub gives_if : Bool → Effect
gives_if true = Gives
gives_if false = Leaves

-- it copies the byte of that process, if this holds
abbrev pub copies_if : Bool → ℕ → Effect
copies_if true p = Copies p
copies_if false p = Leaves

-- the process of an access, where mirrors belong to processes so
abbrev pub process_of : (ℕ → Option ℕ) → Who → Option ℕ
process_of own (Who.Cpu p) = Some p
process_of own (Who.Mirror m) = own m

-- what an entry does to byte b of process q, where mirrors belong to processes so: what was stored or added there
-- gives it a value, a mapping gives it 0, and a fork copies it to the child
abbrev pub effect : (ℕ → Option ℕ) → Kind → ℕ → ℕ → Effect
effect own (Kind.Stored x at bs) q b =
    gives_if (owned (process_of own x) (λ p. p == q) && is_among at (length bs) b)
effect own (Kind.Added m at was now) q b = gives_if (owned (own m) (λ p. p == q) && is_among at 1 b)
effect own (Kind.Mapped p r w) q b = gives_if ((p == q) && covers r (page_of b))
effect own (Kind.Forked p child) q b = copies_if (child == q) p
effect own k q b = Leaves

-- the processes of mirrors before position i of a history
abbrev pub owners_at : List Entry → ℕ → ℕ → Option ℕ
owners_at h i = mirror_owner (after (take i h)).plain

-- the kind of the entry at a position
abbrev pub kind_at : List Entry → ℕ → Option Kind
kind_at h i = option_map (λ (e : Entry). e.kind) (slice_get h i)

-- what the entry at a position does to byte b of process q
abbrev pub effect_at : List Entry → ℕ → ℕ → ℕ → Effect
effect_at h i q b = elim (kind_at h i) [ None ↦ Leaves | Some k ↦ effect (owners_at h i) k q b ]

-- the source, if the entry at a position has this effect, from the sources before it
abbrev pub source_by : Effect → ℕ → (ℕ → ℕ → Option ℕ) → ℕ → ℕ → Option ℕ
source_by Gives j before q b = Some j
source_by (Copies p) j before q b = before p b
source_by Leaves j before q b = before q b

-- the source of byte b of process q before position i: the last entry that gave the byte its value, where a fork leads
-- on to the byte of the parent before it
abbrev pub source_of : List Entry → ℕ → ℕ → ℕ → Option ℕ
source_of h zero q b = None
source_of h (suc j) q b = source_by (effect_at h j q b) j (source_of h j) q b

-- the entry gave the byte at this address that value
abbrev pub Gave : Kind → ℕ → ℕ → Type 0
Gave (Kind.Stored x at bs) b v = (is_among at (length bs) b ≡ true) × (slice_index bs (b - at) ≡ v)
Gave (Kind.Added m at was now) b v = (at ≡ b) × (now ≡ v)
Gave (Kind.Mapped p r w) b v = (covers r (page_of b) ≡ true) × (0 ≡ v)
Gave k b v = ⊥

-- there is an entry, and it gave the byte that value
abbrev pub GaveBy : Option Kind → ℕ → ℕ → Type 0
GaveBy None b v = ⊥
GaveBy (Some k) b v = Gave k b v

-- the byte came from the entry at position j, before position i, and has this value from it
pub record ComesFrom (h : List Entry) (i q b v j : ℕ) : Type 0 where
  pub source : source_of h i q b ≡ Some j
  pub before : j < i
  pub gave : GaveBy (kind_at h j) b v
