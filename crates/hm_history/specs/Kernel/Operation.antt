-- What an operation is about: whose access, its pieces and its bytes.
use Rattle.std.specs.Prelude.{ℕ, ◌-◌, Bool, true, false, ◌==◌, List, [], ◌∷◌, length, take, drop}
use Rattle.hm_base.specs.declared.ops.Op.{Op}
use Rattle.hm_history.specs.Memory.Words.{pieces}
use Rattle.hm_history.specs.declared.Who.{Who}
use Rattle.hm_history.specs.declared.Who.TheVariants.{Cpu, Mirror}

-- the pieces of an access: address and length of each
abbrev pub op_pieces : Op → List (ℕ × ℕ)
op_pieces (Op.Load p at n) = pieces at n
op_pieces (Op.Store p at bs) = pieces at (length bs)
op_pieces (Op.DeviceLoad m at n) = pieces at n
op_pieces (Op.DeviceStore m at bs) = pieces at (length bs)
op_pieces (Op.Add m at k) = (at, 1) ∷ []
op_pieces _ = []

-- the piece of a number
abbrev pub piece_at : List (ℕ × ℕ) → ℕ → ℕ × ℕ
piece_at [] k = (0, 0)
piece_at (x ∷ xs) k = elim (k == 0) [ true ↦ x | false ↦ piece_at xs (k - 1) ]

-- the piece of an operation by its number
abbrev pub op_piece : Op → ℕ → ℕ × ℕ
op_piece o k = piece_at (op_pieces o) k

-- the mirror or the process of an access
abbrev pub op_who : Op → Who
op_who (Op.Load p at n) = Cpu p
op_who (Op.Store p at bs) = Cpu p
op_who (Op.DeviceLoad m at n) = Mirror m
op_who (Op.DeviceStore m at bs) = Mirror m
op_who (Op.Add m at k) = Mirror m
op_who (Op.Exclusive m v) = Mirror m
op_who _ = Cpu 0

-- the mirror of an operation
abbrev pub op_mirror : Op → ℕ
op_mirror (Op.Attach m d p r) = m
op_mirror (Op.Detach m) = m
op_mirror (Op.DeviceLoad m at n) = m
op_mirror (Op.DeviceStore m at bs) = m
op_mirror (Op.ToDevice m r) = m
op_mirror (Op.ToSystem m r) = m
op_mirror (Op.Snap m r) = m
op_mirror (Op.Exclusive m v) = m
op_mirror (Op.Add m at k) = m
op_mirror _ = 0

-- whether the operation wants to write its pages
abbrev pub op_writes : Op → Bool
op_writes (Op.Store p at bs) = true
op_writes (Op.DeviceStore m at bs) = true
op_writes (Op.Exclusive m v) = true
op_writes (Op.Add m at k) = true
op_writes _ = false

-- the operation's bytes of a piece
abbrev pub bytes_of : ℕ → List ℕ → ℕ × ℕ → List ℕ
bytes_of at bs x = take x.1 (drop (x.0 - at) bs)

-- the bytes that an operation writes in a piece
abbrev pub op_bytes : Op → ℕ × ℕ → List ℕ
op_bytes (Op.Store p at bs) x = bytes_of at bs x
op_bytes (Op.DeviceStore m at bs) x = bytes_of at bs x
op_bytes _ x = []

-- it is `exclusive`
abbrev pub is_exclusive_op : Op → Bool
is_exclusive_op (Op.Exclusive m v) = true
is_exclusive_op _ = false

-- it is `remove`
abbrev pub is_remove : Op → Bool
is_remove (Op.Remove d) = true
is_remove _ = false

-- it is `evict` or `remove`
abbrev pub is_evicting : Op → Bool
is_evicting (Op.Evict d) = true
is_evicting (Op.Remove d) = true
is_evicting _ = false

-- it is `todev`
abbrev pub is_to_device : Op → Bool
is_to_device (Op.ToDevice m r) = true
is_to_device _ = false

-- it is `todev` or `tosys`
abbrev pub is_migration : Op → Bool
is_migration (Op.ToDevice m r) = true
is_migration (Op.ToSystem m r) = true
is_migration _ = false
