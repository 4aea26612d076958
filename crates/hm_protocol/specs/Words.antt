-- Words of events: frames, rights and lists.
use Rattle.std.specs.Prelude.{ℕ, Bool, true, false, not, nat_lt, ◌==◌, ◌&&◌, Option, Some, None, List, [], ◌∷◌, filter}
use Rattle.hm_history.specs.declared.TableRight.{TableRight}
use Rattle.hm_protocol.specs.declared.events.TraceFrame.{TraceFrame}

-- the device whose memory has the frame
abbrev pub device_of : TraceFrame → Option ℕ
device_of TraceFrame.Nothing = None
device_of TraceFrame.ZeroPage = None
device_of (TraceFrame.System n) = None
device_of (TraceFrame.Private d n) = Some d
device_of (TraceFrame.Coherent d n) = Some d

-- the device that alone reaches it
abbrev pub private_to : TraceFrame → Option ℕ
private_to (TraceFrame.Private d n) = Some d
private_to f = None

-- two frames are the same one
abbrev pub is_same : TraceFrame → TraceFrame → Bool
is_same TraceFrame.Nothing TraceFrame.Nothing = true
is_same TraceFrame.ZeroPage TraceFrame.ZeroPage = true
is_same (TraceFrame.System n) (TraceFrame.System k) = n == k
is_same (TraceFrame.Private d n) (TraceFrame.Private e k) = (d == e) && (n == k)
is_same (TraceFrame.Coherent d n) (TraceFrame.Coherent e k) = (d == e) && (n == k)
is_same f g = false

-- the entry is for reads
abbrev pub is_read : TableRight → Bool
is_read TableRight.Read = true
is_read w = false

-- the entry is for writes
abbrev pub is_write : TableRight → Bool
is_write TableRight.Write = true
is_write w = false

-- the entry is for one actor
abbrev pub is_sole : TableRight → Bool
is_sole TableRight.Sole = true
is_sole w = false

-- there is a number, and it is this one
abbrev pub is_it : Option ℕ → ℕ → Bool
is_it None n = false
is_it (Some k) n = k == n

-- there is a number, and it is another one
abbrev pub is_other : Option ℕ → ℕ → Bool
is_other None n = false
is_other (Some k) n = not (k == n)

-- there is a number, and it is above this one
abbrev pub is_after : Option ℕ → ℕ → Bool
is_after None n = false
is_after (Some k) n = nat_lt n k

-- there is a number, and it is below this one
abbrev pub is_before : Option ℕ → ℕ → Bool
is_before None n = false
is_before (Some k) n = nat_lt k n

-- there is none
abbrev pub is_empty : {X : Type 0} → List X → Bool
is_empty [] = true
is_empty (x ∷ xs) = false

-- a list without what passes
abbrev pub drop_if : {X : Type 0} → (X → Bool) → List X → List X
drop_if test xs = filter (λ x. not (test x)) xs
