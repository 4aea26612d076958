-- Entries whose numbers are in range: those that a program can have.
use Rattle.std.specs.Prelude.{◌≡◌, ℕ, ◌^◌, ◌<◌, true, nat_lt, Option, Some, None, List}
use Rattle.std.specs.List.{list_all}
use Rattle.hm_base.specs.Pages.{IsSpan}
use Rattle.hm_base.specs.declared.Frame.{Frame}
use Rattle.hm_base.specs.declared.Place.{Place}
use Rattle.hm_base.specs.declared.PoolId.{PoolId}
use Rattle.hm_history.specs.declared.Entry.{Entry}
use Rattle.hm_history.specs.declared.KeptAt.{KeptAt}
use Rattle.hm_history.specs.declared.KeptWhy.{KeptWhy}
use Rattle.hm_history.specs.declared.Kind.{Kind}
use Rattle.hm_history.specs.declared.Who.{Who}

-- the number fits in 64 bits
abbrev pub Fits64 : ℕ → Type 0
Fits64 n = n < 2 ^ 64

-- each number is a byte
abbrev pub FitsHex : List ℕ → Type 0
FitsHex bytes = list_all (λ b. nat_lt b 256) bytes ≡ true

-- the process or mirror is in range
abbrev pub FitsWho : Who → Type 0
FitsWho (Who.Cpu p) = p < 32
FitsWho (Who.Mirror m) = m < 32

-- the device is in range
abbrev pub FitsPool : PoolId → Type 0
FitsPool PoolId.System = Unit {0}
FitsPool (PoolId.Device d) = d < 4

-- a frame's pool is in range, and its number fits in 32 bits
pub record FitsFrame (f : Frame) : Type 0 where
  pub pool : FitsPool f.pool
  pub number : f.number < 2 ^ 32

-- what a table entry names is in range; the zero page always is
abbrev pub FitsTarget : Option Frame → Type 0
FitsTarget None = Unit {0}
FitsTarget (Some f) = FitsFrame f

-- the part of a copy fits in a byte. An eighth above 7 fits too, which no legal report has
abbrev pub FitsPart : Option ℕ → Type 0
FitsPart None = Unit {0}
FitsPart (Some k) = k < 256

-- the page or frame that was left behind is in range
abbrev pub FitsKept : KeptAt → Type 0
FitsKept (KeptAt.Page v) = v < 2 ^ 36
FitsKept (KeptAt.Frame f) = FitsFrame f

-- the actor that a reason names is in range
abbrev pub FitsWhy : KeptWhy → Type 0
FitsWhy (KeptWhy.LockedBy a) = a < 16
FitsWhy _ = Unit {0}

-- the numbers of a place are in range
abbrev pub FitsPlace : Place → Type 0
FitsPlace Place.Empty = Unit {0}
FitsPlace Place.Zero = Unit {0}
FitsPlace (Place.Sys n w) = n < 2 ^ 32
FitsPlace (Place.Own d n w) = (d < 4) × (n < 2 ^ 32)
FitsPlace (Place.Moving f w) = FitsFrame f
FitsPlace (Place.Exclusive n a) = (n < 2 ^ 32) × (a < 16)

-- the numbers of a kind fit the types of its fields
abbrev pub FitsKind : Kind → Type 0
FitsKind (Kind.Loaded x a bs) = FitsWho x × Fits64 a × FitsHex bs
FitsKind (Kind.Stored x a bs) = FitsWho x × Fits64 a × FitsHex bs
FitsKind (Kind.Failed x a n why) = FitsWho x × Fits64 a × Fits64 n
FitsKind (Kind.Mapped p r w) = (p < 32) × IsSpan r
FitsKind (Kind.Unmapped p r) = (p < 32) × IsSpan r
FitsKind (Kind.Protected p r w) = (p < 32) × IsSpan r
FitsKind (Kind.Forked p c) = (p < 32) × (c < 32)
FitsKind (Kind.Exited p) = p < 32
FitsKind (Kind.Attached m d p r q) = (m < 32) × (d < 4) × (p < 32) × IsSpan r × Fits64 q
FitsKind (Kind.Detaching m q) = (m < 32) × Fits64 q
FitsKind (Kind.Detached m) = m < 32
FitsKind (Kind.Refused why) = Unit {0}
FitsKind (Kind.Migrated n) = Fits64 n
FitsKind (Kind.Seen m v c) = (m < 32) × (v < 2 ^ 36) × (c < 256)
FitsKind (Kind.Evicted n) = Fits64 n
FitsKind (Kind.Removed d) = d < 4
FitsKind (Kind.Rlock p) = p < 32
FitsKind (Kind.Runlock p) = p < 32
FitsKind (Kind.Wlock p) = p < 32
FitsKind (Kind.Named p c) = (p < 32) × (c < 32)
FitsKind (Kind.Take f) = FitsFrame f
FitsKind (Kind.Drop f) = FitsFrame f
FitsKind (Kind.Place p v x) = (p < 32) × (v < 2 ^ 36) × FitsPlace x
FitsKind (Kind.Start p r q) = (p < 32) × IsSpan r × Fits64 q
FitsKind (Kind.Told m r q) = (m < 32) × IsSpan r × Fits64 q
FitsKind (Kind.End p r q) = (p < 32) × IsSpan r × Fits64 q
FitsKind (Kind.Begin m q) = (m < 32) × Fits64 q
FitsKind (Kind.Retry m) = m < 32
FitsKind (Kind.Set m v f w from) = (m < 32) × (v < 2 ^ 36) × FitsTarget f × Fits64 from
FitsKind (Kind.Fresh p v) = (p < 32) × (v < 2 ^ 36)
FitsKind (Kind.Copied f g k) = FitsFrame f × FitsFrame g × FitsPart k
FitsKind (Kind.Committed f g) = FitsFrame f × FitsFrame g
FitsKind (Kind.Kept at why) = FitsKept at × FitsWhy why
FitsKind (Kind.Done f) = FitsFrame f
FitsKind (Kind.Withdrawn d) = d < 4
FitsKind (Kind.Excluded m v) = (m < 32) × (v < 2 ^ 36)
FitsKind (Kind.Fetched m a bs) = (m < 32) × Fits64 a × FitsHex bs
FitsKind (Kind.Added m a was now) = (m < 32) × Fits64 a × (was < 256) × (now < 256)

-- an entry that a program can have; no line is read as another one
pub record FitsEntry (e : Entry) : Type 0 where
  pub actor : e.actor < 16
  pub kind : FitsKind e.kind
