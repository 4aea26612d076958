-- The accesses that a history's entries answer, and how often each page was accessed.
use Rattle.std.specs.Prelude.{◌≡◌, ℕ, ◌+◌, ◌^◌, ◌<◌, Bool, true, false, ◌&&◌, ◌==◌, if◌then◌else◌, Option, Some, None}
use Rattle.std.specs.Prelude.{List, length, count_by}
use Rattle.hm_history.specs.Memory.Words.{page_of}
use Rattle.hm_history.specs.declared.Who.{Who}
use Rattle.hm_history.specs.declared.Kind.{Kind}
use Rattle.hm_history.specs.declared.Entry.{Entry}
use Rattle.hm_advisor.specs.Tallies.{tally_count}
use Rattle.hm_advisor.specs.declared.accesses.Access.{Access}
use Rattle.hm_advisor.specs.declared.accesses.Accesses.{Accesses}

-- the access that an entry answers: a load, a store, or an addition by a mirror's device
abbrev pub access_of : Kind → Option Access
access_of (Kind.Loaded x at bs) = Some (record { who = x; page = page_of at })
access_of (Kind.Stored x at bs) = Some (record { who = x; page = page_of at })
access_of (Kind.Added m at was now) = Some (record { who = Who.Mirror m; page = page_of at })
access_of _ = None

-- the same process, or the same mirror
abbrev pub same_who : Who → Who → Bool
same_who (Who.Cpu p) (Who.Cpu q) = p == q
same_who (Who.Mirror m) (Who.Mirror k) = m == k
same_who _ _ = false

-- the entry answers an access of that party to the page
abbrev pub is_access : Who → ℕ → Kind → Bool
is_access x v k = elim (access_of k) [ None ↦ false | Some y ↦ same_who y.who x && (v == y.page) ]

-- how often that party accessed the page
abbrev pub accesses : List Entry → Who → ℕ → ℕ
accesses h x v = count_by (λ (e : Entry). is_access x v e.kind) h

-- how often that party accessed the page, as it was counted
abbrev pub count_for : Accesses → Who → ℕ → ℕ
count_for a (Who.Cpu p) v = tally_count a.processes p v
count_for a (Who.Mirror m) v = tally_count a.mirrors m v

-- a tally for each process and for each mirror
abbrev pub AreSized : Accesses → Type 0
AreSized a = (length a.processes.items.items ≡ 32) × (length a.mirrors.items.items ≡ 32)

-- each count has room for one more
abbrev pub AreFew : Accesses → Type 0
AreFew a = (x : Who) (v : ℕ) → count_for a x v + 1 < 2 ^ 64

-- the number of the process, or of the mirror
abbrev pub number_of : Who → ℕ
number_of (Who.Cpu p) = p
number_of (Who.Mirror m) = m

-- it is an access by the CPU
abbrev pub is_cpu : Who → Bool
is_cpu (Who.Cpu p) = true
is_cpu (Who.Mirror m) = false

-- that access was counted, and no other
abbrev pub IsCounted : Accesses → Accesses → Access → Type 0
IsCounted before after y =
    (x : Who) (v : ℕ) → count_for after x v
    ≡ (if same_who y.who x && (v == y.page) then count_for before x v + 1 else count_for before x v)

-- the access of the entry was counted, and no other
abbrev pub IsNoted : Accesses → Accesses → Kind → Type 0
IsNoted before after k =
    (x : Who) (v : ℕ) → count_for after x v
    ≡ (if is_access x v k then count_for before x v + 1 else count_for before x v)
