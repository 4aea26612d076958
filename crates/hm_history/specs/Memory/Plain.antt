-- What processes and mirrors are, apart from where their pages lie: the plain state. It is the meaning of a
-- private anonymous mapping, and migration does nothing here.
use Rattle.std.specs.Prelude.{ℕ, ◌+◌, ◌-◌, Bool, true, false, not, ◌&&◌, ◌||◌, nat_lt, nat_le, ◌==◌, if◌then◌else◌}
use Rattle.std.specs.Prelude.{Option, Some, None, is_some, is_none, option_map, List, [], ◌∷◌, length, slice_index}
use Rattle.hm_base.specs.Pages.{Pages, one_page, covers, lies_in}
pub use Rattle.hm_base.specs.Areas.{without, with_rights, with_area, meets, all_mapped, rights_at}
use Rattle.hm_base.specs.declared.area.Area.{Area}
use Rattle.hm_base.specs.declared.cause.Cause.{Cause}
use Rattle.hm_base.specs.declared.ops.Rights.{Rights}
use Rattle.hm_base.specs.declared.ops.Rights.TheVariants.{Read, ReadWrite}
use Rattle.hm_base.specs.declared.ops.Op.{Op}
use Rattle.hm_history.specs.Memory.Words.{with_at, bytes_from, same_bytes, page_of}
use Rattle.hm_history.specs.declared.Who.{Who}
use Rattle.hm_history.specs.declared.Who.TheVariants.{Cpu, Mirror}
use Rattle.hm_history.specs.declared.Kind.{Kind}

-- a mirror is attached, detaching, or neither
pub data Attachment : Type 0 where
  Attached : Attachment
  Detaching : Attachment
  Gone : Attachment

-- a mirror: its device, its process, its window, and how far it is
pub record MirrorState : Type 0 where
  pub dev : ℕ
  pub proc : ℕ
  pub window : Pages
  pub stage : Attachment

-- the plain state. A byte counts only if the process has an area
pub record Plain : Type 0 where
  pub there : ℕ → Bool
  pub named : ℕ → Bool  -- given to a fork
  pub been : ℕ → Bool  -- was there at some time
  pub areas : ℕ → List Area
  pub bytes : ℕ → ℕ → ℕ
  pub mirrors : ℕ → Option MirrorState

-- at the start process 0 is there, with nothing mapped
abbrev pub plain_start : Plain
plain_start = record {
  there = λ p. p == 0;
  named = λ p. false;
  been = λ p. p == 0;
  areas = λ p. [];
  bytes = λ p a. 0;
  mirrors = λ m. None;
}

-- the right of a page, if it has an area
abbrev pub rights_of : Plain → ℕ → ℕ → Option Rights
rights_of s p v = rights_at (s.areas p) v

-- an area without the write right
abbrev pub is_read_only : Option Rights → Bool
is_read_only (Some Read) = true
is_read_only _ = false

-- an area with the write right
abbrev pub is_read_write : Option Rights → Bool
is_read_write (Some ReadWrite) = true
is_read_write _ = false

-- the refusal of a `map`, `unmap` or `protect`: a page has an area, a page of protect has none, or more than 64 areas
-- would result
abbrev pub area_refusal : Plain → Op → Option Cause
area_refusal s (Op.Map p r w) =
    if meets r (s.areas p) then Some Cause.Overlap
    else if nat_lt (length (s.areas p)) 64 then None else Some Cause.TooManyAreas
area_refusal s (Op.Unmap p r) = if nat_le (length (without r (s.areas p))) 64 then None else Some Cause.TooManyAreas
area_refusal s (Op.Protect p r w) =
    if not (all_mapped r (s.areas p)) then Some Cause.Unmapped
    else if nat_le (length (with_rights r w (s.areas p))) 64 then None else Some Cause.TooManyAreas
area_refusal s _ = None

-- the mirror is attached
abbrev pub is_attached_state : MirrorState → Bool
is_attached_state m = elim m.stage [ Attached ↦ true | Detaching ↦ false | Gone ↦ false ]

-- it is detaching
abbrev pub is_detaching_state : MirrorState → Bool
is_detaching_state m = elim m.stage [ Attached ↦ false | Detaching ↦ true | Gone ↦ false ]

-- the mirror is there and passes the test
abbrev pub mirror_passes : (MirrorState → Bool) → Option MirrorState → Bool
mirror_passes test None = false
mirror_passes test (Some m) = test m

-- the mirror is attached
abbrev pub is_attached : Plain → ℕ → Bool
is_attached s m = mirror_passes is_attached_state (s.mirrors m)

-- attached, and the pages lie in its window
abbrev pub in_window : Plain → ℕ → Pages → Bool
in_window s m r = mirror_passes (λ x. is_attached_state x && lies_in r x.window) (s.mirrors m)

-- the process of a mirror that was attached; of another 0, which no step reads
abbrev pub mirror_proc : Plain → ℕ → ℕ
mirror_proc s m = elim (s.mirrors m) [ None ↦ 0 | Some x ↦ x.proc ]

-- the device of a mirror that was attached; of another 0, which no step reads
abbrev pub mirror_dev : Plain → ℕ → ℕ
mirror_dev s m = elim (s.mirrors m) [ None ↦ 0 | Some x ↦ x.dev ]

-- the process to which a mirror belongs; none if it was never attached
abbrev pub mirror_owner : Plain → ℕ → Option ℕ
mirror_owner s m = option_map (λ x. x.proc) (s.mirrors m)

-- the process whose memory an access is of; none if its mirror was never attached
abbrev pub owner : Plain → Who → Option ℕ
owner s (Cpu p) = Some p
owner s (Mirror m) = mirror_owner s m

-- there is such a process or device, and it passes the test
abbrev pub owned : Option ℕ → (ℕ → Bool) → Bool
owned None test = false
owned (Some p) test = test p

-- the process of an access, if it has one, and else 0
abbrev pub proc_of : Plain → Who → ℕ
proc_of s (Cpu p) = p
proc_of s (Mirror m) = mirror_proc s m

-- the mirror, further on
abbrev pub with_attachment : Attachment → Option MirrorState → Option MirrorState
with_attachment t None = None
with_attachment t (Some m) = Some (record m { stage = t })

-- bytes that are zeros in a span
abbrev pub with_zeros : (ℕ → ℕ) → Pages → ℕ → ℕ
with_zeros f r at = if covers r (page_of at) then 0 else f at

-- bytes with some written from an address on
abbrev pub with_bytes : (ℕ → ℕ) → ℕ → List ℕ → ℕ → ℕ
with_bytes f at bs x = if nat_le at x && nat_lt x (at + length bs) then slice_index bs (x - at) else f x

-- all bytes after some were written for this process; without a process nothing is written
abbrev pub written_for : (ℕ → ℕ → ℕ) → Option ℕ → ℕ → List ℕ → ℕ → ℕ → ℕ
written_for f None at bs = f
written_for f (Some p) at bs = with_at f p (with_bytes (f p) at bs)

-- the plain state after an entry
abbrev pub plain_next : Plain → Kind → Plain
plain_next s (Kind.Mapped p r w) = record s {
  areas = with_at s.areas p (with_area (record { span = r; rights = w }) (s.areas p));
  bytes = with_at s.bytes p (with_zeros (s.bytes p) r);
}
plain_next s (Kind.Unmapped p r) = record s { areas = with_at s.areas p (without r (s.areas p)) }
plain_next s (Kind.Protected p r w) = record s { areas = with_at s.areas p (with_rights r w (s.areas p)) }
plain_next s (Kind.Stored x at bs) = record s { bytes = written_for s.bytes (owner s x) at bs }
plain_next s (Kind.Added m at was now) = record s { bytes = written_for s.bytes (mirror_owner s m) at (now ∷ []) }
plain_next s (Kind.Named p child) = record s { named = with_at s.named child true }
plain_next s (Kind.Forked p child) = record s {
  there = with_at s.there child true;
  been = with_at s.been child true;
  areas = with_at s.areas child (s.areas p);
  bytes = with_at s.bytes child (s.bytes p);
}
plain_next s (Kind.Exited p) = record s { there = with_at s.there p false; areas = with_at s.areas p [] }
plain_next s (Kind.Attached m d p r q) = record s {
  mirrors = with_at s.mirrors m (Some (record { dev = d; proc = p; window = r; stage = Attached }));
}
plain_next s (Kind.Detaching m q) =
    record s { mirrors = with_at s.mirrors m (with_attachment Detaching (s.mirrors m)) }
plain_next s (Kind.Detached m) = record s { mirrors = with_at s.mirrors m (with_attachment Gone (s.mirrors m)) }
plain_next s _ = s

-- the process whose plain state an entry changes: the entry touches it
abbrev pub touched : Plain → Kind → Option ℕ
touched s (Kind.Mapped p r w) = Some p
touched s (Kind.Unmapped p r) = Some p
touched s (Kind.Protected p r w) = Some p
touched s (Kind.Exited p) = Some p
touched s (Kind.Stored x at bs) = owner s x
touched s (Kind.Added m at was now) = mirror_owner s m
touched s (Kind.Forked p child) = Some child
touched s _ = None

-- the cause against a piece on a page, if there is one that does not ask for frames: the mirror is not attached or the
-- page lies outside its window, the process is not there or the page has no area, a write to a read-only area
abbrev pub outside_cause : Plain → Who → ℕ → Bool
outside_cause s (Cpu p) v = false
outside_cause s (Mirror m) v = not (in_window s m (one_page v))

-- the cause against a piece on a page, if there is one
abbrev pub cause_at : Plain → Who → ℕ → Bool → Option Cause
cause_at s x v writes =
    if outside_cause s x v then Some Cause.Outside
    else if not (s.there (proc_of s x)) || is_none (rights_of s (proc_of s x) v) then Some Cause.Unmapped
    else if writes && is_read_only (rights_of s (proc_of s x) v) then Some Cause.Forbidden
    else None

-- the cause that was found is this one
abbrev pub is_cause : Option Cause → Cause → Bool
is_cause (Some Cause.Outside) Cause.Outside = true
is_cause (Some Cause.Unmapped) Cause.Unmapped = true
is_cause (Some Cause.Forbidden) Cause.Forbidden = true
is_cause _ _ = false

-- the plain bytes of an access
abbrev pub plain_bytes : Plain → Who → ℕ → ℕ → List ℕ
plain_bytes s x at n = bytes_from (s.bytes (proc_of s x)) at n

-- a failure has its cause; that no frame is free wants a page with an area, and a forbidden write a read-only one
abbrev pub may_fail : Plain → Who → ℕ → Cause → Bool
may_fail s x v Cause.NoFrame = owned (owner s x) (λ p. s.there p && is_some (rights_of s p v))
may_fail s x v Cause.Forbidden = is_cause (cause_at s x v true) Cause.Forbidden
may_fail s x v why = is_cause (cause_at s x v false) why

-- whether there is a next plain state: an answer has the plain bytes and no cause against it, a failure its cause,
-- and a change of areas, processes or mirrors meets its conditions
abbrev pub plain_accepts : Plain → Kind → Bool
plain_accepts s (Kind.Loaded x at bs) =
    is_none (cause_at s x (page_of at) false) && same_bytes bs (plain_bytes s x at (length bs))
plain_accepts s (Kind.Stored x at bs) = is_none (cause_at s x (page_of at) true)
plain_accepts s (Kind.Failed x at n why) = may_fail s x (page_of at) why
plain_accepts s (Kind.Fetched m at bs) =
    is_none (cause_at s (Mirror m) (page_of at) true) && same_bytes bs (plain_bytes s (Mirror m) at 1)
plain_accepts s (Kind.Added m at was now) =
    is_none (cause_at s (Mirror m) (page_of at) true) && (was == s.bytes (mirror_proc s m) at)
plain_accepts s (Kind.Mapped p r w) = s.there p && is_none (area_refusal s (Op.Map p r w))
plain_accepts s (Kind.Unmapped p r) = s.there p && is_none (area_refusal s (Op.Unmap p r))
plain_accepts s (Kind.Protected p r w) = s.there p && is_none (area_refusal s (Op.Protect p r w))
plain_accepts s (Kind.Named p child) = s.there p && (nat_lt 0 child && not (s.named child))
plain_accepts s (Kind.Forked p child) = s.there p && (s.named child && not (s.been child))
plain_accepts s (Kind.Exited p) = s.there p
plain_accepts s (Kind.Attached m d p r q) = s.there p && is_none (s.mirrors m)
plain_accepts s (Kind.Detaching m q) = is_attached s m
plain_accepts s (Kind.Detached m) = is_attached s m || mirror_passes is_detaching_state (s.mirrors m)
plain_accepts s _ = true
