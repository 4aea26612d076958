-- How many pages stand for a frame, and what each kind of entry asks of a state of places.
use Rattle.std.specs.Prelude.{ℕ, Bool, true, not, ◌&&◌, Option, Some, None, is_none, count_by, if◌then◌else◌}
use Rattle.hm_base.specs.Program.{Program}
use Rattle.hm_base.specs.declared.Frame.{Frame}
use Rattle.hm_base.specs.declared.Place.{Place}
use Rattle.hm_base.specs.PlaceWords.{is_frame, names, moving_frame, writable}
use Rattle.hm_history.specs.Memory.Words.{page_of}
use Rattle.hm_history.specs.Memory.Plain.{owned}
use Rattle.hm_history.specs.Memory.Places.{Places, TableEntry, one_writer, places_start, places_next, lowest_free}
use Rattle.hm_history.specs.Memory.Places.{lowest_named, held_from, is_removed, holds_target, cpu_reads, cpu_writes}
use Rattle.hm_history.specs.Memory.Places.{table_reads, table_writes, may_read, may_write, is_target, is_exclusive}
use Rattle.hm_history.specs.Memory.Places.{stands_for}
use Rattle.hm_history.specs.Memory.Contents.{backing}
use Rattle.hm_history.specs.declared.Kind.{Kind}
use Rattle.hm_history.specs.declared.TableRight.{TableRight}
use Rattle.hm_history.specs.declared.Who.{Who}
use Rattle.hm_history.specs.declared.Who.TheVariants.{Cpu, Mirror}
use Rattle.hm_folds.specs.Shares.{plus, less, has_one_writer}
use Rattle.hm_folds.specs.MirrorTables.{table_next, device_next}
use Rattle.hm_folds.specs.declared.shares.Shares.{Shares}

-- how many of the placed pages pass
abbrev pub pages_where : Places → (Place → Bool) → ℕ
pages_where s test = count_by (λ y. test (s.place y.0 y.1)) s.placed

-- and how many of them are writable
abbrev pub shares_where : Places → (Place → Bool) → Shares
shares_where s test = record { pages = pages_where s test; writers = pages_where s (λ x. test x && writable x) }

-- the place stands for the frame
abbrev pub is_backed : Places → Frame → Place → Bool
is_backed s f x = is_frame (backing s x) f

-- a migration entry of the frame
abbrev pub is_moving_of : Frame → Place → Bool
is_moving_of f x = is_frame (moving_frame x) f

-- the frame that a place stands for, where all that counts of a state is where frames were committed to
abbrev pub backing_by : (Frame → Option Frame) → Place → Option Frame
backing_by to x = backing (record places_start { committed_to = to }) x

-- the share of a page with this place
abbrev pub share_of : Place → Shares
share_of x = record { pages = 1; writers = if writable x then 1 else 0 }

-- after pages have moved from one frame to another, no writable page shares that one
abbrev pub one_writer_after : (Frame → Shares) → Option Frame → Shares → Option Frame → Shares → Bool
one_writer_after f None more from fewer = true
one_writer_after f (Some t) more from fewer =
    has_one_writer (plus (if is_frame from t then less (f t) fewer else f t) more)

-- the access goes through the place of its page, or through its mirror's table
abbrev pub may_access : (ℕ → Option ℕ) → Places → Who → ℕ → Bool → Bool
may_access proc s (Cpu p) at w = if w then cpu_writes (s.place p (page_of at)) else cpu_reads (s.place p (page_of at))
may_access proc s (Mirror m) at w =
    owned (proc m) (λ p. if w then table_writes s m p (page_of at) else table_reads s m p (page_of at))

-- through such an entry of a table a page with this place is read, or written
abbrev pub entry_allows : Places → TableEntry → Place → Bool → Bool
entry_allows s e x w =
    let reads = may_read e.right && (is_target (stands_for s x) e.target && not (is_exclusive x)) in
    if w then reads && (may_write e.right && writable x) else reads

-- what is read of an entry of a mirror's table: its frame, its right, and the position of its look-up's begin
abbrev pub entry_read : Option TableEntry → Option (Option Frame × TableRight × ℕ)
entry_read None = None
entry_read (Some x) = Some (x.target, x.right, x.from)

-- the test of an entry that changes frames and places, as in the definition; others pass
abbrev pub accepts_frames : Program → Places → Kind → Bool
accepts_frames c s (Kind.Place p v x) = holds_target s (names x) && one_writer (places_next s (Kind.Place p v x))
accepts_frames c s (Kind.Committed f g) = one_writer (places_next s (Kind.Committed f g))
accepts_frames c s (Kind.Take f) =
    is_frame (lowest_free c s f.pool) f && not (is_removed s f.pool) && one_writer (places_next s (Kind.Take f))
accepts_frames c s (Kind.Drop f) = s.held f && is_none (lowest_named s f)
accepts_frames c s (Kind.Removed d) = is_none (held_from c s d 0)
accepts_frames c s k = true

-- the state after an entry, of which only the mirrors' tables and devices count
abbrev pub with_mirrors : Places → Kind → Places
with_mirrors s k = record s { table = table_next s.table k; device = device_next s.device k }
