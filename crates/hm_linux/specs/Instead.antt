-- The memory manager with variants. What is due is first what the definitions say, in the state as actors find it; a
-- variant that is on may put another entry in its place. Each is one file; here they are joined.
use Rattle.std.specs.Prelude.{ℕ, Bool, ◌||◌, if◌then◌else◌, Option, Some, List, ◌∷◌, fold, ⊤, ◌≡◌, []}
use Rattle.hm_base.specs.Pages.{Pages}
use Rattle.hm_base.specs.Program.{Program}
use Rattle.hm_base.specs.declared.Frame.{Frame}
use Rattle.hm_base.specs.declared.ops.Op.{Op}
use Rattle.hm_history.specs.Memory.Words.{with_at}
use Rattle.hm_history.specs.Memory.Locks.{Locks}
use Rattle.hm_history.specs.Memory.Plain.{Plain}
use Rattle.hm_history.specs.Memory.After.{After, after_entry}
use Rattle.hm_history.specs.Kernel.Going.{State, Going, op_at, state_of, going_next}
use Rattle.hm_history.specs.Kernel.Due.{due_phase, progress}
use Rattle.hm_history.specs.declared.Kind.{Kind}
use Rattle.hm_history.specs.declared.Entry.{Entry}
use Rattle.hm_history.specs.declared.Progress.{Progress}
use Rattle.hm_history.specs.declared.phases.Body.{Body}
use Rattle.hm_history.specs.declared.phases.Migrating.{Migrating}
use Rattle.hm_history.specs.declared.phases.Touch.{Touch}
use Rattle.hm_history.specs.declared.phases.Phase.{Phase}
use Rattle.hm_history.specs.declared.phases.Next.{Next}
use Rattle.hm_linux.specs.declared.variant.Variant.{Variant}
use Rattle.hm_linux.specs.Noted.{Noted, Varied, varied_from}
use Rattle.hm_linux.specs.HeldPage.{keeps_referred, references_held}
use Rattle.hm_linux.specs.ExclusivePins.{references_pinned}
use Rattle.hm_linux.specs.OwnReadOnly.{takes_own, set_fails, led_failed}
use Rattle.hm_linux.specs.ExclusiveBusy.{decides_busy, spares_locked, locked_after, busy_after}
use Rattle.hm_linux.specs.UnmapLetsIn.{areas_left, map_left, area_first, selects_mapped, sees_mapped}
use Rattle.hm_linux.specs.FirstAttach.{attaches}
use Rattle.hm_linux.specs.WholeSnapshot.{begins_snap, ends_snap, led_anew, torn_after}

-- ---- the state as actors find it

-- the plain state: the areas of an unmap under way are gone
abbrev pub plain_found : Variant → Program → State → Plain
plain_found l c u = let x = u.after.plain in
    record x { areas = if l.unmap_lets_in then areas_left c u else x.areas }

-- the mmap locks: an unmap under way has one for reading
abbrev pub locks_found : Variant → Program → State → Locks
locks_found l c u = let x = u.after.locks in record x { map = if l.unmap_lets_in then map_left c u else x.map }

-- all of it
abbrev pub found : Variant → Program → Varied → After
found l c t = let s = t.state.after in
    record s { plain = plain_found l c t.state; locks = locks_found l c t.state }

-- ---- what is due

-- what is put in place of what is due, if the variant is on
abbrev pub if_on : Bool → (Next → Next) → Next → Next
if_on b f next = if b then f next else next

-- an operation's first entry
abbrev pub begins_as : Variant → After → Op → Next → Next
begins_as l s o next = if_on l.first_attach (attaches s) (if_on l.whole_snapshot (begins_snap s o) next)

-- a page of a snapshot, or its end
abbrev pub sees_as : Variant → Noted → After → ℕ → Op → Next → Next
sees_as l n s a o next = if_on l.unmap_lets_in (sees_mapped s) (if_on l.whole_snapshot (ends_snap n a o) next)

-- a fault's decision
abbrev pub decides_as : Variant → Noted → After → ℕ → Op → Touch → Next → Next
decides_as l n s a o touch next =
    if_on l.unmap_lets_in (area_first s o touch)
    (if_on l.own_read_only (takes_own s o touch) (if_on l.exclusive_busy (decides_busy n s a o touch) next))

-- the body of a guard
abbrev pub guards_as : Variant → Noted → After → ℕ → ℕ → Pages → Body → Next → Next
guards_as l n s a p r body next =
    if_on l.unmap_lets_in (selects_mapped s body) (if_on l.exclusive_busy (spares_locked n s a p r body) next)

-- what is due at a phase, in place of what the definitions say
abbrev pub due_varied : Variant → Program → Noted → After → ℕ → Op → List Migrating → Phase → Next → Next
due_varied l c n s a o xs Phase.Begin next = begins_as l s o next
due_varied l c n s a o xs (Phase.Pages v) next = sees_as l n s a o next
due_varied l c n s a o xs (Phase.Decide touch) next = decides_as l n s a o touch next
due_varied l c n s a o xs (Phase.Noted k since q x) next = if_on l.own_read_only (set_fails o k x) next
due_varied l c n s a o xs (Phase.Guard p r met told body) next = guards_as l n s a p r body next
due_varied l c n s a o xs (Phase.Moves step v) next =
    if_on (l.held_page || l.exclusive_pins) (keeps_referred n s a o xs (Phase.Moves step v)) next
due_varied l c n s a o xs top next = next

-- what is due to an actor at this stack; without an operation it is idle
abbrev pub due_varied_top : Variant → Program → Noted → After → ℕ → Option Op → List Migrating → List Phase → Progress
due_varied_top l c n s a (Some o) xs (top ∷ below) =
    progress a (due_varied l c n s a o xs top (due_phase c s a o xs top))
due_varied_top l c n s a o xs stack = Progress.Idle

-- what is due to an actor
abbrev pub due_as : Variant → Program → Varied → ℕ → Progress
due_as l c t a = let g = t.state.going a in
    due_varied_top l c t.noted (found l c t) a (op_at c a g.index) g.pages g.stack

-- ---- the next state

-- where an actor goes after its entry; `was` is where it was, and g where the definitions lead
abbrev pub going_varied : Variant → Program → ℕ → Going → Kind → Going → Going
going_varied l c a was k g = let h = if l.own_read_only
    then led_failed c a was.index (op_at c a was.index) was.stack k g else g in
    if l.whole_snapshot then led_anew c a was.index was.stack k h else h

-- the references of an actor after its entry
abbrev pub references_after : Variant → After → Op → List Frame → Phase → Kind → List Frame
references_after l s o fs top k = let gs = if l.held_page then references_held s o fs top k else fs in
    if l.exclusive_pins then references_pinned s gs top k else gs

-- what is noted after an entry at this phase
abbrev pub noted_next : Variant → Program → Varied → ℕ → Kind → Op → Phase → Noted
noted_next l c t a k o top = let n = t.noted in record {
  references = with_at n.references a (references_after l t.state.after o (n.references a) top k);
  locks = if l.exclusive_busy then with_at n.locks a (locked_after (n.locks a) k) else n.locks;
  busy = if l.exclusive_busy then with_at n.busy a (busy_after top k) else n.busy;
  torn = if l.whole_snapshot then torn_after c t a k else n.torn;
}

-- what is noted after an entry at this stack
abbrev pub noted_top : Variant → Program → Varied → ℕ → Kind → Option Op → List Phase → Noted
noted_top l c t a k (Some o) (top ∷ below) = noted_next l c t a k o top
noted_top l c t a k o stack = t.noted

-- the state after one entry more: the memory and the actor go on as in the definitions, but for what a variant leads to
abbrev pub varied_next : Variant → Program → Varied → Entry → Varied
varied_next l c t e = let was = t.state.going e.actor in record {
  state = record {
    after = after_entry t.state.after e;
    going =
        with_at t.state.going e.actor
        (going_varied l c e.actor was e.kind (going_next c t.state.after e.actor was e.kind));
  };
  noted = noted_top l c t e.actor e.kind (op_at c e.actor was.index) was.stack;
}

-- the state after these entries
abbrev pub varied_on : Variant → Program → Varied → List Entry → Varied
varied_on l c t es = fold (varied_next l c) t es

-- the same after a set-up in which all was as in the definitions
abbrev pub varied_after : Variant → Program → List Entry → List Entry → Varied
varied_after l c h es = varied_on l c (varied_from (state_of c h)) es

-- each entry is due after those before it
abbrev pub DueAs : Variant → Program → Varied → List Entry → Type 0
DueAs l c t [] = ⊤
DueAs l c t (e ∷ es) = (due_as l c t e.actor ≡ Progress.Did e) × DueAs l c (varied_next l c t e) es
