-- What is known after some events. A position counts events from 0.
use Rattle.std.specs.Prelude.{ℕ, Bool, false, not, ◌&&◌, ◌||◌, ◌==◌, if◌then◌else◌, Option, Some, None, is_some}
use Rattle.std.specs.Prelude.{is_none, List, [], ◌∷◌, find}
use Rattle.std.specs.List.{list_any}
use Rattle.hm_base.specs.Pages.{Pages, covers}
use Rattle.hm_history.specs.declared.TableRight.{TableRight}
use Rattle.hm_protocol.specs.declared.events.TraceFrame.{TraceFrame}
use Rattle.hm_protocol.specs.Words.{is_it, is_other, is_before, is_sole}

-- an entry of a table, and the position of its `Set`
pub record Slot : Type 0 where
  pub mirror : ℕ
  pub page : ℕ
  pub right : TableRight
  pub at : ℕ

-- an invalidation of a thread, and where it began; the device whose migration it is for
pub record Inside : Type 0 where
  pub at : ℕ
  pub proc : ℕ
  pub span : Pages
  pub owner : Option ℕ

-- a callback, and what became of the entries of its span
pub record Call : Type 0 where
  pub thread : ℕ
  pub mirror : ℕ
  pub span : Pages
  pub seq : ℕ  -- the sequence that it was given
  pub of : Option ℕ  -- where its invalidation began
  pub owner : Option ℕ  -- the device whose migration that is for
  pub ended : Option ℕ  -- where it ended
  pub at : ℕ  -- where it returned, and before that where it began
  pub after : Option ℕ  -- the interval's sequence when it returned
  pub alone : Bool  -- no other callback was given this sequence
  pub had : List Slot  -- the entries of its span when it began
  pub here : List Slot  -- those that are still there
  pub left : List Slot  -- those that were there when it returned
  pub erased : Bool  -- it has erased one
  pub late : ℕ  -- how many of the left ones were erased later, and not by a callback
  pub copied : ℕ  -- the same while its own migration had collected its pages
  pub stale : Option (List Slot × Bool)  -- at the end of that: those of its pages that are there; whether to a device

-- what a look-up has done last
pub data Stage : Type 0 where
  Unbegun : Stage
  Begun : Stage
  Walked : Stage

-- the look-up of a thread in a mirror
pub record Look : Type 0 where
  pub stage : Stage
  pub begun : Option ℕ  -- where it has read its sequence
  pub seq : ℕ
  pub itself : Bool  -- it has walked with a sequence of its own, since the last `Begin`
  pub walked : Option ℕ  -- where the last walk went through
  pub found : List (ℕ × Bool)  -- the pages that it found, and whether for writes
  pub set : Bool  -- one of them was set

-- a migration of a thread
pub record Move : Type 0 where
  pub at : ℕ  -- where its pages were collected
  pub span : Pages
  pub to_device : Bool
  pub source : List (ℕ × Bool)  -- the pages, and whether for writes
  pub moved : List ℕ
  pub stayed : List (ℕ × TraceFrame)
  pub paged : Bool  -- what moved is known
  pub set : List ℕ  -- the pages that were set after that
  pub freed : List TraceFrame

-- a `Begin` or walk of a thread in a mirror, with the sequence of an invalidation under way; whether it is a walk that
-- no `Begin` has followed
pub record Early : Type 0 where
  pub thread : ℕ
  pub mirror : ℕ
  pub last : Bool
  pub at : ℕ

-- what is known after some events
pub record Known : Type 0 where
  pub at : ℕ  -- how many events
  pub last : ℕ → ℕ  -- the position of a thread's last event
  pub device : ℕ → Option ℕ
  pub first : ℕ → ℕ  -- the first page of a mirror's window
  pub gone : ℕ → Bool  -- the mirror was removed
  pub leaving : ℕ → Bool  -- it was being invalidated when its removal began
  pub under : ℕ → List Inside  -- a thread's invalidations under way, the inner one first
  pub slots : List Slot
  pub calls : List Call  -- in their order
  pub looks : ℕ → ℕ → Look
  pub early : List Early  -- in their order
  pub stale : List (ℕ × Bool)  -- commits of stale look-ups, in their order; whether an invalidation is under way
  pub given_up : List Bool  -- look-ups that were given up; whether after the invalidation
  pub moves : ℕ → List Move  -- a thread's migrations, the inner one first
  pub held : List TraceFrame
  pub withdrawn : ℕ → Bool
  pub held_then : ℕ → Bool  -- frames of the device were held when it was withdrawn
  pub passed : ℕ → Bool  -- some were passed over since

-- no look-up has begun
abbrev pub no_look : Look
no_look = record {
  stage = Stage.Unbegun;
  begun = None;
  seq = 0;
  itself = false;
  walked = None;
  found = [];
  set = false;
}

-- before the first event
abbrev pub known_start : Known
known_start = record {
  at = 0;
  last = λ t. 0;
  device = λ m. None;
  first = λ m. 0;
  gone = λ m. false;
  leaving = λ m. false;
  under = λ t. [];
  slots = [];
  calls = [];
  looks = λ t m. no_look;
  early = [];
  stale = [];
  given_up = [];
  moves = λ t. [];
  held = [];
  withdrawn = λ d. false;
  held_then = λ d. false;
  passed = λ d. false;
}

-- ---- words

-- the slot is that of a mirror's page
abbrev pub is_slot : ℕ → ℕ → Slot → Bool
is_slot m v x = (x.mirror == m) && (x.page == v)

-- the slot lies in a mirror's span
abbrev pub in_span : ℕ → Pages → Slot → Bool
in_span m r x = (x.mirror == m) && covers r x.page

-- what was said last of a page, and that it is this
abbrev pub is_noted : ℕ → Bool → List (ℕ × Bool) → Bool
is_noted v b xs = elim (find (λ x. x.0 == v) xs) [ None ↦ false | Some x ↦ (if b then x.1 else not x.1) ]

-- it is the callback that a thread is in
abbrev pub is_current : ℕ → ℕ → Call → Bool
is_current t m x = (x.thread == t) && ((x.mirror == m) && is_none x.after)

-- its invalidation is under way
abbrev pub goes_on : Call → Bool
goes_on x = is_some x.of && is_none x.ended

-- so it is, and the callback has returned
abbrev pub is_telling : ℕ → Call → Bool
is_telling m x = (x.mirror == m) && (goes_on x && is_some x.after)

-- it returned, and the interval has another sequence than it was given
abbrev pub leaves_seq : Call → Bool
leaves_seq x = is_other x.after x.seq

-- the mirror was told of a migration by its own device
abbrev pub is_own : Known → Call → Bool
is_own k x = elim x.owner [ None ↦ false | Some d ↦ is_it (k.device x.mirror) d ]

-- the mirror is being invalidated, and its interval has that sequence
abbrev pub is_invalidated : Known → ℕ → Bool
is_invalidated k m = list_any (λ x. is_telling m x && is_it x.after x.seq) k.calls

-- some invalidation of the mirror under way has this sequence
abbrev pub is_early : Known → ℕ → ℕ → Bool
is_early k m q = list_any (λ x. is_telling m x && (x.seq == q)) k.calls

-- the mirror was told since the look-up began, and has another sequence by that
abbrev pub meets : Look → ℕ → Call → Bool
meets l m x = (x.mirror == m) && (is_other x.after l.seq && is_before l.begun x.at)

-- the page is one that the thread's inner migration has moved, or could not move
abbrev pub is_migrated : List Move → ℕ → Bool
is_migrated [] v = false
is_migrated (y ∷ ys) v = y.paged && (list_any (λ u. u == v) y.moved || list_any (λ u. u.0 == v) y.stayed)

-- a thread's `Set` of this page, with this right, is by its look-up: not of a page for one actor, nor of a migration
abbrev pub is_look_up : Known → ℕ → ℕ → TableRight → Bool
is_look_up k t v w = not (is_sole w) && not (is_migrated (k.moves t) v)
