-- What an event makes of a callback, by the parts of what is known that it looks at.
use Rattle.std.specs.Prelude.{ℕ, ◌+◌, ◌≤◌, Bool, true, false, not, ◌&&◌}
use Rattle.std.specs.Prelude.{◌||◌, ◌==◌, nat_lt, if◌then◌else◌, Option, Some, None}
use Rattle.std.specs.Prelude.{is_some, is_none, List, [], ◌∷◌, length, map, filter, count_by, option_map}
use Rattle.std.specs.List.{list_any}
use Rattle.hm_protocol.specs.Words.{is_it, drop_if}
use Rattle.hm_base.specs.Pages.{Pages, overlap}
use Rattle.hm_protocol.specs.Known.{Slot, Inside, Call, Move, is_slot, is_current}

-- of a callback: each entry that was erased later is one that was left, and so is each that is there after the return;
-- before that none was
abbrev pub Adds : Option ℕ → ℕ → ℕ → List Slot → List Slot → Type 0
Adds after late copied here left = late + copied + length (if is_some after then here else left) ≤ length left

-- the mirror was told of a migration by its own device
abbrev pub own_by : (ℕ → Option ℕ) → Call → Bool
own_by device x = elim x.owner [ None ↦ false | Some d ↦ is_it (device x.mirror) d ]

-- a callback that begins, in an invalidation of its thread or in none, with these entries in its span
abbrev pub call_with : ℕ → ℕ → Pages → ℕ → Option Inside → ℕ → List Slot → Call
call_with t m r q within i had = record {
  thread = t;
  mirror = m;
  span = r;
  seq = q;
  of = option_map (λ y. y.at) within;
  owner = elim within [ None ↦ None | Some y ↦ y.owner ];
  ended = None;
  at = i;
  after = None;
  alone = true;
  had = had;
  here = had;
  left = [];
  erased = false;
  late = 0;
  copied = 0;
  stale = None;
}

-- an entry of its span was erased by a thread, which is in a callback or is not, and has these migrations
abbrev pub lost_by : (ℕ → Option ℕ) → Bool → List Move → ℕ → Call → Call
lost_by device in_callback moves t x =
    if is_none x.after then record x { erased = x.erased || (x.thread == t) }
    else if in_callback then x
    else if not (own_by device x) then record x { late = x.late + 1 }
    else if is_some x.stale || not (x.thread == t) then x
    else if list_any (λ y. nat_lt x.at y.at) moves then record x { copied = x.copied + 1 }
    else record x { late = x.late + 1 }

-- an entry of a page was erased
abbrev pub erased_by : (ℕ → Option ℕ) → Bool → List Move → ℕ → ℕ → ℕ → Call → Call
erased_by device in_callback moves t m v x = if list_any (is_slot m v) x.here
    then lost_by device in_callback moves t (record x { here = drop_if (is_slot m v) x.here }) else x

-- it returns, with this sequence; whether no other was given the sequence that it was given, and a migration of the
-- thread is placing pages there
abbrev pub returned_by : ℕ → ℕ → Bool → Bool → Call → Call
returned_by i q alone placing x = record x {
  at = i;
  after = Some q;
  left = x.here;
  alone = alone;
  stale = if placing then Some ([], false) else None;
}

-- the migration has not said what moved, and has pages of the span
abbrev pub is_placing : Pages → Move → Bool
is_placing r y = not y.paged && overlap y.span r

-- each callback that the thread is in returns
abbrev pub returned_in : ℕ → ℕ → List Call → List Move → ℕ → ℕ → Call → Call
returned_in i q calls moves t m x = if is_current t m x
    then returned_by i q (count_by (λ y. (y.mirror == m) && (y.seq == x.seq)) calls == 1)
    (list_any (is_placing x.span) moves) x
    else x

-- the thread's own migration knows what moved
abbrev pub paged_by : (ℕ → Option ℕ) → ℕ → Move → Call → Call
paged_by device t y x = if (x.thread == t) && (own_by device x
    && (is_none x.stale && (nat_lt x.at y.at && overlap y.span x.span)))
    then record x { stale = Some (filter (λ s. list_any (λ u. u.0 == s.page) y.source) x.here, y.to_device) } else x

-- the inner one of these migrations of a thread knows what moved
abbrev pub paged_in : (ℕ → Option ℕ) → ℕ → List Move → List Call → List Call
paged_in device t [] cs = cs
paged_in device t (y ∷ ys) cs = map (paged_by device t y) cs
