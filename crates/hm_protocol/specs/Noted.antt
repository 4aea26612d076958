-- What is known after one event more.
use Rattle.std.specs.Prelude.{ℕ, ◌+◌, Bool, true, false, not, ◌&&◌, ◌||◌, nat_lt, ◌==◌, if◌then◌else◌, Option}
use Rattle.std.specs.Prelude.{Some, None, is_some, is_none, option_map, List, [], ◌∷◌, ◌++◌, fold, map, filter, find}
use Rattle.std.specs.Prelude.{count_by}
use Rattle.std.specs.List.{list_all, list_any}
use Rattle.hm_base.specs.Pages.{Pages, overlap}
use Rattle.hm_history.specs.Memory.Words.{with_at}
use Rattle.hm_history.specs.declared.TableRight.{TableRight}
use Rattle.hm_protocol.specs.declared.events.Event.{Event}
use Rattle.hm_protocol.specs.declared.events.Reason.{Reason}
use Rattle.hm_protocol.specs.declared.events.TraceFrame.{TraceFrame}
use Rattle.hm_protocol.specs.declared.events.Traced.{Traced}
use Rattle.hm_protocol.specs.Words.{device_of, is_same, is_it, is_before, is_empty, is_sole, drop_if}
use Rattle.hm_protocol.specs.Known.{Inside, Call, Stage, Look, Move, Early, Known, no_look, known_start}
use Rattle.hm_protocol.specs.Known.{is_slot, in_span}
use Rattle.hm_protocol.specs.Known.{is_current, goes_on, is_telling, is_own, is_early, meets, is_look_up}

-- ---- callbacks

-- the invalidation in which a thread is
abbrev pub inside : List Inside → Option Inside
inside [] = None
inside (y ∷ ys) = Some y

-- the callback begins
abbrev pub call : Known → ℕ → ℕ → Pages → ℕ → Call
call k t m r q = let had = filter (in_span m r) k.slots in record {
  thread = t;
  mirror = m;
  span = r;
  seq = q;
  of = option_map (λ y. y.at) (inside (k.under t));
  owner = elim (inside (k.under t)) [ None ↦ None | Some y ↦ y.owner ];
  ended = None;
  at = k.at;
  after = None;
  alone = true;
  had = had;
  here = had;
  left = [];
  erased = false;
  late = 0;
  copied = 0;
  stale = None;
}

-- it returns; if a migration of the thread is placing pages there, they say nothing of what it erases
abbrev pub returned : Known → ℕ → ℕ → ℕ → Call → Call
returned k t m q x = if is_current t m x then record x {
  at = k.at;
  after = Some q;
  left = x.here;
  alone = count_by (λ y. (y.mirror == m) && (y.seq == x.seq)) k.calls == 1;
  stale = if list_any (λ y. not y.paged && overlap y.span x.span) (k.moves t) then Some ([], false) else None;
} else x

-- the invalidation that began at i has ended at j
abbrev pub after_end : ℕ → ℕ → Call → Call
after_end i j x = if is_it x.of i then record x { ended = Some j } else x

-- an invalidation of a thread is over, that began there
abbrev pub over : Known → ℕ → Option ℕ → Known
over k t None = k
over k t (Some i) = record k {
  under = with_at k.under t (drop_if (λ y. y.at == i) (k.under t));
  calls = map (after_end i k.at) k.calls;
}

-- where the invalidation of a callback began
abbrev pub began : Option Call → Option ℕ
began None = None
began (Some x) = x.of

-- an entry of its span was erased by a thread
abbrev pub lost_one : Known → ℕ → Call → Call
lost_one k t x =
    if is_none x.after then record x { erased = x.erased || (x.thread == t) }
    else if list_any (λ y. (y.thread == t) && is_none y.after) k.calls then x
    else if not (is_own k x) then record x { late = x.late + 1 }
    else if is_some x.stale || not (x.thread == t) then x
    else if list_any (λ y. nat_lt x.at y.at) (k.moves t) then record x { copied = x.copied + 1 }
    else record x { late = x.late + 1 }

-- an entry of a page was erased
abbrev pub after_erase : Known → ℕ → ℕ → ℕ → Call → Call
after_erase k t m v x = if list_any (is_slot m v) x.here
    then lost_one k t (record x { here = drop_if (is_slot m v) x.here }) else x

-- another entry is there
abbrev pub after_set : ℕ → ℕ → Call → Call
after_set m v x = record x { here = drop_if (is_slot m v) x.here }

-- its own migration knows what moved
abbrev pub after_paged : Known → ℕ → Move → Call → Call
after_paged k t y x = if (x.thread == t) && (is_own k x
    && (is_none x.stale && (nat_lt x.at y.at && overlap y.span x.span)))
    then record x { stale = Some (filter (λ s. list_any (λ u. u.0 == s.page) y.source) x.here, y.to_device) } else x

-- ---- look-ups

-- another look-up of the thread in the mirror
abbrev pub with_look : Known → ℕ → ℕ → Look → Known
with_look k t m l = record k { looks = λ u n. if (u == t) && (n == m) then l else k.looks u n }

-- a look-up has done that last
abbrev pub is_walked : Stage → Bool
is_walked Stage.Walked = true
is_walked g = false

-- or this
abbrev pub is_begun : Stage → Bool
is_begun Stage.Begun = true
is_begun g = false

-- the look-up's invalidation was over when its last walk ended
abbrev pub is_past : Look → Call → Bool
is_past l x = is_some x.of && elim l.walked [ None ↦ false | Some i ↦ is_before x.ended i ]

-- a look-up is given up by the next one, if it has walked and set nothing, and its mirror was told
abbrev pub give_up : Known → ℕ → Look → List Bool
give_up k m l = let xs = filter (meets l m) k.calls in
    if is_walked l.stage && (is_some l.walked && (not l.set && not (is_empty xs)))
    then list_all (is_past l) xs ∷ [] else []

-- the `Begin` or walk is too early
abbrev pub too_early : Known → ℕ → ℕ → ℕ → Bool → List Early
too_early k t m q walks =
    if is_early k m q then record { thread = t; mirror = m; last = walks; at = k.at } ∷ [] else []

-- the last walks of the look-up
abbrev pub is_last : ℕ → ℕ → Early → Bool
is_last t m x = (x.thread == t) && ((x.mirror == m) && x.last)

-- a `Begin` after walks with sequences of their own: it comes last, which is another rule's
abbrev pub begun_last : ℕ → ℕ → Look → List Early → List Early
begun_last t m l xs = if is_walked l.stage && l.itself then drop_if (is_last t m) xs
    else map (λ x. if is_last t m x then record x { last = false } else x) xs

-- a look-up begins
abbrev pub begin : Known → ℕ → ℕ → ℕ → Known
begin k t m q = let l = k.looks t m in with_look (record k {
  given_up = k.given_up ++ give_up k m l;
  early = begun_last t m l k.early ++ too_early k t m q false;
}) t m (record l { stage = Stage.Begun; begun = Some k.at; seq = q; itself = false; set = false })

-- a walk begins, with the sequence of the look-up, or with one that the driver has read itself
abbrev pub walk : Known → ℕ → ℕ → ℕ → Option ℕ → Known
walk k t m q d = let l = k.looks t m in let itself = is_none l.begun || not (q == l.seq) in with_look (record k {
  given_up = if itself then k.given_up ++ give_up k m l else k.given_up;
  early = k.early ++ too_early k t m q true;
  device = if is_some (k.device m) then k.device else with_at k.device m d;
}) t m (record l {
  begun = if itself then Some k.at else l.begun;
  seq = q;
  itself = l.itself || itself;
  walked = None;
  found = if itself || (is_begun l.stage || l.set) then [] else l.found;
  set = false;
})

-- ---- migrations

-- a thread's inner migration changes
abbrev pub with_move : (Move → Move) → List Move → List Move
with_move f [] = []
with_move f (y ∷ ys) = f y ∷ ys

-- it does
abbrev pub moving : Known → ℕ → (Move → Move) → Known
moving k t f = record k { moves = with_at k.moves t (with_move f (k.moves t)) }

-- it knows what moved
abbrev pub paged : Known → ℕ → List Move → List Call
paged k t [] = k.calls
paged k t (y ∷ ys) = map (after_paged k t y) k.calls

-- a frame was freed since it began
abbrev pub freed : TraceFrame → Move → Move
freed f y = record y { freed = f ∷ y.freed }

-- without the inner one
abbrev pub outer : List Move → List Move
outer [] = []
outer (y ∷ ys) = ys

-- ---- the table

-- a look-up is committed
abbrev pub commit : Known → ℕ → ℕ → Known
commit k t m = let l = k.looks t m in let xs = filter (meets l m) k.calls in with_look (record k {
  stale = if is_empty xs then k.stale else k.stale ++ (k.at, list_any goes_on xs) ∷ [];
}) t m (record l { set = true })

-- who has set the entry
abbrev pub set_by : Known → ℕ → ℕ → ℕ → TableRight → Known
set_by k t m v w = if is_look_up k t v w then commit k t m
    else if is_sole w then k else moving k t (λ y. record y { set = v ∷ y.set })

-- ---- frames

-- a frame of a device is held, but for one that the device should not have given
abbrev pub held_more : Known → TraceFrame → Option ℕ → Known
held_more k f None = k
held_more k f (Some d) = if k.withdrawn d then k else record k { held = f ∷ k.held }

-- the device is withdrawn
abbrev pub withdraw : Known → ℕ → Known
withdraw k d = record k {
  withdrawn = with_at k.withdrawn d true;
  held_then = with_at k.held_then d (list_any (λ f. is_it (device_of f) d) k.held);
  passed = with_at k.passed d false;
}

-- a frame is passed over, of a device that is withdrawn
abbrev pub pass_over : Known → Option ℕ → Known
pass_over k None = k
pass_over k (Some d) = if k.withdrawn d then record k { passed = with_at k.passed d true } else k

-- ---- events

-- the device whose migration an invalidation is for
abbrev pub migrates_for : Reason → Option ℕ → Option ℕ
migrates_for Reason.Migrate d = d
migrates_for why d = None

-- what is known after an event of a thread, but for its position
abbrev pub noted : Known → ℕ → Event → Known
noted k t (Event.Insert m p r d) = record k {
  device = with_at k.device m d;
  first = with_at k.first m r.first;
  gone = with_at k.gone m false;
  slots = drop_if (λ x. x.mirror == m) k.slots;
  looks = λ u n. if n == m then no_look else k.looks u n;
}
noted k t (Event.Remove m) = record k { leaving = with_at k.leaving m (list_any (is_telling m) k.calls) }
noted k t (Event.Removed m) = record k { gone = with_at k.gone m true }
noted k t (Event.Start p r why d) = record k {
  under = with_at k.under t (record { at = k.at; proc = p; span = r; owner = migrates_for why d } ∷ k.under t);
}
noted k t (Event.End p r) = over k t (option_map (λ y. y.at)
    (find (λ y. (y.proc == p) && ((y.span.first == r.first) && (y.span.count == r.count))) (k.under t)))
noted k t (Event.Tell m r q) = record k { calls = k.calls ++ call k t m r q ∷ [] }
noted k t (Event.Told m q true) = record k { calls = map (returned k t m q) k.calls }
noted k t (Event.Told m q false) =
    over (record k { calls = drop_if (is_current t m) k.calls }) t (began (find (is_current t m) k.calls))
noted k t (Event.Begin m q) = begin k t m q
noted k t (Event.Walk m r q locked d) = walk k t m q d
noted k t (Event.Found m v f w) = let l = k.looks t m in with_look k t m (record l { found = (v, w) ∷ l.found })
noted k t (Event.Walked m done) =
    with_look k t m (record (k.looks t m) { stage = Stage.Walked; walked = if done then Some k.at else None })
noted k t (Event.Setup p r to_device d) = record k {
  moves = with_at k.moves t (record {
    at = k.at;
    span = r;
    to_device = to_device;
    source = [];
    moved = [];
    stayed = [];
    paged = false;
    set = [];
    freed = [];
  } ∷ k.moves t);
}
noted k t (Event.From v f w) = moving k t (λ y. record y { source = (v, w) ∷ y.source })
noted k t (Event.Moved v f) = moving k t (λ y. record y { moved = v ∷ y.moved })
noted k t (Event.Stayed v f) = moving k t (λ y. record y { stayed = (v, f) ∷ y.stayed })
noted k t (Event.Paged p) =
    moving (record k { calls = paged k t (k.moves t) }) t (λ y. record y { paged = true })
noted k t (Event.Finalize p) = record k { moves = with_at k.moves t (outer (k.moves t)) }
noted k t (Event.Set m v f w) = set_by (record k {
  slots = record { mirror = m; page = v; right = w; at = k.at } ∷ drop_if (is_slot m v) k.slots;
  calls = map (after_set m v) k.calls;
}) t m v w
noted k t (Event.Erase m v) = record k {
  slots = drop_if (is_slot m v) k.slots;
  calls = map (after_erase k t m v) k.calls;
}
noted k t (Event.Take f) = held_more k f (device_of f)
noted k t (Event.Free f) = record k {
  held = drop_if (is_same f) k.held;
  moves = with_at k.moves t (map (freed f) (k.moves t));
}
noted k t (Event.Withdraw d) = withdraw k d
noted k t (Event.Pass f) = pass_over k (device_of f)
noted k t x = k

-- what is known after one event more
abbrev pub known_next : Known → Traced → Known
known_next k s = let u = noted k s.thread s.event in record u { at = k.at + 1; last = with_at u.last s.thread k.at }

-- what is known after these events
abbrev pub known : List Traced → Known
known es = fold known_next known_start es
