-- Each event comes from an entry of its own kind.
use Rattle.std.proofs.Common.{refl}
use Rattle.std.specs.Prelude.{◌≡◌, ℕ, Bool, true, false, not, ◌&&◌, ◌||◌, if◌then◌else◌, Option, Some, None, is_some, ⊤}
use Rattle.std.specs.Prelude.{List, [], ◌∷◌, ◌++◌, map, flat_map}
use Rattle.hm_base.specs.Pages.{Pages, one_page}
use Rattle.hm_base.specs.declared.Frame.{Frame}
use Rattle.hm_base.specs.declared.Place.{Place}
use Rattle.hm_base.specs.declared.ops.Op.{Op}
use Rattle.hm_history.specs.Memory.Words.{numbers, page_of}
use Rattle.hm_history.specs.Memory.Sequences.{interval_seq}
use Rattle.hm_history.specs.Memory.After.{After}
use Rattle.hm_history.specs.Memory.Plain.{mirror_proc}
use Rattle.hm_history.specs.Kernel.Operation.{op_mirror, is_migration, is_evicting}
use Rattle.hm_history.specs.Kernel.Going.{State, coming, touch_page, touch_proc}
use Rattle.hm_history.specs.declared.Who.{Who}
use Rattle.hm_history.specs.declared.KeptAt.{KeptAt}
use Rattle.hm_history.specs.declared.KeptWhy.{KeptWhy}
use Rattle.hm_history.specs.declared.Kind.{Kind}
use Rattle.hm_history.specs.declared.phases.Body.{Body}
use Rattle.hm_history.specs.declared.phases.Migrating.{Migrating}
use Rattle.hm_history.specs.declared.phases.MoveStep.{MoveStep}
use Rattle.hm_history.specs.declared.phases.Touch.{Touch}
use Rattle.hm_history.specs.declared.phases.Phase.{Phase}
use Rattle.hm_protocol.specs.declared.events.Event.{Event}
use Rattle.hm_protocol.specs.Projection as project
use Rattle.hm_protocol.specs.Projection.{events_in, events_by, comes_to, entry_frame, in_trace}

-- an entry that may erase entries of a table; of `Evicted`, which stands for any entry, nothing is asked
abbrev pub is_erasing : Kind → Bool
is_erasing (Kind.Told m r q) = true
is_erasing (Kind.Detaching m q) = true
is_erasing (Kind.Detached m) = true
is_erasing (Kind.End p r q) = true
is_erasing (Kind.Copied f g part) = true
is_erasing (Kind.Evicted n) = true
is_erasing k = false

-- which entry says an event: a walk, that its actor has the lock or not, as b tells
abbrev pub Fits : Bool → Kind → Event → Type 0
Fits b k (Event.Insert m p r d) = (e : ℕ) × ((d ≡ Some e) × ((q : ℕ) × (k ≡ Kind.Attached m e p r q)))
Fits b k (Event.Removed m) = k ≡ Kind.Detached m
Fits b k (Event.Start p r why d) = (q : ℕ) × (k ≡ Kind.Start p r q)
Fits b k (Event.End p r) = (q : ℕ) × (k ≡ Kind.End p r q)
Fits b k (Event.Tell m r q) = k ≡ Kind.Told m r q
Fits b k (Event.Told m q done) = (r : Pages) × ((p : ℕ) × (k ≡ Kind.Told m r p))
Fits b k (Event.Begin m q) = k ≡ Kind.Begin m q
Fits b k (Event.Walk m r q locked d) = (locked ≡ b) × ((p : ℕ) × (k ≡ Kind.Rlock p))
Fits b k (Event.Set m v g w) = (f : Option Frame) × ((g ≡ entry_frame f) × ((from : ℕ) × (k ≡ Kind.Set m v f w from)))
Fits b k (Event.Erase m v) = is_erasing k ≡ true
Fits b k (Event.Use m r false) = (at : ℕ) × ((bs : List ℕ) × ((r ≡ one_page (page_of at)) × (k ≡ Kind.Loaded (Who.Mirror m) at bs)))
Fits b k (Event.Use m r true) = (at : ℕ) × ((bs : List ℕ) × ((r ≡ one_page (page_of at)) × (k ≡ Kind.Stored (Who.Mirror m) at bs)))
Fits b k (Event.Add m v) = (at : ℕ) × ((was : ℕ) × ((now : ℕ) × ((v ≡ page_of at) × (k ≡ Kind.Added m at was now))))
Fits b k (Event.Take g) = (f : Frame) × ((g ≡ in_trace f) × (k ≡ Kind.Take f))
Fits b k (Event.Free g) = (f : Frame) × ((g ≡ in_trace f) × (k ≡ Kind.Drop f))
Fits b k (Event.Withdraw d) = k ≡ Kind.Withdrawn d
Fits b k (Event.Gone d) = k ≡ Kind.Removed d
Fits b k x = ⊤

-- each of them fits
abbrev pub AllFit : Bool → Kind → List Event → Type 0
AllFit b k [] = ⊤
AllFit b k (x ∷ xs) = Fits b k x × AllFit b k xs

pub both : (b : Bool) (j : Kind) → (xs ys : List Event) → AllFit b j xs → AllFit b j ys → AllFit b j (xs ++ ys)
both b j [] ys h g = g
both b j (x ∷ xs) ys h g = (h.0, both b j xs ys h.1 g)

each : (b : Bool) (j : Kind) {X : Type 0} (f : X → Event) → ((x : X) → Fits b j (f x)) → (xs : List X) → AllFit b j (map f xs)
each b j f h [] = tt
each b j f h (x ∷ xs) = (h x, each b j f h xs)

flat : (b : Bool) (j : Kind) {X : Type 0} (f : X → List Event) → ((x : X) → AllFit b j (f x)) → (xs : List X) → AllFit b j (flat_map f xs)
flat b j f h [] = tt
flat b j f h (x ∷ xs) = both b j (f x) (flat_map f xs) (h x) (flat b j f h xs)

choice : (b : Bool) (j : Kind) → (c : Bool) (xs ys : List Event) → AllFit b j xs → AllFit b j ys
    → AllFit b j (if c then xs else ys)
choice b j true xs ys h g = h
choice b j false xs ys h g = g

if_there : (b : Bool) (j : Kind) → (o : Option ℕ) (x : Event) → Fits b j x → AllFit b j (elim o [ None ↦ [] | Some d ↦ x ∷ [] ])
if_there b j None x h = tt
if_there b j (Some d) x h = (h, tt)

pub erased_ok : (b : Bool) (j : Kind) → is_erasing j ≡ true → (s u : After) (m : ℕ) → AllFit b j (project.erased s u m)
erased_ok b j h s u m = each b j (λ v. Event.Erase m v) (λ v. h) _

pub all_erased_ok : (b : Bool) (j : Kind) → is_erasing j ≡ true → (s u : After) → AllFit b j (project.all_erased s u)
all_erased_ok b j h s u = flat b j (project.erased s u) (erased_ok b j h s u) (numbers 0 32)

set_up_ok : (b : Bool) (j : Kind) → (s : After) (o : Op) (xs : List Migrating) (top : Phase) (k : Kind) → AllFit b j (project.set_up s o xs top k)
set_up_ok b j s o xs (Phase.Moves MoveStep.FreezeOthers v) k =
    choice b j (project.is_start k) _ _ tt (tt, both b j _ _ (each b j _ (λ x. tt) xs) (tt, tt))
set_up_ok b j s o xs top k = tt

paged_ok : (b : Bool) (j : Kind) → (s : After) (o : Op) (xs : List Migrating) (top : Phase) → AllFit b j (project.paged s o xs top)
paged_ok b j s o xs top = choice b j (project.is_up_to_commits top && project.is_past_commits (coming s o xs top))
    (Event.Paged (mirror_proc s.plain (op_mirror o)) ∷ []) [] (tt, tt) tt

pub comes_ok : (b : Bool) (j : Kind) → (s : After) (o : Op) (xs : List Migrating) (top : Phase) (k : Kind) → AllFit b j (comes_to s o xs top k)
comes_ok b j s o xs top k = choice b j (is_migration o) (project.set_up s o xs top k ++ project.paged s o xs top) []
    (both b j (project.set_up s o xs top k) (project.paged s o xs top) (set_up_ok b j s o xs top k) (paged_ok b j s o xs top)) tt

home_ok : (b : Bool) (j : Kind) → (s : After) (o : Op) (stack : List Phase) (f : Frame) (k : Kind) → AllFit b j (project.home_set_up s o stack f k)
home_ok b j s o stack f k = choice b j (project.is_start k || not (project.is_home o)) [] _ tt (tt, (tt, (tt, tt)))

pub over_ok : (b : Bool) (j : Kind) → (s : After) (o : Op) (top : Phase) → AllFit b j (project.home_over s o top)
over_ok b j s o (Phase.Settle g) = choice b j (project.is_home o) (Event.Finalize (touch_proc s o) ∷ []) [] (tt, tt) tt
over_ok b j s o (Phase.Finish f None) = choice b j (project.is_home o) (Event.Finalize (touch_proc s o) ∷ []) [] (tt, tt) tt
over_ok b j s o top = tt

taken_ok : (b : Bool) (j : Kind) → (s : After) (o : Op) (stack : List Phase) (g : Frame) → Fits b j (Event.Take (in_trace g))
    → AllFit b j (project.taken s o stack g)
taken_ok b j s o (Phase.Emptying f at ∷ below) g h = home_ok b j s o (Phase.Emptying f at ∷ below) f (Kind.Take g)
taken_ok b j s o stack g h = if_there b j (project.owner_of g) (Event.Take (in_trace g)) h

moved_ok : (b : Bool) (j : Kind) → (s : After) (o : Op) (stack : List Phase) (x : Option Migrating) (g : Frame) → AllFit b j (project.moved s o stack x g)
moved_ok b j s o stack None g = choice b j (project.is_home o) _ [] (tt, (tt, tt)) tt
moved_ok b j s o stack (Some x) g = (tt, tt)

placed_ok : (b : Bool) (j : Kind) → (top : Phase) (v : ℕ) (x : Place) → AllFit b j (project.placed top v x)
placed_ok b j (Phase.Guard p r met told (Body.Fresh g)) v x = (tt, tt)
placed_ok b j top v x = tt

found_ok : (b : Bool) (j : Kind) → (m v : ℕ) (x : Place) → AllFit b j (project.found_at m v x)
found_ok b j m v Place.Zero = (tt, tt)
found_ok b j m v (Place.Sys n w) = (tt, tt)
found_ok b j m v (Place.Own d n w) = (tt, tt)
found_ok b j m v x = tt

walked_ok : (b : Bool) (j : Kind) → (s : After) (o : Op) (top : Phase) → AllFit b j (project.walked s o top)
walked_ok b j s o (Phase.Decide (Touch.Walk k since q)) =
    both b j (project.found_at (op_mirror o) (touch_page o (Touch.Walk k since q))
    (s.places.place (touch_proc s o) (touch_page o (Touch.Walk k since q)))) (Event.Walked (op_mirror o) true ∷ [])
    (found_ok b j _ _ _) (tt, tt)
walked_ok b j s o top = tt

not_walked_ok : (b : Bool) (j : Kind) → (o : Op) (top : Phase) → AllFit b j (project.not_walked o top)
not_walked_ok b j o (Phase.Decide (Touch.Walk k since q)) = (tt, tt)
not_walked_ok b j o (Phase.GiveUp (Some (Touch.Walk k since q))) = (tt, tt)
not_walked_ok b j o top = tt

pub removal_ok : (b : Bool) (j : Kind) → (top : Phase) (m : ℕ) → AllFit b j (project.begins_removal top m)
removal_ok b j (Phase.Detaching q) m = tt
removal_ok b j top m = (tt, tt)

kept_home_ok : (b : Bool) (j : Kind) → (s : After) (o : Op) (x : Option Migrating) (f : Frame) (at what : KeptAt) (below : List Phase)
    → AllFit b j (project.home_set_up s o (Phase.Emptying f at ∷ below) f (Kind.Kept what KeptWhy.NoFrame)
    ++ (if project.is_home o then Event.Paged (touch_proc s o) ∷ [] else []))
kept_home_ok b j s o x f at what below =
    both b j (project.home_set_up s o (Phase.Emptying f at ∷ below) f (Kind.Kept what KeptWhy.NoFrame)) _
    (home_ok b j s o (Phase.Emptying f at ∷ below) f (Kind.Kept what KeptWhy.NoFrame))
    (choice b j (project.is_home o) (Event.Paged (touch_proc s o) ∷ []) [] (tt, tt) tt)

kept_ok : (b : Bool) (j : Kind) → (s : After) (o : Op) (x : Option Migrating) (stack : List Phase) (what : KeptAt) (why : KeptWhy) → AllFit b j (project.kept s o x stack what why)
kept_ok b j s o x stack (KeptAt.Frame f) (KeptWhy.LockedBy a) = choice b j (is_evicting o) (Event.Pass (in_trace f) ∷ []) [] (tt, tt) tt
kept_ok b j s o x (Phase.Lost v g ∷ below) what KeptWhy.Lost = (tt, tt)
kept_ok b j s o (Some x) stack what KeptWhy.Lost = (tt, tt)
kept_ok b j s o x (Phase.Emptying f at ∷ below) what KeptWhy.NoFrame = kept_home_ok b j s o x f at what below
kept_ok b j s o x stack what why = tt

walk_ok : (b : Bool) (j : Kind) → (s : After) (locked : Bool) (o : Op) (top : Phase) → locked ≡ b
    → (p : ℕ) × (j ≡ Kind.Rlock p) → AllFit b j (project.walk_of s locked o top)
walk_ok b j s locked (Op.DeviceLoad m at n) top h r = ((h, r), tt)
walk_ok b j s locked (Op.DeviceStore m at bs) top h r = ((h, r), tt)
walk_ok b j s locked o top h r = tt

-- each event of an entry fits it
pub events_fit : (b : Bool) (s u : After) (a : ℕ) (o : Op) (xs : List Migrating) (stack : List Phase) (after : Phase)
    (k : Kind) → is_some (u.locks.map a) ≡ b → AllFit b k (events_by s u a o xs stack after k)
events_fit b s u a o xs stack after (Kind.Attached m d p r q) h = ((d, (refl, (q, refl))), (tt, tt))
events_fit b s u a o xs stack after (Kind.Detaching m q) h = (tt, erased_ok b (Kind.Detaching m q) refl s u m)
events_fit b s u a o xs stack after (Kind.Detached m) h = both b (Kind.Detached m)
    (project.begins_removal (project.top_of stack) m ++ project.erased s u m) (Event.Removed m ∷ [])
    (both b (Kind.Detached m) (project.begins_removal (project.top_of stack) m) (project.erased s u m)
    (removal_ok b (Kind.Detached m) (project.top_of stack) m) (erased_ok b (Kind.Detached m) refl s u m)) (refl, tt)
events_fit b s u a o xs stack after (Kind.Start p r q) h = ((q, refl), tt)
events_fit b s u a o xs stack after (Kind.Told m r q) h = (
  refl,
  both b (Kind.Told m r q) (project.erased s u m)
      (Event.Told m (interval_seq u.sequences m) true ∷ []) (erased_ok b (Kind.Told m r q) refl s u m) ((r, (q, refl)), tt),
)
events_fit b s u a o xs stack after (Kind.End p r q) h = ((q, refl), all_erased_ok b (Kind.End p r q) refl s u)
events_fit b s u a o xs stack after (Kind.Begin m q) h = (refl, tt)
events_fit b s u a o xs stack after (Kind.Rlock p) h = walk_ok b (Kind.Rlock p) s (is_some (u.locks.map a)) o (project.top_of stack) h (p, refl)
events_fit b s u a o xs stack after (Kind.Runlock p) h = walked_ok b (Kind.Runlock p) s o (project.top_of stack)
events_fit b s u a o xs stack after (Kind.Retry m) h = not_walked_ok b (Kind.Retry m) o (project.top_of stack)
events_fit b s u a o xs stack after (Kind.Failed x at n why) h = not_walked_ok b (Kind.Failed x at n why) o (project.top_of stack)
events_fit b s u a o xs stack after (Kind.Set m v f w from) h = ((f, (refl, (from, refl))), tt)
events_fit b s u a o xs stack after (Kind.Loaded (Who.Mirror m) at bs) h = ((at, (bs, (refl, refl))), tt)
events_fit b s u a o xs stack after (Kind.Stored (Who.Mirror m) at bs) h = ((at, (bs, (refl, refl))), tt)
events_fit b s u a o xs stack after (Kind.Fetched m at bs) h = (tt, tt)
events_fit b s u a o xs stack after (Kind.Added m at was now) h = ((at, (was, (now, (refl, refl)))), tt)
events_fit b s u a o xs stack after (Kind.Take g) h = taken_ok b (Kind.Take g) s o stack g (g, (refl, refl))
events_fit b s u a o xs stack after (Kind.Drop f) h = both b (Kind.Drop f) (project.if_device f (Event.Free (in_trace f))) _
    (if_there b (Kind.Drop f) (project.owner_of f) (Event.Free (in_trace f)) (f, (refl, refl))) (over_ok b (Kind.Drop f) s o (project.top_of stack))
events_fit b s u a o xs stack after (Kind.Done f) h = over_ok b (Kind.Done f) s o (project.top_of stack)
events_fit b s u a o xs stack after (Kind.Copied f g part) h = all_erased_ok b (Kind.Copied f g part) refl s u
events_fit b s u a o xs stack after (Kind.Committed f g) h =
    moved_ok b (Kind.Committed f g) s o stack (project.record_at (coming s o xs (project.top_of stack))) g
events_fit b s u a o xs stack after (Kind.Place p v x) h = placed_ok b (Kind.Place p v x) (project.top_of stack) v x
events_fit b s u a o xs stack after (Kind.Kept what why) h =
    kept_ok b (Kind.Kept what why) s o (project.record_at (coming s o xs (project.top_of stack))) stack what why
events_fit b s u a o xs stack after (Kind.Withdrawn d) h = (refl, tt)
events_fit b s u a o xs stack after (Kind.Removed d) h = (refl, tt)
events_fit b s u a o xs stack after (Kind.Migrated n) h = (tt, tt)
events_fit b s u a o xs stack after k h = tt

-- so does each event of an entry between two states
pub in_fits : (t u : State) (a : ℕ) (k : Kind) (o : Option Op)
    → AllFit (is_some (u.after.locks.map a)) k (events_in t u a k o)
in_fits t u a k None = tt
in_fits t u a k (Some o) = let g = t.going a in let b = is_some (u.after.locks.map a) in
    both b k (comes_to t.after o g.pages (project.top_of g.stack) k) _
    (comes_ok b k t.after o g.pages (project.top_of g.stack) k)
    (events_fit b t.after u.after a o g.pages g.stack (project.top_of (u.going a).stack) k refl)
