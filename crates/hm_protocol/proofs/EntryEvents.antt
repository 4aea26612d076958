-- Which events an entry says: the usual ones, and those of a set-up, of an end, and of the table where that says so.
use Rattle.std.proofs.Common.{refl}
use Rattle.std.proofs.lemmas.Bool.{true≢false, false≢true}
use Rattle.std.specs.Prelude.{◌≡◌, ℕ, Bool, true, false, not, ◌||◌, if◌then◌else◌, Option, Some, None, is_some}
use Rattle.std.specs.Prelude.{List, [], ◌∷◌, ◌++◌}
use Rattle.hm_base.specs.Pages.{one_page}
use Rattle.hm_base.specs.declared.Frame.{Frame}
use Rattle.hm_base.specs.declared.Place.{Place}
use Rattle.hm_base.specs.declared.ops.Op.{Op}
use Rattle.hm_history.specs.Memory.Words.{writable}
use Rattle.hm_history.specs.Memory.Sequences.{interval_seq}
use Rattle.hm_history.specs.Memory.After.{After}
use Rattle.hm_history.specs.Kernel.Operation.{op_mirror, is_evicting}
use Rattle.hm_history.specs.Kernel.Going.{coming, touch_page, touch_proc}
use Rattle.hm_history.specs.declared.Who.{Who}
use Rattle.hm_history.specs.declared.TableRight.{TableRight}
use Rattle.hm_protocol.specs.declared.events.TraceFrame.{TraceFrame}
use Rattle.hm_history.specs.declared.KeptAt.{KeptAt}
use Rattle.hm_history.specs.declared.KeptWhy.{KeptWhy}
use Rattle.hm_history.specs.declared.Kind.{Kind}
use Rattle.hm_history.specs.declared.phases.Body.{Body}
use Rattle.hm_history.specs.declared.phases.Migrating.{Migrating}
use Rattle.hm_history.specs.declared.phases.Touch.{Touch}
use Rattle.hm_history.specs.declared.phases.Phase.{Phase}
use Rattle.hm_protocol.specs.declared.events.Event.{Event}
use Rattle.hm_protocol.specs.Projection as project
use Rattle.hm_protocol.specs.Projection.{events_by, comes_to, top_of, in_trace, is_home}
use Rattle.hm_protocol.proofs.StillEvents.{sets_none, AllBe, both_be, be_there, erased_be, all_erased_be}

-- any event but a `Set`, and those with which a migration begins and ends
abbrev pub is_usual : Event → Bool
is_usual (Event.Setup p r to_device d) = false
is_usual (Event.From v f w) = false
is_usual (Event.Finalize p) = false
is_usual (Event.Set m v f w) = false
is_usual x = true

-- a frame is being emptied
abbrev pub is_emptying : Phase → Bool
is_emptying (Phase.Emptying f at) = true
is_emptying top = false

-- a test that passes all of those
abbrev pub Usual : (Event → Bool) → Type 0
Usual test = (x : Event) → is_usual x ≡ true → test x ≡ true

-- what a test has to pass, to pass all events of an entry
pub record Takes (test : Event → Bool) (s : After) (o : Op) (stack : List Phase) (k : Kind) : Type 0 where
  pub usual : Usual test
  pub home : is_emptying (top_of stack) ≡ true → (f : Frame) (j : Kind) → AllBe test (project.home_set_up s o stack f j)
  pub over : is_home o ≡ true → (p : ℕ) → test (Event.Finalize p) ≡ true
  pub ends : (n p : ℕ) → k ≡ Kind.Migrated n → test (Event.Finalize p) ≡ true
  pub sets : (m v : ℕ) (f : Option Frame) (w : TableRight) (from : ℕ) (g : TraceFrame) → k ≡ Kind.Set m v f w from
      → test (Event.Set m v g w) ≡ true

pub be_when : (test : Event → Bool) (c : Bool) (xs : List Event) → (c ≡ true → AllBe test xs)
    → AllBe test (if c then xs else [])
be_when test true xs h = h refl
be_when test false xs h = tt

over_be : (test : Event → Bool) (s : After) (o : Op) (top : Phase) → (is_home o ≡ true → (p : ℕ)
    → test (Event.Finalize p) ≡ true)
    → AllBe test (project.home_over s o top)
over_be test s o (Phase.Settle g) h = be_when test (is_home o) (Event.Finalize (touch_proc s o) ∷ [])
    (λ e. (h e (touch_proc s o), tt))
over_be test s o (Phase.Finish f None) h =
    be_when test (is_home o) (Event.Finalize (touch_proc s o) ∷ []) (λ e. (h e (touch_proc s o), tt))
over_be test s o top h = tt

-- nothing is set up here for what is brought home, or all of that passes
abbrev Homely : (Event → Bool) → After → Op → List Phase → Type 0
Homely test s o stack =
    is_emptying (top_of stack) ≡ true → (f : Frame) (j : Kind) → AllBe test (project.home_set_up s o stack f j)

taken_be : (test : Event → Bool) → Usual test → (s : After) (o : Op) (stack : List Phase) (g : Frame)
    → Homely test s o stack
    → AllBe test (project.taken s o stack g)
taken_be test h s o (Phase.Emptying f at ∷ below) g e = e refl f (Kind.Take g)
taken_be test h s o stack g e = be_there test (project.owner_of g) (Event.Take (in_trace g))
    (h (Event.Take (in_trace g)) refl)

moved_be : (test : Event → Bool) → Usual test → (s : After) (o : Op) (stack : List Phase) (x : Option Migrating)
    (g : Frame)
    → AllBe test (project.moved s o stack x g)
moved_be test h s o stack None g = be_when test (is_home o) (Event.Moved (project.page_in o stack) (in_trace g)
    ∷ Event.Paged (touch_proc s o) ∷ []) (λ e. (
      h (Event.Moved (project.page_in o stack) (in_trace g)) refl,
      (h (Event.Paged (touch_proc s o)) refl, tt),
    ))
moved_be test h s o stack (Some x) g = (h (Event.Moved x.page (in_trace g)) refl, tt)

placed_be : (test : Event → Bool) → Usual test → (top : Phase) (v : ℕ) (x : Place) → AllBe test (project.placed top v x)
placed_be test h (Phase.Guard p r met told (Body.Fresh g)) v x = (h (Event.Moved v (project.shown x)) refl, tt)
placed_be test h top v x = tt

found_be : (test : Event → Bool) → Usual test → (m v : ℕ) (x : Place) → AllBe test (project.found_at m v x)
found_be test h m v Place.Zero = (h _ refl, tt)
found_be test h m v (Place.Sys n w) = (h _ refl, tt)
found_be test h m v (Place.Own d n w) = (h _ refl, tt)
found_be test h m v x = tt

walked_be : (test : Event → Bool) → Usual test → (s : After) (o : Op) (top : Phase)
    → AllBe test (project.walked s o top)
walked_be test h s o (Phase.Decide (Touch.Walk k since q)) =
    both_be test (project.found_at (op_mirror o) (touch_page o (Touch.Walk k since q))
    (s.places.place (touch_proc s o) (touch_page o (Touch.Walk k since q)))) (Event.Walked (op_mirror o) true ∷ [])
    (found_be test h _ _ _) (h _ refl, tt)
walked_be test h s o top = tt

not_walked_be : (test : Event → Bool) → Usual test → (o : Op) (top : Phase) → AllBe test (project.not_walked o top)
not_walked_be test h o (Phase.Decide (Touch.Walk k since q)) = (h _ refl, tt)
not_walked_be test h o (Phase.GiveUp (Some (Touch.Walk k since q))) = (h _ refl, tt)
not_walked_be test h o top = tt

removal_be : (test : Event → Bool) → Usual test → (top : Phase) (m : ℕ) → AllBe test (project.begins_removal top m)
removal_be test h (Phase.Detaching q) m = tt
removal_be test h top m = (h _ refl, tt)

walk_be : (test : Event → Bool) → Usual test → (s : After) (locked : Bool) (o : Op) (top : Phase)
    → AllBe test (project.walk_of s locked o top)
walk_be test h s locked (Op.DeviceLoad m at n) top = (h _ refl, tt)
walk_be test h s locked (Op.DeviceStore m at bs) top = (h _ refl, tt)
walk_be test h s locked o top = tt

kept_be : (test : Event → Bool) → Usual test → (s : After) (o : Op) (x : Option Migrating) (stack : List Phase)
    (what : KeptAt)
    (why : KeptWhy) → Homely test s o stack → AllBe test (project.kept s o x stack what why)
kept_be test h s o x stack (KeptAt.Frame f) (KeptWhy.LockedBy a) e =
    be_when test (is_evicting o) (Event.Pass (in_trace f) ∷ []) (λ i. (h (Event.Pass (in_trace f)) refl, tt))
kept_be test h s o x (Phase.Lost v g ∷ below) what KeptWhy.Lost e = (h _ refl, tt)
kept_be test h s o (Some x) stack what KeptWhy.Lost e = (h _ refl, tt)
kept_be test h s o x (Phase.Emptying f at ∷ below) what KeptWhy.NoFrame e =
    both_be test (project.home_set_up s o (Phase.Emptying f at ∷ below) f (Kind.Kept what KeptWhy.NoFrame)) _
    (e refl f (Kind.Kept what KeptWhy.NoFrame))
    (be_when test (is_home o) (Event.Paged (touch_proc s o) ∷ []) (λ i. (h (Event.Paged (touch_proc s o)) refl, tt)))
kept_be test h s o x stack what why e = tt

-- all events of an entry pass
pub by_be : (test : Event → Bool) (s u : After) (a : ℕ) (o : Op) (xs : List Migrating) (stack : List Phase)
    (after : Phase)
    (k : Kind) → Takes test s o stack k → AllBe test (events_by s u a o xs stack after k)
by_be test s u a o xs stack after (Kind.Attached m d p r q) h = (h.usual _ refl, (h.usual _ refl, tt))
by_be test s u a o xs stack after (Kind.Detaching m q) h = (
  h.usual _ refl,
  erased_be test (λ m v. h.usual _ refl) s u
      m,
)
by_be test s u a o xs stack after (Kind.Detached m) h = both_be test
    (project.begins_removal (top_of stack) m ++ project.erased s u m) (Event.Removed m ∷ [])
    (both_be test (project.begins_removal (top_of stack) m) (project.erased s u m)
    (removal_be test h.usual (top_of stack) m) (erased_be test (λ m v. h.usual _ refl) s u m)) (h.usual _ refl, tt)
by_be test s u a o xs stack after (Kind.Start p r q) h = (h.usual _ refl, tt)
by_be test s u a o xs stack after (Kind.Told m r q) h = (
  h.usual _ refl,
  both_be test (project.erased s u m) (Event.Told m (interval_seq u.sequences m) true ∷ [])
      (erased_be test (λ m v. h.usual _ refl) s u m) (h.usual _ refl, tt),
)
by_be test s u a o xs stack after (Kind.End p r q) h = (h.usual _ refl, all_erased_be test (λ m v. h.usual _ refl) s u)
by_be test s u a o xs stack after (Kind.Begin m q) h = (h.usual _ refl, tt)
by_be test s u a o xs stack after (Kind.Rlock p) h = walk_be test h.usual s (is_some (u.locks.map a)) o (top_of stack)
by_be test s u a o xs stack after (Kind.Runlock p) h = walked_be test h.usual s o (top_of stack)
by_be test s u a o xs stack after (Kind.Retry m) h = not_walked_be test h.usual o (top_of stack)
by_be test s u a o xs stack after (Kind.Failed x at n why) h = not_walked_be test h.usual o (top_of stack)
by_be test s u a o xs stack after (Kind.Set m v f w from) h = (h.sets m v f w from _ refl, tt)
by_be test s u a o xs stack after (Kind.Loaded (Who.Mirror m) at bs) h = (h.usual _ refl, tt)
by_be test s u a o xs stack after (Kind.Stored (Who.Mirror m) at bs) h = (h.usual _ refl, tt)
by_be test s u a o xs stack after (Kind.Fetched m at bs) h = (h.usual _ refl, tt)
by_be test s u a o xs stack after (Kind.Added m at was now) h = (h.usual _ refl, tt)
by_be test s u a o xs stack after (Kind.Take g) h = taken_be test h.usual s o stack g h.home
by_be test s u a o xs stack after (Kind.Drop f) h =
    both_be test (project.if_device f (Event.Free (in_trace f))) _
    (be_there test (project.owner_of f) (Event.Free (in_trace f)) (h.usual _ refl))
    (over_be test s o (top_of stack) h.over)
by_be test s u a o xs stack after (Kind.Done f) h = over_be test s o (top_of stack) h.over
by_be test s u a o xs stack after (Kind.Copied f g part) h = all_erased_be test (λ m v. h.usual _ refl) s u
by_be test s u a o xs stack after (Kind.Committed f g) h =
    moved_be test h.usual s o stack (project.record_at (coming s o xs (top_of stack))) g
by_be test s u a o xs stack after (Kind.Place p v x) h = placed_be test h.usual (top_of stack) v x
by_be test s u a o xs stack after (Kind.Kept what why) h =
    kept_be test h.usual s o (project.record_at (coming s o xs (top_of stack))) stack what why h.home
by_be test s u a o xs stack after (Kind.Withdrawn d) h = (h.usual _ refl, tt)
by_be test s u a o xs stack after (Kind.Removed d) h = (h.usual _ refl, tt)
by_be test s u a o xs stack after (Kind.Migrated n) h = (h.ends n _ refl, tt)
by_be test s u a o xs stack after k h = tt

-- ---- which of them set up nothing

-- no frame is emptied for an operation that brings pages home
abbrev pub Not_emptying : Op → List Phase → Type 0
Not_emptying o stack = is_emptying (top_of stack) ≡ true → is_home o ≡ false

-- so nothing is set up for that
pub home_none : (test : Event → Bool) (s : After) (o : Op) (stack : List Phase) (f : Frame) (k : Kind)
    → is_home o ≡ false
    → AllBe test (project.home_set_up s o stack f k)
home_none test s o stack f k h = by_bool (project.is_start k) (is_home o) h
  where
    by_bool : (b d : Bool) → d ≡ false
        → AllBe test (if b || not d then []
        else Event.Setup (touch_proc s o) (one_page (project.page_in o stack)) false (project.owner_of f)
        ∷ Event.From (project.page_in o stack) (in_trace f)
        (writable (s.places.place (touch_proc s o) (project.page_in o stack))) ∷ Event.Ready (touch_proc s o) ∷ [])
    by_bool true d e = tt
    by_bool false false e = tt
    by_bool false true e = absurd (true≢false e)

none_usual : Usual sets_none
none_usual (Event.Setup p r to_device d) h = absurd (false≢true h)
none_usual x h = refl

pub by_none : (s u : After) (a : ℕ) (o : Op) (xs : List Migrating) (stack : List Phase) (after : Phase) (k : Kind)
    → Not_emptying o stack → AllBe sets_none (events_by s u a o xs stack after k)
by_none s u a o xs stack after k h = by_be sets_none s u a o xs stack after k (record {
  usual = none_usual;
  home = λ e f j. home_none sets_none s o stack f j (h e);
  over = λ e p. refl;
  ends = λ n p e. refl;
  sets = λ m v f w from g e. refl;
})
