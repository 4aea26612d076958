-- The laws, as statements.
use Rattle.std.specs.Prelude.{◌≡◌, ◌⊎◌, ℕ, true, false, IsTrue, is_some, List, [], ◌++◌, ◌↔◌, length, ⊤}
use Rattle.hm_base.specs.Program.{Program, IsScript}
use Rattle.hm_history.specs.Memory.After.{After, after}
use Rattle.hm_history.specs.Kernel.Going.{op_at, state_of}
use Rattle.hm_history.specs.Kernel.Due.{due_in}
use Rattle.hm_history.specs.Kernel.Legal.{kept_rightly}
use Rattle.hm_history.specs.declared.Entry.{Entry}
use Rattle.hm_linux.specs.declared.variant.Variant.{Variant}
use Rattle.hm_linux.specs.Noted.{Varied, varied_from}
use Rattle.hm_linux.specs.Instead.{due_as, varied_after, DueAs}
use Rattle.hm_history.specs.Memory.Plain.{Plain, plain_bytes, plain_accepts, mirror_owner}
use Rattle.hm_history.specs.Memory.Places.{places_accept}
use Rattle.hm_history.specs.Memory.Sequences.{sequences_accept}
use Rattle.hm_history.specs.Memory.Lookups.{narrows_guarded, uses_untold}
use Rattle.hm_history.specs.Memory.Rules.{fails_rightly}
use Rattle.hm_laws.specs.Laws.{ReadsRight}
use Rattle.hm_history.specs.Laws.{DueFrom}
use Rattle.hm_history.specs.declared.Who.{Who}
use Rattle.hm_history.specs.declared.Kind.{Kind}
use Rattle.hm_history.specs.declared.Progress.{Progress}
use Rattle.hm_race_laws.specs.Outcomes.{outcome, answers_of, ended}
use Rattle.hm_race_laws.specs.Closed.{IsListed}
use Rattle.hm_linux.specs.Outcomes.{VariedPoint, HasAll}
use Rattle.hm_linux.specs.Closed.{GoesAlike, ClosedAs}
use Rattle.hm_linux.specs.Variants.{no_variant, is_other_kind, is_other_turn, kept_as, state_found, LeaveState}

-- with no variant, what is due is what the definitions say, in each state and to each actor
abbrev pub NoneIsDue : Type 0
NoneIsDue = (c : Program) (t : Varied) (a : ℕ) → due_as no_variant c t a ≡ due_in c t.state a

-- and the state after any entries is that of the definitions
abbrev pub NoneGoesOn : Type 0
NoneGoesOn = (c : Program) (h es : List Entry) → (varied_after no_variant c h es).state ≡ state_of c (h ++ es)

-- with any variants the memory goes on as in the definitions, after any entries: what an entry does is the same
abbrev pub MemoryIsTheSame : Type 0
MemoryIsTheSame =
    (l : Variant) (c : Program) (h es : List Entry) → (varied_after l c h es).state.after ≡ after (h ++ es)

-- with any variants, what is due to an actor is what the definitions say in the state as it finds it, or one of the few
-- entries and waits that a variant which is on puts in its place
abbrev pub OthersAreFew : Type 0
OthersAreFew =
    (l : Variant) (c : Program) (t : Varied) (a : ℕ)
    → (due_as l c t a ≡ due_in c (state_found l c t) a) ⊎ (is_other_turn l (due_as l c t a) ≡ true)

-- an entry that reads bytes reads those that the process has at that moment
abbrev pub ReadsPlain : Plain → Kind → Type 0
ReadsPlain s (Kind.Loaded x at bs) = bs ≡ plain_bytes s x at (length bs)
ReadsPlain s (Kind.Fetched m at bs) = bs ≡ plain_bytes s (Who.Mirror m) at 1
ReadsPlain s k = ⊤

-- with any variants, each load and each fetch that is due reads the bytes that its process has
abbrev pub ReadsArePlain : Type 0
ReadsArePlain =
    (l : Variant) (c : Program) (t : Varied) (e : Entry) → due_as l c t e.actor ≡ Progress.Did e
    → ReadsPlain t.state.after.plain e.kind

-- an entry passes the tests that legality makes of a state; that of its answer, if no variant may have put it there
pub record MayStandBut (l : Variant) (c : Program) (s : After) (a : ℕ) (k : Kind) : Type 0 where
  pub answers : is_other_kind l k ≡ false → IsTrue (plain_accepts s.plain k)
  pub places : IsTrue (places_accept c (mirror_owner s.plain) s.places a k)
  pub sequences : IsTrue (sequences_accept s.sequences a k)
  pub guarded : IsTrue (narrows_guarded s.sequences s.places.place a k)

-- with variants that leave the state as actors find it, after any entries that are due: each page shows what its
-- process wrote, in whatever frame it lies
abbrev pub FramesReadAs : Type 0
FramesReadAs =
    (l : Variant) → LeaveState l → (c : Program) → IsScript c → (h : List Entry) → DueFrom c [] h → (es : List Entry)
    → DueAs l c (varied_from (state_of c h)) es → ReadsRight (after (h ++ es))

-- and each entry that is due then passes these tests: so an access answers the plain bytes, an addition adds to the
-- byte that its process has, each goes through a place or table entry that allows it, and no place takes anything away
-- outside an invalidation that told all
abbrev pub EntriesStand : Type 0
EntriesStand =
    (l : Variant) → LeaveState l → (c : Program) → IsScript c → (h : List Entry) → DueFrom c [] h → (es : List Entry)
    → DueAs l c (varied_from (state_of c h)) es → (e : Entry)
    → due_as l c (varied_after l c h es) e.actor ≡ Progress.Did e
    → MayStandBut l c (after (h ++ es)) e.actor e.kind

-- and no such entry uses a table entry of whose page its mirror was told since the look-up that made it
abbrev pub UsesUntold : Type 0
UsesUntold =
    (l : Variant) → LeaveState l → (c : Program) → IsScript c → (h : List Entry) → DueFrom c [] h → (es : List Entry)
    → DueAs l c (varied_from (state_of c h)) es → (e : Entry)
    → due_as l c (varied_after l c h es) e.actor ≡ Progress.Did e → uses_untold (h ++ es) e.kind ≡ true

-- and such a failure or refusal for want of a frame comes only if no frame was free
abbrev pub FailsWhenFull : Type 0
FailsWhenFull =
    (l : Variant) → LeaveState l → (c : Program) → IsScript c → (h : List Entry) → DueFrom c [] h → (es : List Entry)
    → DueAs l c (varied_from (state_of c h)) es → (e : Entry)
    → due_as l c (varied_after l c h es) e.actor ≡ Progress.Did e → fails_rightly c (h ++ es) e ≡ true

-- and such an entry that keeps something has the reason that legality takes, or that of a variant: another actor has a
-- reference to the frame from which the page moves
abbrev pub KeptForReasons : Type 0
KeptForReasons =
    (l : Variant) → LeaveState l → (c : Program) → IsScript c → (h : List Entry) → DueFrom c [] h → (es : List Entry)
    → DueAs l c (varied_from (state_of c h)) es → (e : Entry)
    → due_as l c (varied_after l c h es) e.actor ≡ Progress.Did e
    → (kept_rightly c (varied_after l c h es).state e ≡ true) ⊎ (kept_as l (varied_after l c h es) e ≡ true)

-- an actor has an operation that has not ended
abbrev pub IsUnderWayAs : Program → Varied → ℕ → Type 0
IsUnderWayAs c t a = is_some (op_at c a (t.state.going a).index) ≡ true

-- what is due to such an actor is an entry, and no wait
pub record GoesOnAs (l : Variant) (c : Program) (t : Varied) : Type 0 where
  pub entry : Entry
  pub under_way : IsUnderWayAs c t entry.actor
  pub is_due : due_as l c t entry.actor ≡ Progress.Did entry

-- and with those of them that leave an exclusive page's frame unlocked, the actors do not all wait for one another: as
-- long as an operation has not ended, an entry is due to an actor that has one
abbrev pub NeverStuckAs : Type 0
NeverStuckAs =
    (l : Variant) → LeaveState l → l.exclusive_busy ≡ false → (c : Program) → IsScript c → (h : List Entry)
    → DueFrom c [] h → (es : List Entry) → DueAs l c (varied_from (state_of c h)) es → (a : ℕ)
    → IsUnderWayAs c (varied_after l c h es) a → GoesOnAs l c (varied_after l c h es)

-- with no variant, a list has every outcome if and only if it has, after every list of entries that are due and after
-- which all operations have ended, the outcome of these
abbrev pub NoneHasAll : Type 0
NoneHasAll =
    (c : Program) (h : List Entry) (xs : List (List (List Kind))) → HasAll no_variant c h xs
    ↔ ((es : List Entry) → DueFrom c h es → ended c (h ++ es) ≡ true → IsListed xs (outcome c (answers_of es)))

-- with any variants, a search with nothing left to look at has every outcome, if points with one key go on alike
abbrev pub ClosedHasAll : Type 0
ClosedHasAll =
    (l : Variant) (c : Program) (h : List Entry) (key : VariedPoint → List ℕ) (ks : List (List ℕ))
    (xs : List (List (List Kind))) → GoesAlike l c h key → ClosedAs l c h key ks xs → HasAll l c h xs
