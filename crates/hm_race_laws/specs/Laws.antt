-- The laws, as statements.
use Rattle.std.specs.Prelude.{◌≡◌, ℕ, true, List, [], ◌++◌}
use Rattle.hm_base.specs.Program.{Program, IsScript}
use Rattle.hm_history.specs.Kernel.Due.{due_in}
use Rattle.hm_history.specs.Laws.{DueFrom}
use Rattle.hm_history.specs.declared.Kind.{Kind}
use Rattle.hm_history.specs.declared.Entry.{Entry}
use Rattle.hm_history.specs.declared.Progress.{Progress}
use Rattle.hm_race_laws.specs.Outcomes.{Point, Reached, point_next, outcome, answers_of, ended_in, ended, raced}
use Rattle.hm_race_laws.specs.Closed.{IsListed, Searched}
use Rattle.hm_race_laws.specs.Positions.{forget_state}
use Rattle.hm_race_laws.specs.Blur.{blurred, tidied, form_of}
use Rattle.hm_race_laws.specs.Forms.{ListsPlaces, Adds, TurnsAlike, opened_form}

-- equal keys are states and answers that are equal but for positions
abbrev pub TellsApart : Program → List Entry → (Point → List ℕ) → Type 0
TellsApart c h key =
    (x y : Point) → Reached c h x → Reached c h y → key x ≡ key y
    → (forget_state x.state ≡ forget_state y.state) × (x.answers ≡ y.answers)

-- a search with nothing left to look at, and outcomes of all its keys: after every list of turns after which all
-- operations have ended, the outcome is one of them
abbrev pub ClosedIsComplete : Type 0
ClosedIsComplete =
    (c : Program) (h : List Entry) (key : Point → List ℕ) (ks : List (List ℕ)) (xs : List (List (List Kind))) →
    TellsApart c h key → Searched c h key xs ks [] →
    (es : List Entry) → DueFrom c h es → ended c (h ++ es) ≡ true → IsListed xs (outcome c (answers_of es))

-- turns in any order add entries that are due
abbrev pub RacedIsDue : Type 0
RacedIsDue =
    (c : Program) (h : List Entry) (actors : List ℕ)
    → (es : List Entry) × DueFrom c h es × (h ++ es ≡ raced c h actors)

-- equal keys are states and answers that are equal but for positions and absolute sequences
abbrev pub TellsBlurred : Program → List Entry → (Point → List ℕ) → Type 0
TellsBlurred c h key =
    (x y : Point) → Reached c h x → Reached c h y → key x ≡ key y
    → (blurred c x.state ≡ blurred c y.state) × (x.answers ≡ y.answers)

-- the same for keys that leave sequences out too, after a set-up of entries that were due
abbrev pub BlurredIsComplete : Type 0
BlurredIsComplete =
    (c : Program) → IsScript c → (h : List Entry) → DueFrom c [] h
    → (key : Point → List ℕ) (ks : List (List ℕ)) (xs : List (List (List Kind))) →
    TellsBlurred c h key → Searched c h key xs ks [] →
    (es : List Entry) → DueFrom c h es → ended c (h ++ es) ≡ true → IsListed xs (outcome c (answers_of es))

-- equal keys are states and answers that are equal but for positions, absolute sequences and the order of placed pages
abbrev pub TellsTidied : Program → List Entry → (Point → List ℕ) → Type 0
TellsTidied c h key =
    (x y : Point) → Reached c h x → Reached c h y → key x ≡ key y
    → (tidied c x.state ≡ tidied c y.state) × (x.answers ≡ y.answers)

-- a search by keys that leave out the order of placed pages too has every outcome, after a set-up of entries that
-- were due
abbrev pub TidiedIsComplete : Type 0
TidiedIsComplete =
    (c : Program) → IsScript c → (h : List Entry) → DueFrom c [] h
    → (key : Point → List ℕ) (ks : List (List ℕ)) (xs : List (List (List Kind))) →
    TellsTidied c h key → Searched c h key xs ks [] →
    (es : List Entry) → DueFrom c h es → ended c (h ++ es) ≡ true → IsListed xs (outcome c (answers_of es))

-- and for the forms themselves in place of keys: a program whose keys are read as forms has nothing more to show
abbrev pub FormsAreComplete : Type 0
FormsAreComplete =
    (c : Program) → IsScript c → (h : List Entry) → DueFrom c [] h
    → (ks : List Point) (xs : List (List (List Kind))) → Searched c h (form_of c) xs ks [] →
    (es : List Entry) → DueFrom c h es → ended c (h ++ es) ≡ true → IsListed xs (outcome c (answers_of es))

-- the form of a state that is reached is enough to go on from: a turn at the form, whose pages with a place are listed
-- in any order, is a turn at the state
abbrev pub FormsGoOn : Type 0
FormsGoOn =
    (c : Program) → IsScript c → (h : List Entry) → DueFrom c [] h → (x : Point) → Reached c h x
    → (f : Point) → form_of c x ≡ f → (pages : List (ℕ × ℕ)) → ListsPlaces f.state.after.places.place pages
    → (a : ℕ) → TurnsAlike c x (opened_form f pages) a

-- states of one form have next states of one form
abbrev pub FormsGoAlike : Type 0
FormsGoAlike =
    (c : Program) → IsScript c → (h : List Entry) → DueFrom c [] h → (x y : Point) → Reached c h x → Reached c h y
    → form_of c x ≡ form_of c y → (a : ℕ) (e : Entry) → due_in c x.state a ≡ Progress.Did e
    → Adds c y a (λ d. form_of c (point_next c x e) ≡ form_of c (point_next c y d))

-- whether all operations have ended is read from the form too
abbrev pub FormsEndAlike : Type 0
FormsEndAlike = (c : Program) (x : Point) → ended_in c (form_of c x).state ≡ ended_in c x.state

-- a search by forms with nothing left to look at knows the form of each state to which the race comes
abbrev pub FormsAreAll : Type 0
FormsAreAll =
    (c : Program) → IsScript c → (h : List Entry) → DueFrom c [] h
    → (ks : List Point) (xs : List (List (List Kind))) → Searched c h (form_of c) xs ks []
    → (x : Point) → Reached c h x → IsListed ks (form_of c x)
