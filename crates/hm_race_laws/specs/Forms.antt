-- Forms of states, opened: what is due, and what comes next, is read from the form of a state alone.
use Rattle.std.specs.Prelude.{◌≡◌, ℕ, true, false, List, [], ◌∷◌, ⊤}
use Rattle.std.specs.List.{list_any}
use Rattle.hm_base.specs.Program.{Program}
use Rattle.hm_base.specs.declared.Place.{Place}
use Rattle.hm_history.specs.Memory.Words.{is_empty_place}
use Rattle.hm_history.specs.Memory.After.{After}
use Rattle.hm_history.specs.Memory.Places.{is_page}
use Rattle.hm_history.specs.Kernel.Going.{State}
use Rattle.hm_history.specs.Kernel.Due.{due_in}
use Rattle.hm_history.specs.Kernel.Run.{is_entry}
use Rattle.hm_history.specs.declared.Entry.{Entry}
use Rattle.hm_history.specs.declared.Progress.{Progress}
use Rattle.hm_race_laws.specs.Outcomes.{Point, point_next}
use Rattle.hm_race_laws.specs.Blur.{blurred_entry, blurred_progress, form_of}

-- each page is listed once
abbrev pub Distinct : List (ℕ × ℕ) → Type 0
Distinct [] = ⊤
Distinct (x ∷ xs) = (list_any (is_page x.0 x.1) xs ≡ false) × Distinct xs

-- pages among which are all that have a place, each once
pub record ListsPlaces (place : ℕ → ℕ → Place) (pages : List (ℕ × ℕ)) : Type 0 where
  pub each : (p v : ℕ) → is_empty_place (place p v) ≡ false → list_any (is_page p v) pages ≡ true
  pub once : Distinct pages

-- the state after a history, with another list of placed pages
abbrev pub relist : After → List (ℕ × ℕ) → After
relist s pages = record s { places = record s.places { placed = pages } }

-- a whole state with another one
abbrev pub restate : State → List (ℕ × ℕ) → State
restate u pages = record { after = relist u.after pages; going = u.going }

-- a form whose placed pages are listed, so that turns can be asked for there
abbrev pub opened_form : Point → List (ℕ × ℕ) → Point
opened_form f pages = record { state = restate f.state pages; answers = f.answers }

-- what an actor adds at a state is what it adds at an opened form, without what a form does not have; and the forms
-- after that are the same
pub record AddsAlike (c : Program) (x : Point) (f : Point) (a : ℕ) (e d : Entry) : Type 0 where
  pub entry : blurred_entry e ≡ blurred_entry d
  pub next : form_of c (point_next c x e) ≡ form_of c (point_next c f (blurred_entry d))

-- an actor adds an entry at a state, and what is said of it holds
pub record Adds (c : Program) (x : Point) (a : ℕ) (Holds : Entry → Type 0) : Type 0 where
  pub entry : Entry
  pub due : due_in c x.state a ≡ Progress.Did entry
  pub holds : Holds entry

-- a turn of an actor at a state is one at an opened form
pub record TurnsAlike (c : Program) (x : Point) (f : Point) (a : ℕ) : Type 0 where
  pub due : blurred_progress (due_in c f.state a) ≡ blurred_progress (due_in c x.state a)
  pub is_due : is_entry (due_in c f.state a) ≡ is_entry (due_in c x.state a)
  pub adds : (e d : Entry) → due_in c x.state a ≡ Progress.Did e → due_in c f.state a ≡ Progress.Did d
      → AddsAlike c x f a e d
  pub did : (d : Entry) → due_in c f.state a ≡ Progress.Did d → Adds c x a (λ e. AddsAlike c x f a e d)
