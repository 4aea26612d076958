-- Ways through races with variants: who goes on, and which entry is due then.
use Rattle.std.specs.Prelude.{ℕ, ◌+◌, if◌then◌else◌, false, List, [], ◌∷◌, ◌++◌, fold}
use Rattle.hm_base.specs.Pages.{Pages}
use Rattle.hm_base.specs.Program.{Program}
use Rattle.hm_history.specs.declared.Kind.{Kind}
use Rattle.hm_history.specs.declared.Entry.{Entry}
use Rattle.hm_history.specs.declared.Progress.{Progress}
use Rattle.hm_history.specs.Kernel.Going.{state_of}
use Rattle.hm_history.specs.Kernel.Run.{turns, is_entry, actors_of}
use Rattle.hm_race_laws.specs.Outcomes.{outcome}
use Rattle.hm_linux.specs.declared.variant.Variant.{Variant}
use Rattle.hm_linux.specs.Noted.{Varied, varied_from}
use Rattle.hm_linux.specs.Instead.{due_as, varied_next}
use Rattle.hm_linux.specs.Outcomes.{answers_as}
use Rattle.hm_linux.specs.Variants.{linux}

-- n pages from one on
abbrev pub pages : ℕ → ℕ → Pages
pages v n = record { first = v; count = n }

-- all variants but `exclusive-pins`
abbrev pub but_pins : Variant
but_pins = record linux { exclusive_pins = false }

-- which actors have an entry due: a binary number, the digit of actor 0 first
abbrev who_may : Variant → Program → Varied → ℕ
who_may l c t = fold (λ n a. n + n + (if is_entry (due_as l c t a) then 1 else 0)) 0 (actors_of c)

-- after a turn of an actor, with its entry and who had one due before it
abbrev stepped : Variant → Program → Varied × List (ℕ × Kind) → ℕ → Varied × List (ℕ × Kind)
stepped l c x a = elim (due_as l c x.0 a) [
  | Progress.Did e ↦ (varied_next l c x.0 e, x.1 ++ (who_may l c x.0, e.kind) ∷ [])
  | _ ↦ x
]

-- after a set-up of n turns of actor b: the entries of these actors' turns, and before each who had one due
abbrev pub came_to : Variant → Program → ℕ → ℕ → List ℕ → List (ℕ × Kind)
came_to l c b n actors = (fold (stepped l c) (varied_from (state_of c (turns c [] b n)), []) actors).1

-- the entries of turns of these actors
abbrev entries_along : Variant → Program → Varied → List ℕ → List Entry
entries_along l c t [] = []
entries_along l c t (a ∷ actors) = elim (due_as l c t a) [
  | Progress.Did e ↦ e ∷ entries_along l c (varied_next l c t e) actors
  | _ ↦ entries_along l c t actors
]

-- what all actors are answered in the turns after such a set-up
abbrev pub answered_in : Variant → Program → ℕ → ℕ → List ℕ → List (List Kind)
answered_in l c b n actors =
    outcome c (answers_as l (entries_along l c (varied_from (state_of c (turns c [] b n))) actors))
