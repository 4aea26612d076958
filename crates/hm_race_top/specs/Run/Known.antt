-- What a search knows of a race.
use Rattle.std.specs.Prelude.{◌≡◌, ℕ, Bool, true, false, if◌then◌else◌, Option, Some, None, List, [], ◌∷◌, ◌++◌, length}
use Rattle.hm_base.specs.Program.{Program}
use Rattle.hm_history.specs.Kernel.Due.{due_in}
use Rattle.hm_history.specs.Laws.{DueFrom}
use Rattle.hm_history.specs.Kernel.Run.{is_entry}
use Rattle.hm_history.specs.declared.Kind.{Kind}
use Rattle.hm_history.specs.declared.Entry.{Entry}
use Rattle.hm_history.specs.declared.Progress.{Progress}
use Rattle.hm_history.specs.declared.StepError.{StepError}
use Rattle.hm_race_laws.specs.Outcomes.{Point, Reached, point_next, outcome, ended, answers_of}
use Rattle.hm_race_laws.specs.Closed.{IsListed, Outcome}
use Rattle.hm_race_laws.specs.Blur.{form_of}
use Rattle.hm_search.specs.Goals as goals
use Rattle.hm_search.specs.Known as search
use Rattle.hm_race_top.specs.Run.Systems.{race_of}

-- a state that is known: its form, turns that lead to it, and whether all operations have ended
abbrev pub KnownValue : Type 0
KnownValue = search.KnownValue Point

-- it is what its turns lead to; each of them adds an entry, and the history had room for them
abbrev pub IsKnown : Program → List Entry → KnownValue → Type 0
IsKnown c h n = search.IsKnown (race_of c h) n

-- the outcomes of those at which all operations have ended
abbrev pub outcomes_of : Program → List KnownValue → List (List (List Kind))
outcomes_of c [] = []
outcomes_of c (n ∷ ns) = if n.ended then outcome c n.form.answers ∷ outcomes_of c ns else outcomes_of c ns

-- what a turn at a key comes to, by the form of a point: nothing is due, or the next key is that of what is due
abbrev pub IsNext : {K : Type 0} → (K → Point) → Program → Point → ℕ → Option K → Type 0
IsNext form c x a None = is_entry (due_in c x.state a) ≡ false
IsNext form c x a (Some k) =
    (e : Entry) × (due_in c x.state a ≡ Progress.Did e) × (form k ≡ form_of c (point_next c x e))

-- why a race fails: memory; or after some turns the history is full, and an entry is due
abbrev pub MayFail : Program → List Entry → StepError → Type 0
MayFail c h e = search.MayFail (race_of c h) e

-- after every list of turns after which all operations have ended, the outcome is one of these
abbrev pub IsComplete : Program → List Entry → List KnownValue → Type 0
IsComplete c h known =
    (es : List Entry) → DueFrom c h es → ended c (h ++ es) ≡ true
    → IsListed (outcomes_of c known) (outcome c (answers_of es))

-- some turns lead to each of them
abbrev pub AreReal : Program → List Entry → List KnownValue → Type 0
AreReal c h known = (x : List (List Kind)) → IsListed (outcomes_of c known) x → Outcome c h x

-- each is what its turns lead to
abbrev pub AreKnown : Program → List Entry → List KnownValue → Type 0
AreKnown c h known = search.AreKnown (race_of c h) known

-- the form of each state to which the race comes is known
abbrev pub HaveForms : Program → List Entry → List KnownValue → Type 0
HaveForms c h known = (x : Point) → Reached c h x → IsListed (search.forms known) (form_of c x)

-- no turns lead to the form of a known state that are fewer than its own
abbrev pub AreFewest : Program → List Entry → List KnownValue → Type 0
AreFewest c h known = search.AreFewest (race_of c h) known

-- only the states that were found last, by one turn of each actor, can have reached the goal; or the first, alone
abbrev pub IsSoon : {F : Type 0} → Program → (F → Bool) → List (search.KnownValue F) → Type 0
IsSoon c goal known = goals.IsSoon (length c.actors) goal known

-- a search that stopped knows at most as many states beyond those asked for as there are actors; or it knows the first
-- alone
abbrev pub IsNear : Program → ℕ → ℕ → Type 0
IsNear c most known = search.IsNear (length c.actors) most known

-- a search that was cut knows more states than were asked for, but not many more
abbrev pub IsCut : Program → ℕ → ℕ → Type 0
IsCut c most known = search.IsCut (length c.actors) most known
