-- A value whose actors add as many entries each as its script has frames. The first actor goes ahead: another waits
-- while it has more entries than the first has, and the first has some left.
use Rattle.std.specs.Prelude.{◌≡◌, ℕ, ◌≤◌, Bool, ◌&&◌, List, [], ◌∷◌, ◌++◌, length, replicate, Option, Some, None}
use Rattle.std.specs.Prelude.{if◌then◌else◌, nat_lt, ◌==◌, count_by}
use Rattle.hm_base.specs.Program.{Program}
use Rattle.hm_base.specs.declared.ops.Version.TheVariants.{One}
use Rattle.hm_history.specs.declared.Entry.{Entry}
use Rattle.hm_history.specs.declared.Kind.{Kind}
use Rattle.hm_history.specs.declared.Progress.{Progress}
use Rattle.hm_history.specs.declared.Progress.TheVariants.{Did, Waiting, Idle}
use Rattle.hm_history.specs.declared.StepError.{StepError}
use Rattle.hm_history.specs.declared.Why.{Why}
use Rattle.hm_toy.specs.declared.toy.Choice.{Choice}

-- a script of this many actors, whose frames say how many entries each of them adds
abbrev pub script_of : ℕ → ℕ → Program
script_of actors entries =
    record { version = One; frames = entries; devices = []; skip = 0; actors = replicate actors []; schedule = [] }

-- how many entries of this actor there are
abbrev pub entries_of : ℕ → List Entry → ℕ
entries_of a es = count_by (λ (e : Entry). e.actor == a) es

-- the kind of an actor's entries; those of the first touch no process's memory
abbrev pub kind_of : ℕ → Kind
kind_of a = if a == 0 then Kind.Rlock 0 else Kind.Exited a

-- what such an entry touches
abbrev pub touch_of : ℕ → Option ℕ
touch_of a = if a == 0 then None else Some a

-- an entry of an actor
abbrev pub entry_of : ℕ → Entry
entry_of a = record { actor = a; kind = kind_of a }

-- an actor with some entries left waits while it has more than the first, and the first has some left
abbrev pub must_wait : Program → List Entry → ℕ → Bool
must_wait s es a = nat_lt (entries_of 0 es) (entries_of a es) && nat_lt (entries_of 0 es) s.frames

-- what an actor's next turn is to do
abbrev pub decided : Program → List Entry → ℕ → Choice
decided s es a =
    if nat_lt (entries_of a es) s.frames then (if must_wait s es a then Choice.Wait else Choice.Add) else Choice.Rest

-- what a turn that was decided so comes to
abbrev pub progress_of : ℕ → Choice → Progress
progress_of a Choice.Add = Did (entry_of a)
progress_of a Choice.Wait = Waiting (Why.MapLock 0 0)
progress_of a Choice.Rest = Idle

-- what is due to an actor of the toy
abbrev pub due_of : Program → List Entry → ℕ → Progress
due_of s es a = progress_of a (decided s es a)

-- each of these entries is due after those before it
abbrev pub LegalFrom : Program → List Entry → List Entry → Type 0
LegalFrom s before [] = Unit {0}
LegalFrom s before (e ∷ es) = (Did e ≡ due_of s before e.actor) × LegalFrom s (before ++ e ∷ []) es

-- each entry is due after those before it
abbrev pub IsLegal : Program → List Entry → Type 0
IsLegal s es = LegalFrom s [] es

-- the history is legal and not too long
pub record IsSound (s : Program) (es : List Entry) : Type 0 where
  pub legal : IsLegal s es
  pub short : length es ≤ 2000000

-- what contracts see of the toy
pub record Shown : Type 0 where
  pub script : Program
  pub history : List Entry
  pub halt : Option StepError
