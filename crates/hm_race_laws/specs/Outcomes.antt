-- The outcomes of a race: what each actor is answered, without positions and sequences.
use Rattle.std.specs.Prelude.{◌≡◌, ℕ, Bool, Option, Some, None, is_none, List, [], ◌∷◌, ◌++◌, map, fold, ⊤}
use Rattle.std.specs.List.{list_all}
use Rattle.hm_base.specs.Program.{Program}
use Rattle.hm_history.specs.Memory.Words.{with_at}
use Rattle.hm_history.specs.Kernel.Going.{State, op_at, state_next, state_of}
use Rattle.hm_history.specs.Kernel.Due.{due_in}
use Rattle.hm_history.specs.Kernel.Run.{turn, actors_of}
use Rattle.hm_history.specs.Laws.{DueFrom}
use Rattle.hm_history.specs.declared.Kind.{Kind}
use Rattle.hm_history.specs.declared.Entry.{Entry}
use Rattle.hm_history.specs.declared.Progress.{Progress}

-- what an entry answers, if it answers its operation or a piece of it; of an `attached` its sequence is left out
abbrev pub answer_of : Kind → Option Kind
answer_of (Kind.Loaded x at bs) = Some (Kind.Loaded x at bs)
answer_of (Kind.Stored x at bs) = Some (Kind.Stored x at bs)
answer_of (Kind.Failed x at n c) = Some (Kind.Failed x at n c)
answer_of (Kind.Mapped p r w) = Some (Kind.Mapped p r w)
answer_of (Kind.Unmapped p r) = Some (Kind.Unmapped p r)
answer_of (Kind.Protected p r w) = Some (Kind.Protected p r w)
answer_of (Kind.Forked p c) = Some (Kind.Forked p c)
answer_of (Kind.Exited p) = Some (Kind.Exited p)
answer_of (Kind.Attached m d p r q) = Some (Kind.Attached m d p r 0)
answer_of (Kind.Detached m) = Some (Kind.Detached m)
answer_of (Kind.Refused n) = Some (Kind.Refused n)
answer_of (Kind.Migrated n) = Some (Kind.Migrated n)
answer_of (Kind.Seen m v c) = Some (Kind.Seen m v c)
answer_of (Kind.Evicted n) = Some (Kind.Evicted n)
answer_of (Kind.Removed d) = Some (Kind.Removed d)
answer_of (Kind.Excluded m v) = Some (Kind.Excluded m v)
answer_of (Kind.Added m at was now) = Some (Kind.Added m at was now)
answer_of _ = None

-- the answers of each actor, in order
abbrev pub with_answer : Option Kind → List Kind → List Kind
with_answer None xs = xs
with_answer (Some k) xs = xs ++ k ∷ []

-- the answers of all actors after one entry more; only the one whose entry it is may get one
abbrev pub answers_next : (ℕ → List Kind) → Entry → ℕ → List Kind
answers_next f e = with_at f e.actor (with_answer (answer_of e.kind) (f e.actor))

-- before the race no actor has an answer
abbrev pub no_answers : ℕ → List Kind
no_answers a = []

-- the answers of each actor along entries
abbrev pub answers_of : List Entry → ℕ → List Kind
answers_of es = fold answers_next no_answers es

-- an outcome: the answers of the actors, from the first to the last
abbrev pub outcome : Program → (ℕ → List Kind) → List (List Kind)
outcome c f = map f (actors_of c)

-- all operations of all actors have ended
abbrev pub ended_in : Program → State → Bool
ended_in c u = list_all (λ a. is_none (op_at c a (u.going a).index)) (actors_of c)

-- all operations of all actors have ended after the history
abbrev pub ended : Program → List Entry → Bool
ended c h = ended_in c (state_of c h)

-- a state of the race: where the history has come to, and the answers since the set-up
pub record Point : Type 0 where
  pub state : State
  pub answers : ℕ → List Kind

-- the point after one entry more
abbrev pub point_next : Program → Point → Entry → Point
point_next c x e = record { state = state_next c x.state e; answers = answers_next x.answers e }

-- the point where a race begins, after its set-up
abbrev pub point_from : Program → List Entry → Point
point_from c h = record { state = state_of c h; answers = no_answers }

-- the point after a set-up and these entries of the race
abbrev pub point_after : Program → List Entry → List Entry → Point
point_after c h es = fold (point_next c) (point_from c h) es

-- entries that are due one after the other
abbrev pub DueAlong : Program → State → List Entry → Type 0
DueAlong c u [] = ⊤
DueAlong c u (e ∷ es) = (due_in c u e.actor ≡ Progress.Did e) × DueAlong c (state_next c u e) es

-- a point to which a race comes, after a set-up
pub record Reached (c : Program) (h : List Entry) (x : Point) : Type 0 where
  pub entries : List Entry
  pub due : DueFrom c h entries
  pub same : point_after c h entries ≡ x

-- a race's turns, in any order
abbrev pub raced : Program → List Entry → List ℕ → List Entry
raced c h actors = fold (turn c) h actors

-- a point of the race after turns of these actors; one that waits or is idle changes nothing
abbrev pub point_turned : Program → Point → Progress → Point
point_turned c x (Progress.Did e) = point_next c x e
point_turned c x (Progress.Waiting why) = x
point_turned c x Progress.Idle = x

-- the point after one turn of an actor
abbrev pub point_turn : Program → Point → ℕ → Point
point_turn c x a = point_turned c x (due_in c x.state a)

-- the point after turns of these actors, in this order
abbrev pub point_at : Program → List Entry → List ℕ → Point
point_at c h turns = fold (point_turn c) (point_from c h) turns
