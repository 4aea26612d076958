-- The outcomes of a race with variants, and when a list has all of them.
use Rattle.std.specs.Prelude.{◌≡◌, ℕ, true, List, [], ◌++◌, fold, if◌then◌else◌}
use Rattle.hm_base.specs.Program.{Program}
use Rattle.hm_history.specs.Memory.Words.{with_at}
use Rattle.hm_history.specs.Kernel.Going.{state_of}
use Rattle.hm_history.specs.declared.Kind.{Kind}
use Rattle.hm_history.specs.declared.Entry.{Entry}
use Rattle.hm_race_laws.specs.Outcomes.{answer_of, with_answer, outcome, ended_in}
use Rattle.hm_race_laws.specs.Closed.{IsListed}
use Rattle.hm_linux.specs.declared.variant.Variant.{Variant}
use Rattle.hm_linux.specs.Noted.{Varied, varied_from}
use Rattle.hm_linux.specs.Instead.{varied_next, varied_after, DueAs}

-- ---- answers

-- the answers of an actor: those that stay, and those since it took its last lock for reading, which a retry takes back
pub record Said : Type 0 where
  pub before : List Kind
  pub since : List Kind

-- before the race no actor has an answer
abbrev pub nothing_said : ℕ → Said
nothing_said a = record { before = []; since = [] }

-- with one answer more, if the entry is one
abbrev pub answered : Said → Kind → Said
answered x k = record x { since = with_answer (answer_of k) x.since }

-- after an entry of the actor, if a snapshot may be repeated: what it saw before its retry does not count
abbrev pub answered_again : Said → Kind → Said
answered_again x (Kind.Rlock p) = record { before = x.before ++ x.since; since = [] }
answered_again x (Kind.Retry m) = record x { since = [] }
answered_again x k = answered x k

-- the answers of all actors after one entry more
abbrev pub said_next : Variant → (ℕ → Said) → Entry → ℕ → Said
said_next l f e =
    with_at f e.actor (if l.whole_snapshot then answered_again (f e.actor) e.kind else answered (f e.actor) e.kind)

-- all that an actor was answered
abbrev pub all_said : (ℕ → Said) → ℕ → List Kind
all_said f a = (f a).before ++ (f a).since

-- the answers of each actor along entries
abbrev pub answers_as : Variant → List Entry → ℕ → List Kind
answers_as l es = all_said (fold (said_next l) nothing_said es)

-- ---- outcomes

-- an outcome of the race after a set-up: that of entries which are due one after the other, after which all operations
-- have ended
pub record IsOutcome (l : Variant) (c : Program) (h : List Entry) (x : List (List Kind)) : Type 0 where
  pub entries : List Entry
  pub due : DueAs l c (varied_from (state_of c h)) entries
  pub ended : ended_in c (varied_after l c h entries).state ≡ true
  pub same : outcome c (answers_as l entries) ≡ x

-- the list has every outcome of the race
abbrev pub HasAll : Variant → Program → List Entry → List (List (List Kind)) → Type 0
HasAll l c h xs = (x : List (List Kind)) → IsOutcome l c h x → IsListed xs x

-- ---- points of the race

-- where the race has come to, and the answers since the set-up
pub record VariedPoint : Type 0 where
  pub varied : Varied
  pub said : ℕ → Said

-- where the race begins
abbrev pub varied_point_from : Program → List Entry → VariedPoint
varied_point_from c h = record { varied = varied_from (state_of c h); said = nothing_said }

-- the point after one entry more
abbrev pub varied_point_next : Variant → Program → VariedPoint → Entry → VariedPoint
varied_point_next l c x e = record { varied = varied_next l c x.varied e; said = said_next l x.said e }

-- the point after these entries
abbrev pub varied_point_after : Variant → Program → List Entry → List Entry → VariedPoint
varied_point_after l c h es = fold (varied_point_next l c) (varied_point_from c h) es

-- a point to which the race comes
pub record ReachedAs (l : Variant) (c : Program) (h : List Entry) (x : VariedPoint) : Type 0 where
  pub entries : List Entry
  pub due : DueAs l c (varied_from (state_of c h)) entries
  pub same : varied_point_after l c h entries ≡ x
