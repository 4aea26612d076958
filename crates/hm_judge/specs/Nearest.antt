-- Which of the lines that could stand in a place is nearest to the one that does.
use Rattle.std.specs.Prelude.{◌≡◌, ℕ, suc, ◌<◌, ◌≤◌, ◌==◌, if◌then◌else◌, Option, Some, None, List, [], ◌∷◌, ◌++◌, All}
use Rattle.std.specs.List.{flat_map}
use Rattle.hm_history.specs.declared.Progress.{Progress}
use Rattle.hm_report.specs.Report.{entry_line}

-- how many bytes two texts share at the front
abbrev pub shared : List ℕ → List ℕ → ℕ
shared [] ys = 0
shared (x ∷ xs) [] = 0
shared (x ∷ xs) (y ∷ ys) = if x == y then suc (shared xs ys) else 0

-- the line of what is due to an actor, if the next entry has this position
abbrev pub due_line : ℕ → Progress → List (List ℕ)
due_line at (Progress.Did e) = entry_line at e ∷ []
due_line at _ = []

-- the lines that could stand there: those that are due, and the one that goes on to end the report
abbrev pub could_stand : ℕ → List Progress → List ℕ → List (List ℕ)
could_stand at ps ending = flat_map (due_line at) ps ++ ending ∷ []

-- the line t is one of these; those before it share less with the line l, and those after it no more
pub record IsNearest (l : List ℕ) (ks : List (List ℕ)) (t : List ℕ) : Type 0 where
  pub before : List (List ℕ)
  pub behind : List (List ℕ)
  pub parts : ks ≡ before ++ t ∷ behind
  pub less : All (λ k. shared l k < shared l t) before
  pub most : All (λ k. shared l k ≤ shared l t) behind

-- so it is, if there is one
abbrev pub IsNearestSo : List ℕ → List (List ℕ) → Option (List ℕ) → Type 0
IsNearestSo l ks None = ks ≡ []
IsNearestSo l ks (Some t) = IsNearest l ks t
