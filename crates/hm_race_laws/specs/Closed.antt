-- Sets of keys that a search has found, and when they are whole. A key may be of any type.
use Rattle.std.specs.Prelude.{◌≡◌, ◌⊎◌, true, List, [], ◌∷◌, ◌++◌, ⊤}
use Rattle.hm_base.specs.Program.{Program}
use Rattle.hm_history.specs.Kernel.Due.{due_in}
use Rattle.hm_history.specs.declared.Kind.{Kind}
use Rattle.hm_history.specs.declared.Entry.{Entry}
use Rattle.hm_history.specs.declared.Progress.{Progress}
use Rattle.hm_race_laws.specs.Outcomes.{Point, Reached, point_next, point_from, outcome, ended_in}

-- the value is one of the list, by equality as such, since keys may be of a type without a test
abbrev pub IsListed : {X : Type 0} → List X → X → Type 0
IsListed [] x = ⊥
IsListed (y ∷ ys) x = (y ≡ x) ⊎ IsListed ys x

-- no two are the same
abbrev pub AreDistinct : {X : Type 0} → List X → Type 0
AreDistinct [] = ⊤
AreDistinct (x ∷ xs) = (IsListed xs x → ⊥) × AreDistinct xs

-- a point of the race that stands for a key
pub record Stands {K : Type 0} (c : Program) (h : List Entry) (key : Point → K) (k : K) : Type 0 where
  pub point : Point
  pub reached : Reached c h point
  pub has_key : key point ≡ k

-- the keys of all points after one entry are listed
abbrev pub Onward : {K : Type 0} → Program → (Point → K) → List K → Point → Type 0
Onward c key ks x = (e : Entry) → due_in c x.state e.actor ≡ Progress.Did e → IsListed ks (key (point_next c x e))

-- what a point answers, if all operations have ended, is listed
abbrev pub Told : Program → List (List (List Kind)) → Point → Type 0
Told c xs x = ended_in c x.state ≡ true → IsListed xs (outcome c x.answers)

-- a key that is done: a point that stands for it has all its next keys listed, and its outcome if it has one
pub record Done {K : Type 0} (c : Program) (h : List Entry) (key : Point → K) (ks : List K)
    (xs : List (List (List Kind))) (k : K) : Type 0 where
  pub stands : Stands c h key k
  pub onward : Onward c key ks stands.point
  pub told : Told c xs stands.point

-- an outcome that some turns lead to
pub record Outcome (c : Program) (h : List Entry) (x : List (List Kind)) : Type 0 where
  pub point : Point
  pub reached : Reached c h point
  pub ended : ended_in c point.state ≡ true
  pub same : outcome c point.answers ≡ x

-- a search: the outcomes found, the keys that it is done with, and those that it has still to look at
pub record Searched {K : Type 0} (c : Program) (h : List Entry) (key : Point → K) (xs : List (List (List Kind)))
    (done todo : List K) : Type 0 where
  pub from : IsListed (done ++ todo) (key (point_from c h))
  pub each : (k : K) → IsListed done k → Done c h key (done ++ todo) xs k
  pub waiting : (k : K) → IsListed todo k → Stands c h key k
  pub real : (x : List (List Kind)) → IsListed xs x → Outcome c h x
