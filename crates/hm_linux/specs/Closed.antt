-- Searches of a race with variants, by keys of its points, and when they are whole.
use Rattle.std.specs.Prelude.{◌≡◌, true, List}
use Rattle.hm_base.specs.Program.{Program}
use Rattle.hm_history.specs.declared.Kind.{Kind}
use Rattle.hm_history.specs.declared.Entry.{Entry}
use Rattle.hm_history.specs.declared.Progress.{Progress}
use Rattle.hm_race_laws.specs.Outcomes.{outcome, ended_in}
use Rattle.hm_race_laws.specs.Closed.{IsListed}
use Rattle.hm_linux.specs.declared.variant.Variant.{Variant}
use Rattle.hm_linux.specs.Instead.{due_as}
use Rattle.hm_linux.specs.Outcomes.{VariedPoint, ReachedAs, all_said, varied_point_from, varied_point_next}

-- ---- keys

-- what is due at a point that has the same key, and leads to one with the same key again
pub record Matched {K : Type 0} (l : Variant) (c : Program) (key : VariedPoint → K) (x y : VariedPoint)
    (e : Entry) : Type 0 where
  pub entry : Entry
  pub due : due_as l c y.varied entry.actor ≡ Progress.Did entry
  pub next : key (varied_point_next l c x e) ≡ key (varied_point_next l c y entry)

-- points of the race with one key go on alike, end alike, and have the same answers
pub record GoesAlike {K : Type 0} (l : Variant) (c : Program) (h : List Entry) (key : VariedPoint → K) : Type 0 where
  pub goes_on : (x y : VariedPoint) → ReachedAs l c h x → ReachedAs l c h y → key x ≡ key y
      → (e : Entry) → due_as l c x.varied e.actor ≡ Progress.Did e → Matched l c key x y e
  pub same_end : (x y : VariedPoint) → ReachedAs l c h x → ReachedAs l c h y → key x ≡ key y
      → ended_in c x.varied.state ≡ ended_in c y.varied.state
  pub same_answers : (x y : VariedPoint) → ReachedAs l c h x → ReachedAs l c h y → key x ≡ key y
      → outcome c (all_said x.said) ≡ outcome c (all_said y.said)

-- ---- searches

-- a point of the race stands for the key
pub record StandsFor {K : Type 0} (l : Variant) (c : Program) (h : List Entry) (key : VariedPoint → K)
    (k : K) : Type 0 where
  pub point : VariedPoint
  pub reached : ReachedAs l c h point
  pub has_key : key point ≡ k

-- a key that is done: the keys of all points after one entry are listed, and the outcome, if all operations have ended
pub record DoneAs {K : Type 0} (l : Variant) (c : Program) (h : List Entry) (key : VariedPoint → K) (ks : List K)
    (xs : List (List (List Kind))) (k : K) : Type 0 where
  pub stands : StandsFor l c h key k
  pub onward : (e : Entry) → due_as l c stands.point.varied e.actor ≡ Progress.Did e
      → IsListed ks (key (varied_point_next l c stands.point e))
  pub told : ended_in c stands.point.varied.state ≡ true → IsListed xs (outcome c (all_said stands.point.said))

-- a search with nothing left to look at: the key of the beginning is listed, and each that is listed is done
pub record ClosedAs {K : Type 0} (l : Variant) (c : Program) (h : List Entry) (key : VariedPoint → K) (ks : List K)
    (xs : List (List (List Kind))) : Type 0 where
  pub from : IsListed ks (key (varied_point_from c h))
  pub each : (k : K) → IsListed ks k → DoneAs l c h key ks xs k
