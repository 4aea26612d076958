-- What is kept of an interval.
use Rattle.std.proofs.Common.{◌≡◌, ℕ, Bool, true, false, ◌==◌, Option, Some, None, refl, sym, ◌∙◌}
use Rattle.std.proofs.lemmas.Bool.{eqb-true, eq-eqb, ne_eqb}
use Rattle.hm_history.specs.Memory.Sequences.{Interval, Stage, InTree, InsertDeferred, RemoveDeferred, Removed, Out, in_tree_state, deferred_state, applied_stage, applied}
use Rattle.notifier_seq.specs.Sequences as one
use Rattle.hm_notifiers.specs.Shown.{position_of, kept_of, interval_of}

-- it is with its own process alone
pub mine : (p : ℕ) (y : Interval) → y.proc ≡ p → interval_of p (Some y) ≡ Some (kept_of y)
mine p y e = rw (eq-eqb y.proc p e) refl

pub not_mine : (p : ℕ) (y : Interval) → (y.proc ≡ p → ⊥) → interval_of p (Some y) ≡ None
not_mine p y n = rw (ne_eqb y.proc p n) refl

-- stages
pub in_tree_position : (t : Stage) → one.in_tree_state (position_of t) ≡ in_tree_state t
in_tree_position InTree = refl
in_tree_position InsertDeferred = refl
in_tree_position RemoveDeferred = refl
in_tree_position Removed = refl
in_tree_position Out = refl

settled_position : (t : Stage) → one.settled_stage (position_of t) ≡ position_of (applied_stage t)
settled_position InTree = refl
settled_position InsertDeferred = refl
settled_position RemoveDeferred = refl
settled_position Removed = refl
settled_position Out = refl

-- the deferred inserts and removes of a process are made
pub settled_mine : (p : ℕ) (o : Option Interval) → one.settled (interval_of p o) ≡ interval_of p (applied p o)
settled_mine p None = refl
settled_mine p (Some y) = by (y.proc == p) refl
  where
    by : (b : Bool) → (y.proc == p) ≡ b → one.settled (interval_of p (Some y)) ≡ interval_of p (applied p (Some y))
    by true e = rw (e, e, settled_position y.stage) refl
    by false e = rw (e, e) refl

pub settled_else : (q p : ℕ) (o : Option Interval) → (q ≡ p → ⊥) → interval_of q (applied p o) ≡ interval_of q o
settled_else q p None n = refl
settled_else q p (Some y) n = by (y.proc == p) refl
  where
    by : (b : Bool) → (y.proc == p) ≡ b → interval_of q (applied p (Some y)) ≡ interval_of q (Some y)
    by true e =
        let is : y.proc ≡ p = eqb-true y.proc p e in
        rw e (not_mine q (record y { stage = applied_stage y.stage }) (λ d. n (sym d ∙ is)) ∙ sym (not_mine q y (λ d. n (sym d ∙ is))))
    by false e = rw e refl
