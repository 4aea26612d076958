-- The points of turns are reached.
use Rattle.std.proofs.Common.{◌≡◌, ℕ, List, [], ◌∷◌, refl, ap, ◌∙◌, fold}
use Rattle.hm_base.specs.Program.{Program}
use Rattle.hm_history.specs.Kernel.Due.{due_in}
use Rattle.hm_history.specs.declared.Entry.{Entry}
use Rattle.hm_history.specs.declared.Progress.{Progress}
use Rattle.hm_race_laws.specs.Outcomes.{Point, Reached, point_from, point_turned, point_turn, point_at}
use Rattle.hm_race_laws.proofs.Closed.{from_reached, snoc_reached}
use Rattle.hm_history.proofs.Going.{own_actor}

pub turned_reached : (c : Program) (h : List Entry) (x : Point) (a : ℕ) → Reached c h x → Reached c h (point_turn c x a)
turned_reached c h x a r = by (due_in c x.state a) refl
  where
    by : (p : Progress) → due_in c x.state a ≡ p → Reached c h (point_turned c x p)
    by (Progress.Did e) d = snoc_reached c h x e r (ap (due_in c x.state) (own_actor c x.state a e d) ∙ d)
    by (Progress.Waiting why) d = r
    by Progress.Idle d = r

all_reached : (c : Program) (h : List Entry) (x : Point) (turns : List ℕ) → Reached c h x → Reached c h (fold (point_turn c) x turns)
all_reached c h x [] r = r
all_reached c h x (a ∷ turns) r = all_reached c h (point_turn c x a) turns (turned_reached c h x a r)

pub at_reached : (c : Program) (h : List Entry) (turns : List ℕ) → Reached c h (point_at c h turns)
at_reached c h turns = all_reached c h (point_from c h) turns (from_reached c h)
