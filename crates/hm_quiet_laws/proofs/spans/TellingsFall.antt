-- In a guard: each telling falls, whatever the body; and the end.
use Rattle.std.proofs.Common.{◌≡◌, ℕ, ◌+◌, ◌<◌, Bool, Option, Some, List, ◌∷◌, refl, sym, subst, arith}
use Rattle.hm_base.specs.Pages.{Pages}
use Rattle.hm_base.specs.Program.{Program}
use Rattle.hm_base.specs.declared.ops.Op.{Op}
use Rattle.hm_history.specs.Memory.After.{After}
use Rattle.hm_history.specs.Kernel.Going.{recorded_body}
use Rattle.hm_history.specs.Kernel.Due.{to_tell}
use Rattle.hm_history.specs.declared.Kind.{Kind}
use Rattle.hm_history.specs.declared.phases.Migrating.{Migrating}
use Rattle.hm_history.specs.declared.phases.Body.{Body}
use Rattle.hm_history.specs.declared.phases.Phase.{Phase}
use Rattle.hm_history.specs.declared.phases.Next.TheVariants.{Do}
use Rattle.hm_laws.specs.Past.{Past}
use Rattle.hm_laws.specs.Sound.{Sound}
use Rattle.hm_laws.specs.Allowed.{next}
use Rattle.hm_quiet_laws.proofs.measure.Left.{left, view, body_left}
use Rattle.hm_quiet_laws.proofs.counts.CountsBelow.{told_less}
use Rattle.hm_quiet_laws.proofs.alone.Falls.{Falls}

recorded_told : (body : Body) (xs : List Migrating) (m q : ℕ) (r : Pages) → recorded_body body xs (Kind.Told m r q) ≡ xs
recorded_told (Body.Select n) xs m q r = refl
recorded_told (Body.Fresh g) xs m q r = refl
recorded_told Body.Nothing xs m q r = refl
recorded_told (Body.Zap v) xs m q r = refl
recorded_told (Body.Narrow v) xs m q r = refl
recorded_told (Body.Fork v b) xs m q r = refl
recorded_told (Body.Replace x g) xs m q r = refl
recorded_told Body.Restore xs m q r = refl
recorded_told (Body.Catch f) xs m q r = refl
recorded_told (Body.Freeze f) xs m q r = refl
recorded_told (Body.Seize f) xs m q r = refl

more_less : (m n k : ℕ) → m < n → m + k < n + k
more_less m n k h = omega arith

pub told_falls : (c : Program) (s : After) (t : Past) (a : ℕ) (o : Op) (xs : List Migrating) (p : ℕ) (r : Pages) (met : Bool) (told : Option ℕ) (body : Body) (below : List Phase) (m : ℕ) → Sound c s t → to_tell s p r met told ≡ Some m →
    Falls c s a o xs (Phase.Guard p r met told body) below (Do (Kind.Told m r (s.sequences.seq p)))
told_falls c s t a o xs p r met told body below m so h = subst (λ ys. left c (next s a (Kind.Told m r (s.sequences.seq p))) a o ys (Phase.Guard p r met (Some m) body ∷ below) < left c s a o xs (Phase.Guard p r met told body ∷ below)) (sym (recorded_told body xs m (s.sequences.seq p) r))
    (more_less _ _ (body_left c (view s) s.locks.frame a o xs p r (s.places.place p r.first) body below) (told_less c s t a p r met told m (s.sequences.seq p) so h))
