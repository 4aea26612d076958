-- A drain from the start: what has not ended is all.
use Rattle.std.proofs.Common.{◌≡◌, ℕ, suc, ◌+◌, false, ◌||◌, Some, None, List, [], ◌∷◌, refl, ap, ◌∙◌, arith, length}
use Rattle.std.specs.Prelude.{sum_by, slice_get}
use Rattle.std.proofs.lemmas.List.Sums.{sum_by-cons}
use Rattle.hm_base.specs.Program.{Program}
use Rattle.hm_base.specs.declared.ops.Op.{Op}
use Rattle.hm_history.specs.Kernel.Quiet.{quiet_bound}
use Rattle.hm_history.specs.Kernel.Going.{ops_of, state_start}
use Rattle.hm_history.specs.Kernel.Overrun.{overruns_lines}
use Rattle.hm_quiet_laws.specs.Quiet.{all_bounds, DrainAloneHasRoom}
use Rattle.hm_quiet_laws.proofs.OperationsEnd.{drains_have_room}

shift : (from k : ℕ) → from + 1 + k ≡ from + suc k
shift from k = omega arith

here : (from : ℕ) → from ≡ from + 0
here from = omega arith

ops_here : (c : Program) (b : ℕ) (l : List Op) → slice_get c.actors b ≡ Some l → ops_of c b ≡ l
ops_here c b l e = ap (λ x. elim x as (λ y. List Op) [ None ↦ [] | Some os ↦ os ]) e

all_of : (c : Program) (ls : List (List Op)) (from : ℕ) → ((k : ℕ) → slice_get c.actors (from + k) ≡ slice_get ls k) → all_bounds c (state_start c) from (length ls) ≡ sum_by (λ os. sum_by (quiet_bound c) os) ls
all_of c [] from h = refl
all_of c (l ∷ ls) from h = omega (arith, sum_by-cons (λ os. sum_by (quiet_bound c) os) l ls, ap (sum_by (quiet_bound c)) (ops_here c from l (ap (slice_get c.actors) (here from) ∙ h 0)), all_of c ls (from + 1) (λ k. ap (slice_get c.actors) (shift from k) ∙ h (suc k)))

zero_on : (k : ℕ) → 0 + k ≡ k
zero_on k = omega arith

pub drain_alone : DrainAloneHasRoom
drain_alone c sc d = ap (overruns_lines c []) d.schedule ∙ ap (λ b. b || false) (drains_have_room c [] (record { script = sc; were_due = tt; rest = λ b. refl; room = omega (arith, all_of c c.actors 0 (λ k. ap (slice_get c.actors) (zero_on k)), d.room) }))
