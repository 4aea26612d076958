-- How far actors are, after one of them went on.
use Rattle.std.proofs.Common.{◌≡◌, ℕ, zero, suc, ◌==◌, ◌<◌, if◌then◌else◌, List, [], ◌∷◌, length, slice_set, refl, ap, ◌∙◌, arith}
use Rattle.std.proofs.Math.Path.{fun_ext}
use Rattle.std.proofs.lemmas.Bool.Decides.{nat_tests}
use Rattle.hm_race_states.specs.Goings.{goings_with}
use Rattle.hm_race_states.specs.States.{goings_in}
use Rattle.hm_race_states.specs.Tasks.{going_in}
use Rattle.hm_race_states.specs.declared.tasks.RaceTask.{RaceTask}

set_at : (xs : List RaceTask) (n : ℕ) (t : RaceTask) (a : ℕ) → n < length xs → goings_in (slice_set xs n t) a ≡ (if a == n then going_in t else goings_in xs a)
set_at [] n t a h = absurd (omega arith)
set_at (x ∷ xs) zero t zero h = refl
set_at (x ∷ xs) zero t (suc a) h = grind (arith, nat_tests)
set_at (x ∷ xs) (suc n) t zero h = grind (arith, nat_tests)
set_at (x ∷ xs) (suc n) t (suc a) h = set_at xs n t a (omega (arith, h)) ∙ grind (arith, nat_tests)

-- one actor takes another's place
pub gone_on : (xs : List RaceTask) (n a : ℕ) (t : RaceTask) → n ≡ a → n < length xs → goings_in (slice_set xs n t) ≡ goings_with xs a (going_in t)
gone_on xs n a t e h = fun_ext (λ b. set_at xs n t b h ∙ ap (λ (k : ℕ). if b == k then going_in t else goings_in xs b) e)
