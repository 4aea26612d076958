-- A migration's record after one of its steps.
use Rattle.std.proofs.Common.{◌≡◌, ℕ, ◌+◌, ◌*◌, ◌<◌, ◌≤◌, ◌⊎◌, inl, inr, Bool, true, false, ◌==◌, ◌&&◌, nat_lt, if◌then◌else◌, Option, Some, None, List, refl, sym, ap, ◌∙◌, subst, arith}
use Rattle.std.proofs.Math.Nat.{mul-le-mul_right}
use Rattle.std.proofs.lemmas.Bool.Decides.{nat_tests}
use Rattle.std.proofs.lemmas.Bool.{cases_eq}
use Rattle.hm_base.specs.Program.{Program}
use Rattle.hm_base.specs.declared.Frame.{Frame}
use Rattle.hm_base.specs.declared.Place.{Place}
use Rattle.hm_history.specs.declared.phases.MoveStep.{MoveStep}
use Rattle.hm_history.specs.declared.phases.MoveStep.TheVariants.{FreezeOthers, TakeAndCopy, Commit, SetOwnTable, Finish}
use Rattle.hm_history.specs.Memory.Words.{names_directly, moving_frame, is_frame}
use Rattle.hm_history.specs.Memory.Places.{with_place}
use Rattle.hm_history.specs.Kernel.Quiet.{guard_cost}
use Rattle.hm_history.specs.declared.phases.Migrating.{Migrating}
use Rattle.hm_history.proofs.Tests.{true_false}
use Rattle.hm_laws.specs.Records.{is_past, Among, WellListed}
use Rattle.hm_laws.proofs.Migration.Records.{one_of_page}
use Rattle.hm_quiet_laws.proofs.measure.Left.{View, placed_view, unless, direct_at, moving_at, source_left, record_left, records_left}
use Rattle.hm_quiet_laws.proofs.counts.CountsBelow.{count_more}
use Rattle.hm_quiet_laws.proofs.counts.UsesOfAFrame.{direct_frozen, moving_frozen, other_page}
use Rattle.hm_quiet_laws.proofs.migrations.RecordsLeft.{sum_most, sum_less, source_later, on_page}

-- at its page a step is not past, and after it is
pub here_all : (v n : ℕ) → unless (nat_lt v v) n ≡ n
here_all v n = by (nat_lt v v) (none v)
  where
    none : (v : ℕ) → nat_lt v v ≡ false
    none v = grind (arith, nat_tests)

    by : (b : Bool) → b ≡ false → unless b n ≡ n
    by true e = cc
    by false e = refl

pub past_none : (v n : ℕ) → unless (nat_lt v (v + 1)) n ≡ 0
past_none v n = by (nat_lt v (v + 1)) (less v)
  where
    less : (v : ℕ) → nat_lt v (v + 1) ≡ true
    less v = grind (arith, nat_tests)

    by : (b : Bool) → b ≡ true → unless b n ≡ 0
    by true e = refl
    by false e = cc

pub take_some : (c : Program) (y : View) (v : ℕ) (f : Frame) → source_left c y TakeAndCopy (v + 1) v (Some f) + 9 ≤ source_left c y TakeAndCopy v v (Some f)
take_some c y v f = omega (arith, here_all v 9, past_none v 9)

pub take_none : (c : Program) (y : View) (v : ℕ) → source_left c y TakeAndCopy (v + 1) v None + 1 ≤ source_left c y TakeAndCopy v v None
take_none c y v = omega (arith, here_all v 1, past_none v 1)

pub commit_some : (c : Program) (y : View) (v : ℕ) (f : Frame) → source_left c y Commit (v + 1) v (Some f) + 1 ≤ source_left c y Commit v v (Some f)
commit_some c y v f = omega (arith, here_all v 1, past_none v 1)

pub commit_none : (c : Program) (y : View) (v : ℕ) → source_left c y Commit (v + 1) v None + (guard_cost c + 1) ≤ source_left c y Commit v v None
commit_none c y v = omega (arith, here_all v (guard_cost c + 1), past_none v (guard_cost c + 1))

pub set_any : (c : Program) (y : View) (v : ℕ) (x : Option Frame) → source_left c y SetOwnTable (v + 1) v x + 1 ≤ source_left c y SetOwnTable v v x
set_any c y v (Some f) = omega (arith, here_all v 1, past_none v 1)
set_any c y v None = omega (arith, here_all v 1, past_none v 1)

pub finish_some : (c : Program) (y : View) (v : ℕ) (f : Frame) → source_left c y Finish (v + 1) v (Some f) + (moving_at y f v + 2) ≤ source_left c y Finish v v (Some f)
finish_some c y v f = omega (arith, here_all v (moving_at y f v + 2), past_none v (moving_at y f v + 2))

pub finish_none : (c : Program) (y : View) (v : ℕ) → source_left c y Finish (v + 1) v None + 1 ≤ source_left c y Finish v v None
finish_none c y v = omega (arith, here_all v 1, past_none v 1)

-- all records, where that of x is so much less
pub item : (c : Program) (y : View) (st : MoveStep) (xs : List Migrating) (x : Migrating) (k : ℕ) → Among xs x → source_left c y st (x.page + 1) x.page x.source + k ≤ source_left c y st x.page x.page x.source → records_left c y st (x.page + 1) xs + k ≤ records_left c y st x.page xs
item c y st xs x k i h = sum_less (record_left c y st x.page) (record_left c y st (x.page + 1)) xs x k i (λ w j. source_later c y st x.page st (x.page + 1) w.page w.source (λ k e. on_page st x.page (x.page + 1) k w.page (omega arith) e)) h

pub source_apart : (c : Program) (y : View) (p v : ℕ) (x : Place) (st : MoveStep) (n u : ℕ) (f : Option Frame) → (u ≡ v → ⊥) → source_left c (placed_view y p v x) st n u f ≤ source_left c y st n u f
source_apart c y p v x st n u None ne = omega arith
source_apart c y p v x st n u (Some f) ne = by (is_past st n FreezeOthers u) (is_past st n Finish u)
  where
    direct : direct_at (placed_view y p v x) f u ≤ direct_at y f u
    direct = count_more (λ q. is_frame (names_directly (with_place y.place p v x q u)) f) (λ q. is_frame (names_directly (y.place q u)) f) 32 (λ q l h. sym (ap (λ z. is_frame (names_directly z) f) (other_page y.place p v x q u ne)) ∙ h)

    moving : moving_at (placed_view y p v x) f u ≤ moving_at y f u
    moving = count_more (λ q. is_frame (moving_frame (with_place y.place p v x q u)) f) (λ q. is_frame (moving_frame (y.place q u)) f) 32 (λ q l h. sym (ap (λ z. is_frame (moving_frame z) f) (other_page y.place p v x q u ne)) ∙ h)

    by : (b d : Bool) → unless b (direct_at (placed_view y p v x) f u * (guard_cost c + 2)) + unless (is_past st n TakeAndCopy u) 9 + unless (is_past st n Commit u) 1 + unless (is_past st n SetOwnTable u) 1 + unless d (moving_at (placed_view y p v x) f u + 2)
        ≤ unless b (direct_at y f u * (guard_cost c + 2)) + unless (is_past st n TakeAndCopy u) 9 + unless (is_past st n Commit u) 1 + unless (is_past st n SetOwnTable u) 1 + unless d (moving_at y f u + 2)
    by true true = omega arith
    by true false = omega (arith, moving)
    by false true = omega (arith, mul-le-mul_right (guard_cost c + 2) direct)
    by false false = omega (arith, moving, mul-le-mul_right (guard_cost c + 2) direct)

-- another mapping of a record frozen
frozen_less : (c : Program) (y : View) (p v : ℕ) (f : Frame) (w : Bool) → p < 32 → is_frame (names_directly (y.place p v)) f ≡ true → source_left c (placed_view y p v (Place.Moving f w)) FreezeOthers v v (Some f) + (guard_cost c + 1) ≤ source_left c y FreezeOthers v v (Some f)
frozen_less c y p v f w l e = omega (arith, here_all v (direct_at y f v * (guard_cost c + 2)), here_all v (direct_at (placed_view y p v (Place.Moving f w)) f v * (guard_cost c + 2)), moving_frozen y p v f (Place.Moving f w), mul-le-mul_right (guard_cost c + 2) (direct_frozen y p v f w l e), one (direct_at (placed_view y p v (Place.Moving f w)) f v) (guard_cost c + 2))
  where
    one : (d g : ℕ) → (d + 1) * g ≡ d * g + g
    one d g = grind arith

pub records_frozen : (c : Program) (y : View) (p : ℕ) (xs : List Migrating) (x : Migrating) (f : Frame) (w : Bool) → WellListed xs → Among xs x → x.source ≡ Some f → p < 32 → is_frame (names_directly (y.place p x.page)) f ≡ true → records_left c (placed_view y p x.page (Place.Moving f w)) FreezeOthers x.page xs + (guard_cost c + 1) ≤ records_left c y FreezeOthers x.page xs
records_frozen c y p xs x f w wl i e l d = sum_less (record_left c y FreezeOthers x.page) (record_left c (placed_view y p x.page (Place.Moving f w)) FreezeOthers x.page) xs x (guard_cost c + 1) i (λ z j. other z j (cases_eq z.page x.page)) this
  where
    this : source_left c (placed_view y p x.page (Place.Moving f w)) FreezeOthers x.page x.page x.source + (guard_cost c + 1) ≤ source_left c y FreezeOthers x.page x.page x.source
    this = subst (λ g. source_left c (placed_view y p x.page (Place.Moving f w)) FreezeOthers x.page x.page g + (guard_cost c + 1) ≤ source_left c y FreezeOthers x.page x.page g) (sym e) (frozen_less c y p x.page f w l d)

    other : (z : Migrating) → Among xs z → (z.page ≡ x.page) ⊎ (z.page ≡ x.page → ⊥) → record_left c (placed_view y p x.page (Place.Moving f w)) FreezeOthers x.page z ≤ record_left c y FreezeOthers x.page z
    other z j (inl k) = subst (λ u. record_left c (placed_view y p x.page (Place.Moving f w)) FreezeOthers x.page u ≤ record_left c y FreezeOthers x.page u) (sym (one_of_page xs z x wl j i k)) (omega (arith, this))
    other z j (inr ne) = source_apart c y p x.page (Place.Moving f w) FreezeOthers x.page z.page z.source ne

-- a page returned: no more are under way on any page
pub records_returned : (c : Program) (y : View) (p v n : ℕ) (x : Place) (xs : List Migrating) → ((f : Frame) → is_frame (moving_frame x) f ≡ false) → records_left c (placed_view y p v x) Finish n xs ≤ records_left c y Finish n xs
records_returned c y p v n x xs h = sum_most (record_left c y Finish n) (record_left c (placed_view y p v x) Finish n) xs (λ z j. at z.page z.source)
  where
    at : (u : ℕ) (g : Option Frame) → source_left c (placed_view y p v x) Finish n u g ≤ source_left c y Finish n u g
    at u None = omega arith
    at u (Some f) = omega (arith, by (is_past Finish n Finish u))
      where
        moving : moving_at (placed_view y p v x) f u ≤ moving_at y f u
        moving = count_more (λ q. is_frame (moving_frame (with_place y.place p v x q u)) f) (λ q. is_frame (moving_frame (y.place q u)) f) 32 (λ q l e. each ((q == p) && (u == v)) q e)
          where
            each : (b : Bool) (q : ℕ) → is_frame (moving_frame (if b then x else y.place q u)) f ≡ true → is_frame (moving_frame (y.place q u)) f ≡ true
            each true q e = absurd (true_false (is_frame (moving_frame x) f) e (h f))
            each false q e = e

        by : (b : Bool) → unless b (moving_at (placed_view y p v x) f u + 2) ≤ unless b (moving_at y f u + 2)
        by true = omega arith
        by false = omega (arith, moving)
