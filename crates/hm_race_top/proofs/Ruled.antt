-- What is said of conditions is right of the race.
use Rattle.std.proofs.Common.{◌≡◌, ℕ, Bool, true, false, Option, Some, None, refl, subst}
use Rattle.hm_race_top.specs.Text.Conditions.Rulings.{RulingsAreRight, IsRuled, ruling_by}
use Rattle.hm_race_top.specs.Text.Conditions.Judged.{holds, witness}
use Rattle.hm_race_top.specs.Text.Conditions.Laws.{Says}
use Rattle.hm_race_top.specs.Text.Conditions.Meets.{meets}
use Rattle.hm_race_top.proofs.Right.{listed_is_right, real_is_right}

pub rulings_are_right : RulingsAreRight
rulings_are_right c k outcomes whole real all = by (witness k outcomes) refl (holds k outcomes) refl whole refl
  where
    by : (w : Option ℕ) → witness k outcomes ≡ w → (held : Bool) → holds k outcomes ≡ held → (b : Bool) → whole ≡ b → IsRuled c k (ruling_by w held b)
    by (Some at) e true h b t = subst (λ (x : Bool). Says k.quantifier x c (meets k.body)) h (real_is_right c k outcomes at real e)
    by (Some at) e false h b t = subst (λ (x : Bool). Says k.quantifier x c (meets k.body)) h (real_is_right c k outcomes at real e)
    by None e true h true t = subst (λ (x : Bool). Says k.quantifier x c (meets k.body)) h (listed_is_right c k outcomes (all t) e)
    by None e false h true t = subst (λ (x : Bool). Says k.quantifier x c (meets k.body)) h (listed_is_right c k outcomes (all t) e)
    by None e true h false t = tt
    by None e false h false t = tt
