-- What a fold answered to an entry says whether it may follow.
use Rattle.std.proofs.Common.{◌≡◌, Bool, true, false, if◌then◌else◌, not, ap, ◌∙◌}
use Rattle.std.specs.Prelude.{Result, Ok, Err}
use Rattle.hm_history.specs.declared.FoldError.{FoldError}
use Rattle.hm_history.specs.declared.FoldError.TheVariants.{NotLegal}
use Rattle.hm_folds.specs.Applied.{is_not_legal}

pub may_follow : (m n b : Bool) → m ≡ not n → n ≡ not b → m ≡ b
may_follow m n true e f = e ∙ ap not f
may_follow m n false e f = e ∙ ap not f

-- so it does if the answer says nothing of memory
pub took : (r : Result (Unit {0}) FoldError) (b : Bool) → r ≡ (if b then Ok tt else Err NotLegal) → not (is_not_legal r) ≡ b
took r true e = ap (λ y. not (is_not_legal y)) e
took r false e = ap (λ y. not (is_not_legal y)) e
