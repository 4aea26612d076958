-- Lists of lines that begin with the same lines.
use Rattle.std.proofs.Common.{◌≡◌, ℕ, ◌+◌, ◌≤◌, List, ◌++◌, length, take, sym, ap, ◌∙◌}
use Rattle.std.proofs.lemmas.List.{take-take, append_cancel_left}
use Rattle.std.proofs.Math.Seq.{take-append-add}
use Rattle.hm_script.specs.Automaton.{lines}
use Rattle.hm_report_front.proofs.Cutting.{joined, joined_lines}

pub one_lines : (xs ys : List ℕ) → lines xs ≡ lines ys → xs ≡ ys
one_lines xs ys e = sym (joined_lines xs) ∙ ap joined e ∙ joined_lines ys

-- what is shared behind the same front
pub shares_behind : (k n : ℕ) (front xs ys : List (List ℕ)) → take n xs ≡ take n ys → k ≤ length front + n → take k (front ++ xs) ≡ take k (front ++ ys)
shares_behind k n front xs ys same le =
    let m = length front + n in
    let whole : take m (front ++ xs) ≡ take m (front ++ ys) = take-append-add front xs n ∙ ap (λ (z : List (List ℕ)). front ++ z) same ∙ sym (take-append-add front ys n) in
    sym (take-take k m (front ++ xs) le) ∙ ap (take k) whole ∙ take-take k m (front ++ ys) le

pub cancel : (n : ℕ) (front xs ys : List (List ℕ)) → take (length front + n) (front ++ xs) ≡ take (length front + n) (front ++ ys) → take n xs ≡ take n ys
cancel n front xs ys e = append_cancel_left front (take n xs) (take n ys) (sym (take-append-add front xs n) ∙ e ∙ take-append-add front ys n)
