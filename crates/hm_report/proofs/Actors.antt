-- Counts of actors with an operation that has not ended.
use Rattle.std.proofs.Common.{◌≡◌, ◌≢◌, ◌==◌, ℕ, zero, suc, ◌+◌, ◌<◌, List, [], ◌∷◌, ◌++◌, length, cond, refl, sym, ap, ◌∙◌, arith, zero-add}
use Rattle.std.specs.Prelude.{not, codes, sum_by}
use Rattle.std.proofs.lemmas.Bool.Decides.{nat_tests}
use Rattle.std.proofs.lemmas.List.Sums.{sum_by-append}
use Rattle.hm_base.specs.Program.{Program}
use Rattle.hm_history.specs.Memory.Words.{numbers}
use Rattle.hm_history.specs.Kernel.Going.{ops_of}
use Rattle.hm_history.specs.declared.Entry.{Entry}
use Rattle.hm_report.specs.Summary.{summary_line, answer_lines, move_lines, unfinished_count, summary_by}
use Rattle.hm_history.proofs.Numbers.{numbers_append}

-- 1 where they differ
abbrev one_of : ℕ → ℕ → ℕ
one_of e k = cond (not (e == k)) 1 0

one_where_not : (e k : ℕ) → e ≢ k → one_of e k ≡ 1
one_where_not e k other = grind (arith, nat_tests)

none_where_same : (e k : ℕ) → e ≡ k → one_of e k ≡ 0
none_where_same e k same = grind (arith, nat_tests)

count_more : (c : Program) (ended : ℕ → ℕ) (n : ℕ) → unfinished_count c ended (n + 1) ≡ unfinished_count c ended n + one_of (ended n) (length (ops_of c n))
count_more c ended n =
    let f : ℕ → ℕ = λ a. one_of (ended a) (length (ops_of c a)) in
    let z : 0 + n ≡ n = omega arith in
    ap (sum_by f) (numbers_append 0 n 1 ∙ ap (λ k. numbers 0 n ++ numbers k 1) z) ∙ sum_by-append f (numbers 0 n) (n ∷ []) ∙ ap (λ y. sum_by f (numbers 0 n) + y) (zero-add (f n))

-- one more actor
pub counts_one : (c : Program) (ended : ℕ → ℕ) (n k count now : ℕ) → count ≡ unfinished_count c ended n → k ≡ length (ops_of c n) → ended n ≢ k → now ≡ count + 1 → now ≡ unfinished_count c ended (n + 1)
counts_one c ended n k count now same is other more =
    let one : one_of (ended n) (length (ops_of c n)) ≡ 1 = one_where_not (ended n) (length (ops_of c n)) (λ e. other (e ∙ sym is)) in
    omega (arith, more, same, count_more c ended n, one)

pub counts_none : (c : Program) (ended : ℕ → ℕ) (n k count now : ℕ) → count ≡ unfinished_count c ended n → k ≡ length (ops_of c n) → ended n ≡ k → now ≡ count → now ≡ unfinished_count c ended (n + 1)
counts_none c ended n k count now same is ends stays =
    let none : one_of (ended n) (length (ops_of c n)) ≡ 0 = none_where_same (ended n) (length (ops_of c n)) (ends ∙ is) in
    omega (arith, stays, same, count_more c ended n, none)

sums_by : (f g : ℕ → ℕ) (from n : ℕ) → ((a : ℕ) → a < from + n → f a ≡ g a) → sum_by f (numbers from n) ≡ sum_by g (numbers from n)
sums_by f g from zero same = refl
sums_by f g from (suc n) same =
    let rest : (a : ℕ) → a < (from + 1) + n → f a ≡ g a = λ a lt. same a (omega arith) in
    let tail = sums_by f g (from + 1) n rest in
    let fs = numbers (from + 1) n in
    sum_by-append f (from ∷ []) fs ∙ ap (λ z. (0 + z) + sum_by f fs) (same from (omega arith)) ∙ ap (λ z. (0 + g from) + z) tail ∙ sym (sum_by-append g (from ∷ []) fs)

pub count_same : (c : Program) (ended other : ℕ → ℕ) (n : ℕ) → ((a : ℕ) → a < n → ended a ≡ other a) → unfinished_count c ended n ≡ unfinished_count c other n
count_same c ended other n same =
    sums_by (λ a. one_of (ended a) (length (ops_of c a))) (λ a. one_of (other a) (length (ops_of c a))) 0 n
    (λ a lt. ap (λ e. one_of e (length (ops_of c a))) (same a (omega arith)))

pub summary_same : (n : ℕ) (c : Program) (h : List Entry) (ended other : ℕ → ℕ) → ((a : ℕ) → ended a ≡ other a) → summary_by n c h ended ≡ summary_by n c h other
summary_same n c h ended other same =
    ap (λ k. summary_line (codes "trial") n ++ (summary_line (codes "entries") (length h) ++ (answer_lines h ++ (move_lines h ++ summary_line (codes "unfinished") k)))) (count_same c ended other (length c.actors) (λ a lt. same a))
