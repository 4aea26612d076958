-- Lists of counts, in parts.
use Rattle.std.proofs.Common.{◌≡◌, ℕ, ◌+◌, ◌-◌, ◌≤◌, ◌<◌, zero, suc, List, [], ◌∷◌, ◌++◌, refl, ap, ◌∙◌, map, arith, false, append-nil}
use Rattle.std.specs.Prelude.{filter, Option}
use Rattle.std.specs.List.{flat_map}
use Rattle.std.proofs.lemmas.List.{map-append}
use Rattle.std.proofs.lemmas.Grind.{flat_map-append}
use Rattle.std.proofs.lemmas.List.Elements.{filter-append}
use Rattle.hm_history.proofs.Numbers.{numbers_append}
use Rattle.hm_history.specs.Memory.Words.{numbers}
use Rattle.hm_history.specs.declared.Who.{Who}
use Rattle.hm_advisor.specs.Counts.{count_at, is_accessed, pages_counted, window_counts, counts_by}
use Rattle.hm_advisor.specs.declared.counts.Count.{Count}
use Rattle.hm_advisor.specs.declared.windows.Window.{Window}

-- so many pages, and then those behind them
pub pages_append : (f : Who → ℕ → ℕ) (m p from n k : ℕ) → pages_counted f m p from (n + k) ≡ pages_counted f m p from n ++ pages_counted f m p (from + n) k
pages_append f m p from n k =
    let g : ℕ → Count = count_at f m p in
    ap (λ (vs : List ℕ). filter is_accessed (map g vs)) (numbers_append from n k)
    ∙ ap (filter is_accessed) (map-append g (numbers from n) (numbers (from + n) k))
    ∙ filter-append is_accessed (map g (numbers from n)) (map g (numbers (from + n) k))

-- pages that nobody accessed
pub no_pages : (f : Who → ℕ → ℕ) (m p from n : ℕ) → ((v : ℕ) → from ≤ v → v < from + n → is_accessed (count_at f m p v) ≡ false) → pages_counted f m p from n ≡ []
no_pages f m p from zero none = refl
no_pages f m p from (suc n) none =
    let first : is_accessed (count_at f m p from) ≡ false = none from (omega arith) (omega arith) in
    let rest = no_pages f m p (from + 1) n (λ v above below. none v (omega arith) (omega arith)) in
    rw first rest

-- the pages up to one are those up to another, if nobody accessed a page between
pub pages_until : (f : Who → ℕ → ℕ) (m p first from to : ℕ) → first ≤ from → from ≤ to → ((v : ℕ) → from ≤ v → v < to → is_accessed (count_at f m p v) ≡ false) → pages_counted f m p first (to - first) ≡ pages_counted f m p first (from - first)
pages_until f m p first from to low high none =
    let sum : to - first ≡ (from - first) + (to - from) = omega arith in
    let at : first + (from - first) ≡ from = omega arith in
    let rest : pages_counted f m p from (to - from) ≡ [] = no_pages f m p from (to - from) (λ v above below. none v above (omega arith)) in
    ap (pages_counted f m p first) sum ∙ pages_append f m p first (from - first) (to - from)
    ∙ ap (λ k. pages_counted f m p first (from - first) ++ pages_counted f m p k (to - from)) at
    ∙ ap (λ (xs : List Count). pages_counted f m p first (from - first) ++ xs) rest
    ∙ append-nil (pages_counted f m p first (from - first))

-- no access of two kinds is none at all
pub unused : (f : Who → ℕ → ℕ) (m p v : ℕ) → (f (Who.Cpu p) v ≡ 0) × (f (Who.Mirror m) v ≡ 0) → is_accessed (count_at f m p v) ≡ false
unused f m p v none = rw (none.0, none.1) refl

-- the counts of one mirror more
pub counts_more : (f : Who → ℕ → ℕ) (ws : ℕ → Option Window) (n : ℕ) → counts_by f ws (n + 1) ≡ counts_by f ws n ++ window_counts f n (ws n)
counts_more f ws n =
    let g : ℕ → List Count = λ m. window_counts f m (ws m) in
    let z : 0 + n ≡ n = omega arith in
    ap (flat_map g) (numbers_append 0 n 1 ∙ ap (λ k. numbers 0 n ++ numbers k 1) z) ∙ flat_map-append g (numbers 0 n) (n ∷ [])
    ∙ ap (λ (y : List Count). flat_map g (numbers 0 n) ++ y) (append-nil (g n))
