-- Bytes that are written one by one.
use Rattle.std.proofs.Common.{◌≡◌, ℕ, zero, suc, [], ◌∷◌, ◌+◌, ◌-◌, ◌*◌, ◌/◌, ◌<◌, ◌≤◌, true, false, ◌==◌, ◌&&◌, nat_le, nat_lt, List, length, take, get_or, slice_index, slice_set, refl, ap, ◌∙◌, arith}
use Rattle.std.specs.Prelude.{if◌then◌else◌}
use Rattle.std.proofs.lemmas.List.{get_or-take, length-take-le}
use Rattle.std.proofs.lemmas.Bool.{and_right}
use Rattle.std.proofs.lemmas.Bool.Decides.{nat_tests}
use Rattle.std.proofs.lemmas.Grind.{elements}
use Rattle.std.proofs.Math.Path.{fun_ext}
use Rattle.hm_base.specs.Pages.{Pages}
use Rattle.hm_history.specs.Memory.Words.{with_at, same_bytes, bytes_from}
use Rattle.hm_history.specs.Memory.Plain.{with_bytes, with_zeros}
use Rattle.hm_folds.specs.Stored.{byte_in}
use Rattle.hm_folds.specs.Memory.{bytes_of}
use Rattle.hm_folds.specs.declared.stored.Stored.{Stored}

pub written_more : (f : ℕ → ℕ) (at n : ℕ) (bs : List ℕ) (q : ℕ) → n < length bs → (if q == at + n then slice_index bs n else with_bytes f at (take n bs) q) ≡ with_bytes f at (take (n + 1) bs) q
written_more f at n bs q l =
    let few = length-take-le n bs (omega arith) in
    let more = length-take-le (n + 1) bs (omega arith) in
    let old : q - at < n → slice_index (take n bs) (q - at) ≡ slice_index bs (q - at) = λ i. get_or-take n bs (q - at) 0 i in
    let new : q - at < n + 1 → slice_index (take (n + 1) bs) (q - at) ≡ slice_index bs (q - at) = λ i. get_or-take (n + 1) bs (q - at) 0 i in
    let here : q ≡ at + n → q - at ≡ n = λ e. omega arith in
    grind (arith, nat_tests)

-- one process's bytes change
pub process_set : (xs : List Stored) (i p : ℕ) (y : Stored) (g : ℕ → ℕ) → i ≡ p → p < length xs → ((a : ℕ) → byte_in y a ≡ g a) → bytes_of (slice_set xs i y) ≡ with_at (bytes_of xs) p g
process_set xs i p y g e l h = rw e (fun_ext (λ q. fun_ext (λ a. by q a (h a))))
  where
    by : (q a : ℕ) → byte_in y a ≡ g a → bytes_of (slice_set xs p y) q a ≡ with_at (bytes_of xs) p g q a
    by q a k = grind (arith, nat_tests, elements)

-- the addresses of a span's pages
pub zeros_same : (f : ℕ → ℕ) (r : Pages) (a from n : ℕ) → from ≡ r.first → n ≡ r.count → (if nat_le (from * 4096) a && nat_lt a (from * 4096 + n * 4096) then 0 else f a) ≡ with_zeros f r a
zeros_same f r a from n e k =
    let low : nat_le (from * 4096) a ≡ nat_le r.first (a / 4096) = same_le (from * 4096) a r.first (a / 4096) (λ l. omega (arith, e)) (λ l. omega (arith, e)) in
    let high : nat_lt a (from * 4096 + n * 4096) ≡ nat_lt (a / 4096) (r.first + r.count) = same_lt a (from * 4096 + n * 4096) (a / 4096) (r.first + r.count) (λ l. omega (arith, e, k)) (λ l. omega (arith, e, k)) in
    ap (λ b. if b && nat_lt a (from * 4096 + n * 4096) then 0 else f a) low ∙ ap (λ b. if nat_le r.first (a / 4096) && b then 0 else f a) high
  where
    same_le : (i j k l : ℕ) → (i ≤ j → k ≤ l) → (k ≤ l → i ≤ j) → nat_le i j ≡ nat_le k l
    same_le i j k l h g = grind (arith, nat_tests)

    same_lt : (i j k l : ℕ) → (i < j → k < l) → (k < l → i < j) → nat_lt i j ≡ nat_lt k l
    same_lt i j k l h g = grind (arith, nat_tests)

-- a byte of a process, read through an index
pub read_byte : (xs : List Stored) (i p : ℕ) (x d : Stored) (a : ℕ) → x ≡ get_or xs i d → i ≡ p → i < length xs → byte_in x a ≡ bytes_of xs p a
read_byte xs i p x d a e k l = grind (arith, elements)

-- bytes that are the same, or not
pub same_all : (f : ℕ → ℕ) (at : ℕ) (bs : List ℕ) → ((k : ℕ) → k < length bs → slice_index bs k ≡ f (at + k)) → same_bytes bs (bytes_from f at (length bs)) ≡ true
same_all f at [] h = refl
same_all f at (b ∷ bs) h =
    let here : b ≡ f at = h 0 (omega arith) ∙ ap f (omega arith) in
    let rest = same_all f (at + 1) bs (λ k l. h (suc k) (omega arith) ∙ ap f (omega arith)) in
    grind (arith, nat_tests)

pub same_not : (f : ℕ → ℕ) (at : ℕ) (bs : List ℕ) (k : ℕ) → k < length bs → (slice_index bs k ≡ f (at + k) → ⊥) → same_bytes bs (bytes_from f at (length bs)) ≡ false
same_not f at [] k l h = absurd (omega arith)
same_not f at (b ∷ bs) zero l h =
    let here : b ≡ f at → ⊥ = λ e. h (e ∙ ap f (omega arith)) in
    grind (arith, nat_tests)
same_not f at (b ∷ bs) (suc k) l h =
    let rest = same_not f (at + 1) bs k (omega arith) (λ e. h (e ∙ ap f (omega arith))) in
    grind (arith, nat_tests)

pub wrong_length : (f : ℕ → ℕ) (at : ℕ) (bs : List ℕ) → (length bs ≡ 1 → ⊥) → same_bytes bs (bytes_from f at 1) ≡ false
wrong_length f at [] h = refl
wrong_length f at (b ∷ []) h = absurd (h refl)
wrong_length f at (b ∷ (d ∷ bs)) h = and_right (b == f at) false refl
