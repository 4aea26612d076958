use Rattle.std.proofs.Common.{◌≡◌, ℕ, zero, suc, None, List, [], ◌∷◌, ◌++◌, length, slice_index_or, refl, ap, ◌∙◌, arith}
use Rattle.std.specs.Prelude.{Option, slice_get, replicate}
use Rattle.hm_why.specs.declared.changes.Changes.{Changes}
use Rattle.hm_why.specs.Writers.{entry_among}
use Rattle.hm_why.proofs.Sharing.{shared_at_first, one_without, place_at_first}
use Rattle.hm_why.proofs.writers.Writers.new.Goals as goal

-- no mirror has a process
nobody : (x : Option ℕ) (n m : ℕ) → slice_index_or (replicate n x) m x ≡ x
nobody x zero m = refl
nobody x (suc n) zero = refl
nobody x (suc n) (suc m) = nobody x n m

pub returns-clause-sized : goal.returns-clause-sized
returns-clause-sized c =
    let only : c.push.new.self.items ≡ c.new.result ∷ [] = c.in_ok-push.ensures.items ∙ ap (λ xs. xs ++ c.new.result ∷ []) c.in_ok-changes.ensures.items in
    let long : length c.push.new.self.items ≡ 1 = ap (λ (xs : List Changes). length xs) only in
    record { mirrors = refl; processes = refl; places = λ q k e. omega (arith, place_at_first 32 q k e, long) }

pub returns-clause-fresh : goal.returns-clause-fresh
returns-clause-fresh c =
    let none : Option ℕ = None in
    let only : c.push.new.self.items ≡ c.new.result ∷ [] = c.in_ok-push.ensures.items ∙ ap (λ xs. xs ++ c.new.result ∷ []) c.in_ok-changes.ensures.items in
    record {
      owners = nobody none 32;
      sources = shared_at_first _ (λ k b. ap (λ xs. entry_among b (slice_get xs k)) only ∙ one_without c.new.result c.new.ensures k b) 32;
    }
