-- What is asked of places by parts of them.
use Rattle.std.proofs.Common.{◌≡◌, ℕ, zero, suc, ◌+◌, [], ◌∷◌, ◌++◌, refl, ap, ◌∙◌, arith}
use Rattle.hm_history.specs.Memory.Words.{bytes_from}
use Rattle.hm_base.specs.Program.{Program}
use Rattle.hm_base.specs.declared.PoolId.{PoolId}
use Rattle.hm_base.specs.declared.PoolId.TheVariants.{System, Device}
use Rattle.hm_history.specs.Memory.Places.{Places, places_start, lowest_free}

-- the lowest free frame depends on held frames and withdrawn devices alone
pub free_same : (c : Program) (s : Places) (pool : PoolId) → lowest_free c (record places_start { held = s.held; withdrawn = s.withdrawn }) pool ≡ lowest_free c s pool
free_same c s System = refl
free_same c s (Device d) = refl

-- bytes with one more
bytes_more : (f : ℕ → ℕ) (at n : ℕ) → bytes_from f at n ++ f (at + n) ∷ [] ≡ bytes_from f at (suc n)
bytes_more f at zero = ap (λ k. f k ∷ []) (omega arith)
bytes_more f at (suc n) = ap (λ xs. f at ∷ xs) (ap (λ k. bytes_from f (at + 1) n ++ f k ∷ []) (omega arith) ∙ bytes_more f (at + 1) n)

pub bytes_next : (f : ℕ → ℕ) (at n : ℕ) → bytes_from f at n ++ f (at + n) ∷ [] ≡ bytes_from f at (n + 1)
bytes_next f at n = let more : suc n ≡ n + 1 = omega arith in bytes_more f at n ∙ ap (bytes_from f at) more
