-- The uses of each frame after those of one frame were changed.
use Rattle.std.proofs.Common.{◌≡◌, ℕ, ◌<◌, ◌≤◌, ◌⊎◌, inl, inr, Bool, true, false, ◌&&◌, eqb, cond, List, [], length, get_or, set, refl, sym, ap, ◌∙◌, subst, arith, length-set}
use Rattle.std.proofs.lemmas.Bool.{cases_lt}
use Rattle.std.proofs.lemmas.Bool.Decides.{nat_tests}
use Rattle.std.proofs.lemmas.Grind.{elements}
use Rattle.std.proofs.lemmas.List.{get_or_past}
use Rattle.hm_base.specs.declared.PoolId.{PoolId}
use Rattle.hm_base.specs.declared.PoolId.TheVariants.{System, Device}
use Rattle.hm_base.specs.declared.Frame.{Frame}
use Rattle.hm_base.specs.PlaceWords.{same_pool, same_frame}
use Rattle.entry_words.specs.Word.{pool_field}
use Rattle.rev_maps.specs.Uses.{Uses, unused, uses_of}
use Rattle.hm_tables.specs.Values.{pool_in, size_in, uses_in}
use Rattle.hm_tables.specs.Steps.{with_uses}
use Rattle.hm_history.proofs.Frames.{pool_same}

pub get_set : {X : Type 0} (xs : List X) (i : ℕ) (x : X) (j : ℕ) (d : X) → i < length xs → get_or (set xs i x) j d ≡ cond (eqb j i) x (get_or xs j d)
get_set xs i x j d l = grind (arith, nat_tests, elements)

same_field : (a b : PoolId) → eqb (pool_field a) (pool_field b) ≡ same_pool a b
same_field System System = grind (arith, nat_tests)
same_field System (Device e) = grind (arith, nat_tests)
same_field (Device d) System = grind (arith, nat_tests)
same_field (Device d) (Device e) = grind (arith, nat_tests)

-- a pool with a frame is one of the pools
pub pool_inside : (pools : List (List Uses)) (pool : PoolId) (n : ℕ) → n < size_in pools pool → pool_field pool < length pools
pool_inside pools pool n l = by (cases_lt (pool_field pool) (length pools))
  where
    by : (pool_field pool < length pools) ⊎ (length pools ≤ pool_field pool) → pool_field pool < length pools
    by (inl h) = h
    by (inr h) = absurd (no_pool (subst (λ (us : List Uses). n < length us) (get_or_past pools (pool_field pool) [] h) l))
      where
        no_pool : n < 0 → ⊥
        no_pool h = omega arith

pool_with : (pools : List (List Uses)) (f : Frame) (uses : Uses) (pool : PoolId) → f.number < size_in pools f.pool →
    pool_in (with_uses pools f uses) pool ≡ cond (same_pool pool f.pool) (set (pool_in pools f.pool) f.number uses) (pool_in pools pool)
pool_with pools f uses pool l =
    get_set pools (pool_field f.pool) (set (pool_in pools f.pool) f.number uses) (pool_field pool) [] (pool_inside pools f.pool f.number l)
    ∙ ap (λ b. cond b (set (pool_in pools f.pool) f.number uses) (pool_in pools pool)) (same_field pool f.pool)

pub uses_with : (pools : List (List Uses)) (f : Frame) (uses : Uses) (g : Frame) → f.number < size_in pools f.pool →
    uses_in (with_uses pools f uses) g ≡ cond (same_frame g f) uses (uses_in pools g)
uses_with pools f uses g l = ap (λ us. uses_of us g.number) (pool_with pools f uses g.pool l) ∙ by (same_pool g.pool f.pool) refl
  where
    by : (b : Bool) → same_pool g.pool f.pool ≡ b →
        uses_of (cond b (set (pool_in pools f.pool) f.number uses) (pool_in pools g.pool)) g.number ≡ cond (b && eqb g.number f.number) uses (uses_in pools g)
    by true e =
        get_set (pool_in pools f.pool) f.number uses g.number unused l
        ∙ ap (λ pool. cond (eqb g.number f.number) uses (uses_of (pool_in pools pool) g.number)) (sym (pool_same g.pool f.pool e))
    by false e = refl

pub count_with : (pools : List (List Uses)) (f : Frame) (uses : Uses) → length (with_uses pools f uses) ≡ length pools
count_with pools f uses = length-set pools (pool_field f.pool) (set (pool_in pools f.pool) f.number uses)

pub size_with : (pools : List (List Uses)) (f : Frame) (uses : Uses) (pool : PoolId) → f.number < size_in pools f.pool → size_in (with_uses pools f uses) pool ≡ size_in pools pool
size_with pools f uses pool l = ap length (pool_with pools f uses pool l) ∙ by (same_pool pool f.pool) refl
  where
    by : (b : Bool) → same_pool pool f.pool ≡ b → length (cond b (set (pool_in pools f.pool) f.number uses) (pool_in pools pool)) ≡ size_in pools pool
    by true e = length-set (pool_in pools f.pool) f.number uses ∙ ap (size_in pools) (sym (pool_same pool f.pool e))
    by false e = refl

-- a frame with a use is one of its pool
pub frame_inside : (pools : List (List Uses)) (f : Frame) → ((uses_in pools f).list ≡ [] → ⊥) → f.number < size_in pools f.pool
frame_inside pools f some = by (cases_lt f.number (size_in pools f.pool))
  where
    by : (f.number < size_in pools f.pool) ⊎ (size_in pools f.pool ≤ f.number) → f.number < size_in pools f.pool
    by (inl h) = h
    by (inr h) = absurd (some (ap (λ (u : Uses). u.list) (get_or_past (pool_in pools f.pool) f.number unused h)))
