-- The pools of the tables keep their sizes, whatever is placed.
use Rattle.std.proofs.Common.{◌≡◌, ℕ, ◌<◌, ◌≤◌, ◌⊎◌, inl, inr, Bool, true, false, eqb, cond, Option, Some, None, List, [], length, get_or, set, refl, sym, ap, ◌∙◌, subst, arith, length-set}
use Rattle.std.proofs.lemmas.Bool.{cases_lt}
use Rattle.std.proofs.lemmas.Bool.Decides.{nat_tests}
use Rattle.std.proofs.lemmas.List.{set_past}
use Rattle.hm_base.specs.declared.PoolId.{PoolId}
use Rattle.hm_base.specs.declared.Frame.{Frame}
use Rattle.hm_base.specs.declared.Place.{Place}
use Rattle.hm_base.specs.PlaceWords.{names}
use Rattle.entry_words.specs.Word.{pool_field}
use Rattle.rev_maps.specs.Uses.{Uses}
use Rattle.hm_history.specs.declared.Kind.{Kind}
use Rattle.hm_tables.specs.Values.{Tables, pool_in, size_in, place_of, is_moving}
use Rattle.hm_tables.specs.Steps.{with_uses, without_use_of, with_use_of, with_mark_of, freezes, keeps_use, uses_next, tables_next, FrameFits, SameTables}
use Rattle.hm_folds.specs.Fitted.{IsFitted}
use Rattle.hm_folds.specs.HeldFrames.{frames_in}
use Rattle.hm_folds.specs.Places.{HoldsNamed}
use Rattle.hm_folds.specs.declared.held.HeldNumbers.{HeldNumbers}
use Rattle.hm_folds.proofs.HeldPools.{held_within}
use Rattle.hm_tables.proofs.PoolUses.{get_set}

kept_length : (xs : List (List Uses)) (i j : ℕ) (y : List Uses) → length y ≡ length (get_or xs i []) → length (get_or (set xs i y) j []) ≡ length (get_or xs j [])
kept_length xs i j y e = by (cases_lt i (length xs))
  where
    split : (b : Bool) → eqb j i ≡ b → length (cond b y (get_or xs j [])) ≡ length (get_or xs j [])
    split true k = e ∙ ap (λ n. length (get_or xs n [])) (sym (same k))
      where
        same : eqb j i ≡ true → j ≡ i
        same k = grind (arith, nat_tests)
    split false k = refl

    by : (i < length xs) ⊎ (length xs ≤ i) → length (get_or (set xs i y) j []) ≡ length (get_or xs j [])
    by (inl l) = ap length (get_set xs i y j [] l) ∙ split (eqb j i) refl
    by (inr l) = ap (λ (zs : List (List Uses)). length (get_or zs j [])) (set_past xs i y l)

size_with : (pools : List (List Uses)) (f : Frame) (uses : Uses) (pool : PoolId) → size_in (with_uses pools f uses) pool ≡ size_in pools pool
size_with pools f uses pool = kept_length pools (pool_field f.pool) (pool_field pool) (set (pool_in pools f.pool) f.number uses) (length-set (pool_in pools f.pool) f.number uses)

size_mark : (p v : ℕ) (o : Option Frame) (pools : List (List Uses)) (pool : PoolId) → size_in (with_mark_of p v o pools) pool ≡ size_in pools pool
size_mark p v None pools pool = refl
size_mark p v (Some f) pools pool = size_with pools f _ pool

size_out : (p v : ℕ) (o : Option Frame) (pools : List (List Uses)) (pool : PoolId) → size_in (without_use_of p v o pools) pool ≡ size_in pools pool
size_out p v None pools pool = refl
size_out p v (Some f) pools pool = size_with pools f _ pool

size_into : (p v : ℕ) (m : Bool) (o : Option Frame) (pools : List (List Uses)) (pool : PoolId) → size_in (with_use_of p v m o pools) pool ≡ size_in pools pool
size_into p v m None pools pool = refl
size_into p v m (Some f) pools pool = size_with pools f _ pool

sizes_kept : (p v : ℕ) (old y : Place) (pools : List (List Uses)) (pool : PoolId) → size_in (uses_next p v old y pools) pool ≡ size_in pools pool
sizes_kept p v old y pools pool = by (freezes old y) (keeps_use old y)
  where
    by : (b d : Bool) → size_in (cond b (with_mark_of p v (names old) pools) (cond d pools (with_use_of p v (is_moving y) (names y) (without_use_of p v (names old) pools)))) pool ≡ size_in pools pool
    by true d = size_mark p v (names old) pools pool
    by false true = refl
    by false false = size_into p v (is_moving y) (names y) (without_use_of p v (names old) pools) pool ∙ size_out p v (names old) pools pool

pub fitted_same : (x y : Tables) (held : List HeldNumbers) → IsFitted x held → SameTables x y → IsFitted y held
fitted_same x y held h same = record { sizes = λ pool. h.sizes pool ∙ sym (same.pools.sizes pool) }

pub fitted_next : (x y z : Tables) (held : List HeldNumbers) (p v : ℕ) (place : Place) → IsFitted x held → SameTables x y → z ≡ tables_next (Kind.Place p v place) y → IsFitted z held
fitted_next x y z held p v place h same e = record { sizes = λ pool. h.sizes pool ∙ sym (same.pools.sizes pool) ∙ sym (sizes_kept p v (place_of y p v) place y.pools pool) ∙ sym (ap (λ (t : Tables). size_in t.pools pool) e) }

-- what is held is one of its pool, in the tables too
pub named_fits : (x : Tables) (held : List HeldNumbers) → IsFitted x held → (o : Option Frame) → HoldsNamed held o → FrameFits (size_in x.pools) o
named_fits x held h None k = tt
named_fits x held h (Some f) k = subst (λ n. f.number < n) (h.sizes f.pool) (held_within held f k)

pub size_fits : (size : PoolId → ℕ) (held : List HeldNumbers) → ((pool : PoolId) → frames_in held pool ≡ size pool) → (o : Option Frame) → HoldsNamed held o → FrameFits size o
size_fits size held h None k = tt
size_fits size held h (Some f) k = subst (λ n. f.number < n) (h f.pool) (held_within held f k)
