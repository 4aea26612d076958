-- One pool among all is replaced, and functions of frames differ at one frame.
use Rattle.std.proofs.Common.{◌≡◌, ◌≢◌, ℕ, ◌+◌, ◌<◌, ◌≤◌, Bool, true, false, cond, Option, List, length, get_or, refl, sym, ap, ◌∙◌, subst, arith, ◌⊎◌, inl, inr}
use Rattle.std.proofs.lemmas.Bool.{cases_eq, cases_lt}
use Rattle.std.proofs.lemmas.Bool.Decides.{nat_tests}
use Rattle.std.proofs.lemmas.List.{get_or-set_same, get_or-set_other, get_or_past, length-set, set-get_or, set_past}
use Rattle.hm_base.specs.declared.PoolId.{PoolId}
use Rattle.hm_base.specs.declared.PoolId.TheVariants.{System, Device}
use Rattle.hm_base.specs.declared.Frame.{Frame}
use Rattle.hm_base.specs.Program.{Program}
use Rattle.hm_history.specs.Memory.Words.{with_at, with_frame, same_pool}
use Rattle.hm_history.specs.Memory.Places.{frame_of, pool_size}
use Rattle.hm_history.specs.Memory.Locks.{is_locker}
use Rattle.frame_pool.specs.Frames.{is_held, locker}
use Rattle.hm_frames.specs.Pools.{PoolState, PoolsState, fresh_pool, pool_index, pool_at, with_pool, is_held_in, pool_settled, pool_unlocked}
use Rattle.hm_frames.specs.Shown.{PoolShown, PoolsShown}
use Rattle.hm_frames.proofs.PoolKept.{shown_as}
use Rattle.hm_history.proofs.Frames.{pool_itself}

pool_tells : (r q : PoolId) → ((same_pool r q ≡ true) × (r ≡ q)) ⊎ ((same_pool r q ≡ false) × (pool_index r ≢ pool_index q))
pool_tells System System = inl (refl, refl)
pool_tells System (Device e) = inr (refl, λ h. absurd (omega arith))
pool_tells (Device d) System = inr (refl, λ h. absurd (omega arith))
pool_tells (Device d) (Device e) = by (cases_eq d e)
  where
    by : (d ≡ e) ⊎ (d ≢ e) → ((same_pool (Device d) (Device e) ≡ true) × (Device d ≡ Device e)) ⊎ ((same_pool (Device d) (Device e) ≡ false) × (pool_index (Device d) ≢ pool_index (Device e)))
    by (inl p) = inl (grind (arith, nat_tests), ap (λ n. Device n) p)
    by (inr p) = inr (grind (arith, nat_tests), λ h. p (omega arith))

-- a function that differs at one frame, in the pool of that frame and in others
pub at_pool : {X : Type 0} (g : Frame → X) (f : Frame) (x : X) (n : ℕ) → with_at (λ k. g (frame_of f.pool k)) f.number x n ≡ with_frame g f x (frame_of f.pool n)
at_pool g f x n = rw (pool_itself f.pool) refl

pub at_other : {X : Type 0} (g : Frame → X) (f : Frame) (x : X) (r : PoolId) (n : ℕ) → same_pool r f.pool ≡ false → g (frame_of r n) ≡ with_frame g f x (frame_of r n)
at_other g f x r n e = rw e refl

-- what holds of the new pool, and held of the others
each : (x : PoolsState) (q : PoolId) (y : PoolState) (P : PoolId → PoolState → Type 0) → pool_index q < length x.pools → P q y → ((r : PoolId) → same_pool r q ≡ false → P r (pool_at x r)) → (r : PoolId) → P r (pool_at (with_pool x q y) r)
each x q y P l here others r = by (pool_tells r q)
  where
    by : ((same_pool r q ≡ true) × (r ≡ q)) ⊎ ((same_pool r q ≡ false) × (pool_index r ≢ pool_index q)) → P r (pool_at (with_pool x q y) r)
    by (inl e) = subst (λ (s : PoolId). P s (pool_at (with_pool x q y) s)) (sym e.1) (subst (P q) (sym (get_or-set_same x.pools (pool_index q) y (fresh_pool 0) l)) here)
    by (inr e) = subst (P r) (sym (get_or-set_other x.pools (pool_index q) (pool_index r) y (fresh_pool 0) e.1)) (others r e.0)

-- a pool with frames is one of the five
pub pool_below : (x : PoolsState) (q : PoolId) (n : ℕ) → n < length (pool_at x q).frames.held → pool_index q < length x.pools
pool_below x q n l = by (cases_lt (pool_index q) (length x.pools))
  where
    by : (pool_index q < length x.pools) ⊎ (length x.pools ≤ pool_index q) → pool_index q < length x.pools
    by (inl k) = k
    by (inr k) = absurd (omega (arith, ap (λ (y : PoolState). length y.frames.held) (get_or_past x.pools (pool_index q) (fresh_pool 0) k)))

pub same_pools : (x : PoolsState) (q : PoolId) → with_pool x q (pool_at x q) ≡ x
same_pools x q = ap (λ (ys : List PoolState). record x { pools = ys }) (set-get_or x.pools (pool_index q) (fresh_pool 0))

-- the frames that a state has in a pool
abbrev pub InPool : (Frame → Bool) → (Frame → Option Frame) → (Frame → Option ℕ) → (Frame → ℕ → ℕ) → PoolId → PoolState → Type 0
InPool h m l b q y = PoolShown (λ n. h (frame_of q n)) (λ n. m (frame_of q n)) (λ n. l (frame_of q n)) (λ n. b (frame_of q n)) y

-- two functions agree on the frames of other pools
abbrev pub Elsewhere : {X : Type 0} → PoolId → (Frame → X) → (Frame → X) → Type 0
Elsewhere q f g = (r : PoolId) (n : ℕ) → same_pool r q ≡ false → f (frame_of r n) ≡ g (frame_of r n)

pub replaced : {c : Program} {h i : Frame → Bool} {m k : Frame → Option Frame} {w g : ℕ → Bool} {l j : Frame → Option ℕ} {b d : Frame → ℕ → ℕ} (x : PoolsState) (q : PoolId) (y : PoolState) →
    PoolsShown c h m w g l b x → pool_index q < length x.pools → length y.frames.held ≡ length (pool_at x q).frames.held → y.frames.withdrawn ≡ (pool_at x q).frames.withdrawn →
    InPool i k j d q y → Elsewhere q h i → Elsewhere q m k → Elsewhere q l j → Elsewhere q b d → PoolsShown c i k w g j d (with_pool x q y)
replaced {c} {h} {i} {m} {k} {w} {g} {l} {j} {b} {d} x q y s lt len flag shown eh em el eb = record {
  count = length-set x.pools (pool_index q) y ∙ s.count;
  removed_len = s.removed_len;
  size = each x q y (λ r z. length z.frames.held ≡ pool_size c r) lt (len ∙ s.size q) (λ r t. s.size r);
  pool = each x q y (InPool i k j d) lt shown (λ r t. shown_as (s.pool r) (λ n. eh r n t) (λ n. em r n t) (λ n. el r n t) (λ n o. ap (λ (f : ℕ → ℕ). f o) (eb r n t)));
  system = as_open System ∙ s.system;
  withdrawn = λ e lt. as_open (Device e) ∙ s.withdrawn e lt;
  removed = s.removed;
}
  where
    as_open : (r : PoolId) → (pool_at (with_pool x q y) r).frames.withdrawn ≡ (pool_at x r).frames.withdrawn
    as_open = each x q y (λ r z. z.frames.withdrawn ≡ (pool_at x r).frames.withdrawn) lt flag (λ r t. refl)

-- nothing changes but that the pool gives out no frame any more
pub closed : {c : Program} {h : Frame → Bool} {m : Frame → Option Frame} {w g : ℕ → Bool} {l : Frame → Option ℕ} {b : Frame → ℕ → ℕ} (x : PoolsState) (e : ℕ) (y : PoolState) →
    PoolsShown c h m w g l b x → e < 4 → length y.frames.held ≡ length (pool_at x (Device e)).frames.held → y.frames.withdrawn ≡ true → InPool h m l b (Device e) y →
    PoolsShown c h m (with_at w e true) g l b (with_pool x (Device e) y)
closed {c} {h} {m} {w} {g} {l} {b} x e y s lt len shut shown = record {
  count = length-set x.pools (e + 1) y ∙ s.count;
  removed_len = s.removed_len;
  size = each x (Device e) y (λ r z. length z.frames.held ≡ pool_size c r) inside (len ∙ s.size (Device e)) (λ r t. s.size r);
  pool = each x (Device e) y (InPool h m l b) inside shown (λ r t. s.pool r);
  system = each x (Device e) y Closed inside is_shut others System;
  withdrawn = λ k below. each x (Device e) y Closed inside is_shut others (Device k) below;
  removed = s.removed;
}
  where
    inside : e + 1 < length x.pools
    inside = omega (arith, s.count)

    Closed : PoolId → PoolState → Type 0
    Closed System z = z.frames.withdrawn ≡ false
    Closed (Device k) z = k < 4 → z.frames.withdrawn ≡ with_at w e true k

    is_shut : Closed (Device e) y
    is_shut below = shut ∙ grind (arith, nat_tests)

    others : (r : PoolId) → same_pool r (Device e) ≡ false → Closed r (pool_at x r)
    others System t = s.system
    others (Device k) t = λ below. s.withdrawn k below ∙ grind (arith, nat_tests)

-- a change of a pool that leaves the held frames
pub held_stays : (x : PoolsState) (q : PoolId) (y : PoolState) → y.frames.held ≡ (pool_at x q).frames.held → (f : Frame) → is_held_in (with_pool x q y) f ≡ is_held_in x f
held_stays x q y e f = by (cases_lt (pool_index q) (length x.pools)) (pool_tells f.pool q)
  where
    at : PoolState → Bool
    at z = is_held z.frames f.number

    by : (pool_index q < length x.pools) ⊎ (length x.pools ≤ pool_index q) → ((same_pool f.pool q ≡ true) × (f.pool ≡ q)) ⊎ ((same_pool f.pool q ≡ false) × (pool_index f.pool ≢ pool_index q)) → is_held_in (with_pool x q y) f ≡ is_held_in x f
    by (inl l) (inl s) = ap (λ (r : PoolId). at (pool_at (with_pool x q y) r)) s.1 ∙ ap at (get_or-set_same x.pools (pool_index q) y (fresh_pool 0) l)
        ∙ ap (λ (hs : List Bool). get_or hs f.number false) e ∙ sym (ap (λ (r : PoolId). at (pool_at x r)) s.1)
    by (inl l) (inr s) = ap at (get_or-set_other x.pools (pool_index q) (pool_index f.pool) y (fresh_pool 0) s.1)
    by (inr l) s = ap (λ (ys : List PoolState). is_held_in (record x { pools = ys }) f) (set_past x.pools (pool_index q) y l)

pub settled_held : (x : PoolsState) (n a : ℕ) (b : Bool) (f : Frame) → is_held_in (cond b x (with_pool x System (pool_settled (pool_at x System) n a))) f ≡ is_held_in x f
settled_held x n a true f = refl
settled_held x n a false f = held_stays x System (pool_settled (pool_at x System) n a) (by (is_locker (locker (pool_at x System).frames n) a)) f
  where
    by : (b : Bool) → (cond b (pool_unlocked (pool_at x System) n) (pool_at x System)).frames.held ≡ (pool_at x System).frames.held
    by true = refl
    by false = refl
