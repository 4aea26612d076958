-- What is kept by frame, in five lists by pool: a write of one, and what five alike show.
use Rattle.std.proofs.Common.{◌≡◌, ℕ, ◌<◌, Bool, true, false, ◌==◌, ◌&&◌, ◌||◌, not, Option, Some, List, length, slice_set, get_or, refl, sym, ap, ◌∙◌, arith}
use Rattle.std.specs.Prelude.{if◌then◌else◌, slice_get}
use Rattle.std.proofs.lemmas.Grind.{elements}
use Rattle.std.proofs.lemmas.Bool.Decides.{nat_tests}
use Rattle.hm_base.specs.declared.PoolId.{PoolId}
use Rattle.hm_base.specs.declared.Frame.{Frame}
use Rattle.hm_base.specs.PlaceWords.{pool_index, same_pool, same_frame, with_frame}
use Rattle.hm_folds.specs.TableMap.{pool_of, dev_of_pool}
use Rattle.hm_folds.specs.Shares.{less, shares_in, shares_of, shares_at}
use Rattle.hm_folds.specs.Commits.{frame_in, frame_of, committed_at}
use Rattle.hm_folds.specs.HeldFrames.{held_of, held_at}
use Rattle.hm_folds.specs.Numbers.{has_number}
use Rattle.hm_folds.specs.declared.held.HeldNumbers.{HeldNumbers}
use Rattle.hm_folds.specs.declared.shares.Shares.{Shares}
use Rattle.hm_folds.specs.declared.shares.PoolShares.{PoolShares}
use Rattle.hm_folds.specs.declared.commits.PoolCommits.{PoolCommits}

-- two pools stand at one place only if they are one
pub same_index : (p q : PoolId) → (pool_index q == pool_index p) ≡ same_pool q p
same_index PoolId.System PoolId.System = refl
same_index PoolId.System (PoolId.Device d) = grind (arith, nat_tests)
same_index (PoolId.Device d) PoolId.System = grind (arith, nat_tests)
same_index (PoolId.Device d) (PoolId.Device e) = grind (arith, nat_tests)

-- a read through an index
pub read_pool : {X Y : Type 0} (of : Option X → Y) (xs : List X) (i k : ℕ) (d : X) → i ≡ k → i < length xs → of (Some (get_or xs i d)) ≡ of (slice_get xs k)
read_pool of xs i k d e l = grind (arith, elements)

get_set : {X : Type 0} (xs : List X) (i j : ℕ) (y : X) → i < length xs → slice_get (slice_set xs i y) j ≡ (if j == i then Some y else slice_get xs j)
get_set xs i j y l = grind (arith, nat_tests, elements)

-- a write of a pool that leaves this as it was
pub pool_same : {X Y : Type 0} (of : Option X → Y) (xs : List X) (i j : ℕ) (d y : X) → i < length xs → of (Some y) ≡ of (Some (get_or xs i d)) → of (slice_get (slice_set xs i y) j) ≡ of (slice_get xs j)
pool_same of xs i j d y l h = ap of (get_set xs i j y l) ∙ by (j == i) refl
  where
    by : (b : Bool) → (j == i) ≡ b → of (if b then Some y else slice_get xs j) ≡ of (slice_get xs j)
    by false a = refl
    by true a = h ∙ read_pool of xs i j d (grind (arith, nat_tests)) l

-- a write of a frame's pool, of that frame alone
pub pool_set : {X Y : Type 0} (of : ℕ → Option X → Y) (xs : List X) (i : ℕ) (f : Frame) (y : X) (z : Y) → i ≡ pool_index f.pool → i < length xs →
    ((n : ℕ) → of n (Some y) ≡ (if n == f.number then z else of n (slice_get xs i))) → (g : Frame) →
    of g.number (slice_get (slice_set xs i y) (pool_index g.pool)) ≡ (if same_frame g f then z else of g.number (slice_get xs (pool_index g.pool)))
pool_set of xs i f y z e l h g = ap (of g.number) (get_set xs i (pool_index g.pool) y l) ∙ by (pool_index g.pool == i) refl (same_index f.pool g.pool)
  where
    index : (pool_index g.pool == i) ≡ (pool_index g.pool == pool_index f.pool)
    index = ap (λ k. pool_index g.pool == k) e

    by : (b : Bool) → (pool_index g.pool == i) ≡ b → (pool_index g.pool == pool_index f.pool) ≡ same_pool g.pool f.pool →
        of g.number (if b then Some y else slice_get xs (pool_index g.pool)) ≡ (if same_frame g f then z else of g.number (slice_get xs (pool_index g.pool)))
    by true a s =
        let same : same_pool g.pool f.pool ≡ true = sym s ∙ sym index ∙ a in
        let at : pool_index g.pool ≡ i = grind (arith, nat_tests) in
        h g.number ∙ ap (λ k. if g.number == f.number then z else of g.number (slice_get xs k)) (sym at) ∙ sym (ap (λ b. if b && (g.number == f.number) then z else of g.number (slice_get xs (pool_index g.pool))) same)
    by false a s =
        let other : same_pool g.pool f.pool ≡ false = sym s ∙ sym index ∙ a in
        sym (ap (λ b. if b && (g.number == f.number) then z else of g.number (slice_get xs (pool_index g.pool))) other)

-- of shares
pub lowered : (xs : List PoolShares) (i k : ℕ) (f : Frame) (d y : PoolShares) (fewer : Shares) → i ≡ pool_index f.pool → i < length xs → k ≡ f.number →
    ((n : ℕ) → shares_in y n ≡ (if n == k then less (shares_in (get_or xs i d) k) fewer else shares_in (get_or xs i d) n)) → (g : Frame) → shares_at (slice_set xs i y) g ≡ with_frame (shares_at xs) f (less (shares_at xs f) fewer) g
lowered xs i k f d y fewer e l m h = pool_set shares_of xs i f y (less (shares_at xs f) fewer) e l says
  where
    read : (n : ℕ) → shares_in (get_or xs i d) n ≡ shares_of n (slice_get xs i)
    read n = read_pool (shares_of n) xs i i d refl l

    here : shares_in (get_or xs i d) k ≡ shares_at xs f
    here = read k ∙ ap (λ n. shares_of n (slice_get xs i)) m ∙ ap (λ j. shares_of f.number (slice_get xs j)) e

    says : (n : ℕ) → shares_of n (Some y) ≡ (if n == f.number then less (shares_at xs f) fewer else shares_of n (slice_get xs i))
    says n = h n ∙ ap (λ z. if n == k then less z fewer else shares_in (get_or xs i d) n) here ∙ ap (λ z. if n == k then less (shares_at xs f) fewer else z) (read n) ∙ ap (λ j. if n == j then less (shares_at xs f) fewer else shares_of n (slice_get xs i)) m

-- of commits
frame_back : (g : Frame) (dev : Option ℕ) (n : ℕ) → dev ≡ dev_of_pool g.pool → n ≡ g.number → ◌≡◌ {A = Frame} (record { pool = pool_of dev; number = n }) g
frame_back g dev n e m = ap (λ (o : Option ℕ). made (pool_of o) n) e ∙ ap (made (pool_of (dev_of_pool g.pool))) m ∙ ap (λ p. made p g.number) (back g.pool)
  where
    made : PoolId → ℕ → Frame
    made p n = record { pool = p; number = n }

    back : (p : PoolId) → pool_of (dev_of_pool p) ≡ p
    back PoolId.System = refl
    back (PoolId.Device d) = refl

pub committed_set : (xs : List PoolCommits) (i k : ℕ) (f g : Frame) (d y : PoolCommits) (dev : Option ℕ) → i ≡ pool_index f.pool → i < length xs → k ≡ f.number → dev ≡ dev_of_pool g.pool →
    ((n : ℕ) → frame_in y n ≡ (if n == k then Some (record { pool = pool_of dev; number = g.number }) else frame_in (get_or xs i d) n)) → (q : Frame) → committed_at (slice_set xs i y) q ≡ with_frame (committed_at xs) f (Some g) q
committed_set xs i k f g d y dev e l m o h = pool_set frame_of xs i f y (Some g) e l says
  where
    says : (n : ℕ) → frame_of n (Some y) ≡ (if n == f.number then Some g else frame_of n (slice_get xs i))
    says n = h n ∙ ap (λ z. if n == k then Some z else frame_in (get_or xs i d) n) (frame_back g dev g.number o refl) ∙ ap (λ z. if n == k then Some g else z) (read_pool (frame_of n) xs i i d refl l) ∙ ap (λ j. if n == j then Some g else frame_of n (slice_get xs i)) m

-- of frames that are held
pub held_set : (xs : List HeldNumbers) (i k : ℕ) (f : Frame) (z : Bool) (d y : HeldNumbers) → i ≡ pool_index f.pool → i < length xs → k ≡ f.number → ((n : ℕ) → has_number y.held n ≡ (if n == k then z else has_number (get_or xs i d).held n)) → (g : Frame) → held_at (slice_set xs i y) g ≡ with_frame (held_at xs) f z g
held_set xs i k f z d y e l m h = pool_set held_of xs i f y z e l says
  where
    says : (n : ℕ) → held_of n (Some y) ≡ (if n == f.number then z else held_of n (slice_get xs i))
    says n = h n ∙ ap (λ b. if n == k then z else b) (read_pool (held_of n) xs i i d refl l) ∙ ap (λ j. if n == j then z else held_of n (slice_get xs i)) m

-- one number more is held, or one fewer
pub or_if : (a b : Bool) → (a || b) ≡ (if a then true else b)
or_if true b = refl
or_if false b = refl

pub not_and_if : (a b : Bool) → (not a && b) ≡ (if a then false else b)
not_and_if true b = refl
not_and_if false b = refl
