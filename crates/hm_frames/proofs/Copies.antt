-- A list of pools, cut in two, of which one part was written.
use Rattle.std.proofs.Common.{◌≡◌, ℕ, ◌-◌, ◌<◌, Bool, List, ◌++◌, length, get_or, set, refl, sym, ap, ◌∙◌, arith}
use Rattle.std.proofs.lemmas.List.{set-append_left, set-append_right, get_or_append_left, get_or-append_right, get_or_default, length-append}
use Rattle.hm_base.specs.declared.Frame.{Frame}
use Rattle.frame_pool.specs.declared.pool.Piece.{Piece}
use Rattle.frame_pool.specs.Frames.{piece_of, piece_start}
use Rattle.hm_frames.specs.Pools.{PoolState, PoolsState, fresh_pool, pool_index, pool_written, copied_in}

-- the written pool, where the pool read and the pool written are those of the list
copied_at : (ps : List PoolState) (removed : List Bool) (f g : Frame) (piece : Piece) (source target : ℕ) (from to new : PoolState) → source ≡ pool_index f.pool → target ≡ pool_index g.pool →
    from ≡ get_or ps source (fresh_pool 0) → to ≡ get_or ps target (fresh_pool 0) → new ≡ pool_written to g.number (piece_start piece) (piece_of from.frames f.number piece) →
    ◌≡◌ {A = PoolsState} (record { pools = set ps target new; removed = removed }) (copied_in (record { pools = ps; removed = removed }) f g piece)
copied_at ps removed f g piece source target from to new p q e h r = rw (r, e, h, p, q) refl

low_is : (ps low high : List PoolState) (i : ℕ) (y : PoolState) → ps ≡ low ++ high → i < length low → get_or low i y ≡ get_or ps i (fresh_pool 0)
low_is ps low high i y e l = get_or_default low i y (fresh_pool 0) l ∙ sym (get_or_append_left low high (fresh_pool 0) i l) ∙ ap (λ (xs : List PoolState). get_or xs i (fresh_pool 0)) (sym e)

high_is : (ps low high : List PoolState) (i : ℕ) (y : PoolState) → ps ≡ low ++ high → length low ≡ i → i < length ps → get_or high 0 y ≡ get_or ps i (fresh_pool 0)
high_is ps low high i y e n l = get_or_default high 0 y (fresh_pool 0) (omega (arith, ap (λ (xs : List PoolState). length xs) e, length-append low high))
    ∙ sym (get_or-append_right low high i i (fresh_pool 0) n (omega arith) ∙ ap (λ (k : ℕ). get_or high k (fresh_pool 0)) none) ∙ ap (λ (xs : List PoolState). get_or xs i (fresh_pool 0)) (sym e)
  where
    none : i - i ≡ 0
    none = omega arith

low_set : (ps low high : List PoolState) (i : ℕ) (y : PoolState) → ps ≡ low ++ high → i < length low → set low i y ++ high ≡ set ps i y
low_set ps low high i y e l = sym (ap (λ (xs : List PoolState). set xs i y) e ∙ set-append_left low high i y l)

high_set : (ps low high : List PoolState) (i : ℕ) (y : PoolState) → ps ≡ low ++ high → length low ≡ i → low ++ set high 0 y ≡ set ps i y
high_set ps low high i y e n = sym (ap (λ (xs : List PoolState). set xs i y) e ∙ set-append_right low high i i y n (omega arith) ∙ ap (λ (k : ℕ). low ++ set high k y) none)
  where
    none : i - i ≡ 0
    none = omega arith

-- from a pool below the cut to the first above it
pub copied_up : (x : PoolsState) (ps : List PoolState) (removed : List Bool) → record { pools = ps; removed = removed } ≡ x → (low high : List PoolState) → ps ≡ low ++ high → (f g : Frame) (piece : Piece) (source target : ℕ) (from to new : PoolState) →
    source ≡ pool_index f.pool → target ≡ pool_index g.pool → length low ≡ target → source < target → target < length ps →
    new ≡ pool_written (get_or high 0 to) g.number (piece_start piece) (piece_of (get_or low source from).frames f.number piece) → ◌≡◌ {A = PoolsState} (record { pools = low ++ set high 0 new; removed = removed }) (copied_in x f g piece)
copied_up x ps removed v low high e f g piece source target from to new p q n l k r =
    ap (λ (ys : List PoolState). record { pools = ys; removed = removed }) (high_set ps low high target new e n)
    ∙ copied_at ps removed f g piece source target (get_or low source from) (get_or high 0 to) new p q (low_is ps low high source from e (omega arith)) (high_is ps low high target to e n k) r
    ∙ ap (λ (z : PoolsState). copied_in z f g piece) v

-- from the first pool above the cut to one below it
pub copied_down : (x : PoolsState) (ps : List PoolState) (removed : List Bool) → record { pools = ps; removed = removed } ≡ x → (low high : List PoolState) → ps ≡ low ++ high → (f g : Frame) (piece : Piece) (source target : ℕ) (from to new : PoolState) →
    source ≡ pool_index f.pool → target ≡ pool_index g.pool → length low ≡ source → target < source → source < length ps →
    new ≡ pool_written (get_or low target to) g.number (piece_start piece) (piece_of (get_or high 0 from).frames f.number piece) → ◌≡◌ {A = PoolsState} (record { pools = set low target new ++ high; removed = removed }) (copied_in x f g piece)
copied_down x ps removed v low high e f g piece source target from to new p q n l k r =
    ap (λ (ys : List PoolState). record { pools = ys; removed = removed }) (low_set ps low high target new e (omega arith))
    ∙ copied_at ps removed f g piece source target (get_or high 0 from) (get_or low target to) new p q (high_is ps low high source from e n k) (low_is ps low high target to e (omega arith)) r
    ∙ ap (λ (z : PoolsState). copied_in z f g piece) v
