-- What is read of the pools is what the definitions give.
use Rattle.std.proofs.Common.{◌≡◌, ℕ, zero, suc, ◌+◌, ◌-◌, ◌*◌, ◌<◌, ◌≤◌, Bool, true, false, not, cond, Option, Some, None, unwrap_or, List, ◌∷◌, length, get_or, replicate, refl, sym, ap, ◌∙◌, arith, ◌⊎◌, inl, inr}
use Rattle.std.specs.List.{position}
use Rattle.std.proofs.lemmas.Bool.{cases_lt}
use Rattle.std.proofs.lemmas.List.{get_or_past}
use Rattle.hm_base.specs.declared.PoolId.{PoolId}
use Rattle.hm_base.specs.declared.PoolId.TheVariants.{System, Device}
use Rattle.hm_base.specs.declared.Frame.{Frame}
use Rattle.hm_base.specs.declared.Place.{Place}
use Rattle.hm_base.specs.declared.Place.TheVariants.{Moving}
use Rattle.hm_base.specs.Program.{Program}
use Rattle.hm_history.specs.Memory.Words.{least, bytes_from}
use Rattle.hm_history.specs.Memory.Places.{frame_of, pool_size, is_withdrawn, lowest_free, held_from, stands_for}
use Rattle.hm_history.specs.Memory.Contents.{backing, contents_of, shown_by, zeros}
use Rattle.hm_history.specs.Memory.After.{After}
use Rattle.frame_pool.specs.Frames.{Frames, part_of}
use Rattle.frame_pool.specs.Frames as pool
use Rattle.frame_pool.proofs.Free.{lowest_is}
use Rattle.hm_frames.specs.Pools.{PoolState, PoolsState, fresh_pool, pool_at, is_held_in, locker_in, committed_to_in, lowest_free_in, frame_in, held_from_in, bytes_in, shown_by_in, shown_in, stands_for_in, backing_in}
use Rattle.hm_frames.specs.Shown.{PoolsShown, FramesShown}
use Rattle.hm_frames.proofs.Searches.{next_least, free_least}
use Rattle.hm_frames.proofs.Bytes.{get_part, bytes_are}
use Rattle.hm_frames.proofs.PoolKept.{held_below}
use Rattle.frame_pool.proofs.Blank.{part_length}

pub held_shown : {c : Program} {h : Frame → Bool} {m : Frame → Option Frame} {w g : ℕ → Bool} {l : Frame → Option ℕ} {b : Frame → ℕ → ℕ} (x : PoolsState) (f : Frame) → PoolsShown c h m w g l b x → is_held_in x f ≡ h f
held_shown x f s = (s.pool f.pool).held f.number

pub lock_shown : {c : Program} {h : Frame → Bool} {m : Frame → Option Frame} {w g : ℕ → Bool} {l : Frame → Option ℕ} {b : Frame → ℕ → ℕ} (x : PoolsState) (f : Frame) → PoolsShown c h m w g l b x → locker_in x f ≡ l f
lock_shown x f s = (s.pool f.pool).locked f.number

pub is_held_shown : (c : Program) (s : After) (x : PoolsState) (f : Frame) → FramesShown c s x → is_held_in x f ≡ s.places.held f
is_held_shown c s x f h = held_shown x f h

pub committed_to_shown : (c : Program) (s : After) (x : PoolsState) (f : Frame) → FramesShown c s x → committed_to_in x f ≡ s.places.committed_to f
committed_to_shown c s x f h = (h.pool f.pool).committed_to f.number

pub held_from_shown : (c : Program) (s : After) (x : PoolsState) (d from : ℕ) → FramesShown c s x → held_from_in x d from ≡ held_from c s.places d from
held_from_shown c s x d from h =
    next_least (λ n. s.places.held (frame_of (Device d) n)) (pool_at x (Device d)).frames.held from (h.pool (Device d)).held
    ∙ ap (λ (k : ℕ). least (λ n. s.places.held (frame_of (Device d) n)) from (k - from)) (h.size (Device d))

-- the frame of a pool by what its search finds, unless it gives out none
abbrev chosen : PoolId → Bool → Option ℕ → Option Frame
chosen q w o = elim w [ true ↦ None | false ↦ elim o [ None ↦ None | Some n ↦ Some (frame_of q n) ] ]

chosen_is : (q : PoolId) (w : Bool) (o : Option ℕ) → frame_in q (cond w None o) ≡ chosen q w o
chosen_is q true o = refl
chosen_is q false None = refl
chosen_is q false (Some n) = refl

-- the lowest free frame, where the pool gives out frames as the state tells
lowest_open : (c : Program) (s : After) (x : PoolsState) (q : PoolId) → FramesShown c s x → (pool_at x q).frames.withdrawn ≡ is_withdrawn s.places q → lowest_free_in x q ≡ lowest_free c s.places q
lowest_open c s x q h e = ap (λ (w : Bool). frame_in q (cond w None (position not y.held))) e ∙ ap (λ (o : Option ℕ). frame_in q (cond (is_withdrawn s.places q) None o)) free ∙ chosen_is q (is_withdrawn s.places q) (least free_at 0 (pool_size c q))
  where
    y : Frames
    y = (pool_at x q).frames

    free_at : ℕ → Bool
    free_at n = not (s.places.held (frame_of q n))

    free : position not y.held ≡ least free_at 0 (pool_size c q)
    free = free_least (λ n. s.places.held (frame_of q n)) y.held (h.pool q).held ∙ ap (least free_at 0) (h.size q)

pub lowest_free_shown : (c : Program) (s : After) (x : PoolsState) (q : PoolId) → FramesShown c s x → lowest_free_in x q ≡ lowest_free c s.places q
lowest_free_shown c s x System h = lowest_open c s x System h h.system
lowest_free_shown c s x (Device d) h = by (cases_lt d 4)
  where
    free_at : ℕ → Bool
    free_at n = not (s.places.held (frame_of (Device d) n))

    none : (w : Bool) → chosen (Device d) w None ≡ None
    none true = refl
    none false = refl

    past : pool_at x (Device d) ≡ fresh_pool 0 → lowest_free_in x (Device d) ≡ lowest_free c s.places (Device d)
    past e = ap (λ (y : PoolState). frame_in (Device d) (pool.lowest_free y.frames)) e ∙ sym (none (s.places.withdrawn d))
        ∙ ap (λ (k : ℕ). chosen (Device d) (s.places.withdrawn d) (least free_at 0 k)) (sym (ap (λ (y : PoolState). length y.frames.held) e) ∙ h.size (Device d))

    by : (d < 4) ⊎ (4 ≤ d) → lowest_free_in x (Device d) ≡ lowest_free c s.places (Device d)
    by (inl l) = lowest_open c s x (Device d) h (h.withdrawn d l)
    by (inr l) = past (get_or_past x.pools (d + 1) (fresh_pool 0) (omega (arith, h.count)))

-- the frame that may be taken is one of its pool
pub lowest_number : (c : Program) (s : After) (x : PoolsState) (f : Frame) → FramesShown c s x → lowest_free c s.places f.pool ≡ Some f → f.number < length (pool_at x f.pool).frames.held
lowest_number c s x f h e = by (pool.lowest_free (pool_at x f.pool).frames) refl (lowest_free_shown c s x f.pool h ∙ e)
  where
    by : (o : Option ℕ) → pool.lowest_free (pool_at x f.pool).frames ≡ o → frame_in f.pool o ≡ Some f → f.number < length (pool_at x f.pool).frames.held
    by None p r = cc
    by (Some n) p r = let l : n < length (pool_at x f.pool).frames.held = (lowest_is (pool_at x f.pool).frames n p).0 in omega (arith, l, ap (λ (z : Option Frame). number z) r)
      where
        number : Option Frame → ℕ
        number None = 0
        number (Some g) = g.number

pub stands_for_shown : (c : Program) (s : After) (x : PoolsState) (place : Place) → FramesShown c s x → stands_for_in x place ≡ stands_for s.places place
stands_for_shown c s x (Moving f w) h = ap (λ (o : Option Frame). Some (Some (unwrap_or o f))) (committed_to_shown c s x f h)
stands_for_shown c s x place h = refl

pub backing_shown : (c : Program) (s : After) (x : PoolsState) (place : Place) → FramesShown c s x → backing_in x place ≡ backing s.places place
backing_shown c s x place h = ap (λ (o : Option (Option Frame)). unwrap_or o None) (stands_for_shown c s x place h)

-- the bytes of a frame
pub read_shown : (c : Program) (s : After) (x : PoolsState) (f : Frame) (offset n : ℕ) → FramesShown c s x → is_held_in x f ≡ true → offset + n ≤ 4096 → bytes_in x f offset n ≡ bytes_from (s.contents f) offset n
read_shown c s x f offset n h held lies = bytes_are (s.contents f) (part_of y.bytes base n) offset each ∙ ap (bytes_from (s.contents f) offset) len
  where
    y : Frames
    y = (pool_at x f.pool).frames

    base : ℕ
    base = f.number * 4096 + offset

    inside : f.number * 4096 + 4096 ≤ length y.bytes
    inside = omega (arith, held_below y f.number held, (h.pool f.pool).fits.frames.bytes_len)

    len : length (part_of y.bytes base n) ≡ n
    len = part_length y.bytes base n (omega (arith, inside))

    each : (k : ℕ) → k < length (part_of y.bytes base n) → get_or (part_of y.bytes base n) k 0 ≡ s.contents f (offset + k)
    each k l = let below : k < n = omega (arith, len) in let e : base + k ≡ f.number * 4096 + (offset + k) = omega arith in
        get_part y.bytes base n k below ∙ ap (λ (i : ℕ). get_or y.bytes i 0) e ∙ (h.pool f.pool).byte f.number (offset + k) (omega arith)

zero_bytes : (n from : ℕ) → replicate n 0 ≡ bytes_from zeros from n
zero_bytes zero from = refl
zero_bytes (suc n) from = ap (λ (xs : List ℕ). 0 ∷ xs) (zero_bytes n (from + 1))

-- what a page shows
pub show_shown : (c : Program) (s : After) (x : PoolsState) (place : Place) (offset n : ℕ) → FramesShown c s x → ((f : Frame) → backing_in x place ≡ Some f → is_held_in x f ≡ true) → offset + n ≤ 4096 →
    shown_in x place offset n ≡ bytes_from (contents_of s.places s.contents place) offset n
show_shown c s x place offset n h held lies = by (backing_in x place) held ∙ ap (λ (o : Option Frame). bytes_from (shown_by s.contents o) offset n) (backing_shown c s x place h)
  where
    by : (o : Option Frame) → ((f : Frame) → o ≡ Some f → is_held_in x f ≡ true) → shown_by_in x o offset n ≡ bytes_from (shown_by s.contents o) offset n
    by None k = zero_bytes n offset
    by (Some f) k = read_shown c s x f offset n h (k f refl) lies
