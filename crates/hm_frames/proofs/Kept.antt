-- The pools go on showing the frames of the state, for every kind of entry.
use Rattle.std.proofs.Common.{◌≡◌, ◌≢◌, ℕ, zero, suc, ◌+◌, ◌*◌, ◌%◌, ◌<◌, ◌≤◌, ◌^◌, Bool, true, false, ◌&&◌, ◌==◌, cond, nat_le, Option, Some, None, is_some, is_none, List, [], ◌∷◌, length, get_or, set, refl, sym, ap, ◌∙◌, subst, arith, ◌⊎◌, inl, inr}
use Rattle.std.specs.List.{list_all}
use Rattle.std.proofs.lemmas.Bool.{cases_eq, cases_lt}
use Rattle.std.proofs.lemmas.Bool.Decides.{nat_tests}
use Rattle.std.proofs.lemmas.List.{get_or-set_same, get_or-set_other, get_or_past, length-set, set_past, length-replicate}
use Rattle.hm_base.specs.declared.PoolId.{PoolId}
use Rattle.hm_base.specs.declared.PoolId.TheVariants.{System, Device}
use Rattle.hm_base.specs.declared.Frame.{Frame}
use Rattle.hm_base.specs.declared.Place.{Place}
use Rattle.hm_base.specs.declared.Place.TheVariants.{Sys, Moving}
use Rattle.hm_base.specs.Program.{Program, IsScript}
use Rattle.hm_history.specs.Memory.Words.{with_at, with_frame, sys_frame, names}
use Rattle.hm_history.specs.Memory.Plain.{with_bytes}
use Rattle.hm_history.specs.Memory.Places.{Places, pool_size, lowest_named, places_next}
use Rattle.hm_history.specs.Memory.Locks.{Locks, frame_placed, with_lock, is_locker, orphan, left_behind}
use Rattle.hm_history.specs.Memory.Contents as contents
use Rattle.hm_history.specs.Memory.Contents.{with_part_copied, with_piece, zeros, backing}
use Rattle.hm_history.specs.Memory.After.{After, after_entry, after_nothing}
use Rattle.hm_history.specs.declared.Kind.{Kind}
use Rattle.frame_pool.specs.Frames.{Frames, part_of, IsPiece}
use Rattle.hm_frames.specs.Pools.{PoolState, PoolsState, fresh_pools, fresh_pool, pool_at, with_pool, pool_taken, pool_dropped, pool_locked, pool_unlocked, pool_written, pool_committed, pool_settled, pool_frozen, withdrawn_in, backing_in, placed_in, locked_in, stored_in, piece_of_part, copied_in, frames_next}
use Rattle.hm_frames.specs.Shown.{PoolShown, PoolsShown, FramesShown, FramesFit, StepFits, entry_place}
use Rattle.hm_frames.proofs.Bytes.{stored, get_part, copied_whole, copied_part}
use Rattle.hm_frames.proofs.PoolKept.{shown_as, held_below, locked_below, fresh_shown, taken_shown, dropped_shown, locked_shown, unlocked_shown, written_shown, committed_shown, withdrawn_shown}
use Rattle.hm_frames.proofs.Updates.{at_pool, at_other, pool_below, same_pools, replaced, closed}
use Rattle.hm_frames.proofs.Shows.{held_shown, lock_shown, lowest_number, lowest_free_shown, backing_shown}
use Rattle.frame_pool.proofs.Blank.{part_length}

-- a held frame is one of its pool
number_below : {c : Program} {h : Frame → Bool} {m : Frame → Option Frame} {w g : ℕ → Bool} {l : Frame → Option ℕ} {b : Frame → ℕ → ℕ} (x : PoolsState) (f : Frame) → PoolsShown c h m w g l b x → h f ≡ true → f.number < length (pool_at x f.pool).frames.held
number_below x f s e = held_below (pool_at x f.pool).frames f.number (held_shown x f s ∙ e)

-- so is one that somebody has locked
locked_number : {c : Program} {h : Frame → Bool} {m : Frame → Option Frame} {w g : ℕ → Bool} {l : Frame → Option ℕ} {b : Frame → ℕ → ℕ} (x : PoolsState) (f : Frame) → PoolsShown c h m w g l b x → is_some (l f) ≡ true → f.number < length (pool_at x f.pool).frames.held
locked_number x f s e = locked_below (pool_at x f.pool).frames f.number (s.pool f.pool).fits.frames (ap (λ (k : Option ℕ). is_some k) (lock_shown x f s) ∙ e)

taken : {c : Program} {h : Frame → Bool} {m : Frame → Option Frame} {w g : ℕ → Bool} {l : Frame → Option ℕ} {b : Frame → ℕ → ℕ} (x : PoolsState) (f : Frame) (a : ℕ) → PoolsShown c h m w g l b x → f.number < length (pool_at x f.pool).frames.held →
    PoolsShown c (with_frame h f true) (with_frame m f None) w g (with_frame l f (Some a)) (with_frame b f zeros) (with_pool x f.pool (pool_taken (pool_at x f.pool) f.number a))
taken {c} {h} {m} {w} {g} {l} {b} x f a s lt =
    replaced x f.pool (pool_taken (pool_at x f.pool) f.number a) s (pool_below x f.pool f.number lt) (length-set (pool_at x f.pool).frames.held f.number true) refl
    (shown_as (taken_shown (pool_at x f.pool) f.number a (s.pool f.pool) lt) (at_pool h f true) (at_pool m f None) (at_pool l f (Some a)) (λ n o. ap (λ (r : ℕ → ℕ). r o) (at_pool b f zeros n)))
    (at_other h f true) (at_other m f None) (at_other l f (Some a)) (at_other b f zeros)

dropped : {c : Program} {h : Frame → Bool} {m : Frame → Option Frame} {w g : ℕ → Bool} {l : Frame → Option ℕ} {b : Frame → ℕ → ℕ} (x : PoolsState) (f : Frame) → PoolsShown c h m w g l b x → h f ≡ true →
    PoolsShown c (with_frame h f false) m w g (with_frame l f None) b (with_pool x f.pool (pool_dropped (pool_at x f.pool) f.number))
dropped {c} {h} {m} {w} {g} {l} {b} x f s e =
    let lt : f.number < length (pool_at x f.pool).frames.held = number_below x f s e in
    replaced x f.pool (pool_dropped (pool_at x f.pool) f.number) s (pool_below x f.pool f.number lt) (length-set (pool_at x f.pool).frames.held f.number false) refl
    (shown_as (dropped_shown (pool_at x f.pool) f.number (s.pool f.pool) lt) (at_pool h f false) (λ n. refl) (at_pool l f None) (λ n o. refl))
    (at_other h f false) (λ r n t. refl) (at_other l f None) (λ r n t. refl)

unlocked : {c : Program} {h : Frame → Bool} {m : Frame → Option Frame} {w g : ℕ → Bool} {l : Frame → Option ℕ} {b : Frame → ℕ → ℕ} (x : PoolsState) (f : Frame) → PoolsShown c h m w g l b x → is_some (l f) ≡ true →
    PoolsShown c h m w g (with_frame l f None) b (with_pool x f.pool (pool_unlocked (pool_at x f.pool) f.number))
unlocked {c} {h} {m} {w} {g} {l} {b} x f s e =
    let lt : f.number < length (pool_at x f.pool).frames.held = locked_number x f s e in
    replaced x f.pool (pool_unlocked (pool_at x f.pool) f.number) s (pool_below x f.pool f.number lt) refl refl
    (shown_as (unlocked_shown (pool_at x f.pool) f.number (s.pool f.pool) lt) (λ n. refl) (λ n. refl) (at_pool l f None) (λ n o. refl))
    (λ r n t. refl) (λ r n t. refl) (at_other l f None) (λ r n t. refl)

locked : {c : Program} {h : Frame → Bool} {m : Frame → Option Frame} {w g : ℕ → Bool} {l : Frame → Option ℕ} {b : Frame → ℕ → ℕ} (x : PoolsState) (f : Frame) (a : ℕ) → PoolsShown c h m w g l b x → h f ≡ true →
    PoolsShown c h m w g (with_frame l f (Some a)) b (with_pool x f.pool (pool_locked (pool_at x f.pool) f.number a))
locked {c} {h} {m} {w} {g} {l} {b} x f a s e =
    let lt : f.number < length (pool_at x f.pool).frames.held = number_below x f s e in
    replaced x f.pool (pool_locked (pool_at x f.pool) f.number a) s (pool_below x f.pool f.number lt) refl refl
    (shown_as (locked_shown (pool_at x f.pool) f.number a (s.pool f.pool) lt) (λ n. refl) (λ n. refl) (at_pool l f (Some a)) (λ n o. refl))
    (λ r n t. refl) (λ r n t. refl) (at_other l f (Some a)) (λ r n t. refl)

wrote : {c : Program} {h : Frame → Bool} {m : Frame → Option Frame} {w g : ℕ → Bool} {l : Frame → Option ℕ} {b : Frame → ℕ → ℕ} (x : PoolsState) (f : Frame) (at : ℕ) (ys : List ℕ) (new : ℕ → ℕ) → PoolsShown c h m w g l b x → h f ≡ true →
    at + length ys ≤ 4096 → ((o : ℕ) → o < 4096 → new o ≡ with_bytes (b f) at ys o) → PoolsShown c h m w g l (with_frame b f new) (with_pool x f.pool (pool_written (pool_at x f.pool) f.number at ys))
wrote {c} {h} {m} {w} {g} {l} {b} x f at ys new s e lies is =
    let lt : f.number < length (pool_at x f.pool).frames.held = number_below x f s e in
    replaced x f.pool (pool_written (pool_at x f.pool) f.number at ys) s (pool_below x f.pool f.number lt) refl refl
    (shown_as (written_shown (pool_at x f.pool) f.number at ys new (s.pool f.pool) lt lies is) (λ n. refl) (λ n. refl) (λ n. refl) (λ n o. ap (λ (r : ℕ → ℕ). r o) (at_pool b f new n)))
    (λ r n t. refl) (λ r n t. refl) (λ r n t. refl) (at_other b f new)

committed : {c : Program} {h : Frame → Bool} {m : Frame → Option Frame} {w g : ℕ → Bool} {l : Frame → Option ℕ} {b : Frame → ℕ → ℕ} (x : PoolsState) (f to : Frame) → PoolsShown c h m w g l b x → h f ≡ true →
    PoolsShown c h (with_frame m f (Some to)) w g l b (with_pool x f.pool (pool_committed (pool_at x f.pool) f.number to))
committed {c} {h} {m} {w} {g} {l} {b} x f to s e =
    let lt : f.number < length (pool_at x f.pool).frames.held = number_below x f s e in
    replaced x f.pool (pool_committed (pool_at x f.pool) f.number to) s (pool_below x f.pool f.number lt) refl refl
    (shown_as (committed_shown (pool_at x f.pool) f.number to (s.pool f.pool) lt) (λ n. refl) (at_pool m f (Some to)) (λ n. refl) (λ n o. refl))
    (λ r n t. refl) (at_other m f (Some to)) (λ r n t. refl) (λ r n t. refl)

-- the pools as they are
unchanged : {c : Program} {h : Frame → Bool} {m : Frame → Option Frame} {w g : ℕ → Bool} {l : Frame → Option ℕ} {b : Frame → ℕ → ℕ} (x : PoolsState) (q : PoolId) → PoolsShown c h m w g l b x → PoolsShown c h m w g l b (with_pool x q (pool_at x q))
unchanged {c} {h} {m} {w} {g} {l} {b} x q s = subst (PoolsShown c h m w g l b) (sym (same_pools x q)) s

-- a frame that its locker places is unlocked
settled : {c : Program} {h : Frame → Bool} {m : Frame → Option Frame} {w g : ℕ → Bool} {l : Frame → Option ℕ} {b : Frame → ℕ → ℕ} (x : PoolsState) (n a : ℕ) → PoolsShown c h m w g l b x →
    PoolsShown c h m w g (cond (is_locker (l (sys_frame n)) a) (with_frame l (sys_frame n) None) l) b (with_pool x System (pool_settled (pool_at x System) n a))
settled {c} {h} {m} {w} {g} {l} {b} x n a s =
    subst (λ (k : Option ℕ). PoolsShown c h m w g (cond (is_locker (l (sys_frame n)) a) (with_frame l (sys_frame n) None) l) b (with_pool x System (cond (is_locker k a) (pool_unlocked (pool_at x System) n) (pool_at x System)))) (sym (lock_shown x (sys_frame n) s)) (by (l (sys_frame n)) refl)
  where
    by : (k : Option ℕ) → l (sys_frame n) ≡ k → PoolsShown c h m w g (cond (is_locker k a) (with_frame l (sys_frame n) None) l) b (with_pool x System (cond (is_locker k a) (pool_unlocked (pool_at x System) n) (pool_at x System)))
    by None e = unchanged x System s
    by (Some d) e = at (a == d)
      where
        at : (t : Bool) → PoolsShown c h m w g (cond t (with_frame l (sys_frame n) None) l) b (with_pool x System (cond t (pool_unlocked (pool_at x System) n) (pool_at x System)))
        at true = unlocked x (sys_frame n) s (ap (λ (k : Option ℕ). is_some k) e)
        at false = unchanged x System s

-- a frame that nobody has locked is the actor's
frozen : {c : Program} {h : Frame → Bool} {m : Frame → Option Frame} {w g : ℕ → Bool} {l : Frame → Option ℕ} {b : Frame → ℕ → ℕ} (x : PoolsState) (f : Frame) (a : ℕ) → PoolsShown c h m w g l b x → h f ≡ true →
    PoolsShown c h m w g (cond (is_none (l f)) (with_frame l f (Some a)) l) b (with_pool x f.pool (pool_frozen (pool_at x f.pool) f.number a))
frozen {c} {h} {m} {w} {g} {l} {b} x f a s e =
    subst (λ (k : Option ℕ). PoolsShown c h m w g (cond (is_none (l f)) (with_frame l f (Some a)) l) b (with_pool x f.pool (cond (is_none k) (pool_locked (pool_at x f.pool) f.number a) (pool_at x f.pool)))) (sym (lock_shown x f s)) (by (is_none (l f)))
  where
    by : (t : Bool) → PoolsShown c h m w g (cond t (with_frame l f (Some a)) l) b (with_pool x f.pool (cond t (pool_locked (pool_at x f.pool) f.number a) (pool_at x f.pool)))
    by true = locked x f a s e
    by false = unchanged x f.pool s

placed : {c : Program} {h : Frame → Bool} {m : Frame → Option Frame} {w g : ℕ → Bool} {b : Frame → ℕ → ℕ} (x : PoolsState) (s : Locks) (old : Place) (a : ℕ) (y : Place) → PoolsShown c h m w g s.frame b x → ((f : Frame) → names y ≡ Some f → h f ≡ true) →
    PoolsShown c h m w g (frame_placed s old a y) b (placed_in x old a y)
placed x s (Moving f z) a (Sys n w) r e = r
placed x s old a (Sys n w) r e = settled x n a r
placed x s old a (Moving f w) r e = frozen x f a r (e f refl)
placed x s old a y r e = r

left : {c : Program} {h : Frame → Bool} {m : Frame → Option Frame} {w g : ℕ → Bool} {l : Frame → Option ℕ} {b : Frame → ℕ → ℕ} (x : PoolsState) (o : Option Frame) (a : ℕ) → PoolsShown c h m w g l b x → ((f : Frame) → o ≡ Some f → h f ≡ true) →
    PoolsShown c h m w g (with_lock l o (Some a)) b (locked_in x o a)
left x None a s e = s
left x (Some f) a s e = locked x f a s (e f refl)

-- an orphan was named
pub orphan_named : (s : Locks) (t : Places) (o : Option Frame) (f : Frame) → left_behind s t o ≡ Some f → o ≡ Some f
orphan_named s t None f e = cc
orphan_named s t (Some k) f e = by (is_none (s.frame k) && is_none (lowest_named t k)) e
  where
    by : (b : Bool) → cond b (Some k) None ≡ Some f → Some k ≡ Some f
    by true h = h
    by false h = cc

stores : {c : Program} {h : Frame → Bool} {m : Frame → Option Frame} {w g : ℕ → Bool} {l : Frame → Option ℕ} {b : Frame → ℕ → ℕ} (x : PoolsState) (o : Option Frame) (at : ℕ) (bs : List ℕ) → PoolsShown c h m w g l b x → ((f : Frame) → o ≡ Some f → h f ≡ true) → at % 4096 + length bs ≤ 4096 →
    PoolsShown c h m w g l (contents.stored_in b o at bs) (stored_in x o at bs)
stores x None at bs s e lies = s
stores {b} x (Some f) at bs s e lies = wrote x f (at % 4096) bs (with_piece (b f) at bs) s (e f refl) lies (λ o k. stored (b f) at bs o)

-- a piece of one frame is copied over that of another
copies : {c : Program} {h : Frame → Bool} {m : Frame → Option Frame} {w g : ℕ → Bool} {l : Frame → Option ℕ} {b : Frame → ℕ → ℕ} (x : PoolsState) (f to : Frame) (part : Option ℕ) → PoolsShown c h m w g l b x → h f ≡ true → h to ≡ true → IsPiece (piece_of_part part) →
    PoolsShown c h m w g l (with_frame b to (with_part_copied (b f) (b to) part)) (copied_in x f to (piece_of_part part))
copies {c} {h} {m} {w} {g} {l} {b} x f to part s ef et is = by part is
  where
    y : Frames
    y = (pool_at x f.pool).frames

    bytes : (start n k : ℕ) → k < n → start + n ≤ 4096 → get_or (part_of y.bytes (f.number * 4096 + start) n) k 0 ≡ b f (start + k)
    bytes start n k lt lies = let e : f.number * 4096 + start + k ≡ f.number * 4096 + (start + k) = omega arith in
        get_part y.bytes (f.number * 4096 + start) n k lt ∙ ap (λ (i : ℕ). get_or y.bytes i 0) e ∙ (s.pool f.pool).byte f.number (start + k) (omega arith)

    inside : f.number * 4096 + 4096 ≤ length y.bytes
    inside = omega (arith, number_below x f s ef, (s.pool f.pool).fits.frames.bytes_len)

    len : (start n : ℕ) → start + n ≤ 4096 → length (part_of y.bytes (f.number * 4096 + start) n) ≡ n
    len start n lies = part_length y.bytes (f.number * 4096 + start) n (omega (arith, inside))

    by : (part : Option ℕ) → IsPiece (piece_of_part part) → PoolsShown c h m w g l (with_frame b to (with_part_copied (b f) (b to) part)) (copied_in x f to (piece_of_part part))
    by None is = wrote x to 0 (part_of y.bytes (f.number * 4096 + 0) 4096) (with_part_copied (b f) (b to) None) s et (omega (arith, len 0 4096 (omega arith)))
        (λ o lt. copied_whole (b f) (b to) (part_of y.bytes (f.number * 4096 + 0) 4096) o (len 0 4096 (omega arith)) lt (λ k l. bytes 0 4096 k l (omega arith) ∙ (let e : 0 + k ≡ k = omega arith in ap (b f) e)))
    by (Some p) is = let lies : p * 512 + 512 ≤ 4096 = omega (arith, is) in
        wrote x to (p * 512) (part_of y.bytes (f.number * 4096 + p * 512) 512) (with_part_copied (b f) (b to) (Some p)) s et (omega (arith, lies, len (p * 512) 512 lies))
        (λ o lt. copied_part (b f) (b to) (part_of y.bytes (f.number * 4096 + p * 512) 512) p o (len (p * 512) 512 lies) (λ k l. bytes (p * 512) 512 k l lies))

-- no frame of the device is given out any more
withdrawn : {c : Program} {h : Frame → Bool} {m : Frame → Option Frame} {w g : ℕ → Bool} {l : Frame → Option ℕ} {b : Frame → ℕ → ℕ} (x : PoolsState) (d : ℕ) → PoolsShown c h m w g l b x →
    PoolsShown c h m (with_at w d true) g l b (with_pool x (Device d) (withdrawn_in (pool_at x (Device d))))
withdrawn {c} {h} {m} {w} {g} {l} {b} x d s = by (cases_lt d 4)
  where
    y : PoolState
    y = withdrawn_in (pool_at x (Device d))

    as_it_is : 4 ≤ d → with_pool x (Device d) y ≡ x
    as_it_is k = ap (λ (ys : List PoolState). record x { pools = ys }) (set_past x.pools (d + 1) y (omega (arith, s.count)))

    others : 4 ≤ d → PoolsShown c h m (with_at w d true) g l b x
    others k = record {
      count = s.count;
      removed_len = s.removed_len;
      size = s.size;
      pool = s.pool;
      system = s.system;
      withdrawn = λ e lt. s.withdrawn e lt ∙ grind (arith, nat_tests);
      removed = s.removed;
    }

    by : (d < 4) ⊎ (4 ≤ d) → PoolsShown c h m (with_at w d true) g l b (with_pool x (Device d) y)
    by (inl lt) = closed x d y s lt refl refl (withdrawn_shown (pool_at x (Device d)) (s.pool (Device d)))
    by (inr k) = subst (PoolsShown c h m (with_at w d true) g l b) (sym (as_it_is k)) (others k)

-- the device is removed
removed : {c : Program} {h : Frame → Bool} {m : Frame → Option Frame} {w g : ℕ → Bool} {l : Frame → Option ℕ} {b : Frame → ℕ → ℕ} (x : PoolsState) (d : ℕ) → PoolsShown c h m w g l b x →
    PoolsShown c h m w (with_at g d true) l b (record x { removed = set x.removed d true })
removed {c} {h} {m} {w} {g} {l} {b} x d s = record {
  count = s.count;
  removed_len = length-set x.removed d true ∙ s.removed_len;
  size = s.size;
  pool = s.pool;
  system = s.system;
  withdrawn = s.withdrawn;
  removed = λ e lt. by e lt (cases_eq e d);
}
  where
    here : with_at g d true d ≡ true
    here = grind (arith, nat_tests)

    other : (e : ℕ) → e ≢ d → with_at g d true e ≡ g e
    other e ne = grind (arith, nat_tests)

    by : (e : ℕ) → e < 4 → (e ≡ d) ⊎ (e ≢ d) → get_or (set x.removed d true) e false ≡ with_at g d true e
    by e lt (inl p) = rw p (get_or-set_same x.removed d true false (omega (arith, s.removed_len)) ∙ sym here)
    by e lt (inr p) = get_or-set_other x.removed d e true false p ∙ s.removed e lt ∙ sym (other e p)

as_backing : (c : Program) (s : After) (x : PoolsState) (old : Place) (at : ℕ) (bs : List ℕ) → FramesShown c s x → ((f : Frame) → backing s.places old ≡ Some f → s.places.held f ≡ true) → at % 4096 + length bs ≤ 4096 →
    PoolsShown c s.places.held s.places.committed_to s.places.withdrawn s.places.removed s.locks.frame (contents.stored_in s.contents (backing s.places old) at bs) (stored_in x (backing_in x old) at bs)
as_backing c s x old at bs h e lies =
    subst (λ (o : Option Frame). PoolsShown c s.places.held s.places.committed_to s.places.withdrawn s.places.removed s.locks.frame (contents.stored_in s.contents (backing s.places old) at bs) (stored_in x o at bs))
    (sym (backing_shown c s x old h)) (stores x (backing s.places old) at bs h e lies)

-- the pools after an entry, where the place before it and the orphan are those of the definitions
kept_at : (c : Program) (s : After) (a : ℕ) (k : Kind) (x : PoolsState) → FramesShown c s x → FramesFit c s k →
    FramesShown c (after_entry s (record { actor = a; kind = k })) (frames_next a k (entry_place s.plain s.places k) (orphan s.locks s.places k) x)
kept_at c s a (Kind.Take f) x h e = taken x f a h (lowest_number c s x f h e)
kept_at c s a (Kind.Drop f) x h e = dropped x f h e
kept_at c s a (Kind.Done f) x h e = unlocked x f h e
kept_at c s a (Kind.Place p v y) x h e =
    left (placed_in x (s.places.place p v) a y) (orphan s.locks s.places (Kind.Place p v y)) a (placed x s.locks (s.places.place p v) a y h e.0)
    (λ f r. e.1 f (orphan_named s.locks (places_next s.places (Kind.Place p v y)) (names (s.places.place p v)) f r))
kept_at c s a (Kind.Stored who at bs) x h e = as_backing c s x (entry_place s.plain s.places (Kind.Stored who at bs)) at bs h e.0 e.1
kept_at c s a (Kind.Added m at was now) x h e = as_backing c s x (entry_place s.plain s.places (Kind.Added m at was now)) at (now ∷ []) h e (omega arith)
kept_at c s a (Kind.Copied f g part) x h e = copies x f g part h e.source e.target e.piece
kept_at c s a (Kind.Committed f g) x h e = committed x f g h e
kept_at c s a (Kind.Withdrawn d) x h e = withdrawn x d h
kept_at c s a (Kind.Removed d) x h e = removed x d h
kept_at c s a k x h e = h

pub frames_kept : (c : Program) (s : After) (a : ℕ) (k : Kind) (old : Place) (left : Option Frame) (x : PoolsState) → old ≡ entry_place s.plain s.places k → left ≡ orphan s.locks s.places k →
    FramesShown c s x → FramesFit c s k → FramesShown c (after_entry s (record { actor = a; kind = k })) (frames_next a k old left x)
frames_kept c s a k old left x e f h fits = rw (e, f) (kept_at c s a k x h fits)

-- what a step asks of the pools
fits_at : (c : Program) (s : After) (k : Kind) (x : PoolsState) → FramesShown c s x → FramesFit c s k → StepFits k (entry_place s.plain s.places k) (orphan s.locks s.places k) x
fits_at c s (Kind.Take f) x h e = lowest_free_shown c s x f.pool h ∙ e
fits_at c s (Kind.Drop f) x h e = held_shown x f h ∙ e
fits_at c s (Kind.Done f) x h e = ap (λ (o : Option ℕ). is_some o) (lock_shown x f h) ∙ e
fits_at c s (Kind.Place p v y) x h e =
    (λ f r. held_shown x f h ∙ e.0 f r, λ f r. held_shown x f h ∙ e.1 f (orphan_named s.locks (places_next s.places (Kind.Place p v y)) (names (s.places.place p v)) f r))
fits_at c s (Kind.Stored who at bs) x h e = (λ f r. held_shown x f h ∙ e.0 f (sym (backing_shown c s x (entry_place s.plain s.places (Kind.Stored who at bs)) h) ∙ r), e.1)
fits_at c s (Kind.Added m at was now) x h e = λ f r. held_shown x f h ∙ e f (sym (backing_shown c s x (entry_place s.plain s.places (Kind.Added m at was now)) h) ∙ r)
fits_at c s (Kind.Copied f g part) x h e = record { source = held_shown x f h ∙ e.source; target = held_shown x g h ∙ e.target; differ = e.differ; piece = e.piece }
fits_at c s (Kind.Committed f g) x h e = held_shown x f h ∙ e
fits_at c s k x h e = tt

pub step_fits : (c : Program) (s : After) (k : Kind) (old : Place) (left : Option Frame) (x : PoolsState) → old ≡ entry_place s.plain s.places k → left ≡ orphan s.locks s.places k →
    FramesShown c s x → FramesFit c s k → StepFits k old left x
step_fits c s k old left x e f h fits = rw (e, f) (fits_at c s k x h fits)

-- the pools of a script before its first entry

few_frames : (ds : List ℕ) (d : ℕ) → list_all (λ n. nat_le n 8192) ds ≡ true → get_or ds d 0 ≤ 8192
few_frames [] d h = omega arith
few_frames (n ∷ ds) zero h = grind (arith, nat_tests)
few_frames (n ∷ ds) (suc d) h = few_frames ds d (by (nat_le n 8192) h)
  where
    by : (b : Bool) → (b && list_all (λ n. nat_le n 8192) ds) ≡ true → list_all (λ n. nat_le n 8192) ds ≡ true
    by true e = e
    by false e = cc

-- each pool of the five
start_pool : (c : Program) → IsScript c → (q : PoolId) → (k : ℕ) × (pool_at (fresh_pools c) q ≡ fresh_pool k) × (k ≡ pool_size c q) × (k < 2 ^ 32)
start_pool c s System = (c.frames, refl, refl, omega (arith, s.frames))
start_pool c s (Device d) = (get_or c.devices d 0, at d, refl, omega (arith, few_frames c.devices d s.devices))
  where
    at : (d : ℕ) → pool_at (fresh_pools c) (Device d) ≡ fresh_pool (get_or c.devices d 0)
    at zero = refl
    at (suc zero) = refl
    at (suc (suc zero)) = refl
    at (suc (suc (suc zero))) = refl
    at (suc (suc (suc (suc d)))) = get_or_past (fresh_pools c).pools (suc (suc (suc (suc d))) + 1) (fresh_pool 0) (omega arith)
        ∙ ap fresh_pool (sym (get_or_past c.devices (suc (suc (suc (suc d)))) 0 (omega (arith, s.few_devices))))

none_removed : (d : ℕ) → get_or (false ∷ false ∷ false ∷ false ∷ []) d false ≡ false
none_removed zero = refl
none_removed (suc zero) = refl
none_removed (suc (suc zero)) = refl
none_removed (suc (suc (suc zero))) = refl
none_removed (suc (suc (suc (suc d)))) = refl

pub frames_start : (c : Program) → IsScript c → FramesShown c after_nothing (fresh_pools c)
frames_start c s = record {
  count = refl;
  removed_len = refl;
  size = λ q. let p = start_pool c s q in ap (λ (y : PoolState). length y.frames.held) p.1 ∙ length-replicate p.0 false ∙ p.2;
  pool = λ q. let p = start_pool c s q in subst (PoolShown (λ n. false) (λ n. None) (λ n. None) (λ n. zeros)) (sym p.1) (fresh_shown p.0 p.3);
  system = refl;
  withdrawn = λ d l. let p = start_pool c s (Device d) in ap (λ (y : PoolState). y.frames.withdrawn) p.1;
  removed = λ d l. none_removed d;
}
