-- One pool goes on showing its frames.
use Rattle.std.proofs.Common.{◌≡◌, ◌≢◌, ℕ, zero, suc, ◌+◌, ◌*◌, ◌^◌, ◌<◌, ◌≤◌, Bool, true, false, Option, Some, None, is_some, List, length, get_or, set, replicate, refl, sym, ap, ◌∙◌, arith, ◌⊎◌, inl, inr}
use Rattle.std.proofs.lemmas.Bool.{cases_eq, cases_lt}
use Rattle.std.proofs.lemmas.Bool.Decides.{nat_tests}
use Rattle.std.proofs.lemmas.List.{get_or-set_same, get_or-set_other, get_or_past, length-set, length-replicate}
use Rattle.hm_base.specs.declared.Frame.{Frame}
use Rattle.hm_history.specs.Memory.Words.{with_at}
use Rattle.hm_history.specs.Memory.Plain.{with_bytes}
use Rattle.hm_history.specs.Memory.Contents.{zeros}
use Rattle.frame_pool.specs.Frames.{Frames, IsFrames, fresh, is_held, locker, lowest_free, overwritten, zero_frame}
use Rattle.frame_pool.specs.Frames as pool
use Rattle.frame_pool.proofs.Overwrites.{length-overwritten, zero_frame_length}
use Rattle.frame_pool.proofs.Free.{fits_fresh, fits_taken, fits_dropped}
use Rattle.hm_frames.specs.Pools.{PoolState, fresh_pool, pool_taken, pool_dropped, pool_locked, pool_unlocked, pool_written, pool_committed, withdrawn_in}
use Rattle.hm_frames.specs.Shown.{PoolShown}
use Rattle.hm_frames.proofs.Bytes.{in_frame, zeroed}

-- a write of a list is a write of the function that it shows
at_set : {X : Type 0} (g : ℕ → X) (xs : List X) (a : ℕ) (x d : X) → a < length xs → ((n : ℕ) → get_or xs n d ≡ g n) → (n : ℕ) → get_or (set xs a x) n d ≡ with_at g a x n
at_set g xs a x d l h n = by (cases_eq n a)
  where
    here : with_at g a x a ≡ x
    here = grind (arith, nat_tests)

    other : n ≢ a → with_at g a x n ≡ g n
    other e = grind (arith, nat_tests)

    by : (n ≡ a) ⊎ (n ≢ a) → get_or (set xs a x) n d ≡ with_at g a x n
    by (inl e) = rw e (get_or-set_same xs a x d l ∙ sym here)
    by (inr e) = get_or-set_other xs a n x d e ∙ h n ∙ sym (other e)

-- a frame that is held, or that somebody has locked, is one of the pool
pub held_below : (f : Frames) (n : ℕ) → is_held f n ≡ true → n < length f.held
held_below f n h = by (cases_lt n (length f.held))
  where
    by : (n < length f.held) ⊎ (length f.held ≤ n) → n < length f.held
    by (inl l) = l
    by (inr l) = cc (get_or_past f.held n false l)

pub locked_below : (f : Frames) (n : ℕ) → IsFrames f → is_some (locker f n) ≡ true → n < length f.held
locked_below f n s h = by (cases_lt n (length f.locks))
  where
    by : (n < length f.locks) ⊎ (length f.locks ≤ n) → n < length f.held
    by (inl l) = omega (arith, s.locks_len)
    by (inr l) = cc (ap (λ (k : Option ℕ). is_some k) (get_or_past f.locks n None l))

-- where the functions agree
pub shown_as : {h i : ℕ → Bool} {m k : ℕ → Option Frame} {l j : ℕ → Option ℕ} {c d : ℕ → ℕ → ℕ} {y : PoolState} → PoolShown h m l c y →
    ((n : ℕ) → h n ≡ i n) → ((n : ℕ) → m n ≡ k n) → ((n : ℕ) → l n ≡ j n) → ((n o : ℕ) → c n o ≡ d n o) → PoolShown i k j d y
shown_as s p q r t = record {
  fits = s.fits;
  held = λ n. s.held n ∙ p n;
  committed_to = λ n. s.committed_to n ∙ q n;
  locked = λ n. s.locked n ∙ r n;
  byte = λ n o l. s.byte n o l ∙ t n o;
}

pub fresh_shown : (n : ℕ) → n < 2 ^ 32 → PoolShown (λ k. false) (λ k. None) (λ k. None) (λ k. zeros) (fresh_pool n)
fresh_shown n l = record {
  fits = record { frames = fits_fresh n l; moved_len = length-replicate {A = Option Frame} n None ∙ sym (length-replicate n false) };
  held = nothing n false;
  committed_to = nothing n None;
  locked = nothing n None;
  byte = λ k o m. nothing (n * 4096) 0 (k * 4096 + o);
}
  where
    nothing : {X : Type 0} (n : ℕ) (x : X) (k : ℕ) → get_or (replicate n x) k x ≡ x
    nothing zero x k = refl
    nothing (suc n) x zero = refl
    nothing (suc n) x (suc k) = nothing n x k

-- the frame is one of the pool
room : (f : Frames) (n : ℕ) → IsFrames f → n < length f.held → n * 4096 + 4096 ≤ length f.bytes
room f n s l = omega (arith, s.bytes_len)

pub taken_shown : {h : ℕ → Bool} {m : ℕ → Option Frame} {l : ℕ → Option ℕ} {c : ℕ → ℕ → ℕ} (y : PoolState) (n a : ℕ) → PoolShown h m l c y → n < length y.frames.held →
    PoolShown (with_at h n true) (with_at m n None) (with_at l n (Some a)) (with_at c n zeros) (pool_taken y n a)
taken_shown {h} {m} {l} {c} y n a s below = record {
  fits = record {
    frames = record { bytes_len = t.bytes_len; locks_len = length-set y.frames.locks n (Some a) ∙ t.locks_len; few = t.few };
    moved_len = length-set y.committed_to n None ∙ s.fits.moved_len ∙ sym (length-set y.frames.held n true);
  };
  held = at_set h y.frames.held n true false below s.held;
  committed_to = at_set m y.committed_to n None None (omega (arith, s.fits.moved_len)) s.committed_to;
  locked = at_set l y.frames.locks n (Some a) None (omega (arith, s.fits.frames.locks_len)) s.locked;
  byte = λ b o k. ap (λ i. get_or (overwritten y.frames.bytes i zero_frame) (b * 4096 + o) 0) at ∙
      in_frame y.frames.bytes zero_frame n 0 c zeros b o (room y.frames n s.fits.frames below) (omega (arith, zero_frame_length)) k s.byte (zeroed (c n));
}
  where
    t : IsFrames (pool.taken y.frames n)
    t = fits_taken y.frames n s.fits.frames below

    at : n * 4096 ≡ n * 4096 + 0
    at = omega arith

pub dropped_shown : {h : ℕ → Bool} {m : ℕ → Option Frame} {l : ℕ → Option ℕ} {c : ℕ → ℕ → ℕ} (y : PoolState) (n : ℕ) → PoolShown h m l c y → n < length y.frames.held →
    PoolShown (with_at h n false) m (with_at l n None) c (pool_dropped y n)
dropped_shown {h} {m} {l} {c} y n s below = record {
  fits = record { frames = fits_dropped y.frames n s.fits.frames; moved_len = s.fits.moved_len ∙ sym (length-set y.frames.held n false) };
  held = at_set h y.frames.held n false false below s.held;
  committed_to = s.committed_to;
  locked = at_set l y.frames.locks n None None (omega (arith, s.fits.frames.locks_len)) s.locked;
  byte = s.byte;
}

-- who has a frame locked
relocked : {h : ℕ → Bool} {m : ℕ → Option Frame} {l : ℕ → Option ℕ} {c : ℕ → ℕ → ℕ} (y : PoolState) (n : ℕ) (k : Option ℕ) → PoolShown h m l c y → n < length y.frames.held →
    PoolShown h m (with_at l n k) c (record y { frames = record y.frames { locks = set y.frames.locks n k } })
relocked {h} {m} {l} {c} y n k s below = record {
  fits = record {
    frames = record { bytes_len = s.fits.frames.bytes_len; locks_len = length-set y.frames.locks n k ∙ s.fits.frames.locks_len; few = s.fits.frames.few };
    moved_len = s.fits.moved_len;
  };
  held = s.held;
  committed_to = s.committed_to;
  locked = at_set l y.frames.locks n k None (omega (arith, s.fits.frames.locks_len)) s.locked;
  byte = s.byte;
}

pub locked_shown : {h : ℕ → Bool} {m : ℕ → Option Frame} {l : ℕ → Option ℕ} {c : ℕ → ℕ → ℕ} (y : PoolState) (n a : ℕ) → PoolShown h m l c y → n < length y.frames.held →
    PoolShown h m (with_at l n (Some a)) c (pool_locked y n a)
locked_shown y n a s below = relocked y n (Some a) s below

pub unlocked_shown : {h : ℕ → Bool} {m : ℕ → Option Frame} {l : ℕ → Option ℕ} {c : ℕ → ℕ → ℕ} (y : PoolState) (n : ℕ) → PoolShown h m l c y → n < length y.frames.held →
    PoolShown h m (with_at l n None) c (pool_unlocked y n)
unlocked_shown y n s below = relocked y n None s below

pub written_shown : {h : ℕ → Bool} {m : ℕ → Option Frame} {l : ℕ → Option ℕ} {c : ℕ → ℕ → ℕ} (y : PoolState) (n at : ℕ) (ys : List ℕ) (f : ℕ → ℕ) → PoolShown h m l c y → n < length y.frames.held →
    at + length ys ≤ 4096 → ((o : ℕ) → o < 4096 → f o ≡ with_bytes (c n) at ys o) → PoolShown h m l (with_at c n f) (pool_written y n at ys)
written_shown {h} {m} {l} {c} y n at ys f s below lies w = record {
  fits = record {
    frames = record { bytes_len = length-overwritten y.frames.bytes (n * 4096 + at) ys (omega (arith, space)) ∙ s.fits.frames.bytes_len; locks_len = s.fits.frames.locks_len; few = s.fits.frames.few };
    moved_len = s.fits.moved_len;
  };
  held = s.held;
  committed_to = s.committed_to;
  locked = s.locked;
  byte = λ b o k. in_frame y.frames.bytes ys n at c f b o space lies k s.byte w;
}
  where
    space : n * 4096 + 4096 ≤ length y.frames.bytes
    space = room y.frames n s.fits.frames below

pub committed_shown : {h : ℕ → Bool} {m : ℕ → Option Frame} {l : ℕ → Option ℕ} {c : ℕ → ℕ → ℕ} (y : PoolState) (n : ℕ) (g : Frame) → PoolShown h m l c y → n < length y.frames.held →
    PoolShown h (with_at m n (Some g)) l c (pool_committed y n g)
committed_shown {h} {m} {l} {c} y n g s below = record {
  fits = record { frames = s.fits.frames; moved_len = length-set y.committed_to n (Some g) ∙ s.fits.moved_len };
  held = s.held;
  committed_to = at_set m y.committed_to n (Some g) None (omega (arith, s.fits.moved_len)) s.committed_to;
  locked = s.locked;
  byte = s.byte;
}

pub withdrawn_shown : {h : ℕ → Bool} {m : ℕ → Option Frame} {l : ℕ → Option ℕ} {c : ℕ → ℕ → ℕ} (y : PoolState) → PoolShown h m l c y → PoolShown h m l c (withdrawn_in y)
withdrawn_shown y s = record {
  fits = record { frames = record { bytes_len = s.fits.frames.bytes_len; locks_len = s.fits.frames.locks_len; few = s.fits.frames.few }; moved_len = s.fits.moved_len };
  held = s.held;
  committed_to = s.committed_to;
  locked = s.locked;
  byte = s.byte;
}
