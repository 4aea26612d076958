-- The bytes of frames after bytes were written or cleared as those of pages.
use Rattle.std.proofs.Common.{◌≡◌, ℕ, zero, suc, ◌+◌, ◌-◌, ◌*◌, ◌/◌, ◌%◌, ◌≤◌, ◌<◌, Bool, true, false, ◌==◌, ◌&&◌, nat_le, nat_lt, if◌then◌else◌, Some, List, length, refl, sym, ap, ◌∙◌, ◌⊎◌, inl, inr, arith}
use Rattle.std.proofs.Math.Path.{fun_ext}
use Rattle.std.proofs.lemmas.Bool.Decides.{nat_tests}
use Rattle.std.specs.Prelude.{slice_index}
use Rattle.hm_flaw_states.specs.FrameBytes.{framed}
use Rattle.hm_base.specs.Pages.{covers}
use Rattle.hm_base.proofs.Shared.{pool_numbered, number_of_pool}
use Rattle.hm_base.specs.PlaceWords.{pool_index, same_pool, with_frame}
use Rattle.hm_base.specs.declared.PoolId.{PoolId}
use Rattle.hm_base.specs.declared.Frame.{Frame}
use Rattle.hm_history.specs.Memory.Words.{with_at, bytes_from}
use Rattle.hm_history.specs.Memory.Plain.{with_bytes, with_zeros}
use Rattle.hm_history.proofs.Pages.{bytes_length}
use Rattle.hm_history.specs.Memory.Contents.{zeros, stored_in, with_piece}

-- pools by their numbers
pool_same : (p q : PoolId) → same_pool p q ≡ (pool_index p == pool_index q)
pool_same PoolId.System PoolId.System = refl
pool_same PoolId.System (PoolId.Device e) = grind (arith, nat_tests)
pool_same (PoolId.Device d) PoolId.System = grind (arith, nat_tests)
pool_same (PoolId.Device d) (PoolId.Device e) = grind (arith, nat_tests)

-- bytes that are written at two addresses are the same, if what is read lies as far from both
shifted : (x y : ℕ → ℕ) (bs : List ℕ) (s a t b : ℕ) → a + t ≡ b + s → x a ≡ y b → with_bytes x s bs a ≡ with_bytes y t bs b
shifted x y bs s a t b e h = by (nat_le s a && nat_lt a (s + length bs)) refl (nat_le t b && nat_lt b (t + length bs)) refl
  where
    by : (p : Bool) → (nat_le s a && nat_lt a (s + length bs)) ≡ p → (q : Bool) → (nat_le t b && nat_lt b (t + length bs)) ≡ q
        → (if p then slice_index bs (a - s) else x a) ≡ (if q then slice_index bs (b - t) else y b)
    by true i true j = ap (slice_index bs) (grind (arith, nat_tests))
    by true i false j = absurd (grind (arith, nat_tests))
    by false i true j = absurd (grind (arith, nat_tests))
    by false i false j = h

-- a byte that is not written
unwritten : (x : ℕ → ℕ) (bs : List ℕ) (s a : ℕ) → (a < s) ⊎ (s + length bs ≤ a) → with_bytes x s bs a ≡ x a
unwritten x bs s a (inl l) = grind (arith, nat_tests)
unwritten x bs s a (inr l) = grind (arith, nat_tests)

-- the offset of a byte in a frame that was written
in_frame : (F : ℕ → ℕ → ℕ) (bs : List ℕ) (i j n k at o : ℕ) → length bs + at % 4096 ≤ 4096 →
    (if nat_lt o 4096 then (if i == j then with_bytes (F j) (k * 4096 + at % 4096) bs (n * 4096 + o) else F i (n * 4096 + o)) else 0)
    ≡ (if (i == j) && (n == k) then with_bytes (λ x. if nat_lt o 4096 then F j (k * 4096 + o) else 0) at bs (at / 4096 * 4096 + o)
    else (if nat_lt o 4096 then F i (n * 4096 + o) else 0))
in_frame F bs i j n k at o h = by (nat_lt o 4096) refl (i == j) refl (n == k) refl
  where
    by : (p : Bool) → nat_lt o 4096 ≡ p → (q : Bool) → (i == j) ≡ q → (r : Bool) → (n == k) ≡ r →
        (if p then (if q then with_bytes (F j) (k * 4096 + at % 4096) bs (n * 4096 + o) else F i (n * 4096 + o)) else 0)
        ≡ (if q && r then with_bytes (λ x. if p then F j (k * 4096 + o) else 0) at bs (at / 4096 * 4096 + o)
        else (if p then F i (n * 4096 + o) else 0))
    by true a true b true c =
        let e : n ≡ k = grind (arith, nat_tests) in
        shifted (F j) (λ x. F j (k * 4096 + o)) bs (k * 4096 + at % 4096) (n * 4096 + o) at (at / 4096 * 4096 + o) (omega (arith, e)) (ap (λ m. F j (m * 4096 + o)) e)
    by true a true b false c =
        let e : i ≡ j = grind (arith, nat_tests) in
        unwritten (F j) bs (k * 4096 + at % 4096) (n * 4096 + o) (apart (grind (arith, nat_tests)) (grind (arith, nat_tests))) ∙ ap (λ m. F m (n * 4096 + o)) (sym e)
      where
        apart : o < 4096 → (n ≡ k → ⊥) → (n * 4096 + o < k * 4096 + at % 4096) ⊎ (k * 4096 + at % 4096 + length bs ≤ n * 4096 + o)
        apart l m = grind (arith, nat_tests)
    by true a false b r c = refl
    by false a true b true c = sym (unwritten (λ x. 0) bs at (at / 4096 * 4096 + o) (inr (grind (arith, nat_tests))))
    by false a true b false c = refl
    by false a false b r c = refl

-- a number of a row, after one row was changed
changed_row : (F : ℕ → ℕ → ℕ) (x : ℕ → ℕ) (i j a : ℕ) → with_at F j x i a ≡ (if i == j then x a else F i a)
changed_row F x i j a = by (i == j)
  where
    by : (b : Bool) → (if b then x else F i) a ≡ (if b then x a else F i a)
    by true = refl
    by false = refl

-- a frame, after one was changed
changed_frame : (C : Frame → ℕ → ℕ) (x : ℕ → ℕ) (f g : Frame) (o : ℕ) → with_frame C g x f o ≡ (if (pool_index f.pool == pool_index g.pool) && (f.number == g.number) then x o else C f o)
changed_frame C x f g o = rw (pool_same f.pool g.pool) (by ((pool_index f.pool == pool_index g.pool) && (f.number == g.number)))
  where
    by : (b : Bool) → (if b then x else C f) o ≡ (if b then x o else C f o)
    by true = refl
    by false = refl

-- bytes were written
pub written : (F G : ℕ → ℕ → ℕ) (g : Frame) (at : ℕ) (bs : List ℕ) → G ≡ with_at F (pool_index g.pool) (with_bytes (F (pool_index g.pool)) (g.number * 4096 + at % 4096) bs) → length bs + at % 4096 ≤ 4096
    → framed G ≡ stored_in (framed F) (Some g) at bs
written F G g at bs e h = fun_ext (λ f. fun_ext (λ o.
    ap (λ (X : ℕ → ℕ → ℕ). framed X f o) e
    ∙ ap (λ (n : ℕ). if nat_lt o 4096 then n else 0) (changed_row F (with_bytes (F (pool_index g.pool)) (g.number * 4096 + at % 4096) bs) (pool_index f.pool) (pool_index g.pool) (f.number * 4096 + o))
    ∙ in_frame F bs (pool_index f.pool) (pool_index g.pool) f.number g.number at o h
    ∙ sym (changed_frame (framed F) (with_piece (framed F g) at bs) f g o)))

-- a frame's page, by its number
in_page : (n k o : ℕ) → nat_lt o 4096 ≡ true → covers (record { first = k; count = 1 }) ((n * 4096 + o) / 4096) ≡ (n == k)
in_page n k o h = grind (arith, nat_tests)

cleared_at : (F : ℕ → ℕ → ℕ) (i j n k o : ℕ) →
    (if nat_lt o 4096 then (if i == j then with_zeros (F j) (record { first = k; count = 1 }) (n * 4096 + o) else F i (n * 4096 + o)) else 0)
    ≡ (if (i == j) && (n == k) then 0 else (if nat_lt o 4096 then F i (n * 4096 + o) else 0))
cleared_at F i j n k o = by (nat_lt o 4096) refl (i == j) refl (n == k) refl
  where
    zeroed : (b : Bool) → covers (record { first = k; count = 1 }) ((n * 4096 + o) / 4096) ≡ b → with_zeros (F j) (record { first = k; count = 1 }) (n * 4096 + o) ≡ (if b then 0 else F j (n * 4096 + o))
    zeroed b e = ap (λ (x : Bool). if x then 0 else F j (n * 4096 + o)) e

    by : (p : Bool) → nat_lt o 4096 ≡ p → (q : Bool) → (i == j) ≡ q → (r : Bool) → (n == k) ≡ r →
        (if p then (if q then with_zeros (F j) (record { first = k; count = 1 }) (n * 4096 + o) else F i (n * 4096 + o)) else 0)
        ≡ (if q && r then 0 else (if p then F i (n * 4096 + o) else 0))
    by true a true b true c = zeroed true (in_page n k o a ∙ c)
    by true a true b false c = let e : i ≡ j = grind (arith, nat_tests) in zeroed false (in_page n k o a ∙ c) ∙ ap (λ (m : ℕ). F m (n * 4096 + o)) (sym e)
    by true a false b r c = refl
    by false a true b true c = refl
    by false a true b false c = refl
    by false a false b r c = refl

-- a frame was cleared
pub cleared : (F G : ℕ → ℕ → ℕ) (g : Frame) → G ≡ with_at F (pool_index g.pool) (with_zeros (F (pool_index g.pool)) (record { first = g.number; count = 1 }))
    → framed G ≡ with_frame (framed F) g zeros
cleared F G g e = fun_ext (λ f. fun_ext (λ o.
    ap (λ (X : ℕ → ℕ → ℕ). framed X f o) e
    ∙ ap (λ (n : ℕ). if nat_lt o 4096 then n else 0) (changed_row F (with_zeros (F (pool_index g.pool)) (record { first = g.number; count = 1 })) (pool_index f.pool) (pool_index g.pool) (f.number * 4096 + o))
    ∙ cleared_at F (pool_index f.pool) (pool_index g.pool) f.number g.number o
    ∙ sym (changed_frame (framed F) zeros f g o)))

-- a byte of a list that was read
read_at : (f : ℕ → ℕ) (at n i : ℕ) → i < n → slice_index (bytes_from f at n) i ≡ f (at + i)
read_at f at zero i h = absurd (omega (arith, h))
read_at f at (suc n) zero h = ap f (omega arith)
read_at f at (suc n) (suc i) h = let e : at + 1 + i ≡ at + suc i = omega arith in read_at f (at + 1) n i (omega (arith, h)) ∙ ap f e

-- bytes of a page that were read from another
rewritten : (x y : ℕ → ℕ) (s n o : ℕ) → s < 4096 → s + n ≤ 4096 →
    with_piece x s (bytes_from y s n) o ≡ (if nat_le s o && nat_lt o (s + n) then y o else x o)
rewritten x y s n o h l = rw (bytes_length y s n) (by (nat_le s o && nat_lt o (s + n)) refl)
  where
    here : s / 4096 * 4096 + o ≡ o
    here = omega (arith, h)

    by : (b : Bool) → (nat_le s o && nat_lt o (s + n)) ≡ b → (if nat_le s (s / 4096 * 4096 + o) && nat_lt (s / 4096 * 4096 + o) (s + n) then slice_index (bytes_from y s n) (s / 4096 * 4096 + o - s) else x o) ≡ (if b then y o else x o)
    by true e = rw here (rw e (let m : o - s < n = grind (arith, nat_tests) in read_at y s n (o - s) m ∙ ap y (grind (arith, nat_tests))))
    by false e = rw here (rw e refl)

pub copied : (C D : Frame → ℕ → ℕ) (f g : Frame) (s n : ℕ) → D ≡ stored_in C (Some g) s (bytes_from (C f) s n) → s < 4096 → s + n ≤ 4096
    → D ≡ with_frame C g (λ o. if nat_le s o && nat_lt o (s + n) then C f o else C g o)
copied C D f g s n e h l = e ∙ ap (with_frame C g) (fun_ext (λ o. rewritten (C g) (C f) s n o h l))

-- rows that are read alike as frames
pub all_read : (F G : ℕ → ℕ → ℕ) → ((f : Frame) (o : ℕ) → framed F f o ≡ framed G f o) → (p a : ℕ) → F p a ≡ G p a
all_read F G e p a = sym (at F) ∙ (e (record { pool = pool_numbered p; number = a / 4096 }) (a % 4096) ∙ at G)
  where
    within : nat_lt (a % 4096) 4096 ≡ true
    within = grind (arith, nat_tests)

    at : (H : ℕ → ℕ → ℕ) → framed H (record { pool = pool_numbered p; number = a / 4096 }) (a % 4096) ≡ H p a
    at H = let n : a / 4096 * 4096 + a % 4096 ≡ a = omega arith in rw within (ap (λ (i : ℕ). H i (a / 4096 * 4096 + a % 4096)) (number_of_pool p) ∙ ap (H p) n)
