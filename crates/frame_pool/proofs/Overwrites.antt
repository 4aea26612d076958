-- Bytes that were written over.
use Rattle.std.proofs.Common.{◌≡◌, ℕ, ◌+◌, ◌-◌, ◌<◌, ◌≤◌, List, length, get_or, take, drop, ◌++◌, refl, ap, ◌∙◌, arith}
use Rattle.std.proofs.lemmas.Grind.{common_steps}
use Rattle.std.proofs.lemmas.List.{length-take, get_or-take, get_or-drop, get_or_append_left, get_or-append_right, length-replicate}
use Rattle.frame_pool.specs.Frames.{overwritten, zero_frame}

pub length-overwritten : (xs : List ℕ) (at : ℕ) (ys : List ℕ) → at + length ys ≤ length xs → length (overwritten xs at ys) ≡ length xs
length-overwritten xs at ys l = grind (arith, common_steps)

-- what is read of bytes that were written over: below the write, in it, and past it
pub get_overwritten_below : (xs : List ℕ) (at : ℕ) (ys : List ℕ) (k : ℕ) → at ≤ length xs → k < at → get_or (overwritten xs at ys) k 0 ≡ get_or xs k 0
get_overwritten_below xs at ys k l m =
    get_or_append_left (take at xs) (ys ++ drop (at + length ys) xs) 0 k (omega (arith, length-take at xs)) ∙ get_or-take at xs k 0 m

pub get_overwritten_in : (xs : List ℕ) (at : ℕ) (ys : List ℕ) (k : ℕ) → at ≤ length xs → at ≤ k → k < at + length ys → get_or (overwritten xs at ys) k 0 ≡ get_or ys (k - at) 0
get_overwritten_in xs at ys k l m n =
    get_or-append_right (take at xs) (ys ++ drop (at + length ys) xs) at k 0 (omega (arith, length-take at xs)) m
    ∙ get_or_append_left ys (drop (at + length ys) xs) 0 (k - at) (omega arith)

pub get_overwritten_past : (xs : List ℕ) (at : ℕ) (ys : List ℕ) (k : ℕ) → at ≤ length xs → at + length ys ≤ k → get_or (overwritten xs at ys) k 0 ≡ get_or xs k 0
get_overwritten_past xs at ys k l m =
    get_or-append_right (take at xs) (ys ++ drop (at + length ys) xs) at k 0 (omega (arith, length-take at xs)) (omega arith)
    ∙ (get_or-append_right ys (drop (at + length ys) xs) (length ys) (k - at) 0 refl (omega arith)
    ∙ (get_or-drop (at + length ys) xs (k - at - length ys) 0 ∙ ap (λ i. get_or xs i 0) (back at (length ys) k m)))
  where
    back : (at n k : ℕ) → at + n ≤ k → at + n + (k - at - n) ≡ k
    back at n k m = omega arith

-- a frame of zeros
pub zero_frame_length : length zero_frame ≡ 4096
unfolding zero_frame
zero_frame_length = length-replicate {A = ℕ} 4096 0
