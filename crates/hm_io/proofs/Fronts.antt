-- A front that was copied into a buffer, and what is left after it.
use Rattle.std.proofs.Common.{◌≡◌, ℕ, ◌+◌, ◌-◌, ◌≤◌, List, ◌++◌, length, take, drop, sym, ap, ◌∙◌}
use Rattle.std.proofs.lemmas.List.{take-append-drop, drop-drop, take_rest, length-take-le}
use Rattle.std.proofs.Math.Seq.{take-append_seam}

-- a slice from a place on has all that is left there
pub rest_of : (bytes slice : List ℕ) (at : ℕ) → slice ≡ bytes → take (length slice - at) (drop at slice) ≡ drop at bytes
rest_of bytes slice at same = rw same (take_rest bytes at)

-- the copied front, and what comes after it, are what was left
pub front_copied : (bytes copied into : List ℕ) (at n : ℕ) → n ≤ length into → length copied ≡ length (take n into) → copied ≡ take n (drop at bytes) → drop at bytes ≡ take n (copied ++ drop n into) ++ drop (at + n) bytes
front_copied bytes copied into at n fits len same =
    let long : length copied ≡ n = len ∙ length-take-le n into fits in
    let front : take n (copied ++ drop n into) ≡ copied = ap (λ k. take k (copied ++ drop n into)) (sym long) ∙ take-append_seam copied (drop n into) in
    let rest : drop n (drop at bytes) ≡ drop (at + n) bytes = drop-drop n at bytes in
    let whole = take-append-drop n (drop at bytes) in
    cc
