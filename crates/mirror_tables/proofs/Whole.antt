-- The entries of all blocks are a table's: their pages rise, and lie in the window.
use Rattle.std.proofs.Common.{◌≡◌, ℕ, zero, suc, ◌+◌, ◌-◌, ◌/◌, ◌<◌, ◌≤◌, Bool, true, false, ◌&&◌, eqb, leb, List, [], ◌∷◌, ◌++◌, length, get_or, refl, sym, subst, arith, ◌⊎◌, inl, inr}
use Rattle.std.proofs.lemmas.Bool.{cases_lt}
use Rattle.std.proofs.lemmas.Bool.Decides.{nat_tests}
use Rattle.std.proofs.lemmas.List.{length-map, length-append, map-append, get_or_append_left, get_or-append_right}
use Rattle.hm_base.specs.Pages.{Pages, covers}
use Rattle.mirror_tables.specs.Blocks.{Block, keys}
use Rattle.mirror_tables.specs.Entries.{IsTable, block_of}
use Rattle.mirror_tables.specs.Directory.{all_entries, in_block, AllKeys, IsBlockOf, block_at, IsDirectory}
use Rattle.mirror_tables.specs.declared.entry.MirrorEntry.{MirrorEntry}
use Rattle.mirror_tables.proofs.Joined.{From, from_points, number_of, covered}

-- a page of the window in the block of this number or a later one
abbrev from_block : Pages → ℕ → ℕ → Bool
from_block w n v = covers w v && leb n (block_of w v)

append_keys : (t : ℕ → Bool) (xs ys : List (ℕ × MirrorEntry)) → AllKeys t xs → AllKeys t ys → AllKeys t (xs ++ ys)
append_keys t [] ys h g = g
append_keys t (x ∷ xs) ys h g = (h.0, append_keys t xs ys h.1 g)

weaker : (t u : ℕ → Bool) (es : List (ℕ × MirrorEntry)) → ((v : ℕ) → t v ≡ true → u v ≡ true) → AllKeys t es → AllKeys u es
weaker t u [] f h = tt
weaker t u (x ∷ es) f h = (f x.0 h.0, weaker t u es f h.1)

key_passes : (t : ℕ → Bool) (es : List (ℕ × MirrorEntry)) (i : ℕ) → AllKeys t es → i < length es → t (get_or (keys es) i 0) ≡ true
key_passes t [] i h l = absurd (omega arith)
key_passes t (x ∷ es) zero h l = h.0
key_passes t (x ∷ es) (suc i) h l = key_passes t es i h.1 (omega arith)

here_from : (a : Bool) (x n : ℕ) → (a && eqb x n) ≡ true → (a && leb n x) ≡ true
here_from true x n e = grind (arith, nat_tests)
here_from false x n e = e

later_from : (a : Bool) (x n : ℕ) → (a && leb (suc n) x) ≡ true → (a && leb n x) ≡ true
later_from true x n e = grind (arith, nat_tests)
later_from false x n e = e

later_than : (a : Bool) (x n : ℕ) → (a && leb n x) ≡ true → n ≤ x
later_than true x n e = grind (arith, nat_tests)
later_than false x n e = absurd (let b : ⊥ = cc in b)

keys_from : (w : Pages) (n : ℕ) (bs : List Block) → From w n bs → AllKeys (from_block w n) (all_entries bs)
keys_from w n [] h = tt
keys_from w n (b ∷ bs) h = append_keys (from_block w n) b.entries (all_entries bs)
    (weaker (in_block w n) (from_block w n) b.entries (λ v. here_from (covers w v) (block_of w v) n) h.0.here)
    (weaker (from_block w (suc n)) (from_block w n) (all_entries bs) (λ v. later_from (covers w v) (block_of w v) n) (keys_from w (suc n) bs h.1))

-- numbers that rise
record Rises (ks : List ℕ) : Type 0 where
  rising : (i j : ℕ) → i < j → j < length ks → get_or ks i 0 < get_or ks j 0

rises_append : (ks js : List ℕ) → Rises ks → Rises js → ((i j : ℕ) → i < length ks → j < length js → get_or ks i 0 < get_or js j 0) → Rises (ks ++ js)
rises_append ks js h g m = record { rising = λ i j l n. by i j l n (cases_lt i (length ks)) (cases_lt j (length ks)) }
  where
    low : (i : ℕ) → i < length ks → get_or (ks ++ js) i 0 ≡ get_or ks i 0
    low i l = get_or_append_left ks js 0 i l

    high : (i : ℕ) → length ks ≤ i → get_or (ks ++ js) i 0 ≡ get_or js (i - length ks) 0
    high i l = get_or-append_right ks js (length ks) i 0 refl l

    by : (i j : ℕ) → i < j → j < length (ks ++ js) → (i < length ks) ⊎ (length ks ≤ i) → (j < length ks) ⊎ (length ks ≤ j) → get_or (ks ++ js) i 0 < get_or (ks ++ js) j 0
    by i j l n (inl a) (inl b) = rw (low i a, low j b) (h.rising i j l b)
    by i j l n (inl a) (inr b) = rw (low i a, high j b) (m i (j - length ks) a (omega (arith, length-append ks js)))
    by i j l n (inr a) (inl b) = absurd (omega arith)
    by i j l n (inr a) (inr b) = rw (high i a, high j b) (g.rising (i - length ks) (j - length ks) (omega arith) (omega (arith, length-append ks js)))

apart : (f x y n : ℕ) → (x - f) / 256 ≡ n → suc n ≤ (y - f) / 256 → x < y
apart f x y n e l = omega arith

rises_from : (w : Pages) (n : ℕ) (bs : List Block) → From w n bs → Rises (keys (all_entries bs))
rises_from w n [] h = record { rising = λ i j l m. absurd (omega arith) }
rises_from w n (b ∷ bs) h = subst Rises (sym (map-append (λ (x : ℕ × MirrorEntry). x.0) b.entries (all_entries bs)))
    (rises_append (keys b.entries) (keys (all_entries bs))
    (record { rising = λ i j l m. h.0.rising.rising i j l (omega (arith, length-map b.entries (λ e. e.0))) })
    (rises_from w (suc n) bs h.1)
    (λ i j l m. apart w.first (get_or (keys b.entries) i 0) (get_or (keys (all_entries bs)) j 0) n (here i l) (later j m)))
  where
    here : (i : ℕ) → i < length (keys b.entries) → block_of w (get_or (keys b.entries) i 0) ≡ n
    here i l = let v = get_or (keys b.entries) i 0 in number_of (covers w v) (block_of w v) n (key_passes (in_block w n) b.entries i h.0.here (omega (arith, length-map b.entries (λ e. e.0))))

    later : (j : ℕ) → j < length (keys (all_entries bs)) → suc n ≤ block_of w (get_or (keys (all_entries bs)) j 0)
    later j l = let v = get_or (keys (all_entries bs)) j 0 in
        later_than (covers w v) (block_of w v) (suc n) (key_passes (from_block w (suc n)) (all_entries bs) j (keys_from w (suc n) bs h.1) (omega (arith, length-map (all_entries bs) (λ e. e.0))))

pub is_table : (w : Pages) (bs : List Block) → IsDirectory w bs → IsTable w (all_entries bs)
is_table w bs h = record {
  rising = λ i j l m. r.rising i j l (omega (arith, length-map (all_entries bs) (λ e. e.0)));
  inside = λ i l. let v = get_or (keys (all_entries bs)) i 0 in covered (covers w v) (leb 0 (block_of w v)) (key_passes (from_block w 0) (all_entries bs) i (keys_from w 0 bs f) l);
}
  where
    f : From w 0 bs
    f = from_points w 0 bs (λ k l. subst (λ i. IsBlockOf w i (block_at bs k).entries) (same k) (h k l))
      where
        same : (k : ℕ) → k ≡ 0 + k
        same k = omega arith

    r : Rises (keys (all_entries bs))
    r = rises_from w 0 bs f
