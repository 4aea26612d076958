-- Edits keep the pages rising.
use Rattle.std.proofs.Common.{◌≡◌, ◌≢◌, ℕ, ◌+◌, ◌-◌, ◌<◌, ◌≤◌, List, ◌∷◌, ◌++◌, length, take, drop, get_or, set, refl, sym, ap, subst, ◌∙◌, arith, ◌⊎◌, inl, inr}
use Rattle.std.specs.List.{insert}
use Rattle.std.proofs.lemmas.Bool.{cases_eq, cases_lt}
use Rattle.std.proofs.lemmas.List.{length-map, length-take, length-drop, length-append, map-set, map-append, take-map, drop-map, set-get_or, get_or_append_left, get_or-append_right, get_or-take, get_or-drop}
use Rattle.std.proofs.lemmas.List.Edits.{length-insert, get_or-insert_below, get_or-insert_at, get_or-insert_above}
use Rattle.mirror_tables.specs.Blocks.{keys, IsBlock}
use Rattle.mirror_tables.specs.Places.{IsPlace}
use Rattle.mirror_tables.specs.declared.entry.MirrorEntry.{MirrorEntry}

-- the pages rise
record Rises (ks : List ℕ) : Type 0 where
  rising : (i j : ℕ) → i < j → j < length ks → get_or ks i 0 < get_or ks j 0

as_rises : (es : List (ℕ × MirrorEntry)) → IsBlock es → Rises (keys es)
as_rises es h = record { rising = λ i j l m. h.rising i j l (omega (arith, length-map es (λ e. e.0))) }

as_block : (es : List (ℕ × MirrorEntry)) → Rises (keys es) → IsBlock es
as_block es h = record { rising = λ i j l m. h.rising i j l (omega (arith, length-map es (λ e. e.0))) }

keys_set : (es : List (ℕ × MirrorEntry)) (at page : ℕ) (e : MirrorEntry) → get_or (keys es) at 0 ≡ page → keys (set es at (page, e)) ≡ keys es
keys_set es at page e p = map-set (λ (x : ℕ × MirrorEntry). x.0) es at (page, e) ∙ (ap (set (keys es) at) (sym p) ∙ set-get_or (keys es) at 0)

pub set_kept : (es : List (ℕ × MirrorEntry)) (at page : ℕ) (e : MirrorEntry) → IsBlock es → get_or (keys es) at 0 ≡ page → IsBlock (set es at (page, e))
set_kept es at page e h p = as_block _ (subst (Rises) (sym (keys_set es at page e p)) (as_rises es h))

keys_insert : (es : List (ℕ × MirrorEntry)) (at page : ℕ) (e : MirrorEntry) → keys (insert es at (page, e)) ≡ insert (keys es) at page
keys_insert es at page e = map-append (λ (x : ℕ × MirrorEntry). x.0) (take at es) ((page, e) ∷ drop at es) ∙ rw (take-map (λ (x : ℕ × MirrorEntry). x.0) at es, drop-map (λ (x : ℕ × MirrorEntry). x.0) at es) refl

rises_insert : (ks : List ℕ) (at p : ℕ) → Rises ks → at ≤ length ks → ((k : ℕ) → k < at → get_or ks k 0 < p) → ((k : ℕ) → at ≤ k → k < length ks → p < get_or ks k 0) → Rises (insert ks at p)
rises_insert ks at p h l b f = record { rising = rising }
  where
    len : length (insert ks at p) ≡ length ks + 1
    len = length-insert ks at p l

    low : (k : ℕ) → k < at → get_or (insert ks at p) k 0 ≡ get_or ks k 0
    low k m = get_or-insert_below ks at p 0 k m l

    mid : get_or (insert ks at p) at 0 ≡ p
    mid = get_or-insert_at ks at p 0 l

    high : (k : ℕ) → at < k → get_or (insert ks at p) k 0 ≡ get_or ks (k - 1) 0
    high k m = ap (λ i. get_or (insert ks at p) i 0) (back k at m) ∙ get_or-insert_above ks at p 0 (k - 1) (omega arith) l
      where
        back : (k at : ℕ) → at < k → k ≡ k - 1 + 1
        back k at m = omega arith

    rising : (i j : ℕ) → i < j → j < length (insert ks at p) → get_or (insert ks at p) i 0 < get_or (insert ks at p) j 0
    rising i j m n = by (cases_lt i at) (cases_lt j at) (cases_eq i at) (cases_eq j at)
      where
        by : (i < at) ⊎ (at ≤ i) → (j < at) ⊎ (at ≤ j) → (i ≡ at) ⊎ (i ≢ at) → (j ≡ at) ⊎ (j ≢ at) → get_or (insert ks at p) i 0 < get_or (insert ks at p) j 0
        by (inl a) (inl c) d e = rw (low i a, low j c) (h.rising i j m (omega arith))
        by (inl a) (inr c) d (inl e) = rw (low i a, e, mid) (b i a)
        by (inl a) (inr c) d (inr e) = let g = high j (omega arith) in rw (low i a, g) (omega (arith, b i a, f (j - 1) (omega arith) (omega (arith, len))))
        by (inr a) (inl c) d e = absurd (omega arith)
        by (inr a) (inr c) (inl d) (inl e) = absurd (omega arith)
        by (inr a) (inr c) (inl d) (inr e) = let g = high j (omega arith) in rw (d, mid, g) (f (j - 1) (omega arith) (omega (arith, len)))
        by (inr a) (inr c) (inr d) (inl e) = absurd (omega arith)
        by (inr a) (inr c) (inr d) (inr e) = let g = high j (omega arith) in let k = high i (omega arith) in rw (k, g) (h.rising (i - 1) (j - 1) (omega arith) (omega (arith, len)))

pub insert_kept : (es : List (ℕ × MirrorEntry)) (at page : ℕ) (e : MirrorEntry) → IsBlock es → IsPlace es page at → (at < length es → get_or (keys es) at 0 ≢ page) → IsBlock (insert es at (page, e))
insert_kept es at page e h p d = as_block _ (subst (Rises) (sym (keys_insert es at page e))
    (rises_insert (keys es) at page (as_rises es h) (omega (arith, p.within, length-map es (λ e. e.0))) p.below above))
  where
    above : (k : ℕ) → at ≤ k → k < length (keys es) → page < get_or (keys es) k 0
    above k l m = let n : k < length es = omega (arith, length-map es (λ e. e.0)) in by (cases_eq k at)
      where
        by : (k ≡ at) ⊎ (k ≢ at) → page < get_or (keys es) k 0
        by (inl q) = let x : get_or (keys es) at 0 ≢ page = d (omega (arith, length-map es (λ e. e.0))) in
            rw q (strict page (get_or (keys es) at 0) (p.from at (omega arith) (omega (arith, length-map es (λ e. e.0)))) x)
          where
            strict : (a b : ℕ) → a ≤ b → b ≢ a → a < b
            strict a b l d = omega arith
        by (inr q) = omega (arith, p.from at (omega arith) (omega (arith, length-map es (λ e. e.0))), h.rising at k (omega arith) (omega (arith, length-map es (λ e. e.0))))

keys_cut : (es : List (ℕ × MirrorEntry)) (from upto : ℕ) → keys (take from es ++ drop upto es) ≡ take from (keys es) ++ drop upto (keys es)
keys_cut es from upto = map-append (λ (x : ℕ × MirrorEntry). x.0) (take from es) (drop upto es) ∙ rw (take-map (λ (x : ℕ × MirrorEntry). x.0) from es, drop-map (λ (x : ℕ × MirrorEntry). x.0) upto es) refl

rises_cut : (ks : List ℕ) (from upto : ℕ) → Rises ks → from ≤ upto → upto ≤ length ks → Rises (take from ks ++ drop upto ks)
rises_cut ks from upto h l m = record { rising = rising }
  where
    len : length (take from ks ++ drop upto ks) + (upto - from) ≡ length ks
    len = omega (arith, length-append (take from ks) (drop upto ks), length-take from ks, length-drop upto ks)

    low : (k : ℕ) → k < from → get_or (take from ks ++ drop upto ks) k 0 ≡ get_or ks k 0
    low k a = get_or_append_left (take from ks) (drop upto ks) 0 k (omega (arith, length-take from ks)) ∙ get_or-take from ks k 0 a

    high : (k : ℕ) → from ≤ k → get_or (take from ks ++ drop upto ks) k 0 ≡ get_or ks (upto + (k - from)) 0
    high k a = get_or-append_right (take from ks) (drop upto ks) from k 0 (omega (arith, length-take from ks)) a ∙ get_or-drop upto ks (k - from) 0

    rising : (i j : ℕ) → i < j → j < length (take from ks ++ drop upto ks) → get_or (take from ks ++ drop upto ks) i 0 < get_or (take from ks ++ drop upto ks) j 0
    rising i j a b = by (cases_lt i from) (cases_lt j from)
      where
        by : (i < from) ⊎ (from ≤ i) → (j < from) ⊎ (from ≤ j) → get_or (take from ks ++ drop upto ks) i 0 < get_or (take from ks ++ drop upto ks) j 0
        by (inl c) (inl d) = rw (low i c, low j d) (h.rising i j a (omega arith))
        by (inl c) (inr d) = rw (low i c, high j d) (h.rising i (upto + (j - from)) (omega arith) (omega (arith, len)))
        by (inr c) (inl d) = absurd (omega arith)
        by (inr c) (inr d) = rw (high i c, high j d) (h.rising (upto + (i - from)) (upto + (j - from)) (omega arith) (omega (arith, len)))

pub cut_kept : (es : List (ℕ × MirrorEntry)) (from upto : ℕ) → IsBlock es → from ≤ upto → upto ≤ length es → IsBlock (take from es ++ drop upto es)
cut_kept es from upto h l m = as_block _ (subst (Rises) (sym (keys_cut es from upto)) (rises_cut (keys es) from upto (as_rises es h) l (omega (arith, length-map es (λ e. e.0)))))
