-- Walks over levels of tables, and what an entry that is set does to them.
use Rattle.std.proofs.Common.{◌≡◌, ◌≢◌, ℕ, zero, suc, ◌+◌, ◌-◌, ◌*◌, ◌/◌, ◌%◌, ◌<◌, ◌≤◌, eqb, cond, not, max, true, false, List, [], ◌∷◌, ◌++◌, length, get_or, set, replicate, refl, sym, ap, subst, ◌∙◌, arith, ◌⊎◌, inl, inr}
use Rattle.std.proofs.lemmas.Bool.{cases_eq, cases_lt}
use Rattle.std.proofs.lemmas.Bool.Decides.{nat_tests}
use Rattle.std.proofs.lemmas.List.{get_or-set_same, get_or-set_other, length-set, get_or_append_left, get_or-append_right, get_or_past}
use Rattle.std.proofs.lemmas.List.Sums.{sum_by-append, sum_by-set}
use Rattle.radix_tables.specs.Walks.{named_in, table_in, entry_in, IsWhole, IsTables, AreTables, HasTable, IsLonger, IsChild}

-- what is read of entries after zeros were added
pub zeros_added : (xs : List ℕ) (k i : ℕ) → get_or (xs ++ replicate k 0) i 0 ≡ get_or xs i 0
zeros_added xs k i = by (cases_lt i (length xs))
  where
    zero_at : (n j : ℕ) → let zs : List ℕ = replicate n 0 in get_or zs j 0 ≡ 0
    zero_at zero j = refl
    zero_at (suc n) zero = refl
    zero_at (suc n) (suc j) = zero_at n j

    by : (i < length xs) ⊎ (length xs ≤ i) → get_or (xs ++ replicate k 0) i 0 ≡ get_or xs i 0
    by (inl l) = get_or_append_left xs (replicate k 0) 0 i l
    by (inr l) = get_or-append_right xs (replicate k 0) (length xs) i 0 refl l ∙ (zero_at k (i - length xs) ∙ sym (get_or_past xs i 0 l))

pub longer : {xs ys : List ℕ} → IsLonger xs ys → (i : ℕ) → get_or ys i 0 ≡ get_or xs i 0
longer {xs} h i = ap (λ (zs : List ℕ). get_or zs i 0) h.added ∙ zeros_added xs h.by i

whole_longer : {xs ys : List ℕ} → IsWhole xs → IsLonger xs ys → length ys % 64 ≡ 0 → (0 < length ys → 128 ≤ length ys) → IsWhole ys
whole_longer w h e f = record { whole = e; first = f; empty = λ i l. longer h i ∙ w.empty i l }

-- 1 if the entry names a table
abbrev one_if_named : ℕ → ℕ
one_if_named e = cond (not (eqb e 0)) 1 0

named_longer : {xs ys : List ℕ} → IsLonger xs ys → named_in xs ≤ named_in ys
named_longer {xs} {ys} h =
    let e : named_in (xs ++ replicate h.by 0) ≡ named_in xs + named_in (replicate h.by 0) = sum_by-append one_if_named xs (replicate h.by 0) in
    subst (λ (zs : List ℕ). named_in xs ≤ named_in zs) (sym h.added) (omega (arith, e))

named_set : (xs : List ℕ) (at t : ℕ) → at < length xs → get_or xs at 0 ≡ 0 → 2 ≤ t → named_in (set xs at t) ≡ named_in xs + 1
named_set xs at t l e d =
    let s : named_in (set xs at t) + one_if_named (get_or xs at 0) ≡ named_in xs + one_if_named t = sum_by-set one_if_named xs at t 0 l in
    let none : one_if_named (get_or xs at 0) ≡ 0 = ap one_if_named e in
    let one : one_if_named t ≡ 1 = ap (λ b. cond (not b) 1 0) (some t d) in
    omega (arith, s, none, one)
  where
    some : (t : ℕ) → 2 ≤ t → eqb t 0 ≡ false
    some t d = grind (arith, nat_tests)

tables_longer : {xs ys : List ℕ} {n : ℕ} → IsTables xs n → IsLonger xs ys → IsWhole ys → IsTables ys n
tables_longer {xs} {ys} {n} t h w = record {
  tables = w;
  inside = λ i d. subst (λ k. k * 64 + 64 ≤ n) (sym (longer h i)) (t.inside i (λ z. d (longer h i ∙ z)));
  past = λ i z. t.past i (sym (longer h i) ∙ z);
  apart = λ i j p d. t.apart i j (sym (longer h i) ∙ p ∙ longer h j) (λ z. d (longer h i ∙ z));
  few = omega (arith, t.few, named_longer h);
}

tables_room : {xs : List ℕ} {n : ℕ} (m : ℕ) → IsTables xs n → n ≤ m → m ≤ max n 128 → IsTables xs m
tables_room {xs} {n} m t l f = record { tables = t.tables; inside = λ i d. omega (arith, t.inside i d); past = t.past; apart = t.apart; few = omega (arith, t.few, f) }

-- a level has more room, so the ones above it stay as they are
pub above_room : (a : List (List ℕ)) (n m : ℕ) → AreTables n a → n ≤ m → m ≤ max n 128 → AreTables m a
above_room [] n m h l f = omega (arith, h, f)
above_room (xs ∷ a) n m h l f = (tables_room m h.0 l f, h.1)

-- an entry is set to a table past the others
tables_set : (xs : List ℕ) (n m at t : ℕ) → IsTables xs n → 64 ≤ at → at < length xs → n ≤ t * 64 → 2 ≤ t → t * 64 + 64 ≤ m → get_or xs at 0 ≡ 0 → m ≤ n + 192 → IsTables (set xs at t) m
tables_set xs n m at t h a l u d v none more = record {
  tables = record {
    whole = ap (λ k. k % 64) (length-set xs at t) ∙ h.tables.whole;
    first = λ p. omega (arith, length-set xs at t, h.tables.first (omega (arith, length-set xs at t, p)));
    empty = λ i b. get_or-set_other xs at i t 0 (apart_from i b) ∙ h.tables.empty i b;
  };
  inside = inside;
  past = past;
  apart = apart;
  few = omega (arith, h.few, named_set xs at t l none d, more);
}
  where
    apart_from : (i : ℕ) → i < 64 → i ≢ at
    apart_from i b e = absurd (omega arith)

    inside : (i : ℕ) → get_or (set xs at t) i 0 ≢ 0 → get_or (set xs at t) i 0 * 64 + 64 ≤ m
    inside i e = by (cases_eq i at)
      where
        by : (i ≡ at) ⊎ (i ≢ at) → get_or (set xs at t) i 0 * 64 + 64 ≤ m
        by (inl p) = rw (p, get_or-set_same xs at t 0 l) v
        by (inr p) = let o = get_or-set_other xs at i t 0 p in rw o (omega (arith, h.inside i (λ z. e (o ∙ z))))

    past : (i : ℕ) → get_or (set xs at t) i 0 ≢ 1
    past i e = by (cases_eq i at)
      where
        by : (i ≡ at) ⊎ (i ≢ at) → ⊥
        by (inl p) = let s : t ≡ 1 = sym (ap (λ k. get_or (set xs at t) k 0) p ∙ get_or-set_same xs at t 0 l) ∙ e in absurd (omega arith)
        by (inr p) = h.past i (sym (get_or-set_other xs at i t 0 p) ∙ e)

    two : t ≢ 0
    two w = absurd (omega arith)

    apart : (i j : ℕ) → get_or (set xs at t) i 0 ≡ get_or (set xs at t) j 0 → get_or (set xs at t) i 0 ≢ 0 → i ≡ j
    apart i j e z = by (cases_eq i at) (cases_eq j at)
      where
        by : (i ≡ at) ⊎ (i ≢ at) → (j ≡ at) ⊎ (j ≢ at) → i ≡ j
        by (inl p) (inl q) = p ∙ sym q
        by (inr p) (inr q) = let o = get_or-set_other xs at i t 0 p in let r = get_or-set_other xs at j t 0 q in h.apart i j (sym o ∙ e ∙ r) (λ w. z (o ∙ w))
        by (inl p) (inr q) =
            let o : get_or (set xs at t) i 0 ≡ t = ap (λ k. get_or (set xs at t) k 0) p ∙ get_or-set_same xs at t 0 l in
            let r = get_or-set_other xs at j t 0 q in
            let s : get_or xs j 0 ≡ t = sym r ∙ (sym e ∙ o) in
            absurd (omega (arith, h.inside j (λ w. two (sym s ∙ w))))
        by (inr p) (inl q) =
            let o : get_or (set xs at t) j 0 ≡ t = ap (λ k. get_or (set xs at t) k 0) q ∙ get_or-set_same xs at t 0 l in
            let r = get_or-set_other xs at i t 0 p in
            let s : get_or xs i 0 ≡ t = sym r ∙ (e ∙ o) in
            absurd (omega (arith, h.inside i (λ w. two (sym s ∙ w))))

-- levels that name the same table for each number
abbrev pub Same : List (List ℕ) → List (List ℕ) → Type 0
Same a b = (n : ℕ) → table_in a n ≡ table_in b n

-- levels that have the same entry for each number
abbrev pub SameEntry : List ℕ → List (List ℕ) → List ℕ → List (List ℕ) → Type 0
SameEntry ys b xs a = (n : ℕ) → entry_in ys b n ≡ entry_in xs a n

pub same_with : (xs ys : List ℕ) (a b : List (List ℕ)) → ((i : ℕ) → get_or ys i 0 ≡ get_or xs i 0) → Same b a → SameEntry ys b xs a
same_with xs ys a b h s n = ap (λ k. get_or ys (k * 64 + n % 64) 0) (s (n / 64)) ∙ h (table_in a (n / 64) * 64 + n % 64)

pub same_up : (xs ys : List ℕ) (a b : List (List ℕ)) → SameEntry ys b xs a → Same (ys ∷ b) (xs ∷ a)
same_up xs ys a b h n = ap (λ k. cond (eqb n 0) 1 k) (h n)

-- the same entries below the same tables
pub same_below : (xs : List ℕ) (a b : List (List ℕ)) → Same b a → Same (xs ∷ b) (xs ∷ a)
same_below xs a b s = same_up xs xs a b (same_with xs xs a b (λ i. refl) s)

is_zero : (n : ℕ) → n ≡ 0 → eqb n 0 ≡ true
is_zero n e = grind (arith, nat_tests)

not_zero : (n : ℕ) → n ≢ 0 → eqb n 0 ≡ false
not_zero n d = grind (arith, nat_tests)

-- the table of number 0, and that of another
pub table_first : (a : List (List ℕ)) (n : ℕ) → n ≡ 0 → table_in a n ≡ 1
table_first [] n e = ap (λ b. cond b 1 0) (is_zero n e)
table_first (xs ∷ a) n e = ap (λ b. cond b 1 (entry_in xs a n)) (is_zero n e)

pub table_entry : (xs : List ℕ) (a : List (List ℕ)) (n : ℕ) → n ≢ 0 → table_in (xs ∷ a) n ≡ entry_in xs a n
table_entry xs a n d = ap (λ b. cond b 1 (entry_in xs a n)) (not_zero n d)

same_place : (a b p q : ℕ) → a * 64 + p % 64 ≡ b * 64 + q % 64 → (a ≡ b) × (p % 64 ≡ q % 64)
same_place a b p q e = (omega arith, omega arith)

-- an entry that is not empty stands in a table that is there
pub above_none : (xs : List ℕ) (a : List (List ℕ)) (p : ℕ) → IsWhole xs → table_in a (p / 64) ≡ 0 → entry_in xs a p ≡ 0
above_none xs a p w e = ap (λ k. get_or xs (k * 64 + p % 64) 0) e ∙ w.empty (0 * 64 + p % 64) (omega arith)

pub above_some : (xs : List ℕ) (a : List (List ℕ)) (p : ℕ) → IsWhole xs → table_in (xs ∷ a) p ≢ 0 → table_in a (p / 64) ≢ 0
above_some xs a p w d e = by (cases_eq p 0)
  where
    by : (p ≡ 0) ⊎ (p ≢ 0) → ⊥
    by (inl z) = let f : table_in a (p / 64) ≡ 1 = table_first a (p / 64) (omega arith) in cc (f, e)
    by (inr z) = d (table_entry xs a p z ∙ above_none xs a p w e)

-- how far a table reaches
pub table_inside : (below : List ℕ) (a : List (List ℕ)) (n : ℕ) → AreTables (length below) a → HasTable below a n → table_in a n * 64 + 64 ≤ length below
table_inside below a n h d = by a h d (cases_eq n 0)
  where
    first : (a : List (List ℕ)) → HasTable below a n → n ≡ 0 → table_in a n * 64 + 64 ≤ length below
    first a d z = omega (arith, table_first a n z, d.1)

    by : (a : List (List ℕ)) → AreTables (length below) a → HasTable below a n → (n ≡ 0) ⊎ (n ≢ 0) → table_in a n * 64 + 64 ≤ length below
    by a h d (inl z) = first a d z
    by [] h d (inr z) = absurd (d.0 (ap (λ b. cond b 1 0) (not_zero n z)))
    by (xs ∷ b) h d (inr z) = let e = table_entry xs b n z in omega (arith, e, h.0.inside _ (λ w. d.0 (e ∙ w)))

-- where an entry of a table that is there stands
pub place_inside : (below : List ℕ) (a : List (List ℕ)) (n at r : ℕ) → AreTables (length below) a → HasTable below a n → at ≡ table_in a n * 64 + r → r < 64 → (64 ≤ at) × (at < length below)
place_inside below a n at r h d e l = (omega (arith, some (table_in a n) d.0), omega (arith, table_inside below a n h d))
  where
    some : (t : ℕ) → t ≢ 0 → 1 ≤ t
    some t d = omega arith

-- no two numbers have one table
pub one_number : (a : List (List ℕ)) (m p q : ℕ) → AreTables m a → table_in a p ≡ table_in a q → table_in a p ≢ 0 → p ≡ q
one_number [] m p q h e d = by (cases_eq p 0) (cases_eq q 0)
  where
    by : (p ≡ 0) ⊎ (p ≢ 0) → (q ≡ 0) ⊎ (q ≢ 0) → p ≡ q
    by (inl x) (inl y) = x ∙ sym y
    by (inr x) y = absurd (d (ap (λ b. cond b 1 0) (not_zero p x)))
    by (inl x) (inr y) = absurd (d (e ∙ ap (λ b. cond b 1 0) (not_zero q y)))
one_number (xs ∷ a) m p q h e d = by (λ (f : table_in a (p / 64) ≡ table_in a (q / 64)) (g : table_in a (p / 64) ≢ 0). one_number a (length xs) (p / 64) (q / 64) h.1 f g) (cases_eq p 0) (cases_eq q 0)
  where
    place : entry_in xs a p ≡ entry_in xs a q → entry_in xs a p ≢ 0 → table_in a (p / 64) * 64 + p % 64 ≡ table_in a (q / 64) * 64 + q % 64
    place f g = h.0.apart _ _ f g

    joined : (p q : ℕ) → p / 64 ≡ q / 64 → p % 64 ≡ q % 64 → p ≡ q
    joined p q a b = omega arith

    by : (table_in a (p / 64) ≡ table_in a (q / 64) → table_in a (p / 64) ≢ 0 → p / 64 ≡ q / 64) → (p ≡ 0) ⊎ (p ≢ 0) → (q ≡ 0) ⊎ (q ≢ 0) → p ≡ q
    by up (inl x) (inl y) = x ∙ sym y
    by up (inr x) (inl y) = absurd (h.0.past _ (sym (table_entry xs a p x) ∙ (e ∙ table_first (xs ∷ a) q y)))
    by up (inl x) (inr y) = absurd (h.0.past _ (sym (table_entry xs a q y) ∙ (sym e ∙ table_first (xs ∷ a) p x)))
    by up (inr x) (inr y) =
        let f = sym (table_entry xs a p x) ∙ (e ∙ table_entry xs a q y) in
        let g = place f (λ z. d (table_entry xs a p x ∙ z)) in
        let s = same_place (table_in a (p / 64)) (table_in a (q / 64)) p q g in
        joined p q (up s.0 (above_some xs a p h.0.tables d)) s.1

-- a table of a level comes in where there was none: nothing changes a level further down
pub child_walk : (xs ys below now : List ℕ) (a : List (List ℕ)) (at : ℕ) → IsWhole below → IsChild xs ys below now at → SameEntry now (ys ∷ a) below (xs ∷ a)
child_walk xs ys below now a at w c q = by c.step
  where
    t : ℕ
    t = get_or ys at 0

    at_new : length below ≤ t * 64 → (i : ℕ) → get_or below (t * 64 + i) 0 ≡ 0
    at_new l i = get_or_past below (t * 64 + i) 0 (omega arith)

    by : ((get_or xs at 0 ≢ 0) × (ys ≡ xs) × (now ≡ below)) ⊎ ((get_or xs at 0 ≡ 0) × (ys ≡ set xs at t) × (2 ≤ t) × (length below ≤ t * 64) × (length now ≡ t * 64 + 64) × IsLonger below now) →
        entry_in now (ys ∷ a) q ≡ entry_in below (xs ∷ a) q
    by (inl s) = ap (λ (zs : List ℕ). entry_in zs (ys ∷ a) q) s.2 ∙ ap (λ (zs : List ℕ). entry_in below (zs ∷ a) q) s.1
    by (inr s) = longer s.5 (table_in (ys ∷ a) (q / 64) * 64 + q % 64) ∙ start (cases_eq (q / 64) 0)
      where
        place : ℕ
        place = table_in a (q / 64 / 64) * 64 + q / 64 % 64

        here : q / 64 ≢ 0 → (place ≡ at) ⊎ (place ≢ at) → get_or below (table_in (ys ∷ a) (q / 64) * 64 + q % 64) 0 ≡ entry_in below (xs ∷ a) q
        here d (inl e) =
            let new : table_in (ys ∷ a) (q / 64) ≡ t = table_entry ys a (q / 64) d ∙ ap (λ i. get_or ys i 0) e in
            let old : table_in (xs ∷ a) (q / 64) ≡ 0 = table_entry xs a (q / 64) d ∙ (ap (λ i. get_or xs i 0) e ∙ s.0) in
            ap (λ k. get_or below (k * 64 + q % 64) 0) new ∙ (at_new s.3 (q % 64) ∙ sym (above_none below (xs ∷ a) q w old))
        here d (inr e) = ap (λ k. get_or below (k * 64 + q % 64) 0)
            (table_entry ys a (q / 64) d ∙ (ap (λ (zs : List ℕ). get_or zs place 0) s.1 ∙ (get_or-set_other xs at place t 0 e ∙ sym (table_entry xs a (q / 64) d))))

        start : (q / 64 ≡ 0) ⊎ (q / 64 ≢ 0) → get_or below (table_in (ys ∷ a) (q / 64) * 64 + q % 64) 0 ≡ entry_in below (xs ∷ a) q
        start (inl z) = ap (λ k. get_or below (k * 64 + q % 64) 0) (table_first (ys ∷ a) (q / 64) z ∙ sym (table_first (xs ∷ a) (q / 64) z))
        start (inr d) = here d (cases_eq place at)

child_tables : (xs ys below now : List ℕ) (at : ℕ) → IsTables xs (length below) → 64 ≤ at → at < length xs → IsChild xs ys below now at → IsTables ys (length now)
child_tables xs ys below now at h a l c = by c.step
  where
    t : ℕ
    t = get_or ys at 0

    by : ((get_or xs at 0 ≢ 0) × (ys ≡ xs) × (now ≡ below)) ⊎ ((get_or xs at 0 ≡ 0) × (ys ≡ set xs at t) × (2 ≤ t) × (length below ≤ t * 64) × (length now ≡ t * 64 + 64) × IsLonger below now) → IsTables ys (length now)
    by (inl s) = rw (s.1, s.2) h
    by (inr s) = subst (λ (zs : List ℕ). IsTables zs (length now)) (sym s.1) (tables_set xs (length below) (length now) at t h a l s.3 s.2 (omega (arith, s.4)) s.0 c.few)

pub child_whole : (xs ys below now : List ℕ) (at : ℕ) → IsWhole below → IsChild xs ys below now at → IsWhole now
child_whole xs ys below now at w c = by c.step
  where
    t : ℕ
    t = get_or ys at 0

    by : ((get_or xs at 0 ≢ 0) × (ys ≡ xs) × (now ≡ below)) ⊎ ((get_or xs at 0 ≡ 0) × (ys ≡ set xs at t) × (2 ≤ t) × (length below ≤ t * 64) × (length now ≡ t * 64 + 64) × IsLonger below now) → IsWhole now
    by (inl s) = rw s.2 w
    by (inr s) = whole_longer w s.5 (omega (arith, s.4)) (λ p. omega (arith, s.2, s.4))

child_below : (xs ys below now : List ℕ) (n at : ℕ) → IsTables below n → IsChild xs ys below now at → IsTables now n
child_below xs ys below now n at w c = by c.step
  where
    t : ℕ
    t = get_or ys at 0

    by : ((get_or xs at 0 ≢ 0) × (ys ≡ xs) × (now ≡ below)) ⊎ ((get_or xs at 0 ≡ 0) × (ys ≡ set xs at t) × (2 ≤ t) × (length below ≤ t * 64) × (length now ≡ t * 64 + 64) × IsLonger below now) → IsTables now n
    by (inl s) = rw s.2 w
    by (inr s) = tables_longer w s.5 (whole_longer w.tables s.5 (omega (arith, s.4)) (λ p. omega (arith, s.2, s.4)))

pub child_length : (xs ys below now : List ℕ) (at : ℕ) → IsChild xs ys below now at → length ys ≡ length xs
child_length xs ys below now at c = by c.step
  where
    t : ℕ
    t = get_or ys at 0

    by : ((get_or xs at 0 ≢ 0) × (ys ≡ xs) × (now ≡ below)) ⊎ ((get_or xs at 0 ≡ 0) × (ys ≡ set xs at t) × (2 ≤ t) × (length below ≤ t * 64) × (length now ≡ t * 64 + 64) × IsLonger below now) → length ys ≡ length xs
    by (inl s) = ap length s.1
    by (inr s) = ap length s.1 ∙ length-set xs at t

-- the level that has the entry, and those above
pub child_above : (xs ys below now : List ℕ) (a : List (List ℕ)) (at : ℕ) → AreTables (length below) (xs ∷ a) → 64 ≤ at → at < length xs → IsChild xs ys below now at → AreTables (length now) (ys ∷ a)
child_above xs ys below now a at h b l c = (child_tables xs ys below now at h.0 b l c, subst (λ n. AreTables n a) (sym (child_length xs ys below now at c)) h.1)

-- and the level of the table
pub child_levels : (xs ys below now : List ℕ) (a : List (List ℕ)) (n at : ℕ) → AreTables n (below ∷ xs ∷ a) → 64 ≤ at → at < length xs → IsChild xs ys below now at → AreTables n (now ∷ ys ∷ a)
child_levels xs ys below now a n at h b l c = (child_below xs ys below now n at h.0 c, child_above xs ys below now a at h.1 b l c)

-- the table that came in is there
pub child_has : (xs ys below now : List ℕ) (a : List (List ℕ)) (n at : ℕ) → n ≢ 0 → IsTables xs (length below) → IsWhole below → at ≡ table_in a (n / 64) * 64 + n % 64 → IsChild xs ys below now at → HasTable now (ys ∷ a) n
child_has xs ys below now a n at d h w p c = (λ z. c.some (ap (λ i. get_or ys i 0) p ∙ (sym (table_entry ys a n d) ∙ z)), by c.step)
  where
    t : ℕ
    t = get_or ys at 0

    by : ((get_or xs at 0 ≢ 0) × (ys ≡ xs) × (now ≡ below)) ⊎ ((get_or xs at 0 ≡ 0) × (ys ≡ set xs at t) × (2 ≤ t) × (length below ≤ t * 64) × (length now ≡ t * 64 + 64) × IsLonger below now) → 128 ≤ length now
    by (inl s) = subst (λ (zs : List ℕ). 128 ≤ length zs) (sym s.2) (w.first (omega (arith, h.inside at s.0)))
    by (inr s) = omega (arith, s.2, s.4)

-- the first table of a level comes in
pub first_above : (xs ys : List ℕ) (a : List (List ℕ)) (n : ℕ) → IsLonger xs ys → IsWhole ys → length xs ≤ length ys → length ys ≤ max (length xs) 128 → AreTables n (xs ∷ a) → AreTables n (ys ∷ a)
first_above xs ys a n g w l f h = (tables_longer h.0 g w, above_room a (length xs) (length ys) h.1 l f)

pub first_same : (xs ys : List ℕ) (a : List (List ℕ)) → IsLonger xs ys → SameEntry ys a xs a
first_same xs ys a g = same_with xs ys a a (longer g) (λ n. refl)

-- what happens to a level and those above it leaves the levels below as they are
pub deep_same : (lower p q : List (List ℕ)) → Same q p → Same (lower ++ q) (lower ++ p)
deep_same [] p q s = s
deep_same (z ∷ lower) p q s = same_below z (lower ++ p) (lower ++ q) (deep_same lower p q s)

pub deep_tables : (lower p q : List (List ℕ)) (n : ℕ) → ((m : ℕ) → AreTables m p → AreTables m q) → AreTables n (lower ++ p) → AreTables n (lower ++ q)
deep_tables [] p q n f h = f n h
deep_tables (z ∷ lower) p q n f h = (h.0, deep_tables lower p q (length z) f h.1)
