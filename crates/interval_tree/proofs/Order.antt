-- Intervals in order, around one of them.
use Rattle.std.proofs.Common.{◌≡◌, ℕ, ◌+◌, ◌<◌, ◌≤◌, max, Bool, true, false, cond, eqb, ltb, List, [], ◌∷◌, ◌++◌, length, refl, sym, ap, ◌∙◌, subst, append_assoc, arith}
use Rattle.std.proofs.lemmas.Bool.{lt-ltb, le-ltb, eq-eqb, ne_eqb, ltb-true, ltb-false}
use Rattle.interval_tree.specs.declared.node.Interval.{Interval}
use Rattle.interval_tree.specs.Items.{key, upto, AllAbove, IsSorted, LacksKey, with_interval, without_key, top_of}

AllAbove-map : (j k : ℕ) → j ≤ k → (xs : List Interval) → AllAbove k xs → AllAbove j xs
AllAbove-map j k l [] a = tt
AllAbove-map j k l (x ∷ xs) a = (omega (arith, a.0), AllAbove-map j k l xs a.1)

AllAbove-front : (k : ℕ) (xs ys : List Interval) → AllAbove k (xs ++ ys) → AllAbove k xs
AllAbove-front k [] ys a = tt
AllAbove-front k (x ∷ xs) ys a = (a.0, AllAbove-front k xs ys a.1)

above_middle : (k : ℕ) (xs : List Interval) (y : Interval) (ys : List Interval) → AllAbove k (xs ++ y ∷ ys) → k < key y
above_middle k [] y ys a = a.0
above_middle k (x ∷ xs) y ys a = above_middle k xs y ys a.1

above_joined : (k : ℕ) (xs : List Interval) (y : Interval) (ys : List Interval) → AllAbove k (xs ++ y ∷ ys) → AllAbove k (xs ++ ys)
above_joined k [] y ys a = a.1
above_joined k (x ∷ xs) y ys a = (a.0, above_joined k xs y ys a.1)

pub sorted_front : (xs ys : List Interval) → IsSorted (xs ++ ys) → IsSorted xs
sorted_front [] ys s = tt
sorted_front (x ∷ xs) ys s = (s.0, AllAbove-front (key x) xs ys s.1, sorted_front xs ys s.2)

-- what comes after y, with y
pub sorted_from : (xs : List Interval) (y : Interval) (ys : List Interval) → IsSorted (xs ++ y ∷ ys) → IsSorted (y ∷ ys)
sorted_from [] y ys s = s
sorted_from (x ∷ xs) y ys s = sorted_from xs y ys s.2

pub sorted_back : (xs : List Interval) (y : Interval) (ys : List Interval) → IsSorted (xs ++ y ∷ ys) → IsSorted ys
sorted_back xs y ys s = (sorted_from xs y ys s).2

pub sorted_joined : (xs : List Interval) (y : Interval) (ys : List Interval) → IsSorted (xs ++ y ∷ ys) → IsSorted (xs ++ ys)
sorted_joined [] y ys s = s.2
sorted_joined (x ∷ xs) y ys s = (s.0, above_joined (key x) xs y ys s.1, sorted_joined xs y ys s.2)

-- one more
above_with : (k : ℕ) (x : Interval) (xs : List Interval) → k < key x → AllAbove k xs → AllAbove k (with_interval x xs)
above_with k x [] l a = (l, tt)
above_with k x (y ∷ ys) l a = elim (ltb (key x) (key y)) as (λ b. AllAbove k (cond b (x ∷ y ∷ ys) (y ∷ with_interval x ys))) [ true ↦ (l, a) | false ↦ (a.0, above_with k x ys l a.1) ]

sorted_with_cases : (x y : Interval) (ys : List Interval) (b : Bool) → ltb (key x) (key y) ≡ b → x.id < 32 → LacksKey (key x) (y ∷ ys) → IsSorted (y ∷ ys) → IsSorted (with_interval x ys)
    → IsSorted (cond b (x ∷ y ∷ ys) (y ∷ with_interval x ys))
sorted_with_cases x y ys true e i l s u = let h : key x < key y = ltb-true (key x) (key y) e in (i, (h, AllAbove-map (key x) (key y) (omega arith) ys s.1), s)
sorted_with_cases x y ys false e i l s u = (s.0, above_with (key y) x ys (omega (arith, l.0, ltb-false (key x) (key y) e)) s.1, u)

pub sorted_with : (x : Interval) (xs : List Interval) → x.id < 32 → LacksKey (key x) xs → IsSorted xs → IsSorted (with_interval x xs)
sorted_with x [] i l s = (i, tt, tt)
sorted_with x (y ∷ ys) i l s = sorted_with_cases x y ys (ltb (key x) (key y)) refl i l s (sorted_with x ys i l.1 s.2)

pub with_left : (x : Interval) (xs : List Interval) (y : Interval) (ys : List Interval) → key x < key y → with_interval x (xs ++ y ∷ ys) ≡ with_interval x xs ++ y ∷ ys
with_left x [] y ys l = rw (lt-ltb (key x) (key y) l)
with_left x (z ∷ xs) y ys l =
    let e = with_left x xs y ys l in
    elim (ltb (key x) (key z)) as (λ b. cond b (x ∷ z ∷ (xs ++ y ∷ ys)) (z ∷ with_interval x (xs ++ y ∷ ys)) ≡ cond b (x ∷ z ∷ xs) (z ∷ with_interval x xs) ++ y ∷ ys) [ true ↦ refl | false ↦ ap (λ t. z ∷ t) e ]

with_later : (x y : Interval) (ys : List Interval) → key y ≤ key x → with_interval x (y ∷ ys) ≡ y ∷ with_interval x ys
with_later x y ys l = rw (le-ltb (key x) (key y) l)

pub with_right : (x : Interval) (xs : List Interval) (y : Interval) (ys : List Interval) → key y ≤ key x → IsSorted (xs ++ y ∷ ys) → with_interval x (xs ++ y ∷ ys) ≡ xs ++ y ∷ with_interval x ys
with_right x [] y ys l s = with_later x y ys l
with_right x (z ∷ xs) y ys l s =
    let h = above_middle (key z) xs y ys s.1 in
    with_later x z (xs ++ y ∷ ys) (omega arith) ∙ ap (λ t. z ∷ t) (with_right x xs y ys l s.2)

pub length-with : (x : Interval) (xs : List Interval) → length (with_interval x xs) ≡ length xs + 1
length-with x [] = refl
length-with x (y ∷ ys) =
    let e = length-with x ys in
    elim (ltb (key x) (key y)) as (λ b. length (cond b (x ∷ y ∷ ys) (y ∷ with_interval x ys)) ≡ length (y ∷ ys) + 1) [ true ↦ omega arith | false ↦ omega arith ]

pub lacks_left : (k : ℕ) (xs : List Interval) (y : Interval) (ys : List Interval) → LacksKey k (xs ++ y ∷ ys) → LacksKey k xs
lacks_left k [] y ys l = tt
lacks_left k (x ∷ xs) y ys l = (l.0, lacks_left k xs y ys l.1)

pub lacks_right : (k : ℕ) (xs : List Interval) (y : Interval) (ys : List Interval) → LacksKey k (xs ++ y ∷ ys) → LacksKey k ys
lacks_right k [] y ys l = l.1
lacks_right k (x ∷ xs) y ys l = lacks_right k xs y ys l.1

-- one less
pub without_lower : (k : ℕ) (xs : List Interval) → AllAbove k xs → without_key k xs ≡ xs
without_lower k [] a = refl
without_lower k (x ∷ xs) a = rw (ne_eqb (key x) k (omega (arith, a.0))) (ap (λ t. x ∷ t) (without_lower k xs a.1))

pub without_left : (k : ℕ) (xs : List Interval) (y : Interval) (ys : List Interval) → k < key y → IsSorted (xs ++ y ∷ ys) → without_key k (xs ++ y ∷ ys) ≡ without_key k xs ++ y ∷ ys
without_left k [] y ys l s = without_lower k (y ∷ ys) (l, AllAbove-map k (key y) (omega arith) ys s.1)
without_left k (x ∷ xs) y ys l s =
    let e = without_left k xs y ys l s.2 in
    elim (eqb (key x) k) as (λ b. cond b (without_key k (xs ++ y ∷ ys)) (x ∷ without_key k (xs ++ y ∷ ys)) ≡ cond b (without_key k xs) (x ∷ without_key k xs) ++ y ∷ ys) [ true ↦ e | false ↦ ap (λ t. x ∷ t) e ]

pub without_right : (k : ℕ) (xs : List Interval) (y : Interval) (ys : List Interval) → key y < k → IsSorted (xs ++ y ∷ ys) → without_key k (xs ++ y ∷ ys) ≡ xs ++ y ∷ without_key k ys
without_right k [] y ys l s = rw (ne_eqb (key y) k (omega arith))
without_right k (x ∷ xs) y ys l s =
    let h = above_middle (key x) xs y ys s.1 in
    rw (ne_eqb (key x) k (omega arith)) (ap (λ t. x ∷ t) (without_right k xs y ys l s.2))

pub without_middle : (xs : List Interval) (y : Interval) (ys : List Interval) → IsSorted (xs ++ y ∷ ys) → without_key (key y) (xs ++ y ∷ ys) ≡ xs ++ ys
without_middle [] y ys s = rw (eq-eqb (key y) (key y) refl) (without_lower (key y) ys s.1)
without_middle (x ∷ xs) y ys s =
    let h = above_middle (key x) xs y ys s.1 in
    rw (ne_eqb (key x) (key y) (omega arith)) (ap (λ t. x ∷ t) (without_middle xs y ys s.2))

above_without : (j k : ℕ) (xs : List Interval) → AllAbove j xs → AllAbove j (without_key k xs)
above_without j k [] a = tt
above_without j k (x ∷ xs) a =
    let u = above_without j k xs a.1 in
    elim (eqb (key x) k) as (λ b. AllAbove j (cond b (without_key k xs) (x ∷ without_key k xs))) [ true ↦ u | false ↦ (a.0, u) ]

pub sorted_without : (k : ℕ) (xs : List Interval) → IsSorted xs → IsSorted (without_key k xs)
sorted_without k [] s = tt
sorted_without k (x ∷ xs) s =
    let u = sorted_without k xs s.2 in
    elim (eqb (key x) k) as (λ b. IsSorted (cond b (without_key k xs) (x ∷ without_key k xs))) [ true ↦ u | false ↦ (s.0, above_without (key x) k xs s.1, u) ]

pub length-without : (k : ℕ) (xs : List Interval) → length (without_key k xs) ≤ length xs
length-without k [] = omega arith
length-without k (x ∷ xs) =
    let e = length-without k xs in
    elim (eqb (key x) k) as (λ b. length (cond b (without_key k xs) (x ∷ without_key k xs)) ≤ length (x ∷ xs)) [ true ↦ omega arith | false ↦ omega arith ]

-- the greatest end
pub top_of-append : (xs : List Interval) (y : Interval) (ys : List Interval) → top_of (xs ++ y ∷ ys) ≡ max (max (top_of xs) (upto y)) (top_of ys)
top_of-append [] y ys = omega arith
top_of-append (x ∷ xs) y ys = let e = top_of-append xs y ys in omega arith

-- a rotation
pub append-cons_assoc : (x : List Interval) (j : Interval) (y : List Interval) (k : Interval) (z : List Interval) → (x ++ j ∷ y) ++ k ∷ z ≡ x ++ j ∷ (y ++ k ∷ z)
append-cons_assoc x j y k z = append_assoc x (j ∷ y) (k ∷ z)

pub sorted_inner_right : (x : List Interval) (j : Interval) (y : List Interval) (k : Interval) (z : List Interval) → IsSorted ((x ++ j ∷ y) ++ k ∷ z) → IsSorted (y ++ k ∷ z)
sorted_inner_right x j y k z s = sorted_back x j (y ++ k ∷ z) (subst IsSorted (append-cons_assoc x j y k z) s)

pub sorted_inner_left : (x : List Interval) (j : Interval) (y : List Interval) (k : Interval) (z : List Interval) → IsSorted (x ++ j ∷ (y ++ k ∷ z)) → IsSorted (x ++ j ∷ y)
sorted_inner_left x j y k z s = sorted_front (x ++ j ∷ y) (k ∷ z) (subst IsSorted (sym (append-cons_assoc x j y k z)) s)
