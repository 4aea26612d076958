-- Chains of numbers that fall into one slot.
use Rattle.std.proofs.Common.{◌≡◌, ℕ, ◌+◌, ◌<◌, ◌≤◌, ◌⊎◌, inl, inr, Option, Some, None, List, [], ◌∷◌, ◌++◌, sym, ap, ◌∙◌, subst, length, map, get_or, set, arith}
use Rattle.std.specs.Prelude.{⊤}
use Rattle.std.proofs.lemmas.Bool.{cases_lt, cases_eq}
use Rattle.std.proofs.lemmas.List.{length-append, length-map, length-set, map-append, get_or-set_same, get_or-set_other, get_or_append_left, get_or_at, get_or-map, get_or_default}
use Rattle.hm_search.specs.declared.buckets.Link.{Link}
use Rattle.hm_search.specs.Buckets.{BucketsValue, slot_in, slot_at, IsLast, buckets_of, AreChained}

-- ---- the last place of a slot

-- it depends on the slots of places before the end alone
last_same : (b d : BucketsValue) (end slot : ℕ) (r : Option ℕ) → ((i : ℕ) → i < end → slot_at d i ≡ slot_at b i) → IsLast b end slot r → IsLast d end slot r
last_same b d end slot None same p = λ i l e. p i l (sym (same i l) ∙ e)
last_same b d end slot (Some at) same p = (p.0, same at p.0 ∙ p.1, λ i m l e. p.2 i m l (sym (same i l) ∙ e))

before_end : (i end : ℕ) → i < end + 1 → (i < end) ⊎ (i ≡ end)
before_end i end l = by (cases_lt i end)
  where
    by : (i < end) ⊎ (end ≤ i) → (i < end) ⊎ (i ≡ end)
    by (inl k) = inl k
    by (inr k) = inr (omega (arith, k, l))

-- a place more that falls into another slot
last_other : (b : BucketsValue) (end slot : ℕ) (r : Option ℕ) → (slot_at b end ≡ slot → ⊥) → IsLast b end slot r → IsLast b (end + 1) slot r
last_other b end slot None ne p = none
  where
    none : (i : ℕ) → i < end + 1 → slot_at b i ≡ slot → ⊥
    none i l e = by (before_end i end l)
      where
        by : (i < end) ⊎ (i ≡ end) → ⊥
        by (inl k) = p i k e
        by (inr k) = ne (ap (slot_at b) (sym k) ∙ e)
last_other b end slot (Some at) ne p = (omega (arith, p.0), p.1, none)
  where
    none : (i : ℕ) → at < i → i < end + 1 → slot_at b i ≡ slot → ⊥
    none i m l e = by (before_end i end l)
      where
        by : (i < end) ⊎ (i ≡ end) → ⊥
        by (inl k) = p.2 i m k e
        by (inr k) = ne (ap (slot_at b) (sym k) ∙ e)

-- a place that falls into the slot is its last
last_here : (b : BucketsValue) (at slot : ℕ) → slot_at b at ≡ slot → IsLast b (at + 1) slot (Some at)
last_here b at slot e = (omega arith, e, λ i m l k. omega (arith, m, l))

-- ---- one number more

abbrev number_of : Link → ℕ
number_of l = l.number

abbrev before_of : Link → Option ℕ
before_of l = l.before

module _ (links : List Link) (last : List (Option ℕ)) (link : Link) (ok : AreChained links last) (linked : link.before ≡ get_or last (slot_in (length last) link.number) None) where
  abbrev slot : ℕ
  slot = slot_in (length last) link.number

  abbrev more : List Link
  more = links ++ link ∷ []

  abbrev next : List (Option ℕ)
  next = set last slot (Some (length links))

  abbrev old_value : BucketsValue
  old_value = buckets_of links last

  abbrev new_value : BucketsValue
  new_value = buckets_of more next

  wide : length next ≡ length last
  wide = length-set last slot (Some (length links))

  slots_same : (i : ℕ) → i < length links → slot_at new_value i ≡ slot_at old_value i
  slots_same i l = ap (λ n. slot_in n (get_or (map number_of more) i 0)) wide
      ∙ ap (slot_in (length last)) (ap (λ z. get_or z i 0) (map-append number_of links (link ∷ [])) ∙ get_or_append_left (map number_of links) (link.number ∷ []) 0 i (omega (arith, l, length-map links number_of)))

  slot_new : slot_at new_value (length links) ≡ slot
  slot_new = ap (λ n. slot_in n (get_or (map number_of more) (length links) 0)) wide
      ∙ ap (slot_in (length last)) (ap (λ z. get_or z (length links) 0) (map-append number_of links (link ∷ [])) ∙ get_or_at (map number_of links) link.number [] 0 (length links) (length-map links number_of))

  many : length more ≡ length links + 1
  many = length-append links (link ∷ [])

  last_more : slot < length last → (s : ℕ) → s < length next → IsLast new_value (length more) s (get_or next s None)
  last_more within s l = subst (λ n. IsLast new_value n s (get_or next s None)) (sym many) (by (cases_eq s slot))
    where
      by : (s ≡ slot) ⊎ (s ≡ slot → ⊥) → IsLast new_value (length links + 1) s (get_or next s None)
      by (inl e) = subst (IsLast new_value (length links + 1) s) (sym (ap (λ z. get_or next z None) e ∙ get_or-set_same last slot (Some (length links)) None within)) (last_here new_value (length links) s (slot_new ∙ sym e))
      by (inr ne) = subst (IsLast new_value (length links + 1) s) (sym (get_or-set_other last slot s (Some (length links)) None ne)) (last_other new_value (length links) s (get_or last s None) (λ e. ne (sym e ∙ slot_new)) (last_same old_value new_value (length links) s (get_or last s None) slots_same (ok.last s (omega (arith, l, wide)))))

  before_more : slot < length last → (at : ℕ) → at < length more → IsLast new_value at (slot_at new_value at) (get_or (map before_of more) at None)
  before_more within at l = by (before_end at (length links) (omega (arith, l, many)))
    where
      old : at < length links → get_or (map before_of more) at None ≡ get_or (map before_of links) at None
      old k = ap (λ z. get_or z at None) (map-append before_of links (link ∷ [])) ∙ get_or_append_left (map before_of links) (link.before ∷ []) None at (omega (arith, k, length-map links before_of))

      new : at ≡ length links → get_or (map before_of more) at None ≡ get_or last slot None
      new e = ap (λ z. get_or z at None) (map-append before_of links (link ∷ [])) ∙ (get_or_at (map before_of links) link.before [] None at (length-map links before_of ∙ sym e) ∙ linked)

      by : (at < length links) ⊎ (at ≡ length links) → IsLast new_value at (slot_at new_value at) (get_or (map before_of more) at None)
      by (inl k) = subst (IsLast new_value at (slot_at new_value at)) (sym (old k)) (subst (λ s. IsLast new_value at s (get_or (map before_of links) at None)) (sym (slots_same at k)) (last_same old_value new_value at (slot_at old_value at) (get_or (map before_of links) at None) (λ i m. slots_same i (omega (arith, m, k))) (ok.before at k)))
      by (inr e) = subst (IsLast new_value at (slot_at new_value at)) (sym (new e)) (subst (λ s. IsLast new_value at s (get_or last slot None)) (sym (ap (slot_at new_value) e ∙ slot_new)) (subst (λ n. IsLast new_value n slot (get_or last slot None)) (sym e) (last_same old_value new_value (length links) slot (get_or last slot None) slots_same (ok.last slot within))))

  pub chained_more : slot < length last → AreChained more next
  chained_more within = record { some = omega (arith, ok.some, wide); last = last_more within; before = before_more within }

-- so with what is read and written of the table
pub chained_push : (links ms : List Link) (lasts : List (Option ℕ)) (b : BucketsValue) (link : Link) (slot at : ℕ) → AreChained links lasts → buckets_of links lasts ≡ b → slot ≡ slot_in b.slots link.number → slot < b.slots → at ≡ length links → link.before ≡ get_or lasts slot link.before → ms ≡ links ++ link ∷ [] → AreChained ms (set lasts slot (Some at))
chained_push links ms lasts b link slot at ok view is within here before grown =
    subst (λ z. AreChained z (set lasts slot (Some at))) (sym grown)
    (subst (λ n. AreChained (links ++ link ∷ []) (set lasts slot (Some n))) (sym here)
    (subst (λ s. AreChained (links ++ link ∷ []) (set lasts s (Some (length links)))) (sym same) (chained_more links lasts link ok linked (subst (λ s. s < length lasts) same below))))
  where
    below : slot < length lasts
    below = omega (arith, within, ap (λ (d : BucketsValue). d.slots) view)

    same : slot ≡ slot_in (length lasts) link.number
    same = is ∙ ap (λ (d : BucketsValue). slot_in d.slots link.number) (sym view)

    linked : link.before ≡ get_or lasts (slot_in (length lasts) link.number) None
    linked = before ∙ (get_or_default lasts slot link.before None below ∙ ap (λ s. get_or lasts s None) same)

-- the place before another one
pub before_at : (links : List Link) (lasts : List (Option ℕ)) (b : BucketsValue) (at : ℕ) (l : Link) → AreChained links lasts → buckets_of links lasts ≡ b → at < length b.numbers → l ≡ get_or links at l → IsLast b at (slot_at b at) l.before
before_at links lasts b at l ok view below is = subst (λ d. IsLast d at (slot_at d at) l.before) view (subst (IsLast (buckets_of links lasts) at (slot_at (buckets_of links lasts) at)) (get_or-map before_of links at l None within ∙ sym (ap before_of is)) (ok.before at within))
  where
    within : at < length links
    within = omega (arith, below, ap (λ (d : BucketsValue). length d.numbers) view, length-map links number_of)

-- ---- a walk from the last place of a slot to the first

-- a place that the walk has still to come to
abbrev pub UpTo : Option ℕ → ℕ → Type 0
UpTo None i = ⊥
UpTo (Some at) i = i ≤ at

-- the walk stands at a place of the slot, or has ended
abbrev pub StandsIn : BucketsValue → ℕ → ℕ → Option ℕ → Type 0
StandsIn b end s None = ⊤
StandsIn b end s (Some at) = (at < end) × (slot_at b at ≡ s)

pub stands_last : (b : BucketsValue) (end most s : ℕ) (r : Option ℕ) → end ≤ most → IsLast b end s r → StandsIn b most s r
stands_last b end most s None l p = tt
stands_last b end most s (Some at) l p = (omega (arith, p.0, l), p.1)

pub up_to_last : (b : BucketsValue) (end s : ℕ) (r : Option ℕ) → IsLast b end s r → (i : ℕ) → i < end → slot_at b i ≡ s → UpTo r i
up_to_last b end s None p i l e = p i l e
up_to_last b end s (Some at) p i l e = by (cases_lt at i)
  where
    by : (at < i) ⊎ (i ≤ at) → i ≤ at
    by (inl k) = absurd (p.2 i k l e)
    by (inr k) = k
