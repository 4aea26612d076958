-- The table of the states that a search knows.
use Rattle.std.proofs.Common.{◌≡◌, ℕ, ◌+◌, ◌<◌, ◌≤◌, ◌⊎◌, inl, inr, suc, zero, Bool, true, false, Option, Some, List, [], ◌∷◌, ◌++◌, refl, sym, ap, ◌∙◌, subst, length, map, get_or, arith}
use Rattle.std.proofs.lemmas.List.{map-append, length-map, get_or_default}
use Rattle.hm_race_laws.specs.Closed.{IsListed, AreDistinct}
use Rattle.hm_race_laws.proofs.Searching.{listed_cases, distinct_more}
use Rattle.hm_search.specs.declared.known.Known.{Known}
use Rattle.hm_search.specs.Buckets.{BucketsValue, slot_in, slot_at, IsLast}
use Rattle.hm_search.specs.Values.{key_forms, AreKept, Fits}
use Rattle.hm_search.specs.Systems.{SystemValue}
use Rattle.hm_search.proofs.Exploring.{listed_item}
use Rattle.hm_search.proofs.Chains.{UpTo, StandsIn, stands_last, up_to_last}
use Rattle.std.proofs.lemmas.Bool.{cases_lt}

-- equal forms have equal numbers
abbrev pub Buckets : {K F : Type 0} → (K → F) → (K → ℕ) → (K → Type 0) → Type 0
Buckets {K} form number Valid = (x y : K) → Valid x → Valid y → form x ≡ form y → number x ≡ number y

-- a state of the key's form has the key's number
numbers_at : {K F : Type 0} (form : K → F) (number : K → ℕ) (Valid : K → Type 0) (law : Buckets form number Valid) (ns : List (Known K)) (k : K) (d : F) (i : ℕ) → ((n : Known K) → IsListed ns n → Valid n.key) → Valid k → i < length ns → get_or (key_forms form ns) i d ≡ form k → get_or (map (λ n. number n.key) ns) i 0 ≡ number k
numbers_at form number Valid law [] k d i all v l e = absurd (omega (arith, l))
numbers_at form number Valid law (n ∷ ns) k d zero all v l e = law n.key k (all n (inl refl)) v e
numbers_at form number Valid law (n ∷ ns) k d (suc i) all v l e = numbers_at form number Valid law ns k d i (λ m h. all m (inr h)) v (omega (arith, l)) e

module _ {K F : Type 0} (form : K → F) (number : K → ℕ) (Valid : K → Type 0) (law : Buckets form number Valid) (ns : List (Known K)) (b : BucketsValue) (fits : Fits form number Valid ns b) (k : K) (v : Valid k) where
  pub number_same : (bucket i : ℕ) → bucket ≡ number k → i < length ns → get_or (key_forms form ns) i (form k) ≡ form k → get_or b.numbers i 0 ≡ bucket
  number_same bucket i is l e = ap (λ z. get_or z i 0) fits.numbers ∙ (numbers_at form number Valid law ns k (form k) i fits.valid v l e ∙ sym is)

  pub slot_same : (bucket i : ℕ) → bucket ≡ number k → i < length ns → get_or (key_forms form ns) i (form k) ≡ form k → slot_at b i ≡ slot_in b.slots bucket
  slot_same bucket i is l e = ap (slot_in b.slots) (number_same bucket i is l e)

  pub many_same : length b.numbers ≡ length ns
  many_same = ap length fits.numbers ∙ length-map ns (λ (n : Known K). number n.key)

  -- a walk over the states of the bucket's slot: where it stands, and which states of the key's form it has still to
  -- come to
  pub record Walks (bucket : ℕ) (next : Option ℕ) : Type 0 where
    pub stands : StandsIn b (length ns) (slot_in b.slots bucket) next
    pub left : (i : ℕ) → i < length ns → get_or (key_forms form ns) i (form k) ≡ form k → UpTo next i

  pub walk_begins : (bucket : ℕ) (next : Option ℕ) → bucket ≡ number k → IsLast b (length b.numbers) (slot_in b.slots bucket) next → Walks bucket next
  walk_begins bucket next is last = record {
    stands = stands_last b (length b.numbers) (length ns) (slot_in b.slots bucket) next (omega (arith, many_same)) last;
    left = λ i l e. up_to_last b (length b.numbers) (slot_in b.slots bucket) next last i (omega (arith, l, many_same)) (slot_same bucket i is l e);
  }

  pub walk_goes : (bucket at : ℕ) (next : Option ℕ) → bucket ≡ number k → Walks bucket (Some at) → (get_or b.numbers at 0 ≡ bucket → get_or (key_forms form ns) at (form k) ≡ form k → ⊥) → IsLast b at (slot_at b at) next → Walks bucket next
  walk_goes bucket at next is w other last = record {
    stands = stands_last b at (length ns) (slot_in b.slots bucket) next (omega (arith, w.stands.0)) here;
    left = λ i l e. by i l e (cases_lt i at);
  }
    where
      here : IsLast b at (slot_in b.slots bucket) next
      here = subst (λ s. IsLast b at s next) w.stands.1 last

      by : (i : ℕ) → i < length ns → get_or (key_forms form ns) i (form k) ≡ form k → (i < at) ⊎ (at ≤ i) → UpTo next i
      by i l e (inl m) = up_to_last b at (slot_in b.slots bucket) next here i m (slot_same bucket i is l e)
      by i l e (inr m) = absurd (other (number_same bucket at is w.stands.0 at_it) at_it)
        where
          same : i ≡ at
          same = omega (arith, m, w.left i l e)

          at_it : get_or (key_forms form ns) at (form k) ≡ form k
          at_it = subst (λ z. get_or (key_forms form ns) z (form k) ≡ form k) same e

-- the form of the state at a place
pub form_at : {K F : Type 0} (form : K → F) (ns : List (Known K)) (i : ℕ) (d : Known K) (e : F) → i < length ns → get_or (key_forms form ns) i e ≡ form (get_or ns i d).key
form_at form [] i d e l = absurd (omega (arith, l))
form_at form (n ∷ ns) zero d e l = refl
form_at form (n ∷ ns) (suc i) d e l = form_at form ns i d e (omega (arith, l))

-- the form of a known state is listed
pub form_listed : {K F : Type 0} (form : K → F) (ns : List (Known K)) (i : ℕ) (e : F) → i < length ns → get_or (key_forms form ns) i e ≡ e → IsListed (key_forms form ns) e
form_listed form ns i e l same = subst (IsListed (key_forms form ns)) same (listed_item (key_forms form ns) i e (omega (arith, l, length-map ns (λ (n : Known _). form n.key))))

-- the key of the state at a place has this form, or another one
pub same_form : {K F : Type 0} (form : K → F) (ns : List (Known K)) (i : ℕ) (d : Known K) (e : F) → i < length ns → d ≡ get_or ns i d → form d.key ≡ e → IsListed (key_forms form ns) e
same_form form ns i d e l is same = form_listed form ns i e l (form_at form ns i d e l ∙ (ap (λ (n : Known _). form n.key) (sym is) ∙ same))

pub other_form : {K F : Type 0} (form : K → F) (ns : List (Known K)) (i : ℕ) (d : Known K) (e : F) (r : Bool) → i < length ns → d ≡ get_or ns i d → (form d.key ≡ e → r ≡ true) → r ≡ false → get_or (key_forms form ns) i e ≡ e → ⊥
other_form form ns i d e r l is apart not same = never (sym not ∙ apart (ap (λ (n : Known _). form n.key) is ∙ (sym (form_at form ns i d e l) ∙ same)))
  where
    never : false ≡ true → ⊥
    never x = cc

-- what is listed stands at a place
pub record Stood {X : Type 0} (xs : List X) (x d : X) : Type 0 where
  pub place : ℕ
  pub within : place < length xs
  pub same : get_or xs place d ≡ x

pub stood_at : {X : Type 0} (xs : List X) (x d : X) → IsListed xs x → Stood xs x d
stood_at [] x d h = absurd h
stood_at (y ∷ xs) x d (inl e) = record { place = 0; within = omega arith; same = e }
stood_at (y ∷ xs) x d (inr h) = let z = stood_at xs x d h in record { place = suc z.place; within = omega (arith, z.within); same = z.same }

pub none_listed : {K F : Type 0} (form : K → F) (ns : List (Known K)) (e : F) → ((i : ℕ) → i < length ns → get_or (key_forms form ns) i e ≡ e → ⊥) → IsListed (key_forms form ns) e → ⊥
none_listed form ns e none h = let z = stood_at (key_forms form ns) e e h in none z.place (omega (arith, z.within, length-map ns (λ (n : Known _). form n.key))) z.same

-- forms of another kind are listed and distinct with these, if they are equal with them
pub other_listed : {K F G : Type 0} (one : K → F) (other : K → G) → ((k l : K) → one k ≡ one l → other k ≡ other l) → (ns : List (Known K)) (k : K) → IsListed (key_forms one ns) (one k) → IsListed (key_forms other ns) (other k)
other_listed one other same [] k h = absurd h
other_listed one other same (n ∷ ns) k (inl e) = inl (same n.key k e)
other_listed one other same (n ∷ ns) k (inr h) = inr (other_listed one other same ns k h)

pub other_distinct : {K F G : Type 0} (one : K → F) (other : K → G) → ((k l : K) → other k ≡ other l → one k ≡ one l) → (ns : List (Known K)) → AreDistinct (key_forms one ns) → AreDistinct (key_forms other ns)
other_distinct one other same [] d = tt
other_distinct one other same (n ∷ ns) d = (λ h. d.0 (other_listed other one same ns n.key h), other_distinct one other same ns d.1)

-- the table with one state more
pub fits_more : {K F : Type 0} (form : K → F) (number : K → ℕ) (Valid : K → Type 0) (ns ms : List (Known K)) (n : Known K) (b d : BucketsValue) (bucket : ℕ) → Fits form number Valid ns b → bucket ≡ number n.key → Valid n.key → (IsListed (key_forms form ns) (form n.key) → ⊥) → d.numbers ≡ b.numbers ++ bucket ∷ [] → ms ≡ ns ++ n ∷ [] → Fits form number Valid ms d
fits_more form number Valid ns ms n b d bucket fits is v new pushed grown = record { numbers = numbers; valid = valid; distinct = distinct }
  where
    numbers : d.numbers ≡ map (λ (m : Known _). number m.key) ms
    numbers = pushed ∙ (ap (λ z. z ++ bucket ∷ []) fits.numbers ∙ (ap (λ z. map (λ (m : Known _). number m.key) ns ++ z ∷ []) is ∙ (sym (map-append (λ (m : Known _). number m.key) ns (n ∷ [])) ∙ ap (map (λ (m : Known _). number m.key)) (sym grown))))

    valid : (m : Known _) → IsListed ms m → Valid m.key
    valid m l = by (listed_cases ns (n ∷ []) m (subst (λ z. IsListed z m) grown l))
      where
        by : IsListed ns m ⊎ IsListed (n ∷ []) m → Valid m.key
        by (inl h) = fits.valid m h
        by (inr (inl e)) = subst (λ (z : Known _). Valid z.key) e v
        by (inr (inr h)) = absurd h

    distinct : AreDistinct (key_forms form ms)
    distinct = subst AreDistinct (sym (ap (key_forms form) grown ∙ map-append (λ (m : Known _). form m.key) ns (n ∷ []))) (distinct_more (key_forms form ns) (form n.key) fits.distinct new)

-- ---- what is kept of keys

-- of the key at a place, whose depth was read too
pub kept_at : {K X F : Type 0} (y : SystemValue X F) (Kept : K → ℕ → Type 0) (ns : List (Known K)) (at entries : ℕ) (d e : Known K) → AreKept y Kept ns → at < length ns → d ≡ get_or ns at d → e ≡ get_or ns at e → entries ≡ y.entries y.start + d.depth → Kept e.key entries
kept_at y Kept ns at entries d e kept l is same many = subst (Kept e.key) (sym (many ∙ ap (λ (z : Known _). y.entries y.start + z.depth) one)) (kept e (subst (IsListed ns) (sym same) (listed_item ns at e l)))
  where
    one : d ≡ e
    one = is ∙ (get_or_default ns at d e l ∙ sym same)

-- with one state more
pub kept_more : {K X F : Type 0} (y : SystemValue X F) (Kept : K → ℕ → Type 0) (ns ms : List (Known K)) (n : Known K) → AreKept y Kept ns → Kept n.key (y.entries y.start + n.depth) → ms ≡ ns ++ n ∷ [] → AreKept y Kept ms
kept_more y Kept ns ms n kept made grown m l = by (listed_cases ns (n ∷ []) m (subst (λ z. IsListed z m) grown l))
  where
    by : IsListed ns m ⊎ IsListed (n ∷ []) m → Kept m.key (y.entries y.start + m.depth)
    by (inl h) = kept m h
    by (inr (inl e)) = subst (λ (z : Known _). Kept z.key (y.entries y.start + z.depth)) e made
    by (inr (inr h)) = absurd h
