-- Processes that share their changes, until one of them writes.
use Rattle.std.proofs.Common.{◌≡◌, ◌≢◌, ℕ, zero, suc, ◌+◌, ◌-◌, ◌<◌, ◌≤◌, ◌^◌, ◌==◌, ◌&&◌, min, if◌then◌else◌, Bool, Option, Some, None, List, [], ◌∷◌, length, slice_set, ◌⊎◌, inl, inr, refl, sym, ap, ◌∙◌, subst, arith}
use Rattle.std.specs.Prelude.{slice_get, replicate}
use Rattle.std.proofs.lemmas.Bool.{cases_eq}
use Rattle.std.proofs.lemmas.Bool.Decides.{nat_tests}
use Rattle.std.proofs.lemmas.Grind.{common_steps}
use Rattle.std.proofs.lemmas.Option.{same_Some, slice_get_within}
use Rattle.hm_history.specs.Memory.Plain.{owned}
use Rattle.hm_why.specs.Sources.{is_among}
use Rattle.hm_why.specs.Changes.{entry_for, IsSet}
use Rattle.hm_why.specs.Writers.{entry_among, changes_at, IsAlone, IsFree, IsPut}
use Rattle.hm_why.specs.declared.changes.Changes.{Changes}

pub set_here : {X : Type 0} → (xs : List X) (p : ℕ) (v : X) → p < length xs → slice_get (slice_set xs p v) p ≡ Some v
set_here [] p v l = absurd (omega (arith, l))
set_here (x ∷ xs) zero v l = refl
set_here (x ∷ xs) (suc p) v l = set_here xs p v (omega (arith, l))

pub set_other : {X : Type 0} → (xs : List X) (p q : ℕ) (v : X) → q ≢ p → slice_get (slice_set xs p v) q ≡ slice_get xs q
set_other [] p q v d = refl
set_other (x ∷ xs) zero zero v d = absurd (d refl)
set_other (x ∷ xs) zero (suc q) v d = refl
set_other (x ∷ xs) (suc p) zero v d = refl
set_other (x ∷ xs) (suc p) (suc q) v d = set_other xs p q v (λ e. d (ap (λ n. suc n) e))

-- a process that gets a copy of its changes at a free place keeps its sources, and so do the others
pub own_sources : (slots : List ℕ) (xs ys : List Changes) (p own shared : ℕ) (copy old : Changes) → slice_get slots p ≡ Some shared → slice_get xs shared ≡ Some old → ((b : ℕ) → entry_for copy b ≡ entry_for old b) → IsFree slots own →
    ((q k : ℕ) → slice_get slots q ≡ Some k → k < length xs) → IsPut xs ys own copy → (q b : ℕ) →
    entry_among b (changes_at ys (slice_get (slice_set slots p own) q)) ≡ entry_among b (changes_at xs (slice_get slots q))
own_sources slots xs ys p own shared copy old at was same free places put q b = by (cases_eq q p)
  where
    rest : (o : Option ℕ) → slice_get slots q ≡ o → entry_among b (changes_at ys o) ≡ entry_among b (changes_at xs o)
    rest None e = refl
    rest (Some k) e = ap (entry_among b) (put.others k (places q k e) (λ z. free q (e ∙ ap (λ x. Some x) z)))

    by : (q ≡ p) ⊎ (q ≢ p) → entry_among b (changes_at ys (slice_get (slice_set slots p own) q)) ≡ entry_among b (changes_at xs (slice_get slots q))
    by (inl e) =
        ap (λ j. entry_among b (changes_at ys (slice_get (slice_set slots p own) j))) e
        ∙ (ap (λ o. entry_among b (changes_at ys o)) (set_here slots p own (slice_get_within slots p shared at))
        ∙ (ap (entry_among b) put.here ∙ (same b ∙ (sym (ap (entry_among b) was)
        ∙ (sym (ap (λ o. entry_among b (changes_at xs o)) at) ∙ sym (ap (λ j. entry_among b (changes_at xs (slice_get slots j))) e))))))
    by (inr d) = ap (λ o. entry_among b (changes_at ys o)) (set_other slots p q own d) ∙ rest (slice_get slots q) refl

pub own_alone : (slots : List ℕ) (p own : ℕ) → p < length slots → IsFree slots own → IsAlone (slice_set slots p own) p
own_alone slots p own l free q k at other = by (cases_eq q p)
  where
    same : Some k ≡ Some own
    same = sym at ∙ set_here slots p own l

    by : (q ≡ p) ⊎ (q ≢ p) → q ≡ p
    by (inl e) = e
    by (inr d) = absurd (free q (sym (set_other slots p q own d) ∙ (other ∙ same)))

-- each process has its changes at a place that is there
pub places_set : (slots : List ℕ) (p own n m : ℕ) → p < length slots → ((q k : ℕ) → slice_get slots q ≡ Some k → k < n) → n ≤ m → own < m → (q k : ℕ) → slice_get (slice_set slots p own) q ≡ Some k → k < m
places_set slots p own n m l places more below q k e = by (cases_eq q p)
  where
    by : (q ≡ p) ⊎ (q ≢ p) → k < m
    by (inl z) = let same : own ≡ k = same_Some own k (sym (set_here slots p own l) ∙ (sym (ap (slice_get (slice_set slots p own)) z) ∙ e)) in omega (arith, same, below)
    by (inr d) = let low : k < n = places q k (sym (set_other slots p q own d) ∙ e) in omega (arith, low, more)

-- what was written to the changes that a process has alone
pub written : (slots : List ℕ) (xs : List Changes) (proc : Option ℕ) (p own : ℕ) (old new : Changes) (addr len end at : ℕ) → proc ≡ Some p → end ≡ min (addr + len) (2 ^ 64 - 1) → slice_get slots p ≡ Some own → IsAlone slots p → slice_get xs own ≡ Some old → IsSet old new addr end at →
    (q b : ℕ) → b < 2 ^ 48 →
    entry_among b (changes_at (slice_set xs own new) (slice_get slots q)) ≡ (if owned proc (λ p. p == q) && is_among addr len b then Some at else entry_among b (changes_at xs (slice_get slots q)))
written slots xs proc p own old new addr len end at of ends place alone was put q b low =
    subst (λ (y : Option ℕ). entry_among b (changes_at (slice_set xs own new) (slice_get slots q)) ≡ (if owned y (λ p. p == q) && is_among addr len b then Some at else entry_among b (changes_at xs (slice_get slots q)))) (sym of) (by (cases_eq q p))
  where
    inside : entry_for new b ≡ (if (p == p) && is_among addr len b then Some at else entry_for old b)
    inside = grind (arith, nat_tests, common_steps, put b)

    skipped : (p q : ℕ) (a : Bool) (e : Option ℕ) → q ≢ p → e ≡ (if (p == q) && a then Some at else e)
    skipped p q a e d = grind (arith, nat_tests)

    rest : (o : Option ℕ) → slice_get slots q ≡ o → q ≢ p → entry_among b (changes_at (slice_set xs own new) o) ≡ entry_among b (changes_at xs o)
    rest None e d = refl
    rest (Some k) e d = ap (entry_among b) (set_other xs own k new (λ z. d (alone q own place (e ∙ ap (λ x. Some x) z))))

    -- at the process itself
    here : entry_among b (changes_at (slice_set xs own new) (slice_get slots p)) ≡ (if (p == p) && is_among addr len b then Some at else entry_among b (changes_at xs (slice_get slots p)))
    here =
        ap (λ o. entry_among b (changes_at (slice_set xs own new) o)) place
        ∙ (ap (entry_among b) (set_here xs own new (slice_get_within xs own old was)) ∙ (inside
        ∙ sym (ap (λ (e : Option ℕ). if (p == p) && is_among addr len b then Some at else e) (ap (λ o. entry_among b (changes_at xs o)) place ∙ ap (entry_among b) was))))

    by : (q ≡ p) ⊎ (q ≢ p) → entry_among b (changes_at (slice_set xs own new) (slice_get slots q)) ≡ (if (p == q) && is_among addr len b then Some at else entry_among b (changes_at xs (slice_get slots q)))
    by (inl e) = subst (λ j. entry_among b (changes_at (slice_set xs own new) (slice_get slots j)) ≡ (if (p == j) && is_among addr len b then Some at else entry_among b (changes_at xs (slice_get slots j)))) (sym e) here
    by (inr d) = rest (slice_get slots q) refl d ∙ skipped p q (is_among addr len b) (entry_among b (changes_at xs (slice_get slots q))) d

-- a child has the sources of its parent
pub shared : (slots : List ℕ) (xs : List Changes) (parent child place : ℕ) → child < length slots → slice_get slots parent ≡ Some place → (q b : ℕ) →
    entry_among b (changes_at xs (slice_get (slice_set slots child place) q)) ≡ entry_among b (changes_at xs (slice_get slots (if child == q then parent else q)))
shared slots xs parent child place l at q b = by (cases_eq q child)
  where
    itself : (c p : ℕ) → (if c == c then p else c) ≡ p
    itself c p = grind (arith, nat_tests)

    other : (c p q : ℕ) → q ≢ c → (if c == q then p else q) ≡ q
    other c p q d = grind (arith, nat_tests)

    here : entry_among b (changes_at xs (slice_get (slice_set slots child place) child)) ≡ entry_among b (changes_at xs (slice_get slots (if child == child then parent else child)))
    here =
        ap (λ o. entry_among b (changes_at xs o)) (set_here slots child place l ∙ sym at)
        ∙ sym (ap (λ j. entry_among b (changes_at xs (slice_get slots j))) (itself child parent))

    by : (q ≡ child) ⊎ (q ≢ child) → entry_among b (changes_at xs (slice_get (slice_set slots child place) q)) ≡ entry_among b (changes_at xs (slice_get slots (if child == q then parent else q)))
    by (inl e) = subst (λ j. entry_among b (changes_at xs (slice_get (slice_set slots child place) j)) ≡ entry_among b (changes_at xs (slice_get slots (if child == j then parent else j)))) (sym e) here
    by (inr d) =
        ap (λ o. entry_among b (changes_at xs o)) (set_other slots child q place d)
        ∙ sym (ap (λ j. entry_among b (changes_at xs (slice_get slots j))) (other child parent q d))

-- at first all processes share changes of which there are none
pub shared_at_first : (xs : List Changes) → ((k b : ℕ) → entry_among b (slice_get xs k) ≡ None) → (n q b : ℕ) → entry_among b (changes_at xs (slice_get (replicate n 0) q)) ≡ None
shared_at_first xs h zero q b = refl
shared_at_first xs h (suc n) zero b = h 0 b
shared_at_first xs h (suc n) (suc q) b = shared_at_first xs h n q b

pub one_without : (t : Changes) → ((b : ℕ) → entry_for t b ≡ None) → (k b : ℕ) → entry_among b (slice_get (t ∷ []) k) ≡ None
one_without t h zero b = h b
one_without t h (suc k) b = refl

pub place_at_first : (n q k : ℕ) → slice_get (replicate n 0) q ≡ Some k → k ≡ 0
place_at_first zero q k e = cc
place_at_first (suc n) zero k e = sym (same_Some 0 k e)
place_at_first (suc n) (suc q) k e = place_at_first n q k e
