-- Edits of the entries at the place of a page.
use Rattle.std.proofs.Common.{◌≡◌, ◌≢◌, ℕ, zero, suc, ◌+◌, ◌<◌, ◌≤◌, Bool, true, false, not, ◌&&◌, eqb, ltb, leb, Some, None, List, [], ◌∷◌, ◌++◌, length, take, drop, get_or, set, refl, sym, ap, subst, ◌∙◌, arith, ◌⊎◌, inl, inr}
use Rattle.std.specs.List.{insert}
use Rattle.std.specs.Ordering.{nat_cmp}
use Rattle.std.specs.FinMap.Entries as sorted
use Rattle.std.proofs.lemmas.Bool.{cases_eq, cases_lt, eq-eqb}
use Rattle.std.proofs.lemmas.Bool.Decides.{nat_tests}
use Rattle.hm_base.specs.Pages.{Pages, covers}
use Rattle.std.proofs.lemmas.List.{get_or-map}
use Rattle.mirror_tables.specs.Blocks.{Block, changed, keys}
use Rattle.mirror_tables.specs.Places.{IsPlace}
use Rattle.mirror_tables.specs.declared.entry.MirrorEntry.{MirrorEntry}

further : {x : ℕ × MirrorEntry} {es : List (ℕ × MirrorEntry)} {page at : ℕ} → IsPlace (x ∷ es) page (suc at) → IsPlace es page at
further h = record { within = omega (arith, h.within); below = λ k l. h.below (suc k) (omega arith); from = λ k l m. h.from (suc k) (omega arith) (omega arith) }

at_start : {x : ℕ × MirrorEntry} {es : List (ℕ × MirrorEntry)} {page : ℕ} → IsPlace (x ∷ es) page 0 → IsPlace es page 0
at_start h = record { within = omega arith; below = λ k l. absurd (omega arith); from = λ k l m. h.from (suc k) (omega arith) (omega arith) }

pub less : (a b : ℕ) → a < b → ltb a b ≡ true
less a b l = grind (arith, nat_tests)

not_less : (a b : ℕ) → b ≤ a → ltb a b ≡ false
not_less a b l = grind (arith, nat_tests)

pub other : (a b : ℕ) → b < a → eqb a b ≡ false
other a b l = grind (arith, nat_tests)

-- a page that has no entry is put in at its place
pub put_new : (es : List (ℕ × MirrorEntry)) (page at : ℕ) (e : MirrorEntry) → IsPlace es page at → (at < length es → get_or (keys es) at 0 ≢ page) → sorted.put nat_cmp page e es ≡ insert es at (page, e)
put_new [] page zero e h d = refl
put_new [] page (suc at) e h d = absurd (omega (arith, h.within))
put_new (x ∷ es) page zero e h d = rw (less page x.0 (above (h.from 0 (omega arith) (omega arith)) (d (omega arith)))) refl
  where
    above : page ≤ x.0 → x.0 ≢ page → page < x.0
    above l n = omega arith
put_new (x ∷ es) page (suc at) e h d =
    let l : x.0 < page = h.below 0 (omega arith) in
    rw (not_less page x.0 (omega arith), other page x.0 l) (ap (λ l. x ∷ l) (put_new es page at e (further h) (λ m. d (omega arith))))

-- a page that has an entry gets another
pub put_old : (es : List (ℕ × MirrorEntry)) (page at : ℕ) (e : MirrorEntry) → IsPlace es page at → at < length es → get_or (keys es) at 0 ≡ page → sorted.put nat_cmp page e es ≡ set es at (page, e)
put_old [] page at e h l p = absurd (omega arith)
put_old (x ∷ es) page zero e h l p = rw (not_less page x.0 (omega arith), eq-eqb page x.0 (sym p)) (ap (λ (k : ℕ). (k, e) ∷ es) p)
put_old (x ∷ es) page (suc at) e h l p =
    let m : x.0 < page = h.below 0 (omega arith) in
    rw (not_less page x.0 (omega arith), other page x.0 m) (ap (λ l. x ∷ l) (put_old es page at e (further h) (omega arith) p))

pub find_old : (es : List (ℕ × MirrorEntry)) (page at : ℕ) (d : ℕ × MirrorEntry) → IsPlace es page at → at < length es → get_or (keys es) at 0 ≡ page → Some ((get_or es at d).1) ≡ sorted.find nat_cmp page es
find_old [] page at d h l p = absurd (omega arith)
find_old (x ∷ es) page zero d h l p = rw (not_less page x.0 (omega arith), eq-eqb page x.0 (sym p)) refl
find_old (x ∷ es) page (suc at) d h l p =
    let m : x.0 < page = h.below 0 (omega arith) in
    rw (not_less page x.0 (omega arith), other page x.0 m) (find_old es page at d (further h) (omega arith) p)

pub find_none : (es : List (ℕ × MirrorEntry)) (page : ℕ) → ((k : ℕ) → k < length es → get_or (keys es) k 0 ≢ page) → None ≡ sorted.find nat_cmp page es
find_none [] page h = refl
find_none (x ∷ es) page h = find_none es page (λ k l. h (suc k) (omega arith)) ∙ sym (past page x.0 x.1 (λ e. h 0 (omega arith) (sym e)))
  where
    past : (q k : ℕ) (v : MirrorEntry) → q ≢ k → sorted.find nat_cmp q ((k, v) ∷ es) ≡ sorted.find nat_cmp q es
    past q k v d = grind (arith, nat_tests)

-- the entries of a span stand between two places
pub without_cut : (es : List (ℕ × MirrorEntry)) (s : Pages) (from upto : ℕ) → IsPlace es s.first from → IsPlace es (s.first + s.count) upto →
    take from es ++ drop upto es ≡ sorted.where_key nat_cmp (λ v. not (covers s v)) es
without_cut [] s zero zero h g = refl
without_cut [] s zero (suc u) h g = refl
without_cut [] s (suc f) zero h g = refl
without_cut [] s (suc f) (suc u) h g = refl
without_cut (x ∷ es) s zero zero h g = rw (past s.first x.0 s.count (g.from 0 (omega arith) (omega arith))) (ap (λ l. x ∷ l) (without_cut es s 0 0 (at_start h) (at_start g)))
  where
    past : (a v n : ℕ) → a + n ≤ v → (leb a v && ltb v (a + n)) ≡ false
    past a v n l = grind (arith, nat_tests)
without_cut (x ∷ es) s zero (suc u) h g = rw (here s.first x.0 s.count (h.from 0 (omega arith) (omega arith)) (g.below 0 (omega arith))) (without_cut es s 0 u (at_start h) (further g))
  where
    here : (a v n : ℕ) → a ≤ v → v < a + n → (leb a v && ltb v (a + n)) ≡ true
    here a v n l m = grind (arith, nat_tests)
without_cut (x ∷ es) s (suc f) zero h g = absurd (omega (arith, h.below 0 (omega arith), g.from 0 (omega arith) (omega arith)))
without_cut (x ∷ es) s (suc f) (suc u) h g = rw (before s.first x.0 s.count (h.below 0 (omega arith))) (ap (λ l. x ∷ l) (without_cut es s f u (further h) (further g)))
  where
    before : (a v n : ℕ) → v < a → (leb a v && ltb v (a + n)) ≡ false
    before a v n l = grind (arith, nat_tests)

pub same_places : (es : List (ℕ × MirrorEntry)) (s : Pages) (from upto : ℕ) → IsPlace es s.first from → IsPlace es (s.first + s.count) upto → upto ≤ from → from ≡ upto
same_places es s from upto h g l = by (cases_eq from upto)
  where
    by : (from ≡ upto) ⊎ (from ≢ upto) → from ≡ upto
    by (inl e) = e
    by (inr d) = absurd (omega (arith, h.below upto (omega arith), h.within, g.from upto (omega arith) (omega (arith, h.within))))

pub has_it : (n at k page : ℕ) → (ltb at n && eqb k page) ≡ true → (at < n) × (k ≡ page)
has_it n at k page e = (by_less, by_equal)
  where
    by_less : at < n
    by_less = grind (arith, nat_tests)

    by_equal : k ≡ page
    by_equal = grind (arith, nat_tests)

pub has_not : (n at k page : ℕ) → (ltb at n && eqb k page) ≡ false → at < n → k ≢ page
has_not n at k page e l p = absurd (grind (arith, nat_tests))

-- where the place has another page, no entry is the page's
pub nowhere : (es : List (ℕ × MirrorEntry)) (page at : ℕ) → IsPlace es page at → (at < length es → get_or (keys es) at 0 ≢ page) → ((i j : ℕ) → i < j → j < length es → get_or (keys es) i 0 < get_or (keys es) j 0) →
    (k : ℕ) → k < length es → get_or (keys es) k 0 ≢ page
nowhere es page at h d r k l e = by (cases_lt k at) (cases_eq k at)
  where
    by : (k < at) ⊎ (at ≤ k) → (k ≡ at) ⊎ (k ≢ at) → ⊥
    by (inl a) q = absurd (omega (arith, h.below k a))
    by (inr a) (inl q) = d (omega arith) (ap (λ i. get_or (keys es) i 0) (sym q) ∙ e)
    by (inr a) (inr q) = absurd (omega (arith, h.from at (omega arith) (omega arith), r at k (omega arith) l))

-- the same place, of the entries and the page as they are named elsewhere
pub place_as : (es fs : List (ℕ × MirrorEntry)) (n page at : ℕ) → es ≡ fs → n ≡ page → IsPlace es n at → IsPlace fs page at
place_as es fs n page at e p h = subst (λ (x : ℕ). IsPlace fs x at) p (subst (λ (x : List (ℕ × MirrorEntry)). IsPlace x n at) e h)

pub has_as : (es fs : List (ℕ × MirrorEntry)) (at n page : ℕ) (r : Bool) → es ≡ fs → n ≡ page → r ≡ (ltb at (length es) && eqb (get_or (keys es) at 0) n) → r ≡ true →
    (at < length fs) × (get_or (keys fs) at 0 ≡ page)
has_as es fs at n page r e p q t = has_it (length fs) at (get_or (keys fs) at 0) page
    (sym (ap (λ (x : List (ℕ × MirrorEntry)). ltb at (length x) && eqb (get_or (keys x) at 0) n) e ∙ ap (λ (x : ℕ). ltb at (length fs) && eqb (get_or (keys fs) at 0) x) p) ∙ (sym q ∙ t))

pub has_not_as : (es fs : List (ℕ × MirrorEntry)) (at n page : ℕ) (r : Bool) → es ≡ fs → n ≡ page → r ≡ (ltb at (length es) && eqb (get_or (keys es) at 0) n) → r ≡ false →
    at < length fs → get_or (keys fs) at 0 ≢ page
has_not_as es fs at n page r e p q t = has_not (length fs) at (get_or (keys fs) at 0) page
    (sym (ap (λ (x : List (ℕ × MirrorEntry)). ltb at (length x) && eqb (get_or (keys x) at 0) n) e ∙ ap (λ (x : ℕ). ltb at (length fs) && eqb (get_or (keys fs) at 0) x) p) ∙ (sym q ∙ t))

-- halving
pub key_at : (es : List (ℕ × MirrorEntry)) (i : ℕ) (x : ℕ × MirrorEntry) → i < length es → get_or (keys es) i 0 ≡ (get_or es i x).0
key_at es i x l = get_or-map (λ (y : ℕ × MirrorEntry). y.0) es i x 0 l

pub below_more : (es : List (ℕ × MirrorEntry)) (page m : ℕ) → ((i j : ℕ) → i < j → j < length es → get_or (keys es) i 0 < get_or (keys es) j 0) → m < length es → get_or (keys es) m 0 < page →
    (k : ℕ) → k < m + 1 → get_or (keys es) k 0 < page
below_more es page m r l b k a = by (cases_eq k m)
  where
    by : (k ≡ m) ⊎ (k ≢ m) → get_or (keys es) k 0 < page
    by (inl e) = rw e b
    by (inr d) = omega (arith, r k m (omega arith) l)

pub from_more : (es : List (ℕ × MirrorEntry)) (page m : ℕ) → ((i j : ℕ) → i < j → j < length es → get_or (keys es) i 0 < get_or (keys es) j 0) → page ≤ get_or (keys es) m 0 →
    (k : ℕ) → m ≤ k → k < length es → page ≤ get_or (keys es) k 0
from_more es page m r b k a l = by (cases_eq k m)
  where
    by : (k ≡ m) ⊎ (k ≢ m) → page ≤ get_or (keys es) k 0
    by (inl e) = rw e b
    by (inr d) = omega (arith, r m k (omega arith) l)

-- the table after a change of its entries
pub changed_as : (f g : Block) (es : List (ℕ × MirrorEntry)) (room : ℕ) (to : Block → List (ℕ × MirrorEntry)) → f ≡ g → es ≡ to f → record { entries = es; room = room } ≡ changed g (to g) room
changed_as f g es room to e q = ap (λ (x : List (ℕ × MirrorEntry)). changed f x room) q ∙ ap (λ (t : Block). changed t (to t) room) e

pub unchanged : (f g : Block) (to : Block → List (ℕ × MirrorEntry)) → f ≡ g → f.entries ≡ to f → g ≡ changed g (to g) g.room
unchanged f g to e q = sym e ∙ (ap (λ (x : List (ℕ × MirrorEntry)). changed f x f.room) q ∙ ap (λ (t : Block). changed t (to t) t.room) e)

pub below_by : (a b n p : ℕ) → a ≡ b → n ≡ b → n < p → a < p
below_by a b n p e f l = omega arith

pub from_by : (a b n p : ℕ) → a ≡ b → n ≡ b → p ≤ n → p ≤ a
from_by a b n p e f l = omega arith
