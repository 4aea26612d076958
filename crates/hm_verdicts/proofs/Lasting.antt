-- Callbacks that have returned: what few events change of them, or none.
use Rattle.std.proofs.Common.{refl, ap, sym, subst, ◌∙◌, ◌≤◌, le_trans}
use Rattle.std.proofs.lemmas.Bool.{and_parts, eqb-true, eq-eqb}
use Rattle.std.specs.Prelude.{◌≡◌, ℕ, ◌+◌, Bool, true, false, not, ◌&&◌, ◌||◌, ◌==◌, nat_lt, if◌then◌else◌, Option}
use Rattle.std.specs.Prelude.{Some, None, is_some, is_none, List, [], ◌∷◌, ◌++◌, map, filter, count_by}
use Rattle.std.specs.List.{list_any}
use Rattle.hm_base.specs.Pages.{overlap}
use Rattle.hm_history.specs.Memory.Words.{with_at}
use Rattle.hm_protocol.specs.Words.{is_it, drop_if}
use Rattle.hm_protocol.specs.Known.{Call, Move, Slot, is_slot, is_current}
use Rattle.hm_protocol.specs.Noted.{after_end, after_set}
use Rattle.hm_verdicts.specs.Changes.{erased_by, lost_by, own_by, returned_in, returned_by, is_placing, paged_by, paged_in}
use Rattle.hm_verdicts.specs.Settled.{First, IsBelow, is_lasting}
use Rattle.hm_verdicts.proofs.AreOver.{and_false, none_false, not_equal}
use Rattle.hm_verdicts.proofs.Returned.{is_given}
use Rattle.hm_verdicts.proofs.Settled.{first_mapped, first_filtered, first_pushed}

-- what was given, and what became of it, are as before
pub record Alike (x y : Call) : Type 0 where
  pub after : is_some y.after ≡ is_some x.after
  pub mirror : y.mirror ≡ x.mirror
  pub seq : y.seq ≡ x.seq
  pub owner : y.owner ≡ x.owner
  pub stale : y.stale ≡ x.stale

same : (x : Call) → Alike x x
same x = record { after = refl; mirror = refl; seq = refl; owner = refl; stale = refl }

-- ---- events

pub alike_set : (m v : ℕ) (x : Call) → Alike x (after_set m v x)
alike_set m v x = record { after = refl; mirror = refl; seq = refl; owner = refl; stale = refl }

pub alike_end : (i j : ℕ) (x : Call) → Alike x (after_end i j x)
alike_end i j x = by_bool (is_it x.of i)
  where
    by_bool : (b : Bool) → Alike x (if b then record x { ended = Some j } else x)
    by_bool true = record { after = refl; mirror = refl; seq = refl; owner = refl; stale = refl }
    by_bool false = same x

-- an entry was erased, and these are so
alike_lost : (x : Call) (hs : List Slot) (e a b c d f : Bool) → Alike x (if a then record x { here = hs; erased = e }
    else if b then record x { here = hs }
    else if c then record x { here = hs; late = x.late + 1 }
    else if d then record x { here = hs }
    else if f then record x { here = hs; copied = x.copied + 1 }
    else record x { here = hs; late = x.late + 1 })
alike_lost x hs e true b c d f = record { after = refl; mirror = refl; seq = refl; owner = refl; stale = refl }
alike_lost x hs e false true c d f = record { after = refl; mirror = refl; seq = refl; owner = refl; stale = refl }
alike_lost x hs e false false true d f = record { after = refl; mirror = refl; seq = refl; owner = refl; stale = refl }
alike_lost x hs e false false false true f =
    record { after = refl; mirror = refl; seq = refl; owner = refl; stale = refl }
alike_lost x hs e false false false false true =
    record { after = refl; mirror = refl; seq = refl; owner = refl; stale = refl }
alike_lost x hs e false false false false false =
    record { after = refl; mirror = refl; seq = refl; owner = refl; stale = refl }

pub alike_erase : (device : ℕ → Option ℕ) (within : Bool) (ys : List Move) (t m v : ℕ) (x : Call)
    → Alike x (erased_by device within ys t m v x)
alike_erase device within ys t m v x = by_bool (list_any (is_slot m v) x.here)
  where
    by_bool : (b : Bool)
        → Alike x (if b then lost_by device within ys t (record x { here = drop_if (is_slot m v) x.here }) else x)
    by_bool true = alike_lost x (drop_if (is_slot m v) x.here) (x.erased || (x.thread == t)) (is_none x.after) within
        (not (own_by device x)) (is_some x.stale || not (x.thread == t)) (list_any (λ y. nat_lt x.at y.at) ys)
    by_bool false = same x

current_not : (t m : ℕ) (x : Call) → is_some x.after ≡ true → is_current t m x ≡ false
current_not t m x e = ap (λ b. (x.thread == t) && ((x.mirror == m) && b)) (none_false x.after e)
    ∙ (ap (λ b. (x.thread == t) && b) (and_false (x.mirror == m)) ∙ and_false (x.thread == t))

pub alike_return : (i q : ℕ) (cs : List Call) (ys : List Move) (t m : ℕ) (x : Call) → is_some x.after ≡ true
    → Alike x (returned_in i q cs ys t m x)
alike_return i q cs ys t m x e = subst (λ b. Alike x (if b
    then returned_by i q (count_by (λ y. (y.mirror == m) && (y.seq == x.seq)) cs == 1)
    (list_any (is_placing x.span) ys) x
    else x)) (sym (current_not t m x e)) (same x)

-- ---- callbacks that last

returned : (x : Call) → is_lasting x ≡ true → is_some x.after ≡ true
returned x e = (and_parts (is_some x.after) (is_none x.owner || is_some x.stale) e).0

lasting_alike : (x y : Call) → Alike x y → is_lasting x ≡ true → is_lasting y ≡ true
lasting_alike x y h e = ap (λ b. b && (is_none y.owner || is_some y.stale)) h.after
    ∙ (ap (λ o. is_some x.after && (is_none o || is_some y.stale)) h.owner
    ∙ (ap (λ z. is_some x.after && (is_none x.owner || is_some z)) h.stale ∙ e))

below_alike : (f : ℕ → ℕ) (x y : Call) → Alike x y → IsBelow f x → IsBelow f y
below_alike f x y h s = record {
  returned = h.after ∙ s.returned;
  seq = subst (λ n. n ≤ f y.mirror) (sym h.seq) (subst (λ m. x.seq ≤ f m) (sym h.mirror) s.seq);
}

-- the first n last, and the first k are below
abbrev pub Lasts : (ℕ → ℕ) → ℕ → ℕ → List Call → Type 0
Lasts f n k xs = First (λ x. is_lasting x ≡ true) n xs × First (IsBelow f) k xs

pub lasts_mapped : (f : ℕ → ℕ) (g : Call → Call) → ((x : Call) → is_some x.after ≡ true → Alike x (g x)) → (n k : ℕ)
    (xs : List Call)
    → Lasts f n k xs → Lasts f n k (map g xs)
lasts_mapped f g h n k xs s = (
  first_mapped (λ x. is_lasting x ≡ true) g
      (λ x e. lasting_alike x (g x) (h x (returned x e)) e) n xs s.0,
  first_mapped (IsBelow f) g (λ x e. below_alike f x (g x) (h x e.returned) e) k xs s.1,
)

pub lasts_pushed : (f : ℕ → ℕ) (n k : ℕ) (xs ys : List Call) → Lasts f n k xs → Lasts f n k (xs ++ ys)
lasts_pushed f n k xs ys s = (first_pushed (λ x. is_lasting x ≡ true) n xs ys s.0, first_pushed (IsBelow f) k xs ys s.1)

pub lasts_filtered : (f : ℕ → ℕ) (t m n k : ℕ) (xs : List Call) → Lasts f n k xs
    → Lasts f n k (drop_if (is_current t m) xs)
lasts_filtered f t m n k xs s = (
  first_filtered (λ x. is_lasting x ≡ true) (λ x. not (is_current t m x))
      (λ x e. ap not (current_not t m x (returned x e))) n xs s.0,
  first_filtered (IsBelow f) (λ x. not (is_current t m x)) (λ x e. ap not (current_not t m x e.returned)) k xs s.1,
)

-- ---- migrations

not_own : (device : Option ℕ) (o : Option ℕ) (a b c : Bool) → (is_none o || b) ≡ true
    → (a && ((elim o as (λ o. Bool) [ None ↦ false | Some d ↦ is_it device d ]) && (not b && c))) ≡ false
not_own device None a b c e = and_false a
not_own device (Some d) a b c e = ap (λ z. a && (is_it device d && (not z && c))) e
    ∙ (ap (λ z. a && z) (and_false (is_it device d)) ∙ and_false a)

none_some : {X : Type 0} → (o : Option X) → is_none o ≡ not (is_some o)
none_some None = refl
none_some (Some x) = refl

pub paged_same : (device : ℕ → Option ℕ) (t : ℕ) (y : Move) (x : Call) → is_lasting x ≡ true → paged_by device t y x ≡ x
paged_same device t y x e = let own = (and_parts (is_some x.after) (is_none x.owner || is_some x.stale) e).1 in
    let rest = nat_lt x.at y.at && overlap y.span x.span in
    ap (λ b. if b then record x {
      stale = Some (filter (λ s. list_any (λ u. u.0 == s.page) y.source) x.here, y.to_device);
    } else x) (ap (λ z. (x.thread == t) && (own_by device x && (z && rest))) (none_some x.stale)
    ∙ not_own (device x.mirror) x.owner (x.thread == t) (is_some x.stale) rest own)

below_paged : (f : ℕ → ℕ) (device : ℕ → Option ℕ) (t : ℕ) (y : Move) (x : Call) → IsBelow f x
    → IsBelow f (paged_by device t y x)
below_paged f device t y x s = by_bool _ _
  where
    by_bool : (b : Bool) (z : Option (List Slot × Bool)) → IsBelow f (if b then record x { stale = z } else x)
    by_bool true z = record { returned = s.returned; seq = s.seq }
    by_bool false z = s

pub lasts_paged : (f : ℕ → ℕ) (device : ℕ → Option ℕ) (t : ℕ) (ys : List Move) (n k : ℕ) (xs : List Call)
    → Lasts f n k xs → Lasts f n k (paged_in device t ys xs)
lasts_paged f device t [] n k xs s = s
lasts_paged f device t (y ∷ ys) n k xs s = (
  first_mapped (λ x. is_lasting x ≡ true) (paged_by device t y)
      (λ x e. subst (λ z. is_lasting z ≡ true) (sym (paged_same device t y x e)) e) n xs s.0,
  first_mapped (IsBelow f) (paged_by device t y) (below_paged f device t y) k xs s.1,
)

-- ---- sequences

-- a higher one is new
pub below_not : (f : ℕ → ℕ) (m q : ℕ) (x : Call) → nat_lt (f m) q ≡ true → IsBelow f x → is_given m q x ≡ false
below_not f m q x l s = by_bool (x.mirror == m) refl
  where
    by_bool : (b : Bool) → (x.mirror == m) ≡ b → (b && (x.seq == q)) ≡ false
    by_bool true e = not_equal x.seq (f m) q l (subst (λ n. x.seq ≤ f n) (eqb-true x.mirror m e) s.seq)
    by_bool false e = refl

-- a mirror has a higher one
pub below_more : (f : ℕ → ℕ) (m q : ℕ) (x : Call) → f m ≤ q → IsBelow f x → IsBelow (with_at f m q) x
below_more f m q x l s = record { returned = s.returned; seq = by_bool (x.mirror == m) refl }
  where
    by_bool : (b : Bool) → (x.mirror == m) ≡ b → x.seq ≤ (if b then q else f x.mirror)
    by_bool true e = le_trans (subst (λ n. x.seq ≤ f n) (eqb-true x.mirror m e) s.seq) l
    by_bool false e = s.seq

-- that of a callback of its own
pub below_one : (f : ℕ → ℕ) (q : ℕ) (x : Call) → is_some x.after ≡ true → x.seq ≤ q
    → IsBelow (with_at f x.mirror q) x
below_one f q x e l = record { returned = e; seq = subst (λ b. x.seq ≤ (if b then q else f x.mirror)) (sym (eqb_same x.mirror)) l }
  where
    eqb_same : (n : ℕ) → (n == n) ≡ true
    eqb_same n = eq-eqb n n refl
