-- Areas stay few, and in order.
use Rattle.std.proofs.Common.{append_assoc}
use Rattle.std.proofs.Common.{◌≡◌, ℕ, ◌+◌, ◌-◌, ◌^◌, ◌<◌, ◌≤◌, Bool, true, false, ◌==◌, ◌&&◌, ◌||◌, nat_lt, nat_le, if◌then◌else◌, not, is_none, Option, Some, None, List, [], ◌∷◌, ◌++◌, refl, ap, ◌∙◌, arith, length, min, max}
use Rattle.std.proofs.lemmas.Bool.Decides.{nat_tests}
use Rattle.std.proofs.lemmas.Bool.{and_parts, and_from}
use Rattle.hm_base.specs.Pages.{Pages, overlap}
use Rattle.hm_base.specs.declared.cause.Cause.{Cause}
use Rattle.hm_base.specs.Areas.{last_of, part, inside, behind, without, with_rights, with_area, meets}
use Rattle.hm_base.specs.Program.{Program}
use Rattle.hm_base.specs.declared.area.Area.{Area}
use Rattle.hm_base.specs.declared.ops.Rights.{Rights}
use Rattle.hm_base.specs.declared.ops.Op.{Op}
use Rattle.hm_history.specs.Memory.Words.{with_at}
use Rattle.hm_history.specs.Memory.Plain.{Plain, area_refusal}
use Rattle.hm_history.specs.declared.phases.Migrating.{Migrating}
use Rattle.hm_history.specs.declared.phases.Phase.{Phase}
use Rattle.hm_history.specs.Memory.After.{After}
use Rattle.hm_history.specs.declared.Kind.{Kind}
use Rattle.hm_laws.specs.Past.{Past}
use Rattle.hm_laws.specs.Allowed.{next, Allowed}
use Rattle.hm_history.specs.Memory.Plain.{all_mapped}
use Rattle.hm_laws.proofs.Due.Good.{Fair}
use Rattle.std.proofs.Common.{min, max}
use Rattle.hm_laws.specs.Order.{rising, OrderRules}
use Rattle.hm_laws.proofs.Kept.AreaCuts.{no_meet}
use Rattle.hm_base.proofs.Shared.{length_with_area}

rising_later : (from later : ℕ) (as_ : List Area) → from ≤ later → rising later as_ ≡ true → rising from as_ ≡ true
rising_later from later [] l h = refl
rising_later from later (a ∷ as_) l h = and_from (nat_le from a.span.first) _ (less a.span.first (and_parts (nat_le later a.span.first) _ h).0) (and_parts (nat_le later a.span.first) _ h).1
  where
    less : (n : ℕ) → nat_le later n ≡ true → nat_le from n ≡ true
    less n h = grind (arith, nat_tests)

-- a part before areas that rise
rising_part : (from m n k : ℕ) (w : Rights) (rest : List Area) → from ≤ m → from ≤ k → n ≤ k → n ≤ 2 ^ 36 → rising k rest ≡ true → rising from (part m n w ++ rest) ≡ true
rising_part from m n k w rest l lk nk e h = by (nat_lt m n) refl
  where
    goal : nat_lt m n ≡ true → (nat_le from m && (nat_lt 0 (n - m) && (nat_le (m + (n - m)) (2 ^ 36) && rising (m + (n - m)) rest))) ≡ true
    goal i = and_from (nat_le from m) _ (grind (arith, nat_tests)) (and_from (nat_lt 0 (n - m)) _ (grind (arith, nat_tests)) (and_from (nat_le (m + (n - m)) (2 ^ 36)) _ (ends i) (rising_later (m + (n - m)) k rest (upto i) h)))
      where
        whole : nat_lt m n ≡ true → m + (n - m) ≡ n
        whole i = grind (arith, nat_tests)

        ends : nat_lt m n ≡ true → nat_le (m + (n - m)) (2 ^ 36) ≡ true
        ends i = ap (λ j. nat_le j (2 ^ 36)) (whole i) ∙ at n e
          where
            at : (n : ℕ) → n ≤ 2 ^ 36 → nat_le n (2 ^ 36) ≡ true
            at n e = grind (arith, nat_tests)

        upto : nat_lt m n ≡ true → m + (n - m) ≤ k
        upto i = omega (arith, whole i)

    by : (b : Bool) → nat_lt m n ≡ b → rising from ((if b then record { span = record { first = m; count = n - m }; rights = w } ∷ [] else []) ++ rest) ≡ true
    by true i = goal i
    by false i = rising_later from k rest lk h

cut_ends : (a : Area) (from : ℕ) (as_ : List Area) → rising from (a ∷ as_) ≡ true → (from ≤ a.span.first) × (last_of a.span ≤ 2 ^ 36) × (rising (last_of a.span) as_ ≡ true)
cut_ends a from as_ h = (grind (arith, nat_tests), grind (arith, nat_tests), grind (arith, nat_tests))

pub rising_without : (r : Pages) (from : ℕ) (as_ : List Area) → rising from as_ ≡ true → rising from (without r as_) ≡ true
rising_without r from [] h = refl
rising_without r from (a ∷ as_) h = rw append_assoc (rising_part from a.span.first (min (last_of a.span) r.first) (min (last_of a.span) (max a.span.first (last_of r))) a.rights (behind r a ++ without r as_) e.0 (omega (arith, e.0)) (omega arith) (omega (arith, e.1))
    (rising_part (min (last_of a.span) (max a.span.first (last_of r))) (max a.span.first (last_of r)) (last_of a.span) (last_of a.span) a.rights (without r as_) (omega arith) (omega arith) (omega arith) e.1 (rising_without r (last_of a.span) as_ e.2)))
  where
    e : (from ≤ a.span.first) × (last_of a.span ≤ 2 ^ 36) × (rising (last_of a.span) as_ ≡ true)
    e = cut_ends a from as_ h

pub rising_with : (r : Pages) (w : Rights) (from : ℕ) (as_ : List Area) → rising from as_ ≡ true → rising from (with_rights r w as_) ≡ true
rising_with r w from [] h = refl
rising_with r w from (a ∷ as_) h = rw (append_assoc, append_assoc) (rising_part from a.span.first (min (last_of a.span) r.first) (min (last_of a.span) (max a.span.first r.first)) a.rights (inside r w a ++ (behind r a ++ with_rights r w as_)) e.0 (omega (arith, e.0)) (omega arith) (omega (arith, e.1))
    (rising_part (min (last_of a.span) (max a.span.first r.first)) (max a.span.first r.first) (min (last_of a.span) (last_of r)) (min (last_of a.span) (max a.span.first (last_of r))) w (behind r a ++ with_rights r w as_) (omega arith) (omega arith) (omega arith) (omega (arith, e.1))
    (rising_part (min (last_of a.span) (max a.span.first (last_of r))) (max a.span.first (last_of r)) (last_of a.span) (last_of a.span) a.rights (with_rights r w as_) (omega arith) (omega arith) (omega arith) e.1 (rising_with r w (last_of a.span) as_ e.2))))
  where
    e : (from ≤ a.span.first) × (last_of a.span ≤ 2 ^ 36) × (rising (last_of a.span) as_ ≡ true)
    e = cut_ends a from as_ h

pub rising_with_area : (n : Area) (from : ℕ) (as_ : List Area) → from ≤ n.span.first → 1 ≤ n.span.count → last_of n.span ≤ 2 ^ 36 → meets n.span as_ ≡ false → rising from as_ ≡ true → rising from (with_area n as_) ≡ true
rising_with_area n from [] l c e m r = grind (arith, nat_tests)
rising_with_area n from (a ∷ as_) l c e m r = by (rising_with_area n (last_of a.span) as_) (overlap a.span n.span) refl (meets n.span as_) refl m (nat_lt n.span.first a.span.first) refl (rising (last_of a.span) as_) refl
  where
    by : (last_of a.span ≤ n.span.first → 1 ≤ n.span.count → last_of n.span ≤ 2 ^ 36 → meets n.span as_ ≡ false → rising (last_of a.span) as_ ≡ true → rising (last_of a.span) (with_area n as_) ≡ true) →
        (x : Bool) → overlap a.span n.span ≡ x → (y : Bool) → meets n.span as_ ≡ y → (x || y) ≡ false → (z : Bool) → nat_lt n.span.first a.span.first ≡ z → (w : Bool) → rising (last_of a.span) as_ ≡ w → rising from (if z then n ∷ (a ∷ as_) else (a ∷ with_area n as_)) ≡ true
    by ih x ex y ey k true ez w ew = grind (arith, nat_tests)
    by ih x ex y ey k false ez w ew = grind (arith, nat_tests)

-- after an entry
each_area : (areas : ℕ → List Area) (p : ℕ) (xs : List Area) → OrderRules areas → length xs ≤ 64 → rising 0 xs ≡ true → OrderRules (with_at areas p xs)
each_area areas p xs h l r = record { few = λ q. few q (q == p); in_order = λ q. order q (q == p) }
  where
    few : (q : ℕ) (b : Bool) → length (if b then xs else areas q) ≤ 64
    few q true = l
    few q false = h.few q

    order : (q : ℕ) (b : Bool) → rising 0 (if b then xs else areas q) ≡ true
    order q true = r
    order q false = h.in_order q

refused_not : (s : Plain) (p : ℕ) (o : Op) → (s.there p && is_none (area_refusal s o)) ≡ true → area_refusal s o ≡ None
refused_not s p o h = by (s.there p) (area_refusal s o) h
  where
    by : (b : Bool) (x : Option Cause) → (b && is_none x) ≡ true → x ≡ None
    by true None k = refl
    by true (Some why) k = cc
    by false x k = cc

fits_areas : (n : ℕ) → ◌≡◌ {A = Option Cause} (if nat_le n 64 then None else Some Cause.TooManyAreas) None → n ≤ 64
fits_areas n h = by (nat_le n 64) refl h
  where
    by : (b : Bool) → nat_le n 64 ≡ b → ◌≡◌ {A = Option Cause} (if b then None else Some Cause.TooManyAreas) None → n ≤ 64
    by true e k = grind (arith, nat_tests)
    by false e k = cc

mapped_areas : (s : Plain) (p : ℕ) (r : Pages) (w : Rights) → area_refusal s (Op.Map p r w) ≡ None → length (s.areas p) < 64
mapped_areas s p r w h = by (meets r (s.areas p)) (nat_lt (length (s.areas p)) 64) refl h
  where
    by : (b d : Bool) → nat_lt (length (s.areas p)) 64 ≡ d → ◌≡◌ {A = Option Cause} (if b then Some Cause.Overlap else if d then None else Some Cause.TooManyAreas) None → length (s.areas p) < 64
    by true d e k = cc
    by false true e k = grind (arith, nat_tests)
    by false false e k = cc

protected_areas : (s : Plain) (p : ℕ) (r : Pages) (w : Rights) → area_refusal s (Op.Protect p r w) ≡ None → length (with_rights r w (s.areas p)) ≤ 64
protected_areas s p r w h = by (all_mapped r (s.areas p)) h
  where
    by : (b : Bool) → ◌≡◌ {A = Option Cause} (if not b then Some Cause.Unmapped else if nat_le (length (with_rights r w (s.areas p))) 64 then None else Some Cause.TooManyAreas) None → length (with_rights r w (s.areas p)) ≤ 64
    by true k = fits_areas (length (with_rights r w (s.areas p))) k
    by false k = cc

pub order_kept : (c : Program) (s : After) (t : Past) (a : ℕ) (o : Op) (xs : List Migrating) (top : Phase) (k : Kind) → Allowed c s t a k → Fair c s a o xs k top → OrderRules s.plain.areas → OrderRules (next s a k).plain.areas
order_kept c s t a o xs top (Kind.Mapped p r w) ok fair h = each_area s.plain.areas p _ h (omega (arith, length_with_area (record { span = r; rights = w }) (s.plain.areas p), mapped_areas s.plain p r w (refused_not s.plain p (Op.Map p r w) ok.2)))
    (rising_with_area (record { span = r; rights = w }) 0 (s.plain.areas p) (omega arith) fair ok.3 (no_meet s.plain p r w ok.2) (h.in_order p))
order_kept c s t a o xs top (Kind.Unmapped p r) ok fair h = each_area s.plain.areas p _ h (fits_areas (length (without r (s.plain.areas p))) (refused_not s.plain p (Op.Unmap p r) ok.3)) (rising_without r 0 (s.plain.areas p) (h.in_order p))
order_kept c s t a o xs top (Kind.Protected p r w) ok fair h = each_area s.plain.areas p _ h (protected_areas s.plain p r w (refused_not s.plain p (Op.Protect p r w) ok.3)) (rising_with r w 0 (s.plain.areas p) (h.in_order p))
order_kept c s t a o xs top (Kind.Forked p d) ok fair h = each_area s.plain.areas d _ h (h.few p) (h.in_order p)
order_kept c s t a o xs top (Kind.Exited p) ok fair h = each_area s.plain.areas p [] h (omega arith) refl
order_kept c s t a o xs top k ok fair h = h
