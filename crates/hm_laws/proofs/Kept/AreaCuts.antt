-- What a process's areas allow after an entry that changes them.
use Rattle.std.proofs.Common.{◌≡◌, ℕ, Bool, true, false, ◌&&◌, ◌||◌, nat_lt, nat_le, if◌then◌else◌, is_some, is_none, Option, Some, None, List, [], ◌∷◌, ◌++◌, refl, ap, ◌∙◌, arith, find, cond, option_map, length, min, max}
use Rattle.std.proofs.lemmas.Bool.Decides.{nat_tests}
use Rattle.hm_base.specs.Pages.{Pages, covers, overlap}
use Rattle.hm_base.specs.declared.cause.Cause.{Cause}
use Rattle.hm_base.specs.Areas.{last_of, part, before, inside, behind, without, with_rights, with_area, meets, rights_at}
use Rattle.hm_base.specs.declared.area.Area.{Area}
use Rattle.hm_base.specs.declared.ops.Rights.{Rights}
use Rattle.hm_history.specs.Memory.Plain.{Plain, plain_accepts}
use Rattle.hm_history.specs.declared.Kind.{Kind}

abbrev or_else : Option Rights → Option Rights → Option Rights
or_else None y = y
or_else (Some x) y = Some x

rights_append : (xs ys : List Area) (v : ℕ) → rights_at (xs ++ ys) v ≡ or_else (rights_at xs v) (rights_at ys v)
rights_append [] ys v = refl
rights_append (x ∷ xs) ys v = by (covers x.span v) (rights_append xs ys v)
  where
    by : (b : Bool) → rights_at (xs ++ ys) v ≡ or_else (rights_at xs v) (rights_at ys v) →
        option_map (λ a. a.rights) (cond b (Some x) (find (λ a. covers a.span v) (xs ++ ys))) ≡ or_else (option_map (λ a. a.rights) (cond b (Some x) (find (λ a. covers a.span v) xs))) (rights_at ys v)
    by true ih = refl
    by false ih = ih

rights_part : (from upto : ℕ) (r : Rights) (v : ℕ) → rights_at (part from upto r) v ≡ (if nat_le from v && nat_lt v upto then Some r else None)
rights_part from upto r v = grind (arith, nat_tests)

rights_before : (r : Pages) (a : Area) (v : ℕ) → rights_at (before r a) v ≡ (if covers a.span v && nat_lt v r.first then Some a.rights else None)
rights_before r a v = rights_part a.span.first (min (last_of a.span) r.first) a.rights v ∙ ap (λ b. if b then Some a.rights else None) (grind (arith, nat_tests))

rights_inside : (r : Pages) (w : Rights) (a : Area) (v : ℕ) → rights_at (inside r w a) v ≡ (if covers a.span v && covers r v then Some w else None)
rights_inside r w a v = rights_part (max a.span.first r.first) (min (last_of a.span) (last_of r)) w v ∙ ap (λ b. if b then Some w else None) (grind (arith, nat_tests))

rights_behind : (r : Pages) (a : Area) (v : ℕ) → rights_at (behind r a) v ≡ (if covers a.span v && nat_le (last_of r) v then Some a.rights else None)
rights_behind r a v = rights_part (max a.span.first (last_of r)) (last_of a.span) a.rights v ∙ ap (λ b. if b then Some a.rights else None) (grind (arith, nat_tests))

pub rights_without : (r : Pages) (as_ : List Area) (v : ℕ) → rights_at (without r as_) v ≡ (if covers r v then None else rights_at as_ v)
rights_without r [] v = grind (arith, nat_tests)
rights_without r (a ∷ as_) v = rights_append (before r a ++ behind r a) (without r as_) v
    ∙ ap (λ x. or_else x (rights_at (without r as_) v)) (rights_append (before r a) (behind r a) v)
    ∙ at (rights_at (before r a) v) (rights_before r a v) (rights_at (behind r a) v) (rights_behind r a v) (rights_at (without r as_) v) (rights_without r as_ v) (find (λ x. covers x.span v) as_)
  where
    at : (x : Option Rights) → x ≡ (if covers a.span v && nat_lt v r.first then Some a.rights else None) → (y : Option Rights) → y ≡ (if covers a.span v && nat_le (last_of r) v then Some a.rights else None) →
        (z : Option Rights) → z ≡ (if covers r v then None else rights_at as_ v) → (u : Option Area) → or_else (or_else x y) z ≡ (if covers r v then None else rights_at (a ∷ as_) v)
    at x ex y ey z ez u = rw (ex, ey, ez) (tests (covers a.span v) refl (nat_lt v r.first) refl (nat_le (last_of r) v) refl (covers r v) refl)
      where
        tests : (b : Bool) → covers a.span v ≡ b → (l : Bool) → nat_lt v r.first ≡ l → (h : Bool) → nat_le (last_of r) v ≡ h → (d : Bool) → covers r v ≡ d →
            or_else (or_else (if b && l then Some a.rights else None) (if b && h then Some a.rights else None)) (if d then None else rights_at as_ v) ≡ (if d then None else option_map (λ x. x.rights) (cond b (Some a) (find (λ x. covers x.span v) as_)))
        tests false eb l el h eh true ed = refl
        tests false eb l el h eh false ed = refl
        tests true eb true el h eh false ed = refl
        tests true eb false el true eh false ed = refl
        tests true eb false el false eh true ed = refl
        tests true eb true el h eh true ed = grind (arith, nat_tests)
        tests true eb false el true eh true ed = grind (arith, nat_tests)
        tests true eb false el false eh false ed = grind (arith, nat_tests)

pub rights_with : (r : Pages) (w : Rights) (as_ : List Area) (v : ℕ) → rights_at (with_rights r w as_) v ≡ (if covers r v && is_some (rights_at as_ v) then Some w else rights_at as_ v)
rights_with r w [] v = grind (arith, nat_tests)
rights_with r w (a ∷ as_) v = rights_append (before r a ++ (inside r w a ++ behind r a)) (with_rights r w as_) v
    ∙ ap (λ x. or_else x (rights_at (with_rights r w as_) v)) (rights_append (before r a) (inside r w a ++ behind r a) v ∙ ap (or_else (rights_at (before r a) v)) (rights_append (inside r w a) (behind r a) v))
    ∙ at (rights_at (before r a) v) (rights_before r a v) (rights_at (inside r w a) v) (rights_inside r w a v) (rights_at (behind r a) v) (rights_behind r a v) (rights_at (with_rights r w as_) v) (rights_with r w as_ v)
  where
    at : (x : Option Rights) → x ≡ (if covers a.span v && nat_lt v r.first then Some a.rights else None) → (i : Option Rights) → i ≡ (if covers a.span v && covers r v then Some w else None) →
        (y : Option Rights) → y ≡ (if covers a.span v && nat_le (last_of r) v then Some a.rights else None) →
        (z : Option Rights) → z ≡ (if covers r v && is_some (rights_at as_ v) then Some w else rights_at as_ v) → or_else (or_else x (or_else i y)) z ≡ (if covers r v && is_some (rights_at (a ∷ as_) v) then Some w else rights_at (a ∷ as_) v)
    at x ex i ei y ey z ez = rw (ex, ei, ey, ez) (tests (covers a.span v) refl (nat_lt v r.first) refl (nat_le (last_of r) v) refl (covers r v) refl)
      where
        tests : (b : Bool) → covers a.span v ≡ b → (l : Bool) → nat_lt v r.first ≡ l → (h : Bool) → nat_le (last_of r) v ≡ h → (d : Bool) → covers r v ≡ d →
            or_else (or_else (if b && l then Some a.rights else None) (or_else (if b && d then Some w else None) (if b && h then Some a.rights else None))) (if d && is_some (rights_at as_ v) then Some w else rights_at as_ v) ≡
            (if d && is_some (option_map (λ x. x.rights) (cond b (Some a) (find (λ x. covers x.span v) as_))) then Some w else option_map (λ x. x.rights) (cond b (Some a) (find (λ x. covers x.span v) as_)))
        tests false eb l el h eh true ed = refl
        tests false eb l el h eh false ed = refl
        tests true eb false el h eh true ed = refl
        tests true eb true el h eh false ed = refl
        tests true eb false el true eh false ed = refl
        tests true eb true el h eh true ed = grind (arith, nat_tests)
        tests true eb false el false eh false ed = grind (arith, nat_tests)

-- a new area, where none was
found_after : (n : Area) (as_ : List Area) (v : ℕ) → meets n.span as_ ≡ false → find (λ a. covers a.span v) (with_area n as_) ≡ (if covers n.span v then Some n else find (λ a. covers a.span v) as_)
found_after n [] v m = refl
found_after n (a ∷ as_) v m = by (found_after n as_ v) (overlap a.span n.span) refl (meets n.span as_) refl m (nat_lt n.span.first a.span.first)
  where
    by : (meets n.span as_ ≡ false → find (λ a. covers a.span v) (with_area n as_) ≡ (if covers n.span v then Some n else find (λ a. covers a.span v) as_)) → (b : Bool) → overlap a.span n.span ≡ b → (d : Bool) → meets n.span as_ ≡ d → (b || d) ≡ false → (t : Bool) → find (λ a. covers a.span v) (if t then n ∷ (a ∷ as_) else (a ∷ with_area n as_)) ≡ (if covers n.span v then Some n else find (λ a. covers a.span v) (a ∷ as_))
    by ih true e d ed k t = cc
    by ih false e true ed k t = cc
    by ih false e false ed k true = refl
    by ih false e false ed k false = rw (ih ed) (apart (covers a.span v) refl (covers n.span v) refl (find (λ a. covers a.span v) as_))
      where
        apart : (x : Bool) → covers a.span v ≡ x → (y : Bool) → covers n.span v ≡ y → (z : Option Area) → cond x (Some a) (if y then Some n else z) ≡ (if y then Some n else cond x (Some a) z)
        apart true ex true ey z = grind (arith, nat_tests)
        apart true ex false ey z = refl
        apart false ex y ey z = refl

none_found : (r : Pages) (as_ : List Area) (v : ℕ) → meets r as_ ≡ false → covers r v ≡ true → find (λ a. covers a.span v) as_ ≡ None
none_found r [] v m c = refl
none_found r (a ∷ as_) v m c = by (λ k. none_found r as_ v k c) (overlap a.span r) refl (meets r as_) refl m
  where
    by : (meets r as_ ≡ false → find (λ a. covers a.span v) as_ ≡ None) → (b : Bool) → overlap a.span r ≡ b → (d : Bool) → meets r as_ ≡ d → (b || d) ≡ false → find (λ a. covers a.span v) (a ∷ as_) ≡ None
    by ih true e d ed k = cc
    by ih false e true ed k = cc
    by ih false e false ed k = rw (ih ed) (out (covers a.span v) refl)
      where
        out : (x : Bool) → covers a.span v ≡ x → cond x (Some a) None ≡ None
        out true ex = grind (arith, nat_tests)
        out false ex = refl

pub rights_added : (as_ : List Area) (r : Pages) (w : Rights) (v : ℕ) → meets r as_ ≡ false → rights_at (with_area (record { span = r; rights = w }) as_) v ≡ (if covers r v then Some w else rights_at as_ v)
rights_added as_ r w v m = grind (arith, nat_tests, found_after (record { span = r; rights = w }) as_ v m)

pub rights_none : (as_ : List Area) (r : Pages) (v : ℕ) → meets r as_ ≡ false → covers r v ≡ true → rights_at as_ v ≡ None
rights_none as_ r v m c = ap (option_map (λ a. a.rights)) (none_found r as_ v m c)

-- a span that may be mapped meets no area
pub no_meet : (s : Plain) (p : ℕ) (r : Pages) (w : Rights) → plain_accepts s (Kind.Mapped p r w) ≡ true → meets r (s.areas p) ≡ false
no_meet s p r w h = by (s.there p) (meets r (s.areas p)) h
  where
    by : (t b : Bool) → (t && is_none {T = Cause} (if b then Some Cause.Overlap else if nat_lt (length (s.areas p)) 64 then None else Some Cause.TooManyAreas)) ≡ true → b ≡ false
    by true true k = cc
    by false true k = cc
    by t false k = refl
