-- Places that are kept.
use Rattle.std.proofs.Common.{◌≡◌, ℕ, ◌^◌, Bool, true, false, List, Option, Some, None, sym, refl, ap, subst}
use Rattle.std.specs.Prelude.{◌&&◌, nat_lt, unwrap_or}
use Rattle.hm_base.specs.declared.Place.{Place}
use Rattle.hm_race_keys.specs.Sparse.{found}
use Rattle.hm_race_keys.specs.PagePlaces.{places_in, may_keep, IsPlaced}
use Rattle.hm_race_keys.specs.declared.sparse.Item.{Item}

no_place : (c d : Bool) (x : Place) → (c && (d && false)) ≡ true → None ≡ Some x
no_place true true x e = cc
no_place true false x e = cc
no_place false d x e = cc

never : (p v : ℕ) (x : Place) → may_keep p v (Some x) ≡ true → Place.Empty ≡ x → None ≡ Some x
never p v x f h = no_place (nat_lt p 32) (nat_lt v (2 ^ 36)) x (subst (λ y. may_keep p v (Some y) ≡ true) (sym h) f)

-- two that may be kept and stand for the same place are the same
same_kept : (p v : ℕ) (a b : Option Place) → may_keep p v a ≡ true → may_keep p v b ≡ true → unwrap_or a Place.Empty ≡ unwrap_or b Place.Empty → a ≡ b
same_kept p v None None e f h = refl
same_kept p v None (Some x) e f h = never p v x f h
same_kept p v (Some x) None e f h = sym (never p v x e (sym h))
same_kept p v (Some x) (Some y) e f h = ap Some h

pub places_found : (xs ys : List (Item Place)) → IsPlaced xs → IsPlaced ys → ((p v : ℕ) → places_in xs p v ≡ places_in ys p v) → (r k : ℕ) → found xs r k ≡ found ys r k
places_found xs ys e f h r k = same_kept r k (found xs r k) (found ys r k) (e r k) (f r k) (h r k)
