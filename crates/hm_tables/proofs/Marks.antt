-- Which pages a list of uses has, and their marks, after a change.
use Rattle.std.proofs.Common.{◌≡◌, ℕ, suc, Bool, true, false, not, ◌&&◌, ◌||◌, eqb, cond, Some, None, is_some, option_map, List, [], ◌∷◌, length, refl, sym, ap, ◌∙◌, arith}
use Rattle.std.specs.Prelude.{find}
use Rattle.std.proofs.lemmas.Bool.Decides.{nat_tests}
use Rattle.std.proofs.lemmas.Bool.{and_parts, or_parts}
use Rattle.rev_maps.specs.declared.uses.Use.{Use}
use Rattle.rev_maps.specs.Uses.{precedes, is_by, has_use, all_after, is_rising, with_use, without_use, marked, with_moving}
use Rattle.hm_tables.specs.Values.{mark_by}
use Rattle.hm_history.proofs.Tests.{true_false}
use Rattle.rev_maps.proofs.Edits.{none_left}

pub has_is : (p v : ℕ) (us : List Use) → has_use p v us ≡ is_some (mark_by p v us)
has_is p v [] = refl
has_is p v (u ∷ us) = by (is_by p v u) (has_is p v us)
  where
    by : (b : Bool) → has_use p v us ≡ is_some (mark_by p v us) → (b || has_use p v us) ≡ is_some (option_map (λ (w : Use). w.moving) (cond b (Some u) (find (is_by p v) us)))
    by true h = refl
    by false h = h

pub mark_cons : (n : Use) (us : List Use) (q u : ℕ) → mark_by q u (n ∷ us) ≡ cond (is_by q u n) (Some n.moving) (mark_by q u us)
mark_cons n us q u = by (is_by q u n)
  where
    by : (b : Bool) → option_map (λ (w : Use). w.moving) (cond b (Some n) (find (is_by q u) us)) ≡ cond b (Some n.moving) (mark_by q u us)
    by true = refl
    by false = refl

-- two tests that do not both hold
swapped : {X : Type 0} (a b : Bool) (x y z : X) → (a ≡ true → b ≡ true → ⊥) → cond a x (cond b y z) ≡ cond b y (cond a x z)
swapped true true x y z apart = absurd (apart refl refl)
swapped true false x y z apart = refl
swapped false b x y z apart = refl

one_page : (a b c d q u : ℕ) → (eqb a q && eqb b u) ≡ true → (eqb c q && eqb d u) ≡ true → (eqb a c && eqb b d) ≡ true
one_page a b c d q u e f = grind (arith, nat_tests)

pub mark_with : (n : Use) (us : List Use) (q u : ℕ) → has_use n.proc n.page us ≡ false → mark_by q u (with_use n us) ≡ cond (is_by q u n) (Some n.moving) (mark_by q u us)
mark_with n [] q u h = mark_cons n [] q u
mark_with n (w ∷ ws) q u h = by (precedes n w) (mark_with n ws q u absent.1)
  where
    absent : (is_by n.proc n.page w ≡ false) × (has_use n.proc n.page ws ≡ false)
    absent = or_parts (is_by n.proc n.page w) (has_use n.proc n.page ws) h

    by : (b : Bool) → mark_by q u (with_use n ws) ≡ cond (is_by q u n) (Some n.moving) (mark_by q u ws) →
        mark_by q u (cond b (n ∷ (w ∷ ws)) (w ∷ with_use n ws)) ≡ cond (is_by q u n) (Some n.moving) (mark_by q u (w ∷ ws))
    by true r = mark_cons n (w ∷ ws) q u
    by false r =
        mark_cons w (with_use n ws) q u
        ∙ ap (cond (is_by q u w) (Some w.moving)) r
        ∙ swapped (is_by q u w) (is_by q u n) (Some w.moving) (Some n.moving) (mark_by q u ws)
        (λ e f. true_false (is_by n.proc n.page w) (one_page w.proc w.page n.proc n.page q u e f) absent.0)
        ∙ ap (cond (is_by q u n) (Some n.moving)) (sym (mark_cons w ws q u))

same_page : (a b p v q u : ℕ) → (eqb a p && eqb b v) ≡ true → (eqb q p && eqb u v) ≡ false → (eqb a q && eqb b u) ≡ false
same_page a b p v q u e f = grind (arith, nat_tests)

pages_meet : (a b p v q u : ℕ) → (eqb a q && eqb b u) ≡ true → (eqb q p && eqb u v) ≡ true → (eqb a p && eqb b v) ≡ true
pages_meet a b p v q u e f = grind (arith, nat_tests)

pub mark_without : (p v q u : ℕ) (us : List Use) → mark_by q u (without_use p v us) ≡ cond (eqb q p && eqb u v) None (mark_by q u us)
mark_without p v q u [] = by (eqb q p && eqb u v)
  where
    by : (b : Bool) → None ≡ cond b None (mark_by q u [])
    by true = refl
    by false = refl
mark_without p v q u (w ∷ ws) = by (is_by p v w) refl (mark_without p v q u ws)
  where
    here : (t : Bool) → (eqb q p && eqb u v) ≡ t → is_by p v w ≡ true → cond t None (mark_by q u ws) ≡ cond t None (mark_by q u (w ∷ ws))
    here true f e = refl
    here false f e = sym (mark_cons w ws q u ∙ ap (λ b. cond b (Some w.moving) (mark_by q u ws)) (same_page w.proc w.page p v q u e f))

    by : (b : Bool) → is_by p v w ≡ b → mark_by q u (without_use p v ws) ≡ cond (eqb q p && eqb u v) None (mark_by q u ws) →
        mark_by q u (cond (not b) (w ∷ without_use p v ws) (without_use p v ws)) ≡ cond (eqb q p && eqb u v) None (mark_by q u (w ∷ ws))
    by true e r = r ∙ here (eqb q p && eqb u v) refl e
    by false e r =
        mark_cons w (without_use p v ws) q u
        ∙ ap (cond (is_by q u w) (Some w.moving)) r
        ∙ swapped (is_by q u w) (eqb q p && eqb u v) (Some w.moving) None (mark_by q u ws)
        (λ f t. true_false (is_by p v w) (pages_meet w.proc w.page p v q u f t) e)
        ∙ ap (cond (eqb q p && eqb u v) None) (sym (mark_cons w ws q u))

pub length_without : (p v : ℕ) (us : List Use) → is_rising us ≡ true → has_use p v us ≡ true → suc (length (without_use p v us)) ≡ length us
length_without p v [] h t = cc
length_without p v (u ∷ us) h t = by (is_by p v u) refl t (length_without p v us (and_parts (all_after u us) (is_rising us) h).1)
  where
    by : (b : Bool) → is_by p v u ≡ b → (b || has_use p v us) ≡ true → (has_use p v us ≡ true → suc (length (without_use p v us)) ≡ length us) →
        suc (length (cond (not b) (u ∷ without_use p v us) (without_use p v us))) ≡ suc (length us)
    by true e t r = ap (λ l. suc (length l)) (none_left p v u us e (and_parts (all_after u us) (is_rising us) h).0)
    by false e t r = ap suc (r t)

-- after a use was marked
marked_page : (p v q u : ℕ) (w : Use) → is_by q u (marked p v w) ≡ is_by q u w
marked_page p v q u w = by (is_by p v w)
  where
    by : (b : Bool) → is_by q u (cond b (record w { moving = true }) w) ≡ is_by q u w
    by true = refl
    by false = refl

marked_moving : (p v : ℕ) (w : Use) → (marked p v w).moving ≡ cond (is_by p v w) true w.moving
marked_moving p v w = by (is_by p v w)
  where
    by : (b : Bool) → (cond b (record w { moving = true }) w).moving ≡ cond b true w.moving
    by true = refl
    by false = refl

same_tests : (a b p v q u : ℕ) → (eqb a q && eqb b u) ≡ true → (eqb a p && eqb b v) ≡ (eqb q p && eqb u v)
same_tests a b p v q u e = grind (arith, nat_tests)

pub mark_moving : (p v q u : ℕ) (us : List Use) → mark_by q u (with_moving p v us) ≡ cond (eqb q p && eqb u v) (option_map (λ b. true) (mark_by q u us)) (mark_by q u us)
mark_moving p v q u [] = by (eqb q p && eqb u v)
  where
    by : (t : Bool) → None ≡ cond t (option_map (λ b. true) (mark_by q u [])) (mark_by q u [])
    by true = refl
    by false = refl
mark_moving p v q u (w ∷ ws) =
    mark_cons (marked p v w) (with_moving p v ws) q u
    ∙ ap (λ b. cond b (Some (marked p v w).moving) (mark_by q u (with_moving p v ws))) (marked_page p v q u w)
    ∙ ap (λ m. cond (is_by q u w) (Some m) (mark_by q u (with_moving p v ws))) (marked_moving p v w)
    ∙ by (is_by q u w) refl (mark_moving p v q u ws)
    ∙ ap (λ m. cond (eqb q p && eqb u v) (option_map (λ b. true) m) m) (sym (mark_cons w ws q u))
  where
    here : (t : Bool) → Some (cond t true w.moving) ≡ cond t (option_map (λ b. true) (Some w.moving)) (Some w.moving)
    here true = refl
    here false = refl

    by : (b : Bool) → is_by q u w ≡ b → mark_by q u (with_moving p v ws) ≡ cond (eqb q p && eqb u v) (option_map (λ b. true) (mark_by q u ws)) (mark_by q u ws) →
        cond b (Some (cond (is_by p v w) true w.moving)) (mark_by q u (with_moving p v ws)) ≡
        cond (eqb q p && eqb u v) (option_map (λ b. true) (cond b (Some w.moving) (mark_by q u ws))) (cond b (Some w.moving) (mark_by q u ws))
    by true e r = ap (λ t. Some (cond t true w.moving)) (same_tests w.proc w.page p v q u e) ∙ here (eqb q p && eqb u v)
    by false e r = r
