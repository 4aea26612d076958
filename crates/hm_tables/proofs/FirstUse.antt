-- The first use of a list that passes is the lowest page whose mark passes.
use Rattle.std.proofs.Common.{◌≡◌, ℕ, Bool, true, false, ◌&&◌, ◌||◌, eqb, ltb, cond, Option, Some, None, is_some, option_map, List, [], ◌∷◌, refl, sym, ap, ◌∙◌, arith}
use Rattle.std.specs.Prelude.{find}
use Rattle.std.proofs.lemmas.Bool.Decides.{nat_tests}
use Rattle.std.proofs.lemmas.Bool.{and_parts}
use Rattle.rev_maps.specs.declared.uses.Use.{Use}
use Rattle.rev_maps.specs.Uses.{precedes, is_by, all_after, is_rising, first_use}
use Rattle.rev_maps.proofs.Rising.{after_is_another}
use Rattle.hm_tables.specs.Values.{mark_by}
use Rattle.hm_tables.proofs.Marks.{mark_cons}
use Rattle.hm_tables.proofs.Lowest.{IsLowest, is_before, lowest_same}
use Rattle.hm_tables.proofs.Truths.{page_itself}

-- a use with a mark that passes
abbrev pub mark_passes : (Bool → Bool) → Option Bool → Bool
mark_passes test None = false
mark_passes test (Some moving) = test moving

after_before : (a b c d q u : ℕ) → (ltb a c || (eqb a c && ltb b d)) ≡ true → (eqb c q && eqb d u) ≡ true → is_before (a, b) q u ≡ true
after_before a b c d q u e f = grind (arith, nat_tests)

same_before : (a b q u : ℕ) → (eqb a q && eqb b u) ≡ true → is_before (a, b) q u ≡ true
same_before a b q u e = grind (arith, nat_tests)

-- pages of later uses come later
after_marked : (w : Use) (us : List Use) (q u : ℕ) → all_after w us ≡ true → is_some (mark_by q u us) ≡ true → is_before (w.proc, w.page) q u ≡ true
after_marked w [] q u h k = cc
after_marked w (n ∷ ns) q u h k = by (is_by q u n) refl (ap is_some (sym (mark_cons n ns q u)) ∙ k) (after_marked w ns q u (and_parts (precedes w n) (all_after w ns) h).1)
  where
    by : (b : Bool) → is_by q u n ≡ b → is_some (cond (is_by q u n) (Some n.moving) (mark_by q u ns)) ≡ true → (is_some (mark_by q u ns) ≡ true → is_before (w.proc, w.page) q u ≡ true) → is_before (w.proc, w.page) q u ≡ true
    by true e k r = after_before w.proc w.page n.proc n.page q u (and_parts (precedes w n) (all_after w ns) h).0 e
    by false e k r = r (ap (λ b. is_some (cond b (Some n.moving) (mark_by q u ns))) (sym e) ∙ k)

-- and no later use is by the same page
after_unmarked : (w : Use) (us : List Use) (q u : ℕ) → is_by q u w ≡ true → all_after w us ≡ true → mark_by q u us ≡ None
after_unmarked w [] q u e h = refl
after_unmarked w (n ∷ ns) q u e h =
    mark_cons n ns q u
    ∙ ap (λ b. cond b (Some n.moving) (mark_by q u ns)) (after_is_another q u w n (and_parts (precedes w n) (all_after w ns) h).0 e)
    ∙ after_unmarked w ns q u e (and_parts (precedes w n) (all_after w ns) h).1

passing_some : (test : Bool → Bool) (m : Option Bool) → mark_passes test m ≡ true → is_some m ≡ true
passing_some test None h = h
passing_some test (Some b) h = refl

pub first_lowest : (test : Bool → Bool) (us : List Use) → is_rising us ≡ true → IsLowest (λ q u. mark_passes test (mark_by q u us)) (first_use (λ u. test u.moving) us)
first_lowest test [] h = λ q u. refl
first_lowest test (w ∷ ws) h = by (test w.moving) refl (first_lowest test ws (and_parts (all_after w ws) (is_rising ws) h).1)
  where
    after : all_after w ws ≡ true
    after = (and_parts (all_after w ws) (is_rising ws) h).0

    mark_here : (q u : ℕ) → is_by q u w ≡ true → mark_by q u (w ∷ ws) ≡ Some w.moving
    mark_here q u e = mark_cons w ws q u ∙ ap (λ b. cond b (Some w.moving) (mark_by q u ws)) e

    mark_past : (q u : ℕ) → is_by q u w ≡ false → mark_by q u (w ∷ ws) ≡ mark_by q u ws
    mark_past q u e = mark_cons w ws q u ∙ ap (λ b. cond b (Some w.moving) (mark_by q u ws)) e

    least : (q u : ℕ) → mark_passes test (mark_by q u (w ∷ ws)) ≡ true → (b : Bool) → is_by q u w ≡ b → is_before (w.proc, w.page) q u ≡ true
    least q u k true e = same_before w.proc w.page q u e
    least q u k false e = after_marked w ws q u after (passing_some test (mark_by q u ws) (ap (mark_passes test) (sym (mark_past q u e)) ∙ k))

    skipped : test w.moving ≡ false → (q u : ℕ) (b : Bool) → is_by q u w ≡ b → mark_passes test (mark_by q u ws) ≡ mark_passes test (mark_by q u (w ∷ ws))
    skipped t q u true e = ap (mark_passes test) (after_unmarked w ws q u e after) ∙ sym t ∙ ap (mark_passes test) (sym (mark_here q u e))
    skipped t q u false e = ap (mark_passes test) (sym (mark_past q u e))

    by : (b : Bool) → test w.moving ≡ b → IsLowest (λ q u. mark_passes test (mark_by q u ws)) (first_use (λ u. test u.moving) ws) →
        IsLowest (λ q u. mark_passes test (mark_by q u (w ∷ ws))) (option_map (λ (u : Use). (u.proc, u.page)) (cond b (Some w) (find (λ (u : Use). test u.moving) ws)))
    by true t r = (ap (mark_passes test) (mark_here w.proc w.page (page_itself w.proc w.page)) ∙ t, λ q u k. least q u k (is_by q u w) refl)
    by false t r = lowest_same (λ q u. mark_passes test (mark_by q u ws)) (λ q u. mark_passes test (mark_by q u (w ∷ ws))) (λ q u. skipped t q u (is_by q u w) refl) (first_use (λ u. test u.moving) ws) r
