-- What look-ups make of what is known, as the definitions have it.
use Rattle.std.proofs.Common.{refl, ap, sym, ◌∙◌}
use Rattle.std.proofs.Math.Path.{fun_ext}
use Rattle.std.proofs.lemmas.List.{append-nil}
use Rattle.std.specs.Prelude.{◌≡◌, ℕ, Bool, true, false, not, ◌&&◌, ◌||◌, ◌==◌, if◌then◌else◌, is_some, List, [], ◌∷◌, ◌++◌, filter}
use Rattle.std.specs.List.{list_any, list_all}
use Rattle.hm_protocol.specs.Words.{is_empty}
use Rattle.hm_protocol.specs.Known.{Call, Look, Known, goes_on, meets, no_look}
use Rattle.hm_protocol.specs.Noted.{give_up, is_walked, is_past}
use Rattle.hm_verdicts.specs.AllLooks.{with_look}
use Rattle.hm_verdicts.specs.Looking.{given_up_by, stale_by}
use Rattle.hm_verdicts.proofs.Filtered.{some_pass, any_of, all_of}

-- a look-up that is given up
pub given_up_is : (k : Known) (m : ℕ) (l : Look) → given_up_by k.calls m l ≡ give_up k m l
given_up_is k m l = ap (λ b. if is_walked l.stage && (is_some l.walked && (not l.set && b))
    then list_all (λ x. not (meets l m x) || is_past l x) k.calls ∷ [] else []) (sym (some_pass (meets l m) k.calls))
    ∙ ap (λ b. if is_walked l.stage && (is_some l.walked && (not l.set && not (is_empty (filter (meets l m) k.calls))))
    then b ∷ [] else []) (sym (all_of (meets l m) (is_past l) k.calls))

-- a commit that is stale
pub stale_is : (cs : List Call) (i m : ℕ) (l : Look) (xs : List (ℕ × Bool))
    → xs ++ stale_by cs i m l ≡ (if is_empty (filter (meets l m) cs) then xs
    else xs ++ (i, list_any goes_on (filter (meets l m) cs)) ∷ [])
stale_is cs i m l xs = ap (λ b. xs ++ (if b then (i, list_any (λ x. meets l m x && goes_on x) cs) ∷ [] else []))
    (sym (some_pass (meets l m) cs))
    ∙ (ap (λ b. xs ++ (if not (is_empty (filter (meets l m) cs)) then (i, b) ∷ [] else [])) (sym (any_of (meets l m) goes_on cs))
    ∙ by_bool (is_empty (filter (meets l m) cs)) (list_any goes_on (filter (meets l m) cs)))
  where
    by_bool : (b g : Bool) → xs ++ (if not b then (i, g) ∷ [] else []) ≡ (if b then xs else xs ++ (i, g) ∷ [])
    by_bool true g = append-nil xs
    by_bool false g = refl

-- what is taken away, changed and put back
pub look_back : (f g h : ℕ → ℕ → Look) (t m : ℕ) (l n : Look) → g ≡ with_look f t m no_look → h ≡ with_look g t m l → l ≡ n
    → h ≡ with_look f t m n
look_back f g h t m l n a b c = b ∙ (ap (λ g. with_look g t m l) a ∙ (twice ∙ ap (with_look f t m) c))
  where
    by_bool : (b : Bool) (z : Look) → (if b then l else if b then no_look else z) ≡ (if b then l else z)
    by_bool true z = refl
    by_bool false z = refl

    twice : with_look (with_look f t m no_look) t m l ≡ with_look f t m l
    twice = fun_ext (λ u. fun_ext (λ n. by_bool ((u == t) && (n == m)) (f u n)))
