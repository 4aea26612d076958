-- The first known state that reaches a goal.
use Rattle.std.proofs.Common.{◌≡◌, ℕ, zero, suc, ◌+◌, ◌<◌, ◌≤◌, ◌⊎◌, inl, inr, Bool, true, false, ◌&&◌, Some, None, List, [], ◌∷◌, ◌++◌, length, map, refl, sym, ap, ◌∙◌, subst, fold, get_or, append_assoc, append-nil, arith}
use Rattle.std.proofs.lemmas.Bool.{and_parts, cases_lt, false≢true}
use Rattle.std.proofs.lemmas.List.{get_or-map, map-append}
use Rattle.hm_search.specs.Goals.{AreMissed}
use Rattle.hm_search.specs.Known.{KnownValue, turns_at}
use Rattle.hm_search.specs.Values.{all_known, at_goal, known_of, with_known}
use Rattle.hm_search.specs.declared.known.Known.{Known}
use Rattle.hm_search.proofs.Exploring.{reaches}
use Rattle.hm_flaw_parts.specs.Races.Shortest.{IsFirst}
use Rattle.hm_flaw_search.specs.Finding.{IsFirstTrue}

-- ---- keys and known states

answers_along : {K F : Type 0} (form : K → F) (goal : F → Bool) (vs : List (KnownValue F)) (ns : List (Known K)) → map (reaches goal) (fold (with_known form) vs ns) ≡ map (reaches goal) vs ++ map (at_goal form goal) ns
answers_along form goal vs [] = sym (append-nil (map (reaches goal) vs))
answers_along form goal vs (n ∷ ns) =
    answers_along form goal (with_known form vs n) ns
    ∙ (ap (λ (bs : List Bool). bs ++ map (at_goal form goal) ns) (map-append (reaches goal) vs (known_of form vs n ∷ []))
    ∙ append_assoc (map (reaches goal) vs) (at_goal form goal n ∷ []) (map (at_goal form goal) ns))

-- of keys and of what is known of them the same is asked
pub same_answers : {K F : Type 0} (form : K → F) (goal : F → Bool) (ns : List (Known K)) → map (at_goal form goal) ns ≡ map (reaches goal) (all_known form ns)
same_answers form goal ns = sym (answers_along form goal [] ns)

-- ---- the first

-- it counts as ended, so the goal does not hold
not_reached : {F : Type 0} (goal : F → Bool) (n : KnownValue F) → reaches goal n ≡ false → n.ended ≡ true → goal n.form ≡ false
not_reached goal n none ended = sym (ap (λ (b : Bool). b && goal n.form) ended) ∙ none

pub none_known : {F : Type 0} (goal : F → Bool) (vs : List (KnownValue F)) → IsFirstTrue (map (reaches goal) vs) None → AreMissed goal vs
none_known goal [] none n k e = absurd k
none_known goal (v ∷ vs) none n (inl same) e = subst (λ (w : KnownValue _). w.ended ≡ true → goal w.form ≡ false) same (not_reached goal v (none 0)) e
none_known goal (v ∷ vs) none n (inr k) e = none_known goal vs (λ i. none (suc i)) n k e

-- the known state at a place, which is the first
pub record FirstKnown {F : Type 0} (goal : F → Bool) (vs : List (KnownValue F)) (at : ℕ) : Type 0 where
  pub state : KnownValue F
  pub first : IsFirst goal vs state
  pub turns : turns_at vs at ≡ state.turns

first_on : {F : Type 0} (goal : F → Bool) (v : KnownValue F) (vs : List (KnownValue F)) (at : ℕ) → reaches goal v ≡ false → FirstKnown goal vs at → FirstKnown goal (v ∷ vs) (suc at)
first_on goal v vs at none z = record {
  state = z.state;
  first = record {
    before = v ∷ z.first.before;
    rest = z.first.rest;
    all = ap (λ (ws : List (KnownValue _)). v ∷ ws) z.first.all;
    missed = missed;
    reached = z.first.reached;
  };
  turns = z.turns;
}
  where
    missed : AreMissed goal (v ∷ z.first.before)
    missed n (inl same) e = subst (λ (w : KnownValue _). w.ended ≡ true → goal w.form ≡ false) same (not_reached goal v none) e
    missed n (inr k) e = z.first.missed n k e

first_here : {F : Type 0} (goal : F → Bool) (v : KnownValue F) (vs : List (KnownValue F)) → reaches goal v ≡ true → FirstKnown goal (v ∷ vs) 0
first_here goal v vs is = record {
  state = v;
  first = record {
    before = [];
    rest = vs;
    all = refl;
    missed = λ n k e. absurd k;
    reached = (and_parts v.ended (goal v.form) is).1;
  };
  turns = refl;
}

pub first_known : {F : Type 0} (goal : F → Bool) (vs : List (KnownValue F)) (at : ℕ) → IsFirstTrue (map (reaches goal) vs) (Some at) → FirstKnown goal vs at
first_known goal [] at is = absurd (false≢true is.0)
first_known goal (v ∷ vs) zero is = first_here goal v vs is.0
first_known goal (v ∷ vs) (suc at) is = first_on goal v vs at (is.1 0 (omega arith)) (first_known goal vs at (is.0, λ i less. is.1 (suc i) (omega (arith, less))))

-- ---- a loop over answers

-- one more was asked
pub none_more : (bs : List Bool) (n : ℕ) → ((i : ℕ) → i < n → get_or bs i false ≡ false) → get_or bs n false ≡ false → (i : ℕ) → i < n + 1 → get_or bs i false ≡ false
none_more bs n each here i less = by (cases_lt i n)
  where
    by : (i < n) ⊎ (n ≤ i) → get_or bs i false ≡ false
    by (inl k) = each i k
    by (inr k) = let same : n ≡ i = omega (arith, k, less) in subst (λ (j : ℕ). get_or bs j false ≡ false) same here

-- the answer of an item
pub answer_at : {X : Type 0} (f : X → Bool) (xs : List X) (i : ℕ) (x : X) → i < length xs → x ≡ get_or xs i x → get_or (map f xs) i false ≡ f x
answer_at f xs i x less is = get_or-map f xs i x false less ∙ ap f (sym is)
