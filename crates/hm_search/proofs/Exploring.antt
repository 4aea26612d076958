-- The steps of a search keep what it knows, and at its end nothing is missing.
use Rattle.std.proofs.Common.{◌≡◌, ℕ, ◌+◌, ◌<◌, ◌≤◌, ◌⊎◌, inl, inr, suc, zero, Bool, true, false, List, [], ◌∷◌, ◌++◌, refl, sym, ap, ◌∙◌, subst, length, map, fold, get_or, append-nil, append_assoc, arith}
use Rattle.std.proofs.lemmas.Bool.{lt-ltb, cases_lt}
use Rattle.std.proofs.lemmas.List.Folds.{list_all-append}
use Rattle.std.proofs.lemmas.List.Sums.{fold-append}
use Rattle.std.proofs.lemmas.List.{length-append, length-map, map-append, get_or_append_left, get_or_at}
use Rattle.std.specs.List.{list_all, list_any}
use Rattle.std.specs.Prelude.{nat_lt, ◌&&◌, ◌||◌}
use Rattle.hm_race_laws.specs.Closed.{IsListed, AreDistinct}
use Rattle.hm_race_laws.proofs.Searching.{listed_left, listed_cases}
use Rattle.hm_search.specs.declared.known.Known.{Known}
use Rattle.hm_search.specs.Values.{known_of, with_known, all_known, at_goal, key_forms}
use Rattle.hm_search.specs.Systems.{SystemValue, IsSystem, point_at, form_after}
use Rattle.hm_search.specs.Known.{KnownValue, AreActors, IsKnown, forms, turns_at, Within, GoesOn, GoneOnBelow, GoneOn, AreRising, Explores, HaveForms, HaveFewer, AreFewest}

-- ---- lists

-- an item that is listed stands at a place
pub record Placed {X Y : Type 0} (f : X → Y) (xs : List X) (x : X) (d : Y) : Type 0 where
  pub place : ℕ
  pub within : place < length xs
  pub same : get_or (map f xs) place d ≡ f x

pub placed_at : {X Y : Type 0} (f : X → Y) (xs : List X) (x : X) (d : Y) → IsListed xs x → Placed f xs x d
placed_at f [] x d h = absurd h
placed_at f (y ∷ xs) x d (inl e) = record { place = 0; within = omega arith; same = ap f e }
placed_at f (y ∷ xs) x d (inr h) = let z = placed_at f xs x d h in record { place = suc z.place; within = omega (arith, z.within); same = z.same }

listed_map : {X Y : Type 0} (f : X → Y) (xs : List X) (x : X) → IsListed xs x → IsListed (map f xs) (f x)
listed_map f [] x h = absurd h
listed_map f (y ∷ xs) x (inl e) = inl (ap f e)
listed_map f (y ∷ xs) x (inr h) = inr (listed_map f xs x h)

-- the item at a place is listed
pub listed_item : {X : Type 0} (xs : List X) (i : ℕ) (d : X) → i < length xs → IsListed xs (get_or xs i d)
listed_item [] i d l = absurd (omega (arith, l))
listed_item (x ∷ xs) zero d l = inl refl
listed_item (x ∷ xs) (suc i) d l = inr (listed_item xs i d (omega (arith, l)))

-- what stands in a mapped list comes from an item
pub record From {X Y : Type 0} (f : X → Y) (xs : List X) (y : Y) : Type 0 where
  pub item : X
  pub listed : IsListed xs item
  pub same : f item ≡ y

pub from_map : {X Y : Type 0} (f : X → Y) (xs : List X) (y : Y) → IsListed (map f xs) y → From f xs y
from_map f [] y h = absurd h
from_map f (x ∷ xs) y (inl e) = record { item = x; listed = inl refl; same = e }
from_map f (x ∷ xs) y (inr h) = let z = from_map f xs y h in record { item = z.item; listed = inr z.listed; same = z.same }

-- items of which a function is distinct are the same if it is
one_item : {X Y : Type 0} (f : X → Y) (xs : List X) (x y : X) → AreDistinct (map f xs) → IsListed xs x → IsListed xs y → f x ≡ f y → x ≡ y
one_item f [] x y d h k e = absurd h
one_item f (z ∷ xs) x y d (inl h) (inl k) e = sym h ∙ k
one_item f (z ∷ xs) x y d (inl h) (inr k) e = absurd (d.0 (subst (IsListed (map f xs)) (sym (ap f h ∙ e)) (listed_map f xs y k)))
one_item f (z ∷ xs) x y d (inr h) (inl k) e = absurd (d.0 (subst (IsListed (map f xs)) (e ∙ sym (ap f k)) (listed_map f xs x h)))
one_item f (z ∷ xs) x y d (inr h) (inr k) e = one_item f xs x y d.1 h k e

-- ---- what is known of more states

-- it counts as ended, and the goal holds of its form
abbrev pub reaches : {F : Type 0} → (F → Bool) → KnownValue F → Bool
reaches goal n = n.ended && goal n.form

record Rest {K F : Type 0} (form : K → F) (vs : List (KnownValue F)) (ns : List (Known K)) : Type 0 where
  rest : List (KnownValue F)
  same : fold (with_known form) vs ns ≡ vs ++ rest
  many : length rest ≡ length ns
  formed : forms rest ≡ key_forms form ns
  asked : (goal : F → Bool) → list_any (reaches goal) rest ≡ list_any (at_goal form goal) ns

rest_of : {K F : Type 0} (form : K → F) (vs : List (KnownValue F)) (ns : List (Known K)) → Rest form vs ns
rest_of form vs [] = record { rest = []; same = sym (append-nil vs); many = refl; formed = refl; asked = λ goal. refl }
rest_of form vs (n ∷ ns) = let r = rest_of form (with_known form vs n) ns in record {
  rest = known_of form vs n ∷ r.rest;
  same = r.same ∙ append_assoc vs (known_of form vs n ∷ []) r.rest;
  many = ap suc r.many;
  formed = ap (λ z. form n.key ∷ z) r.formed;
  asked = λ goal. ap (λ b. at_goal form goal n || b) (r.asked goal);
}

pub known_length : {K F : Type 0} (form : K → F) (ns : List (Known K)) → length (all_known form ns) ≡ length ns
known_length form ns = let r = rest_of form [] ns in ap length r.same ∙ r.many

pub known_forms : {K F : Type 0} (form : K → F) (ns : List (Known K)) → forms (all_known form ns) ≡ key_forms form ns
known_forms form ns = let r = rest_of form [] ns in ap forms r.same ∙ r.formed

-- what is known after these begins with these
pub record FoldBegins {K F : Type 0} (form : K → F) (vs : List (KnownValue F)) (ns : List (Known K)) : Type 0 where
  pub rest : List (KnownValue F)
  pub same : fold (with_known form) vs ns ≡ vs ++ rest

pub fold_begins : {K F : Type 0} (form : K → F) (vs : List (KnownValue F)) (ns : List (Known K)) → FoldBegins form vs ns
fold_begins form vs ns = let r = rest_of form vs ns in record { rest = r.rest; same = r.same }

-- what is known of more states begins with what is known of these
pub record Begun {K F : Type 0} (form : K → F) (ns more : List (Known K)) : Type 0 where
  pub rest : List (KnownValue F)
  pub same : all_known form (ns ++ more) ≡ all_known form ns ++ rest
  pub many : length rest ≡ length more
  pub asked : (goal : F → Bool) → list_any (reaches goal) rest ≡ list_any (at_goal form goal) more

pub known_more : {K F : Type 0} (form : K → F) (ns more : List (Known K)) → Begun form ns more
known_more form ns more = let r = rest_of form (all_known form ns) more in record { rest = r.rest; same = fold-append (with_known form) [] ns more ∙ r.same; many = r.many; asked = r.asked }

pub known_push : {K F : Type 0} (form : K → F) (ns : List (Known K)) (n : Known K) → all_known form (ns ++ n ∷ []) ≡ all_known form ns ++ known_of form (all_known form ns) n ∷ []
known_push form ns n = fold-append (with_known form) [] ns (n ∷ [])

abbrev turns_of : {F : Type 0} → KnownValue F → List ℕ
turns_of n = n.turns

pub turns_left : {F : Type 0} (vs ws : List (KnownValue F)) (i : ℕ) → i < length vs → turns_at (vs ++ ws) i ≡ turns_at vs i
turns_left vs ws i l = ap (λ z. get_or z i []) (map-append turns_of vs ws) ∙ get_or_append_left (map turns_of vs) (map turns_of ws) [] i (omega (arith, l, length-map vs turns_of))

pub turns_last : {F : Type 0} (vs : List (KnownValue F)) (v : KnownValue F) (i : ℕ) → i ≡ length vs → turns_at (vs ++ v ∷ []) i ≡ v.turns
turns_last vs v i e = ap (λ z. get_or z i []) (map-append turns_of vs (v ∷ [])) ∙ get_or_at (map turns_of vs) v.turns [] [] i (length-map vs turns_of ∙ sym e)

pub turns_kept : {K F : Type 0} (form : K → F) (ns more : List (Known K)) (i : ℕ) → i < length ns → turns_at (all_known form (ns ++ more)) i ≡ turns_at (all_known form ns) i
turns_kept form ns more i l = let b = known_more form ns more in ap (λ z. turns_at z i) b.same ∙ turns_left (all_known form ns) b.rest i (omega (arith, l, known_length form ns))

-- ---- steps

pub within_more : {F : Type 0} (vs ws : List (KnownValue F)) (f : F) (most : ℕ) → Within vs f most → Within (vs ++ ws) f most
within_more vs ws f most w = record { state = w.state; listed = listed_left vs ws w.state w.listed; form = w.form; few = w.few }

pub goes_more : {X F : Type 0} (y : SystemValue X F) (vs ws : List (KnownValue F)) (x : X) (most a : ℕ) → GoesOn y vs x most a → GoesOn y (vs ++ ws) x most a
goes_more y vs ws x most a g d = within_more vs ws _ most (g d)

-- the turns of a known state have a place
pub place_of : {F : Type 0} (vs : List (KnownValue F)) (n : KnownValue F) → IsListed vs n → Placed turns_of vs n []
place_of vs n l = placed_at turns_of vs n [] l

-- a place in a list with one more
at_place : {F : Type 0} (vs : List (KnownValue F)) (v : KnownValue F) (i : ℕ) → i < length (vs ++ v ∷ []) → (i < length vs) ⊎ (i ≡ length vs)
at_place vs v i l = by (cases_lt i (length vs))
  where
    by : (i < length vs) ⊎ (length vs ≤ i) → (i < length vs) ⊎ (i ≡ length vs)
    by (inl k) = inl k
    by (inr k) = inr (omega (arith, k, l, length-append vs (v ∷ [])))

-- a search with one state more, to which a turn leads from the one that it goes on from
pub explores_more : {X F : Type 0} (y : SystemValue X F) (vs : List (KnownValue F)) (at : ℕ) (v : KnownValue F) → Explores y vs at → at < length vs → IsKnown y v → length v.turns ≡ length (turns_at vs at) + 1 → Explores y (vs ++ v ∷ []) at
explores_more {F = F} y vs at v s below known far = record { each = each; from = within_more vs (v ∷ []) _ 0 s.from; onward = onward; rising = rising; near = near }
  where
    ws : List (KnownValue F)
    ws = vs ++ v ∷ []

    each : (n : KnownValue F) → IsListed ws n → IsKnown y n
    each n l = by (listed_cases vs (v ∷ []) n l)
      where
        by : IsListed vs n ⊎ IsListed (v ∷ []) n → IsKnown y n
        by (inl k) = s.each n k
        by (inr (inl k)) = subst (IsKnown y) k known
        by (inr (inr k)) = absurd k

    old : (i : ℕ) → i < length vs → turns_at ws i ≡ turns_at vs i
    old i l = turns_left vs (v ∷ []) i l

    onward : (i : ℕ) → i < at → i < length ws → GoneOn y ws (point_at y (turns_at ws i)) (length (turns_at ws i) + 1)
    onward i l m = subst (λ t. GoneOn y ws (point_at y t) (length t + 1)) (sym (old i (omega (arith, l, below)))) (λ a. goes_more y vs (v ∷ []) (point_at y (turns_at vs i)) (length (turns_at vs i) + 1) a (s.onward i l (omega (arith, l, below)) a))

    here : length (turns_at ws at) ≡ length (turns_at vs at)
    here = ap length (old at below)

    near : (i : ℕ) → i < length ws → at < length ws → length (turns_at ws i) ≤ length (turns_at ws at) + 1
    near i l m = by (at_place vs v i l)
      where
        by : (i < length vs) ⊎ (i ≡ length vs) → length (turns_at ws i) ≤ length (turns_at ws at) + 1
        by (inl k) = omega (arith, s.near i k below, ap length (old i k), here)
        by (inr k) = omega (arith, far, ap length (turns_last vs v i k), here)

    rising : AreRising ws
    rising i j le l = by (at_place vs v j l)
      where
        last : j ≡ length vs → (i < length vs) ⊎ (i ≡ length vs) → length (turns_at ws i) ≤ length (turns_at ws j)
        last k (inl m) = omega (arith, s.near i m below, ap length (old i m), far, ap length (turns_last vs v j k))
        last k (inr m) = omega (arith, ap length (turns_last vs v i m), ap length (turns_last vs v j k))

        by : (j < length vs) ⊎ (j ≡ length vs) → length (turns_at ws i) ≤ length (turns_at ws j)
        by (inl k) = omega (arith, s.rising i j le k, ap length (old i (omega (arith, le, k))), ap length (old j k))
        by (inr k) = last k (at_place vs v i (omega (arith, le, l)))

-- one actor more
pub below_more : {X F : Type 0} (y : SystemValue X F) (vs : List (KnownValue F)) (x : X) (most k : ℕ) → GoneOnBelow y vs x most k → GoesOn y vs x most k → GoneOnBelow y vs x most (k + 1)
below_more y vs x most k below on a l = by (cases_lt a k)
  where
    same : k ≡ a → GoesOn y vs x most a
    same e = subst (GoesOn y vs x most) e on

    by : (a < k) ⊎ (k ≤ a) → GoesOn y vs x most a
    by (inl m) = below a m
    by (inr m) = same (omega (arith, l, m))

-- after all actors' turns the search is done with the state
gone_on : {X F : Type 0} (y : SystemValue X F) → IsSystem y → (vs : List (KnownValue F)) (x : X) (most : ℕ) → GoneOnBelow y vs x most y.actors → GoneOn y vs x most
gone_on y sys vs x most below a d = below a (sys.own x a d) d

pub explores_on : {X F : Type 0} (y : SystemValue X F) → IsSystem y → (vs : List (KnownValue F)) (at : ℕ) → Explores y vs at → at < length vs → GoneOnBelow y vs (point_at y (turns_at vs at)) (length (turns_at vs at) + 1) y.actors → Explores y vs (at + 1)
explores_on y sys vs at s here below = record {
  each = s.each;
  from = s.from;
  onward = onward;
  rising = s.rising;
  near = λ i l m. omega (arith, s.near i l here, s.rising at (at + 1) (omega arith) m);
}
  where
    onward : (i : ℕ) → i < at + 1 → i < length vs → GoneOn y vs (point_at y (turns_at vs i)) (length (turns_at vs i) + 1)
    onward i l m = by (cases_lt i at)
      where
        same : at ≡ i → GoneOn y vs (point_at y (turns_at vs i)) (length (turns_at vs i) + 1)
        same e = subst (λ k. GoneOn y vs (point_at y (turns_at vs k)) (length (turns_at vs k) + 1)) e (gone_on y sys vs (point_at y (turns_at vs at)) (length (turns_at vs at) + 1) below)

        by : (i < at) ⊎ (at ≤ i) → GoneOn y vs (point_at y (turns_at vs i)) (length (turns_at vs i) + 1)
        by (inl k) = s.onward i k m
        by (inr k) = same (omega (arith, k, l))

-- longer turns are of actors too
pub more_actors : (actors : ℕ) (turns : List ℕ) (a : ℕ) → AreActors actors turns → a < actors → AreActors actors (turns ++ a ∷ [])
more_actors actors turns a all l = list_all-append is_actor_of turns (a ∷ []) ∙ (ap (λ b. b && list_all is_actor_of (a ∷ [])) all ∙ ap (λ b. b && true) (lt-ltb a actors l))
  where
    is_actor_of : ℕ → Bool
    is_actor_of b = nat_lt b actors

-- ---- all turns, and no fewer

module _ {X F : Type 0} (y : SystemValue X F) (sys : IsSystem y) (vs : List (KnownValue F)) (at : ℕ) (s : Explores y vs at) where
  -- states to which fewer turns lead than this are done with
  abbrev Passed : ℕ → Type 0
  Passed k = (i : ℕ) → i < length vs → length (turns_at vs i) < k → i < at

  -- if the form after these turns is known, so is the one after one turn more
  turned : (turns : List ℕ) (a k : ℕ) → length turns < k → Passed k → Within vs (form_after y turns) (length turns) → Within vs (form_after y (turns ++ a ∷ [])) (length (turns ++ a ∷ []))
  turned turns a k l passed w = subst (λ x. Within vs (y.form x) (length (turns ++ a ∷ []))) (sym (fold-append y.turn y.start turns (a ∷ []))) (by (y.is_due (point_at y turns) a) refl)
    where
      alike : (y.is_due (point_at y w.state.turns) a ≡ y.is_due (point_at y turns) a) × (y.form (y.turn (point_at y w.state.turns) a) ≡ y.form (y.turn (point_at y turns) a))
      alike = sys.alike w.state.turns turns (sym (s.each w.state w.listed).form ∙ w.form) a

      p : Placed turns_of vs w.state []
      p = place_of vs w.state w.listed

      on : GoneOn y vs (point_at y w.state.turns) (length w.state.turns + 1)
      on = subst (λ t. GoneOn y vs (point_at y t) (length t + 1)) p.same (s.onward p.place (passed p.place p.within (omega (arith, ap length p.same, w.few, l))) p.within)

      by : (b : Bool) → y.is_due (point_at y turns) a ≡ b → Within vs (y.form (y.turn (point_at y turns) a)) (length (turns ++ a ∷ []))
      by true due = let v = on a (alike.0 ∙ due) in record { state = v.state; listed = v.listed; form = v.form ∙ alike.1; few = omega (arith, v.few, w.few, length-append turns (a ∷ [])) }
      by false due = record { state = w.state; listed = w.listed; form = w.form ∙ ap y.form (sym (sys.stays (point_at y turns) a due)); few = omega (arith, w.few, length-append turns (a ∷ [])) }

  led : (before turns : List ℕ) (k : ℕ) → length before + length turns ≡ k → Passed k → Within vs (form_after y before) (length before) → Within vs (form_after y (before ++ turns)) k
  led before [] k e passed w = subst (λ t. Within vs (form_after y t) k) (sym (append-nil before)) (record { state = w.state; listed = w.listed; form = w.form; few = omega (arith, w.few, e) })
  led before (a ∷ turns) k e passed w = subst (λ t. Within vs (form_after y t) k) (append_assoc before (a ∷ []) turns) (led (before ++ a ∷ []) turns k (omega (arith, e, length-append before (a ∷ []))) passed (turned before a k (omega (arith, e)) passed w))

  -- the form after turns is known, with no more of them
  after_turns : (turns : List ℕ) → Passed (length turns) → Within vs (form_after y turns) (length turns)
  after_turns turns passed = led [] turns (length turns) (omega arith) passed s.from

  -- if the search has gone on from all states, it knows all forms
  pub have_forms : length vs ≤ at → HaveForms y vs
  have_forms all turns = let w = after_turns turns (λ i l few. omega (arith, l, all)) in subst (IsListed (forms vs)) w.form (listed_map (λ (n : KnownValue F). n.form) vs w.state w.listed)

  -- states to which fewer turns lead than to a known one are done with
  passed_before : (n : KnownValue F) → IsListed vs n → (k : ℕ) → k < length n.turns → Passed k
  passed_before n l k less i m few = by (cases_lt i at)
    where
      p : Placed turns_of vs n []
      p = place_of vs n l

      far : length (turns_at vs p.place) ≡ length n.turns
      far = ap length p.same

      by : (i < at) ⊎ (at ≤ i) → i < at
      by (inl z) = z
      by (inr z) = absurd (omega (arith, s.rising at i z m, s.near p.place p.within (omega (arith, z, m)), far, few, less))

  pub have_fewer : HaveFewer y vs
  have_fewer n l turns less = after_turns turns (passed_before n l (length turns) less)

  pub fewest : AreDistinct (forms vs) → AreFewest y vs
  fewest dis n l turns same = by (cases_lt (length turns) (length n.turns))
    where
      once : length turns < length n.turns → Within vs (form_after y turns) (length turns) → ⊥
      once k w = omega (arith, w.few, k, ap (λ (z : KnownValue F). length z.turns) (one_item (λ (z : KnownValue F). z.form) vs w.state n dis w.listed l (w.form ∙ same)))

      by : (length turns < length n.turns) ⊎ (length n.turns ≤ length turns) → length n.turns ≤ length turns
      by (inr k) = k
      by (inl k) = absurd (once k (have_fewer n l turns k))
