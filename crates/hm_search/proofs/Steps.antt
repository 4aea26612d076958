-- What a search keeps, along its steps.
use Rattle.std.proofs.Common.{◌≡◌, ℕ, ◌+◌, ◌<◌, ◌≤◌, ◌⊎◌, inl, inr, suc, zero, Bool, true, false, Option, Some, None, List, [], ◌∷◌, ◌++◌, refl, sym, ap, ◌∙◌, subst, length, map, get_or, append-nil, append_assoc, arith}
use Rattle.std.specs.Prelude.{Result, Ok, Err, OnOk}
use Rattle.std.proofs.lemmas.Bool.{cases_lt}
use Rattle.std.proofs.lemmas.List.Sums.{fold-append}
use Rattle.std.proofs.lemmas.List.{length-append, length-map, map-append, get_or_append_left, get_or_at, get_or-map}
use Rattle.hm_history.specs.declared.StepError.{StepError}
use Rattle.hm_race_laws.specs.Closed.{IsListed, AreDistinct}
use Rattle.hm_race_laws.proofs.Searching.{listed_right}
use Rattle.hm_search.specs.declared.known.Known.{Known}
use Rattle.hm_search.specs.Buckets.{BucketsValue}
use Rattle.hm_search.specs.Values.{known_of, all_known, key_forms, Fits, AreDeep, Searching, HasGrown, HasSearched}
use Rattle.hm_search.specs.Known.{KnownValue, AreActors, IsKnown, MayFail, forms, turns_at, Within, GoesOn, GoneOnBelow, Explores, LeadsOn, HaveForms, HaveFewer, AreKnown, AreRising, AreFewest, IsCut}
use Rattle.hm_search.specs.Systems.{SystemValue, IsSystem, Stands, IsNext, point_at, form_after}
use Rattle.hm_search.proofs.Table.{form_at, other_listed, other_distinct}
use Rattle.hm_search.proofs.Exploring.{place_of, From, from_map, known_length, known_forms, known_more, known_push, turns_last, turns_kept, goes_more, explores_more, explores_on, below_more, more_actors, have_forms, have_fewer, fewest}

-- ---- a known state

-- what is known of the state at a place
pub record KnownThere {X F : Type 0} (y : SystemValue X F) (vs : List (KnownValue F)) (at : ℕ) : Type 0 where
  pub form : (e : F) → get_or (forms vs) at e ≡ form_after y (turns_at vs at)
  pub actors : AreActors y.actors (turns_at vs at)
  pub room : y.entries (point_at y (turns_at vs at)) ≤ 2000000
  pub adds : y.entries (point_at y (turns_at vs at)) ≡ y.entries y.start + length (turns_at vs at)

pub known_there : {X F : Type 0} (y : SystemValue X F) (vs : List (KnownValue F)) (at : ℕ) → at < length vs → ((n : KnownValue F) → IsListed vs n → IsKnown y n) → KnownThere y vs at
known_there y [] at l each = absurd (omega (arith, l))
known_there y (v ∷ vs) zero l each = let k = each v (inl refl) in record { form = λ e. k.form; actors = k.actors; room = k.room; adds = k.adds }
known_there y (v ∷ vs) (suc at) l each = let k = known_there y vs at (omega (arith, l)) (λ n m. each n (inr m)) in record { form = k.form; actors = k.actors; room = k.room; adds = k.adds }

module _ {K X F G : Type 0} (y : SystemValue X F) (form : K → F) (own : K → G) (number : K → ℕ) (Valid : K → Type 0) (ns : List (Known K)) (b : BucketsValue) (at : ℕ) (s : Searching y form own number Valid ns b at) (below : at < length ns) where
  abbrev vs : List (KnownValue F)
  vs = all_known form ns

  abbrev turns : List ℕ
  turns = turns_at vs at

  abbrev here : X
  here = point_at y turns

  below_known : at < length vs
  below_known = omega (arith, below, known_length form ns)

  there : KnownThere y vs at
  there = known_there y vs at below_known s.explores.each

  -- its key has the form after its turns
  pub key_stands : (d : Known K) → y.form here ≡ form (get_or ns at d).key
  key_stands d = sym (there.form (form d.key)) ∙ (ap (λ z. get_or z at (form d.key)) (known_forms form ns) ∙ form_at form ns at d (form d.key) below)

  pub stands : (d : Known K) (k : K) → k ≡ (get_or ns at d).key → Stands y (form k)
  stands d k e = record { turns = turns; has_form = key_stands d ∙ ap form (sym e) }

  -- what a turn there comes to
  pub next_here : (d : Known K) (k : K) (o : Option K) (a : ℕ) → k ≡ (get_or ns at d).key → ((t : List ℕ) → form_after y t ≡ form k → IsNext form y (point_at y t) a o) → IsNext form y here a o
  next_here d k o a e p = p turns (key_stands d ∙ ap form (sym e))

  pub goes_none : (a : ℕ) → IsNext form y here a None → GoesOn y vs here (length turns + 1) a
  goes_none a p d = absurd (never (sym p ∙ d))
    where
      never : false ≡ true → ⊥
      never q = cc

  -- the point after the turn
  led : (a : ℕ) → point_at y (turns ++ a ∷ []) ≡ y.turn here a
  led a = fold-append y.turn y.start turns (a ∷ [])

  pub leads_on : IsSystem y → (a : ℕ) (k : K) (depth used : ℕ) → IsNext form y here a (Some k) → depth ≡ length turns → used ≡ y.entries y.start → depth + used < 2000000 → LeadsOn y turns a (form k)
  leads_on sys a k depth used p deep is l = record {
    form = p.1 ∙ ap y.form (sym (led a));
    adds = omega (arith, ap y.entries (led a), sys.adds here a p.0, there.adds);
    room = omega (arith, deep, is, l);
  }

  -- the history is full, and an entry is due
  pub full : (a : ℕ) (k : K) (depth used : ℕ) → IsNext form y here a (Some k) → depth ≡ length turns → used ≡ y.entries y.start → 2000000 ≤ depth + used → MayFail y (StepError.Full 2000000)
  full a k depth used p deep is l = (refl, turns, a, omega (arith, there.adds, there.room, deep, is, l), p.0)

  depth_here : get_or (map (λ n. n.depth) ns) at 0 ≡ length turns
  depth_here = s.deep at below

  pub depth_read : (d : Known K) → d ≡ get_or ns at d → d.depth ≡ length turns
  depth_read d e = ap (λ (z : Known K). z.depth) e ∙ (sym (get_or-map (λ (z : Known K). z.depth) ns at d 0 below) ∙ depth_here)

  pub few_here : (entries used : ℕ) (d : Known K) → d ≡ get_or ns at d → used ≡ y.entries y.start → entries ≡ used + d.depth → entries ≤ 2000000
  few_here entries used d e is many = omega (arith, there.adds, there.room, depth_read d e, is, many)

  -- the state after it is known already
  pub known_already : ((k l : K) → own k ≡ own l → form k ≡ form l) → (k : K) (depth : ℕ) → depth ≡ length turns + 1 → IsListed (key_forms own ns) (own k) → Within vs (form k) depth
  known_already alike k depth deep l = by (from_map (λ (n : KnownValue F). n.form) vs (form k) (subst (λ z. IsListed z (form k)) (sym (known_forms form ns)) (other_listed own form alike ns k l)))
    where
      by : From (λ (n : KnownValue F). n.form) vs (form k) → Within vs (form k) depth
      by z = let p = place_of vs z.item z.listed in record { state = z.item; listed = z.listed; form = z.same; few = omega (arith, ap length p.same, s.explores.near p.place p.within below_known, deep) }

  -- or it is new
  module _ (n : Known K) (a : ℕ) (from : n.from ≡ Some (record { state = at; actor = a })) (deep : n.depth ≡ length turns + 1) (ended : (t : List ℕ) → form_after y t ≡ form n.key → n.ended ≡ y.ended (point_at y t)) (actor : a < y.actors) (leads : LeadsOn y turns a (form n.key)) (ms : List (Known K)) (grown : ms ≡ ns ++ n ∷ []) where
    abbrev value : KnownValue F
    value = known_of form vs n

    value_turns : value.turns ≡ turns ++ a ∷ []
    value_turns = ap (Rattle.hm_search.specs.Values.turns_by vs) from

    far : length value.turns ≡ length turns + 1
    far = ap length value_turns ∙ length-append turns (a ∷ [])

    known : IsKnown y value
    known = subst (λ t. IsKnown y (record { form = form n.key; turns = t; ended = n.ended })) (sym value_turns) (record {
      form = leads.form;
      ended = ended (turns ++ a ∷ []) (sym leads.form);
      actors = more_actors y.actors turns a there.actors actor;
      room = omega (arith, leads.adds, leads.room);
      adds = leads.adds ∙ ap (λ z. y.entries y.start + z) (sym (length-append turns (a ∷ [])));
    })

    grown_known : all_known form ms ≡ vs ++ value ∷ []
    grown_known = ap (all_known form) grown ∙ known_push form ns n

    pub within_new : (depth : ℕ) → depth ≡ length turns + 1 → Within (all_known form ms) (form n.key) depth
    within_new depth is = subst (λ z. Within z (form n.key) depth) (sym grown_known) (record { state = value; listed = listed_right vs (value ∷ []) value (inl refl); form = refl; few = omega (arith, far, is) })

    explores_new : Explores y (all_known form ms) at
    explores_new = subst (λ z. Explores y z at) (sym grown_known) (explores_more y vs at value s.explores below_known known far)

    deep_new : AreDeep form ms
    deep_new i l = by (cases_lt i (length ns))
      where
        many : length ms ≡ length ns + 1
        many = ap length grown ∙ length-append ns (n ∷ [])

        depths : map (λ (m : Known K). m.depth) ms ≡ map (λ (m : Known K). m.depth) ns ++ n.depth ∷ []
        depths = ap (map (λ (m : Known K). m.depth)) grown ∙ map-append (λ (m : Known K). m.depth) ns (n ∷ [])

        old : i < length ns → get_or (map (λ (m : Known K). m.depth) ms) i 0 ≡ length (turns_at (all_known form ms) i)
        old k = ap (λ z. get_or z i 0) depths ∙ (get_or_append_left (map (λ (m : Known K). m.depth) ns) (n.depth ∷ []) 0 i (omega (arith, k, length-map ns (λ (m : Known K). m.depth))) ∙ (s.deep i k ∙ ap length (sym (turns_kept form ns (n ∷ []) i k) ∙ ap (λ z. turns_at (all_known form z) i) (sym grown))))

        new : i ≡ length ns → get_or (map (λ (m : Known K). m.depth) ms) i 0 ≡ length (turns_at (all_known form ms) i)
        new e = ap (λ z. get_or z i 0) depths ∙ (get_or_at (map (λ (m : Known K). m.depth) ns) n.depth [] 0 i (length-map ns (λ (m : Known K). m.depth) ∙ sym e) ∙ (deep ∙ (sym far ∙ ap length (sym (ap (λ z. turns_at z i) grown_known ∙ turns_last vs value i (e ∙ sym (known_length form ns)))))))

        by : (i < length ns) ⊎ (length ns ≤ i) → get_or (map (λ (m : Known K). m.depth) ms) i 0 ≡ length (turns_at (all_known form ms) i)
        by (inl k) = old k
        by (inr k) = new (omega (arith, k, l, many))

    pub searching_new : (d : BucketsValue) → Fits own number Valid ms d → Searching y form own number Valid ms d at
    searching_new d fits = record { explores = explores_new; deep = deep_new; fits = fits }

  -- the states after the turn, once they are known
  goes_some : (a : ℕ) (k : K) (ms : List (Known K)) (depth : ℕ) → IsNext form y here a (Some k) → depth ≡ length turns + 1 → Within (all_known form ms) (form k) depth → GoesOn y (all_known form ms) here (length turns + 1) a
  goes_some a k ms depth p is w d = subst (λ z. Within (all_known form ms) z (length turns + 1)) p.1 (subst (Within (all_known form ms) (form k)) is w)

  pub goes_ok : {T E : Type 0} (r : Result T E) (a : ℕ) (k : K) (ms : List (Known K)) (depth : ℕ) → IsNext form y here a (Some k) → depth ≡ length turns + 1 → OnOk r (Within (all_known form ms) (form k) depth) → OnOk r (GoesOn y (all_known form ms) here (length turns + 1) a)
  goes_ok (Err e) a k ms depth p is w = tt
  goes_ok (Ok v) a k ms depth p is w = goes_some a k ms depth p is w

-- turns lead to the form after a turn, and to the first
pub led_stands : {X F : Type 0} (y : SystemValue X F) (turns : List ℕ) (a : ℕ) (f : F) → LeadsOn y turns a f → Stands y f
led_stands y turns a f l = record { turns = turns ++ a ∷ []; has_form = sym l.form }

pub first_stands : {X F : Type 0} (y : SystemValue X F) (f : F) → f ≡ y.form y.start → Stands y f
first_stands y f e = record { turns = []; has_form = sym e }

-- ---- all actors' turns

pub grown_none : {K : Type 0} (ns : List (Known K)) (most : ℕ) → HasGrown ns ns most
grown_none ns most = record { more = []; grown = sym (append-nil ns); few = omega arith }

pub grown_on : {K : Type 0} (ns ms ls : List (Known K)) (k : ℕ) → HasGrown ns ms k → HasGrown ms ls 1 → HasGrown ns ls (k + 1)
grown_on ns ms ls k x y = record { more = x.more ++ y.more; grown = y.grown ∙ (ap (λ z. z ++ y.more) x.grown ∙ append_assoc ns x.more y.more); few = omega (arith, x.few, y.few, length-append x.more y.more) }

pub grown_upto : {K : Type 0} (ns ms : List (Known K)) (k most : ℕ) → k ≤ most → HasGrown ns ms k → HasGrown ns ms most
grown_upto ns ms k most l x = record { more = x.more; grown = x.grown; few = omega (arith, x.few, l) }

pub grown_length : {K : Type 0} (ns ms : List (Known K)) (k : ℕ) → HasGrown ns ms k → (length ns ≤ length ms) × (length ms ≤ length ns + k)
grown_length ns ms k x = (omega (arith, ap length x.grown, length-append ns x.more), omega (arith, ap length x.grown, length-append ns x.more, x.few))

-- the turns to a state that was known stay
pub grown_turns : {K F : Type 0} (form : K → F) (ns ms : List (Known K)) (k at : ℕ) → at < length ns → HasGrown ns ms k → turns_at (all_known form ms) at ≡ turns_at (all_known form ns) at
grown_turns form ns ms k at l x = ap (λ z. turns_at (all_known form z) at) x.grown ∙ turns_kept form ns x.more at l

goes_grown : {K X F : Type 0} (form : K → F) (y : SystemValue X F) (ns ms : List (Known K)) (x : X) (most a k : ℕ) → HasGrown ns ms k → GoesOn y (all_known form ns) x most a → GoesOn y (all_known form ms) x most a
goes_grown form y ns ms x most a k g on = subst (λ z. GoesOn y z x most a) (sym (ap (all_known form) g.grown ∙ (known_more form ns g.more).same)) (goes_more y (all_known form ns) (known_more form ns g.more).rest x most a on)

-- one actor more
pub below_next : {K X F : Type 0} (form : K → F) (y : SystemValue X F) (ns ms ls : List (Known K)) (at k j a : ℕ) → at < length ns → HasGrown ns ms j → HasGrown ms ls 1 → a ≡ k
    → GoneOnBelow y (all_known form ms) (point_at y (turns_at (all_known form ns) at)) (length (turns_at (all_known form ns) at) + 1) k
    → GoesOn y (all_known form ls) (point_at y (turns_at (all_known form ms) at)) (length (turns_at (all_known form ms) at) + 1) a
    → GoneOnBelow y (all_known form ls) (point_at y (turns_at (all_known form ns) at)) (length (turns_at (all_known form ns) at) + 1) (k + 1)
below_next {X = X} form y ns ms ls at k j a l x z e below on = below_more y (all_known form ls) (point_of before) (length before + 1) k (λ i m. goes_grown form y ms ls (point_of before) (length before + 1) i 1 z (below i m)) (subst (λ t. GoesOn y (all_known form ls) (point_of t) (length t + 1) k) (grown_turns form ns ms j at l x) (subst (GoesOn y (all_known form ls) (point_of now) (length now + 1)) e on))
  where
    before : List ℕ
    before = turns_at (all_known form ns) at

    now : List ℕ
    now = turns_at (all_known form ms) at

    point_of : List ℕ → X
    point_of t = point_at y t

-- the search is done with one state more
pub searching_on : {K X F G : Type 0} (y : SystemValue X F) → IsSystem y → (form : K → F) (own : K → G) (number : K → ℕ) (Valid : K → Type 0) (ns ms : List (Known K)) (b : BucketsValue) (at j k : ℕ) → at < length ns → HasGrown ns ms j → y.actors ≤ k → Searching y form own number Valid ms b at
    → GoneOnBelow y (all_known form ms) (point_at y (turns_at (all_known form ns) at)) (length (turns_at (all_known form ns) at) + 1) k
    → Searching y form own number Valid ms b (at + 1)
searching_on y sys form own number Valid ns ms b at j k l x all s below = record {
  explores = explores_on y sys (all_known form ms) at s.explores (omega (arith, l, (grown_length ns ms j x).0, known_length form ms)) (subst (λ t. GoneOnBelow y (all_known form ms) (point_at y t) (length t + 1) y.actors) (sym (grown_turns form ns ms j at l x)) (λ a m. below a (omega (arith, m, all))));
  deep = s.deep;
  fits = s.fits;
}

-- ---- the beginning

pub first_searching : {K X F G : Type 0} (y : SystemValue X F) (form : K → F) (own : K → G) (number : K → ℕ) (Valid : K → Type 0) (n : Known K) (ns ms : List (Known K)) (b : BucketsValue) → ns ≡ [] → ms ≡ ns ++ n ∷ [] → n.from ≡ None → n.depth ≡ 0 → form n.key ≡ y.form y.start → ((t : List ℕ) → form_after y t ≡ form n.key → n.ended ≡ y.ended (point_at y t)) → y.entries y.start ≤ 2000000 → Fits own number Valid ms b → Searching y form own number Valid ms b 0
first_searching {F = F} y form own number Valid n ns ms b none grown from deep same ended few fits = subst (λ z. Searching y form own number Valid z b 0) (sym is) (record { explores = explores; deep = deeps; fits = subst (λ z. Fits own number Valid z b) is fits })
  where
    is : ms ≡ n ∷ []
    is = grown ∙ ap (λ z. z ++ n ∷ []) none

    value : KnownValue F
    value = known_of form [] n

    no_turns : value.turns ≡ []
    no_turns = ap (Rattle.hm_search.specs.Values.turns_by {F = F} []) from

    known : IsKnown y value
    known = subst (λ t. IsKnown y (record { form = form n.key; turns = t; ended = n.ended })) (sym no_turns) (record {
      form = same;
      ended = ended [] (sym same);
      actors = refl;
      room = few;
      adds = omega arith;
    })

    each : (m : KnownValue F) → IsListed (value ∷ []) m → IsKnown y m
    each m (inl e) = subst (IsKnown y) e known
    each m (inr k) = absurd k

    short : length value.turns ≡ 0
    short = ap length no_turns

    only : (i : ℕ) → i < 1 → length (turns_at (value ∷ []) i) ≡ 0
    only zero l = short
    only (suc i) l = absurd (omega (arith, l))

    explores : Explores y (value ∷ []) 0
    explores = record {
      each = each;
      from = record { state = value; listed = inl refl; form = same; few = omega (arith, short) };
      onward = λ i l m. absurd (omega (arith, l));
      rising = λ i j le l. omega (arith, only i (omega (arith, le, l)));
      near = λ i l m. omega (arith, only i l);
    }

    deeps : AreDeep form (n ∷ [])
    deeps zero l = deep ∙ sym short
    deeps (suc i) l = absurd (omega (arith, l))

-- ---- the end

module _ {K X F G : Type 0} (y : SystemValue X F) (form : K → F) (own : K → G) (number : K → ℕ) (Valid : K → Type 0) (ns : List (Known K)) (b : BucketsValue) (most : ℕ) (reached : Bool) (s : HasSearched y form own number Valid ns b most reached) where
  pub ends_all : IsSystem y → reached ≡ false → length ns ≤ most → HaveForms y (all_known form ns)
  ends_all sys e l = have_forms y sys (all_known form ns) s.at s.searching.explores (omega (arith, s.all e l, known_length form ns))

  pub ends_cut : most < length ns → IsCut y.actors most (length ns)
  ends_cut l = (l, s.near)

  pub ends_known : AreKnown y (all_known form ns)
  ends_known = s.searching.explores.each

  pub ends_distinct : ((k l : K) → form k ≡ form l → own k ≡ own l) → AreDistinct (forms (all_known form ns))
  ends_distinct apart = subst AreDistinct (sym (known_forms form ns)) (other_distinct own form apart ns s.searching.fits.distinct)

  pub ends_rising : AreRising (all_known form ns)
  ends_rising = s.searching.explores.rising

  pub ends_fewest : IsSystem y → ((k l : K) → form k ≡ form l → own k ≡ own l) → AreFewest y (all_known form ns)
  ends_fewest sys apart = fewest y sys (all_known form ns) s.at s.searching.explores (ends_distinct apart)

  pub ends_fewer : IsSystem y → HaveFewer y (all_known form ns)
  ends_fewer sys = have_fewer y sys (all_known form ns) s.at s.searching.explores
