-- What is known of the state at a place, and the turns that lead to it from the last to the first.
use Rattle.std.proofs.Common.{◌≡◌, ℕ, ◌+◌, ◌<◌, ◌≤◌, suc, zero, Some, None, List, [], ◌∷◌, ◌++◌, sym, ap, ◌∙◌, length, map, fold, take, drop, reverse, get_or, append_assoc, arith}
use Rattle.std.proofs.lemmas.List.{length-append, length-map, get_or_past, take-append-drop, length-take-le, reverse-append, get_or_append_left, get_or_at}
use Rattle.hm_search.specs.declared.known.Known.{Known}
use Rattle.hm_search.specs.declared.known.Edge.{Edge}
use Rattle.hm_search.specs.Known.{KnownValue, turns_at}
use Rattle.hm_search.specs.Values.{turns_by, known_of, with_known, all_known, from_of}
use Rattle.hm_search.proofs.Exploring.{known_length, turns_left, turns_last, turns_kept, fold_begins}

turns_past : {F : Type 0} (vs : List (KnownValue F)) (i : ℕ) → length vs ≤ i → turns_at vs i ≡ []
turns_past {F = F} vs i l = get_or_past (map (λ n. n.turns) vs) i [] (omega (arith, l, length-map vs (λ (n : KnownValue F). n.turns)))

-- the turns to the state at a place are those by the turn that led to it first
by_first : {K F : Type 0} (form : K → F) (vs : List (KnownValue F)) (ns : List (Known K)) (i k : ℕ) → k ≡ length vs + i → turns_at (fold (with_known form) vs ns) k ≡ turns_by (fold (with_known form) vs (take i ns)) (from_of ns i)
by_first form vs [] i k e = turns_past vs k (omega (arith, e))
by_first form vs (n ∷ ns) zero k e = ap (λ z. turns_at z k) (fold_begins form (with_known form vs n) ns).same ∙ (turns_left (with_known form vs n) (fold_begins form (with_known form vs n) ns).rest k (omega (arith, e, length-append vs (known_of form vs n ∷ []))) ∙ turns_last vs (known_of form vs n) k (omega (arith, e)))
by_first form vs (n ∷ ns) (suc i) k e = by_first form (with_known form vs n) ns i k (omega (arith, e, length-append vs (known_of form vs n ∷ [])))

-- what contracts see of the state at a place
value_in : {K F : Type 0} (form : K → F) (vs : List (KnownValue F)) (ns : List (Known K)) (i k : ℕ) (n : Known K) (d : KnownValue F) → k ≡ length vs + i → i < length ns → n ≡ get_or ns i n → get_or (fold (with_known form) vs ns) k d ≡ record { form = form n.key; turns = turns_at (fold (with_known form) vs ns) k; ended = n.ended }
value_in form vs [] i k n d e l is = absurd (omega (arith, l))
value_in {F = F} form vs (m ∷ ns) zero k n d e l is = ap (λ z. get_or z k d) begins ∙ (get_or_append_left (with_known form vs m) rest d k below ∙ (get_or_at vs (known_of form vs m) [] d k (omega (arith, e)) ∙ (ap (λ t. record { form = form m.key; turns = t; ended = m.ended }) (sym turns) ∙ ap (λ (z : Known _). record { form = form z.key; turns = turns_at (fold (with_known form) vs (m ∷ ns)) k; ended = z.ended }) (sym is))))
  where
    rest : List (KnownValue F)
    rest = (fold_begins form (with_known form vs m) ns).rest

    begins : fold (with_known form) vs (m ∷ ns) ≡ with_known form vs m ++ rest
    begins = (fold_begins form (with_known form vs m) ns).same

    below : k < length (with_known form vs m)
    below = omega (arith, e, length-append vs (known_of form vs m ∷ []))

    turns : turns_at (fold (with_known form) vs (m ∷ ns)) k ≡ turns_by vs m.from
    turns = ap (λ z. turns_at z k) begins ∙ (turns_left (with_known form vs m) rest k below ∙ turns_last vs (known_of form vs m) k (omega (arith, e)))
value_in form vs (m ∷ ns) (suc i) k n d e l is = value_in form (with_known form vs m) ns i k n d (omega (arith, e, length-append vs (known_of form vs m ∷ []))) (omega (arith, l)) is

pub value_at : {K F : Type 0} (form : K → F) (ns : List (Known K)) (i : ℕ) (n : Known K) (d : KnownValue F) → i < length ns → n ≡ get_or ns i n → get_or (all_known form ns) i d ≡ record { form = form n.key; turns = turns_at (all_known form ns) i; ended = n.ended }
value_at form ns i n d l is = value_in form [] ns i i n d (omega arith) l is

some_within : {K : Type 0} (ns : List (Known K)) (at : ℕ) (turn : Edge) → from_of ns at ≡ Some turn → at < length ns
some_within [] zero turn e = cc
some_within [] (suc at) turn e = cc
some_within (n ∷ ns) zero turn e = omega arith
some_within (n ∷ ns) (suc at) turn e = omega (arith, some_within ns at turn e)

module _ {K F : Type 0} (form : K → F) (ns : List (Known K)) (at : ℕ) where
  first : turns_at (all_known form ns) at ≡ turns_by (all_known form (take at ns)) (from_of ns at)
  first = by_first form [] ns at at (omega arith)

  -- no turn led to it
  pub ends_none : (all turns : List ℕ) → from_of ns at ≡ None → all ≡ turns_at (all_known form ns) at ++ reverse turns → reverse turns ≡ all
  ends_none all turns e is = sym (is ∙ ap (λ z. z ++ reverse turns) (first ∙ ap (turns_by (all_known form (take at ns))) e))

  -- a turn led to it from a state before it
  turn_before : (turn : Edge) → from_of ns at ≡ Some turn → turn.state < at → turns_at (all_known form ns) at ≡ turns_at (all_known form ns) turn.state ++ turn.actor ∷ []
  turn_before turn e l = first ∙ (ap (turns_by (all_known form (take at ns))) e ∙ ap (λ z. z ++ turn.actor ∷ []) same)
    where
      m : at < length ns
      m = some_within ns at turn e

      same : turns_at (all_known form (take at ns)) turn.state ≡ turns_at (all_known form ns) turn.state
      same = sym (turns_kept form (take at ns) (drop at ns) turn.state (omega (arith, l, m, length-take-le at ns (omega (arith, m))))) ∙ ap (λ z. turns_at (all_known form z) turn.state) (take-append-drop at ns)

  -- or from none before it
  turn_from_none : (turn : Edge) → from_of ns at ≡ Some turn → at ≤ turn.state → turns_at (all_known form ns) at ≡ turn.actor ∷ []
  turn_from_none turn e l = let m = some_within ns at turn e in first ∙ (ap (turns_by (all_known form (take at ns))) e ∙ ap (λ z. z ++ turn.actor ∷ []) (turns_past (all_known form (take at ns)) turn.state (omega (arith, l, known_length form (take at ns), length-take-le at ns (omega (arith, m))))))

  found_more : (all turns t u : List ℕ) (a : ℕ) → all ≡ t ++ reverse turns → t ≡ u ++ a ∷ [] → all ≡ u ++ reverse (turns ++ a ∷ [])
  found_more all turns t u a e f = e ∙ (ap (λ z. z ++ reverse turns) f ∙ (append_assoc u (a ∷ []) (reverse turns) ∙ ap (λ z. u ++ z) (sym (reverse-append turns (a ∷ [])))))

  pub goes_back : (all turns more : List ℕ) (turn : Edge) → from_of ns at ≡ Some turn → turn.state < at → more ≡ turns ++ turn.actor ∷ [] → all ≡ turns_at (all_known form ns) at ++ reverse turns → all ≡ turns_at (all_known form ns) turn.state ++ reverse more
  goes_back all turns more turn e l m is = found_more all turns _ _ turn.actor is (turn_before turn e l) ∙ ap (λ z. turns_at (all_known form ns) turn.state ++ reverse z) (sym m)

  pub ends_some : (all turns more : List ℕ) (turn : Edge) → from_of ns at ≡ Some turn → at ≤ turn.state → more ≡ turns ++ turn.actor ∷ [] → all ≡ turns_at (all_known form ns) at ++ reverse turns → reverse more ≡ all
  ends_some all turns more turn e l m is = ap reverse m ∙ sym (found_more all turns _ [] turn.actor is (turn_from_none turn e l))
