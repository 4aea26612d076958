-- What the pass with all shares knows.
use Rattle.std.proofs.Common.{◌≡◌, ℕ, zero, suc, ◌+◌, ◌<◌, ◌≤◌, true, false, List, [], ◌∷◌, length, get_or, Option, Some, None, sym, refl, ap, ◌∙◌, subst, inl, ⊎_elim, arith}
use mathlib.Core.Logic.{dite}
use mathlib.Core.Option.{some, some-injective, some-ne-none}
use native.Mathlib.Decide.{ℕ_discrete}
use lib.ListN.{get_elem?}
use Rattle.atomic_table.specs.Table.{State, Final, Seen, opening}
use Rattle.hm_history.specs.declared.Entry.{Entry}
use Rattle.hm_base.specs.Program.{Program}
use Rattle.hm_history.specs.declared.StepError.{StepError}
use Rattle.hm_turns.specs.declared.known.Knowledge.{Knowledge}
use Rattle.hm_turns.specs.Sights.{AreMarks, all_shares}
use Rattle.hm_turns.specs.Ruled.{count_word, turn_word, IsHome, AtHome, Away, Fits, Kept, opened}
use Rattle.hm_turns.proofs.Sums.{prefix_whole, two_of}

module _ {S : Type 0} (script : S → Program) (history : S → List Entry) (halt : S → Option StepError) (of : Program) where
  abbrev St : Type 0
  St = State (Option S) Knowledge

  abbrev Rule : St → Type 0
  Rule = Kept script history halt of

  -- the pass with all shares has seen the history
  pub record Whole (s : St) (k : Rule s) (v : Knowledge) : Type 0 where
    pub turn : turn_word s.words ≡ 0
    pub count_is : count_word s.words ≡ length k.log
    pub home : IsHome script history halt of k.log k.stopped s.homes
    pub list_is : v.list ≡ k.log

  pub whole_pass : (s : St) (k : Rule s) (id : ℕ) (v : Knowledge) → get_elem? s.views id ≡ some v → v.shares ≡ all_shares → v.holds ≡ false → Whole s k v
  whole_pass s k id v at all free =
      let only : (j : ℕ) (u : Knowledge) → get_elem? s.views j ≡ some u → 0 < u.shares → u ≡ v =
      λ j u e live. dite (ℕ_discrete j id) (λ here. some-injective u v (sym e ∙ (ap (λ (i : ℕ). get_elem? s.views i) here ∙ at)))
      (λ away. absurd (let two = two_of (λ (z : Knowledge). z.shares) s.views j id u v away e at in let sum = k.shared in omega arith)) in
      ⊎_elim
      (λ (p : AtHome script history halt of k.log k.stopped s).
      let n = p.1 in let f = subst (λ (u : Knowledge). count_word s.words ≤ length u.list) (only k.front.seat k.front.view k.front.at k.front.live) k.front.whole in
      record { turn = p.0; count_is = p.1; home = p.2; list_is = prefix_whole v.list k.log (k.each id v at).seen (omega arith) })
      (λ (q : Away script history halt k.log k.stopped s).
      let h : true ≡ false = sym q.1.holds ∙ (ap (λ (u : Knowledge). u.holds) (only q.1.seat q.1.view q.1.at q.1.live) ∙ free) in absurd (let g = h in cc)) k.placed

  pub record Closes (words : List ℕ) (slots : List (Option S)) (v : Knowledge) : Type 0 where
    pub value : S
    pub at : get_elem? slots 0 ≡ some (Some value)
    pub history_is : history value ≡ v.list
    pub script_is : script value ≡ of
    pub halted : (e : StepError) → v.told ≡ Some e → halt value ≡ Some e
    pub counted : v.loaded ≤ length v.list
    pub marked : AreMarks v.list v.marks

  pub closes : (words : List ℕ) (slots : List (Option S)) (id : ℕ) (v : Knowledge) → v.shares ≡ all_shares → v.holds ≡ false → Final (Seen Rule id v) words slots → Closes words slots v
  closes words slots id v all free final = let s = final.0 in let k = final.1.0 in let at = final.1.1 in let w = whole_pass s k id v at all free in let h = w.home in record {
    value = h.value;
    at = final.4 0 (Some h.value) h.at;
    history_is = h.log_is ∙ sym w.list_is;
    script_is = h.script_is;
    halted = λ e t. h.halt_is ∙ (k.each id v at).halted e t;
    counted = let c = (k.each id v at).counted in let b = k.published in let l = ap (λ (es : List Entry). length es) w.list_is in omega arith;
    marked = subst (λ (es : List Entry). AreMarks es v.marks) (sym w.list_is) (k.each id v at).marked;
  }

  pub took_out : (words : List ℕ) (slots : List (Option S)) (v : Knowledge) (k : Closes words slots v) (out : Option S) → get_elem? slots 0 ≡ some out → out ≡ Some k.value
  took_out words slots v k out e = some-injective out (Some k.value) (sym e ∙ k.at)

  abbrev of_option : S → Option S → S
  of_option d None = d
  of_option d (Some x) = x

  pub took_it : (words : List ℕ) (slots : List (Option S)) (v : Knowledge) (k : Closes words slots v) (out : Option S) (x : S) → get_elem? slots 0 ≡ some out → out ≡ Some x → x ≡ k.value
  took_it words slots v k out x e is = ap (of_option k.value) (sym is ∙ took_out words slots v k out e)

  only_first : (j : ℕ) (u : Knowledge) → get_elem? (opened of ∷ []) j ≡ some u → opened of ≡ u
  only_first zero u e = some-injective (opened of) u e
  only_first (suc j) u e = absurd (some-ne-none u (sym e))

  -- a table that was just made
  pub opens : (words : List ℕ) (x : S) → 33 < length words → ((i : ℕ) → i < 34 → get_or words i 0 ≡ 0) → script x ≡ of → history x ≡ [] → halt x ≡ None → Rule (opening words (Some x ∷ []) (opened of))
  opens words x wide zeros script_is history_is halt_is = let count = zeros 0 (omega arith) in
      let one = only_first in record {
        log = [];
        stopped = None;
        wide = wide;
        published = omega arith;
        placed = inl (zeros 1 (omega arith), count, record { value = x; at = refl; script_is = script_is; log_is = history_is; halt_is = halt_is }, λ j u e. subst (λ (z : Knowledge). z.holds ≡ false) (one j u e) refl);
        each = λ j u e. subst (λ (z : Knowledge). Fits of [] None (get_or words 0 0) z) (one j u e)
            record { script_is = λ _. refl; seen = ([], refl); joined = ([], refl); shown = λ _. omega arith; counted = omega arith; halted = λ e t. t; there = tt; marked = tt };
        front = record { seat = 0; view = opened of; at = refl; live = omega arith; whole = omega arith };
        shared = refl;
        apart = λ y. omega arith;
        marks = λ p small. let k = zeros (p + 2) (omega arith) in record { inside = omega arith; follows = inl k; quiet = λ i ge lt t. absurd (omega arith) };
      }
