-- A split and a join keep the rule.
use Rattle.std.proofs.Common.{Some, None, ◌≡◌, ◌≢◌, ◌⊎◌, ℕ, ◌<◌, ◌≤◌, Bool, true, false, cond, ltb, List, [], ◌∷◌, ◌++◌, length, set, Option, sym, refl, ap, ◌∙◌, subst, inl, inr, ⊎_elim, ltb-true, ltb-false, arith}
use mathlib.Core.Logic.{dite}
use mathlib.Core.Option.{some, some-injective}
use mathlib.Core.List.{IsPrefix}
use native.Mathlib.Decide.{ℕ_discrete}
use lib.ListN.{get_elem?}
use Rattle.std.proofs.lemmas.List.Sums.{sum_by-append}
use Rattle.atomic_table.specs.Table.{State, Splits, Joins}
use Rattle.atomic_table.proofs.Lists.{set_else, at_snoc, at_longer, at_last}
use Rattle.hm_history.specs.declared.Entry.{Entry}
use Rattle.hm_base.specs.Program.{Program}
use Rattle.hm_history.specs.declared.StepError.{StepError}
use Rattle.hm_turns.specs.declared.known.Knowledge.{Knowledge}
use Rattle.hm_turns.specs.Sights.{times, longer, shorter, either_told}
use Rattle.hm_turns.specs.Ruled.{count_word, Fits, AtHome, Away, Kept, left_of, right_of, both_of, spent}
use Rattle.hm_turns.proofs.Sums.{prefix_pair, sum_set, set_at}
use Rattle.hm_turns.proofs.Owned.{times_both, there_longer, there_both}
use Rattle.hm_turns.proofs.Marks.{same_words, marks_both}
use Rattle.hm_turns.proofs.TurnKeeps.{Views, each_set, nobody_holds, still_out}

module _ {A : Type 0} where
  at_end : (xs : List A) (a : A) → get_elem? (xs ++ a ∷ []) (length xs) ≡ some a
  at_end xs a = at_last xs a (length xs) refl

record Longer (xs ys : List Entry) : Type 0 where
  one : length xs ≤ length (longer xs ys)
  two : length ys ≤ length (longer xs ys)
  shorter_is : length (shorter xs ys) ≤ length (longer xs ys)

pub longer_by : (xs ys : List Entry) (b : Bool) → ltb (length xs) (length ys) ≡ b → (length xs ≤ length (cond b ys xs)) × (length ys ≤ length (cond b ys xs)) × (length (cond b xs ys) ≤ length (cond b ys xs))
longer_by xs ys true is = let h = ltb-true (length xs) (length ys) is in (omega arith, omega arith, omega arith)
longer_by xs ys false is = let h = ltb-false (length xs) (length ys) is in (omega arith, omega arith, omega arith)

pub either_list : (P : List Entry → Type 0) (xs ys : List Entry) (b : Bool) → P xs → P ys → P (cond b ys xs)
either_list P xs ys true p q = q
either_list P xs ys false p q = p

pub told_by : (a b : Option StepError) (e : StepError) → either_told a b ≡ Some e → (a ≡ Some e) ⊎ (b ≡ Some e)
told_by None b e h = inr h
told_by (Some x) b e h = inl h

module _ {S : Type 0} (script : S → Program) (history : S → List Entry) (halt : S → Option StepError) (of : Program) where
  abbrev St : Type 0
  St = State (Option S) Knowledge

  abbrev Rule : St → Type 0
  Rule = Kept script history halt of

  pub split_allowed : (id : ℕ) (v : Knowledge) → v.holds ≡ false → 1 < v.shares → Splits Rule id v (left_of v) (right_of v)
  split_allowed id v free many s k at =
      let l : Knowledge = left_of v in let r : Knowledge = right_of v in let views : Views = s.views in let vs : Views = set views id l in let f = k.each id v at in
      let new_each : (P : ℕ → Knowledge → Type 0) → ((j : ℕ) (u : Knowledge) → get_elem? vs j ≡ some u → P j u) → ((j : ℕ) → P j r) → (j : ℕ) (u : Knowledge) → get_elem? (vs ++ r ∷ []) j ≡ some u → P j u =
      λ P old new j u e. ⊎_elim (λ (a : get_elem? vs j ≡ some u). old j u a) (λ (a : r ≡ u). subst (λ (z : Knowledge). P j z) a (new j)) (at_snoc vs r u j e) in
      record {
        log = k.log;
        stopped = k.stopped;
        wide = k.wide;
        published = k.published;
        placed = ⊎_elim
            (λ (p : AtHome script history halt of k.log k.stopped s).
            inl (p.0, p.1, p.2, new_each (λ _ u. u.holds ≡ false) (nobody_holds script history halt of views id l free (λ j u _ e. p.3 j u e)) (λ _. refl)))
            (λ (q : Away script history halt k.log k.stopped s). let o = still_out script history halt of k.log k.stopped s.words s.words views id v l at free free (same_words s.words) q.1 in
            inr (
              q.0,
              record {
                seat = o.seat;
                view = o.view;
                at = at_longer vs (r ∷ []) o.seat o.view o.at;
                holds = o.holds;
                live = o.live;
                log_is = o.log_is;
                told_is = o.told_is;
                even = o.even;
                one_more = o.one_more;
                marked = o.marked;
                others = new_each (λ j u. j ≢ o.seat → u.holds ≡ false) (λ j u e. o.others j u e) (λ _ _. refl);
              },
            )) k.placed;
        each = new_each (λ _ u. Fits of k.log k.stopped (count_word s.words) u) (each_set (λ _ u. Fits of k.log k.stopped (count_word s.words) u) views id l
            record { script_is = λ _. f.script_is (omega arith); seen = f.seen; joined = f.joined; shown = f.shown; counted = f.counted; halted = f.halted; there = f.there; marked = f.marked } (λ j u _ e. k.each j u e))
            (λ j. record { script_is = λ _. f.script_is (omega arith); seen = f.seen; joined = (k.log, refl); shown = λ _. f.shown free; counted = f.counted; halted = f.halted; there = tt; marked = f.marked });
        front = dite (ℕ_discrete k.front.seat id)
            (λ here. let same : k.front.view ≡ v = some-injective k.front.view v (sym k.front.at ∙ (ap (λ (j : ℕ). get_elem? views j) here ∙ at)) in
            record { seat = id; view = l; at = at_longer vs (r ∷ []) id l (set_at views id v l at); live = omega arith; whole = subst (λ (u : Knowledge). count_word s.words ≤ length u.list) same k.front.whole })
            (λ away. record { seat = k.front.seat; view = k.front.view; at = at_longer vs (r ∷ []) k.front.seat k.front.view (set_else views id k.front.seat l away ∙ k.front.at); live = k.front.live; whole = k.front.whole });
        shared = let sum = sum_set (λ (u : Knowledge). u.shares) views id v l at in let more = sum_by-append (λ (u : Knowledge). u.shares) vs (r ∷ []) in let whole = k.shared in omega arith;
        apart = λ x. let sum = sum_set (λ (u : Knowledge). times x u.own) views id v l at in let more = sum_by-append (λ (u : Knowledge). times x u.own) vs (r ∷ []) in let a = k.apart x in omega arith;
        marks = k.marks;
      }

  pub join_allowed : (id other : ℕ) (v w : Knowledge) → v.holds ≡ false → w.holds ≡ false → 0 < v.shares → Joins Rule id v other w (both_of v w) spent
  join_allowed id other v w free free_too live s k at apart at_other =
      let b : Knowledge = both_of v w in let views : Views = s.views in let mid : Views = set views id b in let vs : Views = set mid other spent in let n : ℕ = count_word s.words in
      let f = k.each id v at in let at_w : get_elem? views other ≡ some w = sym (set_else views id other b apart) ∙ at_other in let g = k.each other w at_w in
      let lens = longer_by v.list w.list (ltb (length v.list) (length w.list)) refl in let one = lens.0 in let two = lens.1 in
      let both_seen : IsPrefix b.list k.log = either_list (λ l. IsPrefix l k.log) v.list w.list (ltb (length v.list) (length w.list)) f.seen g.seen in
      let new_each : (P : ℕ → Knowledge → Type 0) → P id b → P other spent → ((j : ℕ) (u : Knowledge) → j ≢ id → j ≢ other → get_elem? views j ≡ some u → P j u) → (j : ℕ) (u : Knowledge) → get_elem? vs j ≡ some u → P j u =
      λ P both gone rest. each_set P mid other spent gone (λ j u ne e. each_set (λ i z. i ≢ other → P i z) views id b (λ _. both) (λ i z ni a no. rest i z ni no a) j u e ne) in
      record {
        log = k.log;
        stopped = k.stopped;
        wide = k.wide;
        published = k.published;
        placed = ⊎_elim
            (λ (p : AtHome script history halt of k.log k.stopped s).
            inl (p.0, p.1, p.2, new_each (λ _ u. u.holds ≡ false) free refl (λ j u _ _ e. p.3 j u e)))
            (λ (q : Away script history halt k.log k.stopped s).
            let o = still_out script history halt of k.log k.stopped s.words s.words views id v b at free free (same_words s.words) q.1 in
            inr (q.0, still_out script history halt of k.log k.stopped s.words s.words mid other w spent at_other free_too refl (same_words s.words) o)) k.placed;
        each = new_each (λ _ u. Fits of k.log k.stopped n u)
            record {
              script_is = λ _. f.script_is live;
              seen = both_seen;
              joined = either_list (λ l. IsPrefix l k.log) w.list v.list (ltb (length v.list) (length w.list)) g.seen f.seen;
              shown = λ _. either_list (λ l. length l ≤ n) v.list w.list (ltb (length v.list) (length w.list)) (f.shown free) (g.shown free_too);
              counted = let a = f.counted in let c = g.counted in omega arith;
              halted = λ e t. ⊎_elim (f.halted e) (g.halted e) (told_by v.told w.told e t);
              there = there_both b.list v.own w.own (there_longer v.list b.list v.own (prefix_pair v.list b.list k.log f.seen both_seen lens.0) f.there) (there_longer w.list b.list w.own (prefix_pair w.list b.list k.log g.seen both_seen lens.1) g.there);
              marked = marks_both k.log v.marks w.marks f.marked g.marked;
            }
            record { script_is = λ no. absurd (omega arith); seen = (k.log, refl); joined = (k.log, refl); shown = λ _. omega arith; counted = omega arith; halted = λ e no. absurd (let z = no in cc); there = tt; marked = tt }
            (λ j u _ _ e. k.each j u e);
        front = dite (ℕ_discrete k.front.seat id)
            (λ here. let same : k.front.view ≡ v = some-injective k.front.view v (sym k.front.at ∙ (ap (λ (j : ℕ). get_elem? views j) here ∙ at)) in
            let whole = subst (λ (u : Knowledge). n ≤ length u.list) same k.front.whole in
            record { seat = id; view = b; at = set_else mid other id spent (λ e. apart (sym e)) ∙ set_at views id v b at; live = omega arith; whole = omega arith })
            (λ away. dite (ℕ_discrete k.front.seat other)
            (λ here. let same : k.front.view ≡ w = some-injective k.front.view w (sym k.front.at ∙ (ap (λ (j : ℕ). get_elem? views j) here ∙ at_w)) in
            let whole = subst (λ (u : Knowledge). n ≤ length u.list) same k.front.whole in
            record { seat = id; view = b; at = set_else mid other id spent (λ e. apart (sym e)) ∙ set_at views id v b at; live = omega arith; whole = omega arith })
            (λ far. record { seat = k.front.seat; view = k.front.view; at = set_else mid other k.front.seat spent far ∙ (set_else views id k.front.seat b away ∙ k.front.at); live = k.front.live; whole = k.front.whole }));
        shared = let sum = sum_set (λ (u : Knowledge). u.shares) views id v b at in let more = sum_set (λ (u : Knowledge). u.shares) mid other w spent at_other in let whole = k.shared in omega arith;
        apart = λ x. let sum = sum_set (λ (u : Knowledge). times x u.own) views id v b at in let more = sum_set (λ (u : Knowledge). times x u.own) mid other w spent at_other in let a = k.apart x in let both = times_both x v.own w.own in omega arith;
        marks = k.marks;
      }
