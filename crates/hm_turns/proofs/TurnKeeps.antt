-- Each step keeps the rule.
use Rattle.std.proofs.Common.{◌≡◌, ◌≢◌, ◌⊎◌, ℕ, ◌+◌, ◌<◌, ◌≤◌, Bool, true, false, eqb, List, [], ◌∷◌, ◌++◌, length, set, Option, Some, None, sym, refl, ap, ◌∙◌, subst, le_refl, inl, inr, ⊎_elim, arith, length-append, length-set, get_or-set_other, get_or-set_same, eq-eqb, ne_eqb}
use mathlib.Core.Logic.{dite}
use mathlib.Core.Option.{some, none, some-injective}
use mathlib.Core.Option as maybe
use mathlib.Core.List.{IsPrefix}
use native.Mathlib.Decide.{ℕ_discrete}
use lib.ListN.{get_elem?}
use lib.Seq.{set-get_or}
use prog.Atomic.{either}
use Rattle.atomic_table.specs.Table.{State, Me, Act, step, keeps, takes, gives, stepped, Allows}
use Rattle.atomic_table.proofs.Lists.{at_set, set_here, set_else}
use Rattle.hm_history.specs.declared.Entry.{Entry}
use Rattle.hm_base.specs.Program.{Program}
use Rattle.hm_history.specs.declared.StepError.{StepError}
use Rattle.hm_turns.specs.declared.known.Knowledge.{Knowledge}
use Rattle.hm_turns.specs.Sights.{OwnsOnce, AreMarks, AreThere, times, all_shares}
use Rattle.hm_turns.specs.declared.known.Own.{Own}
use Rattle.hm_turns.specs.Ruled.{count_word, turn_word, owned, Fits, HasFront, IsOut, AtHome, Away, Placed, Kept, MarkFits, MarksFit, mark_word, winner, kept_out, grown, raised, even, told_count, told_mark, raised_as, counted_as, marked_as, freed, compared, Won, took, noted, published_as, gave, compared_as}
use Rattle.hm_turns.specs.Touching.{last_touched}
use Rattle.hm_turns.proofs.Marks.{marks_longer, mark_longer, marks_both, SameWords, same_words, turned_words, marks_stay, marks_untouched, marks_raised}
use Rattle.hm_turns.proofs.Sums.{prefix_refl, prefix_trans, prefix_length, prefix_pair, same_last, sum_set, sum_none, one_of, two_of, set_at}
use Rattle.hm_turns.proofs.Owned.{times_both, once_here, never_here, there_longer, there_inside, there_more}

abbrev pub Views : Type 0
Views = List Knowledge

-- a view that was set: it is the new one, or one that was there
pub each_set : (P : ℕ → Knowledge → Type 0) (views : Views) (id : ℕ) (w : Knowledge) → P id w → ((j : ℕ) (v : Knowledge) → j ≢ id → get_elem? views j ≡ some v → P j v)
    → (j : ℕ) (v : Knowledge) → get_elem? (set views id w) j ≡ some v → P j v
each_set P views id w mine others j v at = ⊎_elim (λ (t : (j ≡ id) × (w ≡ v)). subst (λ (x : ℕ × Knowledge). P x.0 x.1) (λ i. (sym t.0 i, t.1 i)) mine)
    (λ (t : (j ≢ id) × (get_elem? views j ≡ some v)). others j v t.0 t.1) (at_set views id j w v at)

pub longer_yet : (of : Program) (log log' : List Entry) (stopped stopped' : Option StepError) (n n' : ℕ) (v : Knowledge) → IsPrefix log log' → ((e : StepError) → stopped ≡ Some e → stopped' ≡ Some e) → n ≤ n' → Fits of log stopped n v → Fits of log' stopped' n' v
longer_yet of log log' stopped stopped' n n' v more halts up k = let c = k.counted in let l = prefix_length log log' more in record {
  script_is = k.script_is;
  seen = prefix_trans v.list log log' k.seen more;
  joined = prefix_trans v.other log log' k.joined more;
  shown = λ h. let s = k.shown h in omega arith;
  counted = omega arith;
  halted = λ e h. halts e (k.halted e h);
  there = k.there;
  marked = marks_longer log log' v.marks more k.marked;
}

pub front_stays : (views : Views) (id : ℕ) (v w : Knowledge) (n n' : ℕ) → get_elem? views id ≡ some v → w.shares ≡ v.shares
    → (n' ≡ n × (length v.list ≤ length w.list)) ⊎ ((0 < w.shares) × (n' ≤ length w.list)) → HasFront n views → HasFront n' (set views id w)
front_stays views id v w n n' at shares (inl t) f = dite (ℕ_discrete f.seat id)
    (λ here. let same : f.view ≡ v = some-injective f.view v (sym f.at ∙ (ap (λ (j : ℕ). get_elem? views j) here ∙ at)) in
    let live = subst (λ (u : Knowledge). 0 < u.shares) same f.live in let whole = subst (λ (u : Knowledge). n ≤ length u.list) same f.whole in let e = t.0 in let le = t.1 in
    record { seat = id; view = w; at = set_at views id v w at; live = omega arith; whole = omega arith })
    (λ away. record { seat = f.seat; view = f.view; at = set_else views id f.seat w away ∙ f.at; live = f.live; whole = let e = t.0 in let h = f.whole in omega arith })
front_stays views id v w n n' at shares (inr t) f = record { seat = id; view = w; at = set_at views id v w at; live = t.0; whole = t.1 }

pub same_owned : (views : Views) (id : ℕ) (v w : Knowledge) → get_elem? views id ≡ some v → w.own ≡ v.own → ((x : ℕ) → owned x views ≤ 1) → (x : ℕ) → owned x (set views id w) ≤ 1
same_owned views id v w at same apart x = let sum = sum_set (λ (u : Knowledge). times x u.own) views id v w at in let e : times x w.own ≡ times x v.own = ap (times x) same in let a = apart x in omega arith

pub grown_owned : (views : Views) (id : ℕ) (v w : Knowledge) (o : Own) → get_elem? views id ≡ some v → w.own ≡ v.own ++ o ∷ [] → ((j : ℕ) (u : Knowledge) → get_elem? views j ≡ some u → times o.at u.own ≡ 0)
    → ((x : ℕ) → owned x views ≤ 1) → (x : ℕ) → owned x (set views id w) ≤ 1
grown_owned views id v w o at is nobody apart x = let sum = sum_set (λ (u : Knowledge). times x u.own) views id v w at in let e : times x w.own ≡ times x v.own + times x (o ∷ []) = ap (times x) is ∙ times_both x v.own (o ∷ []) in
    dite (ℕ_discrete o.at x)
    (λ here. let one = once_here o x here in
    let zero_all : owned x views ≡ 0 = sum_none (λ (u : Knowledge). times x u.own) views (λ j u a. subst (λ (y : ℕ). times y u.own ≡ 0) here (nobody j u a)) in omega arith)
    (λ away. let none_here = never_here o x away in let a = apart x in omega arith)

module _ {S : Type 0} (script : S → Program) (history : S → List Entry) (halt : S → Option StepError) (of : Program) where
  abbrev pub St : Type 0
  St = State (Option S) Knowledge

  abbrev pub M : Type 0
  M = Me (Option S) Knowledge

  abbrev pub Rule : St → Type 0
  Rule = Kept script history halt of

  abbrev Slots : Type 0
  Slots = List (maybe.Option (Option S))

  -- one view changes, and the words and slots with it
  moves : (s : St) (k : Rule s) (id : ℕ) (v w : Knowledge) (ws : List ℕ) (hs : Slots) (log : List Entry) (stopped : Option StepError)
      → get_elem? s.views id ≡ some v
      → 33 < length ws
      → IsPrefix k.log log
      → ((e : StepError) → k.stopped ≡ Some e → stopped ≡ Some e)
      → count_word s.words ≤ count_word ws
      → count_word ws ≤ length log
      → w.shares ≡ v.shares
      → Fits of log stopped (count_word ws) w
      → ((count_word ws ≡ count_word s.words) × (length v.list ≤ length w.list)) ⊎ ((0 < w.shares) × (count_word ws ≤ length w.list))
      → ((x : ℕ) → owned x (set s.views id w) ≤ 1)
      → MarksFit log (count_word ws) ws
      → Placed script history halt of log stopped record { words = ws; homes = hs; views = set s.views id w }
      → Rule record { words = ws; homes = hs; views = set s.views id w }
  moves s k id v w ws hs log stopped at wide more halts up below shares fits front apart marks placed = record {
    log = log;
    stopped = stopped;
    wide = wide;
    published = below;
    placed = placed;
    each = each_set (λ _ u. Fits of log stopped (count_word ws) u) s.views id w fits (λ j u _ e. longer_yet of k.log log k.stopped stopped (count_word s.words) (count_word ws) u more halts up (k.each j u e));
    front = front_stays s.views id v w (count_word s.words) (count_word ws) at shares front k.front;
    shared = let sum = sum_set (λ (u : Knowledge). u.shares) s.views id v w at in let whole = k.shared in omega arith;
    apart = apart;
    marks = marks;
  }

  pub nobody_holds : (views : Views) (id : ℕ) (w : Knowledge) → w.holds ≡ false → ((j : ℕ) (v : Knowledge) → j ≢ id → get_elem? views j ≡ some v → v.holds ≡ false) → (j : ℕ) (v : Knowledge) → get_elem? (set views id w) j ≡ some v → v.holds ≡ false
  nobody_holds views id w mine others = each_set (λ _ u. u.holds ≡ false) views id w mine others

  -- the one who has the turn is another
  pub still_out : (log : List Entry) (stopped : Option StepError) (ws ws' : List ℕ) (views : Views) (id : ℕ) (v w : Knowledge) → get_elem? views id ≡ some v → v.holds ≡ false → w.holds ≡ false → SameWords ws ws' → IsOut log stopped ws views → IsOut log stopped ws' (set views id w)
  still_out log stopped ws ws' views id v w at free free' same o =
      let away : o.seat ≢ id = λ here. let e : o.view ≡ v = some-injective o.view v (sym o.at ∙ (ap (λ (j : ℕ). get_elem? views j) here ∙ at)) in
      let h : true ≡ false = sym o.holds ∙ (ap (λ (u : Knowledge). u.holds) e ∙ free) in cc in
      record {
        seat = o.seat;
        view = o.view;
        at = set_else views id o.seat w away ∙ o.at;
        holds = o.holds;
        live = o.live;
        log_is = o.log_is;
        told_is = o.told_is;
        even = λ h. same.count ∙ o.even h;
        one_more = λ h. o.one_more h ∙ ap (λ (n : ℕ). n + 1) (sym same.count);
        marked = λ h. marks_stay ws ws' log (length log) same (o.marked h);
        others = each_set (λ j u. j ≢ o.seat → u.holds ≡ false) views id w (λ _. free') (λ j u _ e ne. o.others j u e ne);
      }

  -- the holder is this seat
  pub out_here : (log : List Entry) (stopped : Option StepError) (ws : List ℕ) (views : Views) (id : ℕ) (v : Knowledge) → get_elem? views id ≡ some v → v.holds ≡ true → (o : IsOut log stopped ws views)
      → (o.seat ≡ id) × (o.view ≡ v)
  out_here log stopped ws views id v at holds o = dite (ℕ_discrete o.seat id)
      (λ here. (here, some-injective o.view v (sym o.at ∙ (ap (λ (j : ℕ). get_elem? views j) here ∙ at))))
      (λ away. let h : true ≡ false = sym holds ∙ o.others id v at (λ e. away (sym e)) in absurd (let g = h in cc))

  count_stays : (ws : List ℕ) (n : ℕ) → count_word (set ws 1 n) ≡ count_word ws
  count_stays ws n = get_or-set_other ws 1 0 n 0 (λ e. omega arith)

  turn_is : (ws : List ℕ) (n : ℕ) → 1 < length ws → turn_word (set ws 1 n) ≡ n
  turn_is ws n wide = get_or-set_same ws 1 n 0 wide

  -- the turn is free: this seat takes the value
  takes_it : (s : St) (k : Rule s) (id : ℕ) (v : Knowledge) → get_elem? s.views id ≡ some v → v.holds ≡ false → 0 < v.shares → turn_word s.words ≡ 0
      → (x : S) × Won script history halt v x × (get_elem? s.homes 0 ≡ some (some (Some x)))
      × Rule record { words = set s.words 1 1; homes = set s.homes 0 none; views = set s.views id (winner v (history x) (halt x)) }
  takes_it s k id v at free live idle = ⊎_elim
      (λ (p : AtHome script history halt of k.log k.stopped s).
      let h = p.2 in let x = h.value in let w : Knowledge = winner v (history x) (halt x) in let f = k.each id v at in let wide = k.wide in let c = count_stays s.words 1 in let l = ap (λ (es : List Entry). length es) h.log_is in let all = p.1 in
      let seen_all : IsPrefix v.list (history x) = subst (λ (es : List Entry). IsPrefix v.list es) (sym h.log_is) f.seen in
      let won : Won script history halt v x = record {
        script_is = h.script_is ∙ sym (f.script_is live);
        later = seen_all;
        counted = let n = f.counted in omega arith;
        told = λ e t. h.halt_is ∙ f.halted e t;
        there = there_longer v.list (history x) v.own seen_all f.there;
        marked = subst (λ (es : List Entry). AreMarks es v.marks) (sym h.log_is) f.marked;
      } in (
        x,
        won,
        h.at,
        moves s k id v w (set s.words 1 1) (set s.homes 0 none) k.log k.stopped at (subst (λ (n : ℕ). 33 < n) (sym (length-set s.words 1 1)) wide) (prefix_refl k.log) (λ e t. t) (omega arith) (omega arith) refl
            record {
              script_is = λ _. f.script_is live;
              seen = subst (λ (es : List Entry). IsPrefix (history x) es) h.log_is (prefix_refl (history x));
              joined = f.joined;
              shown = λ no. absurd (let g = no in cc);
              counted = let n = f.counted in omega arith;
              halted = λ e t. sym h.halt_is ∙ t;
              there = won.there;
              marked = f.marked;
            }
            (inr (live, omega arith))
            (same_owned s.views id v w at refl k.apart)
            (subst (λ (n : ℕ). MarksFit k.log n (set s.words 1 1)) (sym c) (marks_stay s.words (set s.words 1 1) k.log (count_word s.words) (turned_words s.words 1) k.marks))
            (inr (
              turn_is s.words 1 (omega arith),
              record {
                seat = id;
                view = w;
                at = set_at s.views id v w at;
                holds = refl;
                live = live;
                log_is = h.log_is;
                told_is = h.halt_is;
                even = λ _. c ∙ all;
                one_more = λ no. absurd (let g = no in cc);
                marked = λ _. subst (λ (n : ℕ). MarksFit k.log n (set s.words 1 1)) all (marks_stay s.words (set s.words 1 1) k.log (count_word s.words) (turned_words s.words 1) k.marks);
                others = each_set (λ j u. j ≢ id → u.holds ≡ false) s.views id w (λ ne. absurd (ne refl)) (λ j u _ e _. p.3 j u e);
              },
            )),
      ))
      (λ (q : Away script history halt k.log k.stopped s). absurd (let one = q.0 in omega arith)) k.placed

  -- the turn is held by another seat, so this one has not all the shares
  misses_it : (s : St) (k : Rule s) (id : ℕ) (v : Knowledge) → get_elem? s.views id ≡ some v → v.holds ≡ false → turn_word s.words ≢ 0
      → (v.shares ≢ all_shares) × Rule record { words = set s.words 1 (turn_word s.words); homes = s.homes; views = set s.views id (kept_out v) }
  misses_it s k id v at free taken = ⊎_elim
      (λ (p : AtHome script history halt of k.log k.stopped s).
      absurd (taken p.0))
      (λ (q : Away script history halt k.log k.stopped s). let o = q.1 in let f = k.each id v at in let wide = k.wide in let c = count_stays s.words (turn_word s.words) in
      let away : o.seat ≢ id = λ here. let e : o.view ≡ v = some-injective o.view v (sym o.at ∙ (ap (λ (j : ℕ). get_elem? s.views j) here ∙ at)) in
      let h : true ≡ false = sym o.holds ∙ (ap (λ (u : Knowledge). u.holds) e ∙ free) in cc in
      let below = k.published in (
        (λ all. let two = two_of (λ (u : Knowledge). u.shares) s.views o.seat id o.view v away o.at at in let sum = k.shared in let live = o.live in omega arith),
        moves s k id v (kept_out v) (set s.words 1 (turn_word s.words)) s.homes k.log k.stopped at (subst (λ (n : ℕ). 33 < n) (sym (length-set s.words 1 (turn_word s.words))) wide) (prefix_refl k.log) (λ e t. t) (omega arith) (omega arith) refl
            record {
              script_is = f.script_is;
              seen = f.seen;
              joined = f.joined;
              shown = λ h. let l = f.shown h in omega arith;
              counted = let l = f.counted in omega arith;
              halted = f.halted;
              there = f.there;
              marked = f.marked;
            }
            (inl (c, le_refl (length v.list)))
            (same_owned s.views id v (kept_out v) at refl k.apart)
            (subst (λ (n : ℕ). MarksFit k.log n (set s.words 1 (turn_word s.words))) (sym c) (marks_stay s.words (set s.words 1 (turn_word s.words)) k.log (count_word s.words) (turned_words s.words (turn_word s.words)) k.marks))
            (inr (turn_is s.words (turn_word s.words) (omega arith) ∙ q.0, still_out k.log k.stopped s.words (set s.words 1 (turn_word s.words)) s.views id v (kept_out v) at free free (turned_words s.words (turn_word s.words)) o)),
      )) k.placed

  pub take_allowed : (slots id : ℕ) (v : Knowledge) → v.holds ≡ false → 0 < v.shares
      → Allows Rule slots id (v, []) 1 (λ n. either (eqb n 0) 1 n) (took script history halt (step slots 1 0 1 none) (v, []))
  take_allowed slots id v free live s k deep at small = dite (ℕ_discrete (turn_word s.words) 0)
      (λ hit. let t = takes_it s k id v at free live hit in let x = t.0 in let w : Knowledge = winner v (history x) (halt x) in let a : Act (Option S) = takes 0 (Some x) in (
        w,
        a,
        t.2,
        subst (λ (b : Bool). Rule (stepped s 1 (either b 1 (turn_word s.words)) id [] w a)) (sym (eq-eqb (turn_word s.words) 0 hit)) t.3,
        ((λ _. (x, t.1, refl)), λ no. absurd (no hit)),
      ))
      (λ miss. let t = misses_it s k id v at free miss in let a : Act (Option S) = keeps in (
        kept_out v,
        a,
        tt,
        subst (λ (b : Bool). Rule (stepped s 1 (either b 1 (turn_word s.words)) id [] (kept_out v) a)) (sym (ne_eqb (turn_word s.words) 0 miss)) t.1,
        ((λ hit. absurd (miss hit)), λ _. (refl, t.0, refl, refl, refl)),
      ))

  -- what the rule says where this seat has the turn
  record Here (s : St) (k : Rule s) (v : Knowledge) : Type 0 where
    turn : turn_word s.words ≡ 1
    log_is : v.list ≡ k.log
    live : 0 < v.shares
    told_is : v.told ≡ k.stopped
    even : v.ahead ≡ false → count_word s.words ≡ length k.log
    one_more : v.ahead ≡ true → length k.log ≡ count_word s.words + 1
    marked : v.marked ≡ true → MarksFit k.log (length k.log) s.words

  holder_here : (s : St) (k : Rule s) (id : ℕ) (v : Knowledge) → get_elem? s.views id ≡ some v → v.holds ≡ true
      → Here s k v × ((j : ℕ) (u : Knowledge) → j ≢ id → get_elem? s.views j ≡ some u → u.holds ≡ false)
  holder_here s k id v at holds = ⊎_elim
      (λ (p : AtHome script history halt of k.log k.stopped s).
      let h : true ≡ false = sym holds ∙ p.3 id v at in absurd (let g = h in cc))
      (λ (q : Away script history halt k.log k.stopped s). let o = q.1 in let e = out_here k.log k.stopped s.words s.views id v at holds o in (
        record {
          turn = q.0;
          log_is = ap (λ (u : Knowledge). u.list) (sym e.1) ∙ o.log_is;
          live = subst (λ (u : Knowledge). 0 < u.shares) e.1 o.live;
          told_is = ap (λ (u : Knowledge). u.told) (sym e.1) ∙ o.told_is;
          even = λ h. o.even (ap (λ (u : Knowledge). u.ahead) e.1 ∙ h);
          one_more = λ h. o.one_more (ap (λ (u : Knowledge). u.ahead) e.1 ∙ h);
          marked = λ h. o.marked (ap (λ (u : Knowledge). u.marked) e.1 ∙ h);
        },
        λ j u ne a. o.others j u a (λ z. ne (z ∙ e.0)),
      )) k.placed

  is_out : (log : List Entry) (stopped : Option StepError) (ws : List ℕ) (views : Views) (id : ℕ) (v w : Knowledge) → get_elem? views id ≡ some v → w.holds ≡ true → 0 < w.shares → w.list ≡ log → w.told ≡ stopped → (w.ahead ≡ false → count_word ws ≡ length log) → (w.ahead ≡ true → length log ≡ count_word ws + 1) → (w.marked ≡ true → MarksFit log (length log) ws)
      → ((j : ℕ) (u : Knowledge) → j ≢ id → get_elem? views j ≡ some u → u.holds ≡ false) → IsOut log stopped ws (set views id w)
  is_out log stopped ws views id v w at holds live log_is told_is even one_more marked others = record {
    seat = id;
    view = w;
    at = set_at views id v w at;
    holds = holds;
    live = live;
    log_is = log_is;
    told_is = told_is;
    even = even;
    one_more = one_more;
    marked = marked;
    others = each_set (λ j u. j ≢ id → u.holds ≡ false) views id w (λ ne. absurd (ne refl)) (λ j u ne e _. others j u ne e);
  }

  notes_it : (s : St) (k : Rule s) (id : ℕ) (v : Knowledge) (log : List Entry) (e : Entry) → get_elem? s.views id ≡ some v → v.holds ≡ true → v.ahead ≡ false → log ≡ v.list ++ e ∷ []
      → Rule record { words = s.words; homes = s.homes; views = set s.views id (grown v log e) }
  notes_it s k id v log e at holds level is = let hh = holder_here s k id v at holds in let h = hh.0 in let f = k.each id v at in let w : Knowledge = grown v log e in let below = k.published in
      let more : IsPrefix v.list log = (e ∷ [], sym is) in let more' : IsPrefix k.log log = subst (λ (es : List Entry). IsPrefix es log) h.log_is more in
      let longer_by : length log ≡ length v.list + 1 = ap (λ (es : List Entry). length es) is ∙ length-append v.list (e ∷ []) in let same = ap (λ (es : List Entry). length es) h.log_is in let all = h.even level in
      let fit : MarksFit log (count_word s.words) s.words = λ p small. mark_longer k.log log (count_word s.words) (mark_word s.words p) p more' below (k.marks p small) in let one : length log ≡ count_word s.words + 1 = omega arith in
      moves s k id v w s.words s.homes log k.stopped at k.wide more' (λ e t. t) (le_refl (count_word s.words)) (omega arith) refl
      record {
        script_is = f.script_is;
        seen = prefix_refl log;
        joined = prefix_trans v.other k.log log f.joined more';
        shown = λ no. let g : true ≡ false = sym holds ∙ no in absurd (let g' = g in cc);
        counted = f.counted;
        halted = f.halted;
        there = subst (λ (es : List Entry). AreThere es w.own) (sym is) (there_more v.list v.own e f.there);
        marked = marks_longer k.log log v.marks more' f.marked;
      }
      (inl (refl, omega arith))
      (grown_owned s.views id v w record { at = length v.list; entry = e } at refl
      (λ j u a. dite (ℕ_discrete (times (length v.list) u.own) 0) (λ z. z) (λ no. let t = there_inside u.list u.own (length v.list) (k.each j u a).there (omega arith) in let l = prefix_length u.list k.log (k.each j u a).seen in absurd (omega arith))) k.apart)
      fit
      (inr (h.turn, is_out log k.stopped s.words s.views id v w at holds h.live refl h.told_is (λ no. absurd (let g = no in cc)) (λ _. one) (λ none_last. marks_untouched log (count_word s.words) s.words one none_last fit) hh.1))

  abbrev pub Hand : Type 0
  Hand = List (ℕ × Option S)

  abbrev pub nothing : Hand
  nothing = []

  abbrev pub hand_of : S → Hand
  hand_of x = (0, Some x) ∷ []

  abbrev in_slot : S → Option S → S
  in_slot d None = d
  in_slot d (Some x) = x

  abbrev in_hand : S → Hand → S
  in_hand d [] = d
  in_hand d (h ∷ hs) = in_slot d h.1

  same_hand : (x y : S) → hand_of x ≡ hand_of y → x ≡ y
  same_hand x y e = ap (in_hand x) e

  pub note_allowed : (slots id : ℕ) (v : Knowledge) (x : S) (e : Entry) → v.holds ≡ true → v.ahead ≡ false → history x ≡ v.list ++ e ∷ []
      → Allows Rule slots id (v, (0, Some x) ∷ []) 0 (λ n. n) (noted script history halt (step slots 0 0 0 none) (v, (0, Some x) ∷ []))
  note_allowed slots id v x e holds level is s k deep at small = let a : Act (Option S) = keeps in (
    grown v (history x) e,
    a,
    tt,
    subst (λ (ws : List ℕ). Rule record { words = ws; homes = s.homes; views = set s.views id (grown v (history x) e) }) (sym (set-get_or s.words 0 0)) (notes_it s k id v (history x) e at holds level is),
    (refl, λ y f same more. let q = same_hand x y same in let r = same_last v.list e f (sym is ∙ (ap history q ∙ more)) in λ k. (grown v (history (q k)) (r k), hand_of x)),
  )

  publishes_it : (s : St) (k : Rule s) (id : ℕ) (v : Knowledge) (n : ℕ) → get_elem? s.views id ≡ some v → v.holds ≡ true → v.marked ≡ true → n ≡ length v.list
      → Rule record { words = set s.words 0 n; homes = s.homes; views = set s.views id (even v) }
  publishes_it s k id v n at holds ready is = let hh = holder_here s k id v at holds in let h = hh.0 in let f = k.each id v at in let w : Knowledge = even v in let below = k.published in let wide = k.wide in
      let same = ap (λ (es : List Entry). length es) h.log_is in let now : count_word (set s.words 0 n) ≡ n = get_or-set_same s.words 0 n 0 (omega arith) in
      let still : turn_word (set s.words 0 n) ≡ turn_word s.words = get_or-set_other s.words 0 1 n 0 (λ e. omega arith) in
      let fit : MarksFit k.log (length k.log) (set s.words 0 n) = λ p small. subst (λ (m : ℕ). MarkFits k.log (length k.log) m p) (sym (get_or-set_other s.words 0 (p + 2) n 0 (λ e. omega arith))) (h.marked ready p small) in
      moves s k id v w (set s.words 0 n) s.homes k.log k.stopped at (subst (λ (m : ℕ). 33 < m) (sym (length-set s.words 0 n)) wide) (prefix_refl k.log) (λ e t. t) (omega arith) (omega arith) refl
      record {
        script_is = f.script_is;
        seen = f.seen;
        joined = f.joined;
        shown = λ no. omega arith;
        counted = let c = f.counted in omega arith;
        halted = f.halted;
        there = f.there;
        marked = f.marked;
      }
      (inr (h.live, omega arith))
      (same_owned s.views id v w at refl k.apart)
      (subst (λ (m : ℕ). MarksFit k.log m (set s.words 0 n)) (sym (now ∙ (is ∙ same))) fit)
      (inr (still ∙ h.turn, is_out k.log k.stopped (set s.words 0 n) s.views id v w at holds h.live h.log_is h.told_is (λ _. now ∙ (is ∙ same)) (λ no. absurd (let g = no in cc)) (λ _. fit) hh.1))

  pub publish_allowed : (slots id : ℕ) (me : M) (n : ℕ) → me.0.holds ≡ true → me.0.marked ≡ true → n ≡ length me.0.list
      → Allows Rule slots id me 0 (λ _. n) (λ _. published_as script history halt (step slots 0 n 0 none) me n)
  publish_allowed slots id me n holds ready is s k deep at small = let a : Act (Option S) = keeps in (even me.0, a, tt, publishes_it s k id me.0 n at holds ready is, refl)

  gives_it : (s : St) (k : Rule s) (id : ℕ) (v : Knowledge) (x : S) → length s.homes ≡ 1 → get_elem? s.views id ≡ some v → v.holds ≡ true → v.ahead ≡ false → script x ≡ v.script → history x ≡ v.list → ((e : StepError) → v.told ≡ Some e → halt x ≡ Some e)
      → Rule record { words = set s.words 1 0; homes = set s.homes 0 (some (Some x)); views = set s.views id (freed v (halt x)) }
  gives_it s k id v x deep at holds level script_is log_is told = let hh = holder_here s k id v at holds in let h = hh.0 in let f = k.each id v at in let w : Knowledge = freed v (halt x) in let below = k.published in let wide = k.wide in
      let c = count_stays s.words 0 in let same = ap (λ (es : List Entry). length es) h.log_is in let all = h.even level in
      moves s k id v w (set s.words 1 0) (set s.homes 0 (some (Some x))) k.log (halt x) at (subst (λ (m : ℕ). 33 < m) (sym (length-set s.words 1 0)) wide) (prefix_refl k.log) (λ e t. told e (h.told_is ∙ t)) (omega arith) (omega arith) refl
      record {
        script_is = f.script_is;
        seen = f.seen;
        joined = f.joined;
        shown = λ no. omega arith;
        counted = let n = f.counted in omega arith;
        halted = λ e t. t;
        there = f.there;
        marked = f.marked;
      }
      (inl (c, le_refl (length v.list)))
      (same_owned s.views id v w at refl k.apart)
      (subst (λ (n : ℕ). MarksFit k.log n (set s.words 1 0)) (sym c) (marks_stay s.words (set s.words 1 0) k.log (count_word s.words) (turned_words s.words 0) k.marks))
      (inl (
        turn_is s.words 0 (omega arith),
        c ∙ all,
        record { value = x; at = set_here s.homes 0 (some (Some x)) (omega arith); script_is = script_is ∙ f.script_is h.live; log_is = log_is ∙ h.log_is; halt_is = refl },
        nobody_holds s.views id w refl hh.1,
      ))

  pub give_allowed : (slots id : ℕ) (v : Knowledge) (x : S) → slots ≡ 1 → v.holds ≡ true → v.ahead ≡ false → script x ≡ v.script → history x ≡ v.list → ((e : StepError) → v.told ≡ Some e → halt x ≡ Some e)
      → Allows Rule slots id (v, hand_of x) 1 (λ _. 0) (λ _. gave script history halt (step slots 1 0 0 none) (v, hand_of x) 0)
  give_allowed slots id v x one holds level script_is log_is told s k deep at small = let a : Act (Option S) = gives in (
    freed v (halt x),
    a,
    tt,
    gives_it s k id v x (deep ∙ one) at holds level script_is log_is told,
    (refl, λ y same. ap (λ (z : S). (freed v (halt z), nothing)) (same_hand x y same)),
  )

  -- a load, after a join
  compares_it : (s : St) (k : Rule s) (id : ℕ) (v : Knowledge) → get_elem? s.views id ≡ some v → v.holds ≡ false → length v.other ≤ length v.list
      → IsPrefix v.other v.list × OwnsOnce v.own v.list × Rule record { words = s.words; homes = s.homes; views = set s.views id (compared v) }
  compares_it s k id v at free le = let f = k.each id v at in let w : Knowledge = compared v in (
    prefix_pair v.other v.list k.log f.joined f.seen le,
    record { once = λ x. let o = one_of (λ (u : Knowledge). times x u.own) s.views id v at in let a = k.apart x in omega arith; there = f.there },
    moves s k id v w s.words s.homes k.log k.stopped at k.wide (prefix_refl k.log) (λ e t. t) (le_refl (count_word s.words)) k.published refl
        record {
          script_is = f.script_is;
          seen = f.seen;
          joined = (k.log, refl);
          shown = f.shown;
          counted = f.counted;
          halted = f.halted;
          there = f.there;
          marked = f.marked;
        }
        (inl (refl, le_refl (length v.list)))
        (same_owned s.views id v w at refl k.apart)
        k.marks
        (⊎_elim (λ (p : AtHome script history halt of k.log k.stopped s).
        inl (p.0, p.1, p.2, nobody_holds s.views id w free (λ j u _ e. p.3 j u e)))
        (λ (q : Away script history halt k.log k.stopped s). inr (q.0, still_out k.log k.stopped s.words s.words s.views id v w at free free (same_words s.words) q.1)) k.placed),
  )

  pub compare_allowed : (slots id : ℕ) (me : M) → me.0.holds ≡ false → length me.0.other ≤ length me.0.list
      → Allows Rule slots id me 0 (λ n. n) (compared_as (step slots 0 0 0 none) me)
  compare_allowed slots id me free le s k deep at small = let a : Act (Option S) = keeps in let t = compares_it s k id me.0 at free le in (
    compared me.0,
    a,
    tt,
    subst (λ (ws : List ℕ). Rule record { words = ws; homes = s.homes; views = set s.views id (compared me.0) }) (sym (set-get_or s.words 0 0)) t.2,
    (refl, t.0, t.1),
  )

  -- the same, of a seat whose hand is known by an equation
  pub take_ok : (slots id : ℕ) (me : M) → me.1 ≡ nothing → me.0.holds ≡ false → 0 < me.0.shares
      → Allows Rule slots id me 1 (λ n. either (eqb n 0) 1 n) (took script history halt (step slots 1 0 1 none) me)
  take_ok slots id me e free live = subst (λ (h : Hand). Allows Rule slots id (me.0, h) 1 (λ n. either (eqb n 0) 1 n) (took script history halt (step slots 1 0 1 none) (me.0, h))) (sym e) (take_allowed slots id me.0 free live)

  pub note_ok : (slots id : ℕ) (me : M) (v : Knowledge) (x : S) (e : Entry) → me ≡ (v, hand_of x) → v.holds ≡ true → v.ahead ≡ false → history x ≡ v.list ++ e ∷ []
      → Allows Rule slots id me 0 (λ n. n) (noted script history halt (step slots 0 0 0 none) me)
  note_ok slots id me v x e is holds level more = subst (λ (m : M). Allows Rule slots id m 0 (λ n. n) (noted script history halt (step slots 0 0 0 none) m)) (sym is) (note_allowed slots id v x e holds level more)

  pub publish_ok : (slots id : ℕ) (me : M) (v : Knowledge) (h : Hand) (n : ℕ) → me ≡ (v, h) → v.holds ≡ true → v.marked ≡ true → n ≡ length v.list
      → Allows Rule slots id me 0 (λ _. n) (λ _. published_as script history halt (step slots 0 n 0 none) me n)
  publish_ok slots id me v h n is holds ready all = subst (λ (m : M). Allows Rule slots id m 0 (λ _. n) (λ _. published_as script history halt (step slots 0 n 0 none) m n)) (sym is) (publish_allowed slots id (v, h) n holds ready all)

  pub give_ok : (slots id : ℕ) (me : M) (v : Knowledge) (x : S) → slots ≡ 1 → me ≡ (v, hand_of x) → v.holds ≡ true → v.ahead ≡ false → script x ≡ v.script → history x ≡ v.list → ((e : StepError) → v.told ≡ Some e → halt x ≡ Some e)
      → Allows Rule slots id me 1 (λ _. 0) (λ _. gave script history halt (step slots 1 0 0 none) me 0)
  give_ok slots id me v x one is holds level script_is log_is told =
      subst (λ (m : M). Allows Rule slots id m 1 (λ _. 0) (λ _. gave script history halt (step slots 1 0 0 none) m 0)) (sym is) (give_allowed slots id v x one holds level script_is log_is told)

  pub compare_ok : (slots id : ℕ) (me : M) (v : Knowledge) (h : Hand) → me ≡ (v, h) → v.holds ≡ false → length v.other ≤ length v.list
      → Allows Rule slots id me 0 (λ n. n) (compared_as (step slots 0 0 0 none) me)
  compare_ok slots id me v h is free le = subst (λ (m : M). Allows Rule slots id m 0 (λ n. n) (compared_as (step slots 0 0 0 none) m)) (sym is) (compare_allowed slots id (v, h) free le)

  raises_it : (s : St) (k : Rule s) (id : ℕ) (v : Knowledge) (p : ℕ) (n : ℕ) → get_elem? s.views id ≡ some v → v.holds ≡ true → v.ahead ≡ true → p < 32 → n ≡ length v.list → last_touched v.list ≡ Some p
      → Rule record { words = set s.words (p + 2) n; homes = s.homes; views = set s.views id (raised v) }
  raises_it s k id v p n at holds ahead small is touched = let hh = holder_here s k id v at holds in let h = hh.0 in let f = k.each id v at in let w : Knowledge = raised v in let below = k.published in let wide = k.wide in
      let ws : List ℕ = set s.words (p + 2) n in let more = h.one_more ahead in let same = ap (λ (es : List Entry). length es) h.log_is in
      let count : count_word ws ≡ count_word s.words = get_or-set_other s.words (p + 2) 0 n 0 (λ e. omega arith) in let turn : turn_word ws ≡ turn_word s.words = get_or-set_other s.words (p + 2) 1 n 0 (λ e. omega arith) in
      let fit : MarksFit k.log (length k.log) ws = subst (λ (m : ℕ). MarksFit k.log (length k.log) (set s.words (p + 2) m)) (sym (is ∙ same)) (marks_raised k.log (count_word s.words) s.words p more wide small (ap last_touched (sym h.log_is) ∙ touched) k.marks) in
      moves s k id v w ws s.homes k.log k.stopped at (subst (λ (m : ℕ). 33 < m) (sym (length-set s.words (p + 2) n)) wide) (prefix_refl k.log) (λ e t. t) (omega arith) (omega arith) refl
      record {
        script_is = f.script_is;
        seen = f.seen;
        joined = f.joined;
        shown = λ no. let g : true ≡ false = sym holds ∙ no in absurd (let g' = g in cc);
        counted = let c = f.counted in omega arith;
        halted = f.halted;
        there = f.there;
        marked = f.marked;
      }
      (inl (count, le_refl (length v.list)))
      (same_owned s.views id v w at refl k.apart)
      (λ q little. let m = fit q little in record { inside = m.inside; follows = m.follows; quiet = λ i ge lt. m.quiet i ge (omega arith) })
      (inr (turn ∙ h.turn, is_out k.log k.stopped ws s.views id v w at holds h.live h.log_is h.told_is (λ no. let g : true ≡ false = sym ahead ∙ no in absurd (let g' = g in cc)) (λ _. more ∙ ap (λ (m : ℕ). m + 1) (sym count)) (λ _. fit) hh.1))

  pub raise_ok : (slots id : ℕ) (me : M) (v : Knowledge) (h : Hand) (p : ℕ) (n : ℕ) → me ≡ (v, h) → v.holds ≡ true → v.ahead ≡ true → p < 32 → n ≡ length v.list → last_touched v.list ≡ Some p
      → Allows Rule slots id me (p + 2) (λ _. n) (λ _. raised_as (step slots (p + 2) n 0 none) me n)
  raise_ok slots id me v h p n is holds ahead small long touched = subst (λ (m : M). Allows Rule slots id m (p + 2) (λ _. n) (λ _. raised_as (step slots (p + 2) n 0 none) m n)) (sym is)
      (λ s k deep at tiny. let a : Act (Option S) = keeps in (raised v, a, tt, raises_it s k id v p n at holds ahead small long touched, refl))

  -- a seat that has not the turn learns something, and no word changes
  learns : (s : St) (k : Rule s) (id : ℕ) (v w : Knowledge) → get_elem? s.views id ≡ some v → v.holds ≡ false → w.holds ≡ false → w.shares ≡ v.shares → w.own ≡ v.own → w.list ≡ v.list → Fits of k.log k.stopped (count_word s.words) w
      → Rule record { words = s.words; homes = s.homes; views = set s.views id w }
  learns s k id v w at free free' shares own list fits =
      moves s k id v w s.words s.homes k.log k.stopped at k.wide (prefix_refl k.log) (λ e t. t) (le_refl (count_word s.words)) k.published shares fits
      (inl (refl, let l = ap (λ (es : List Entry). length es) list in omega arith))
      (same_owned s.views id v w at own k.apart)
      k.marks
      (⊎_elim (λ (p : AtHome script history halt of k.log k.stopped s).
      inl (p.0, p.1, p.2, nobody_holds s.views id w free' (λ j u _ e. p.3 j u e)))
      (λ (q : Away script history halt k.log k.stopped s). inr (q.0, still_out k.log k.stopped s.words s.words s.views id v w at free free' (same_words s.words) q.1)) k.placed)

  pub count_ok : (slots id : ℕ) (me : M) → me.0.holds ≡ false → ((s : St) (k : Rule s) → get_elem? s.views id ≡ some me.0 → me.0.shares ≡ all_shares → count_word s.words ≡ length me.0.list)
      → Allows Rule slots id me 0 (λ n. n) (counted_as (step slots 0 0 0 none) me)
  count_ok slots id me free whole s k deep at small = let v : Knowledge = me.0 in let a : Act (Option S) = keeps in let f = k.each id v at in let n : ℕ = count_word s.words in let w : Knowledge = told_count v n in (
    w,
    a,
    tt,
    subst (λ (ws : List ℕ). Rule record { words = ws; homes = s.homes; views = set s.views id w }) (sym (set-get_or s.words 0 0))
        (learns s k id v w at free free refl refl refl record { script_is = f.script_is; seen = f.seen; joined = f.joined; shown = f.shown; counted = le_refl n; halted = f.halted; there = f.there; marked = f.marked }),
    (refl, f.counted, f.shown free, whole s k at),
  )

  pub mark_ok : (slots id : ℕ) (me : M) (p : ℕ) → me.0.holds ≡ false → p < 32 → Allows Rule slots id me (p + 2) (λ n. n) (marked_as (step slots (p + 2) 0 0 none) me)
  mark_ok slots id me p free little s k deep at small = let v : Knowledge = me.0 in let a : Act (Option S) = keeps in let f = k.each id v at in let n : ℕ = mark_word s.words p in let w : Knowledge = told_mark v p n in let m = k.marks p little in let below = k.published in let c = f.counted in (
    w,
    a,
    tt,
    subst (λ (ws : List ℕ). Rule record { words = ws; homes = s.homes; views = set s.views id w }) (sym (set-get_or s.words (p + 2) 0))
        (learns s k id v w at free free refl refl refl record {
          script_is = f.script_is;
          seen = f.seen;
          joined = f.joined;
          shown = f.shown;
          counted = f.counted;
          halted = f.halted;
          there = f.there;
          marked = marks_both k.log v.marks _ f.marked (record { inside = m.inside; follows = m.follows; counted = omega arith; quiet = λ i ge lt. m.quiet i ge (omega arith) }, tt);
        }),
    (refl, λ q same. let e : p ≡ q = omega arith in ap (λ (r : ℕ). (told_mark v r n, me.1)) e),
  )
