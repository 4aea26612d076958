-- A drain in which each actor in turn goes on alone.
use Rattle.std.proofs.Common.{◌≡◌, ℕ, zero, suc, ◌+◌, ◌<◌, ◌≤◌, ◌⊎◌, inl, inr, Bool, true, false, ◌&&◌, ◌||◌, not, None, List, [], ◌∷◌, ◌++◌, refl, sym, ap, ◌∙◌, subst, arith, length, drop, fold, append_assoc, append-nil}
use Rattle.std.specs.Prelude.{sum_by}
use Rattle.std.specs.List.{list_all}
use Rattle.std.proofs.Math.ListN.{length-append}
use Rattle.std.proofs.lemmas.Bool.{cases_eq}
use Rattle.std.proofs.lemmas.Bool.Decides.{nat_tests}
use Rattle.hm_base.specs.Program.{Program, IsScript}
use Rattle.hm_history.specs.Kernel.Quiet.{quiet_bound}
use Rattle.hm_history.specs.Memory.Words.{numbers}
use Rattle.hm_history.specs.Kernel.Going.{State, Going, ops_of, op_at, going_from, state_next, state_of, state_of-snoc}
use Rattle.hm_history.specs.Kernel.Due.{due, due_in, due_top}
use Rattle.hm_history.specs.Kernel.Run.{has_room, is_entry, is_idle, turn, turns_on, enough, round, all_idle, actors_of, drained}
use Rattle.hm_history.specs.Laws.{DueFrom}
use Rattle.hm_history.specs.declared.Entry.{Entry}
use Rattle.hm_history.specs.declared.Progress.{Progress}
use Rattle.hm_history.specs.declared.phases.Phase.{Phase}
use Rattle.hm_history.specs.Kernel.Overrun.{overruns_turn, some_overruns}
use Rattle.hm_laws.proofs.Histories.Sound.{small}
use Rattle.hm_laws.proofs.Past.Told.{length_snoc}
use Rattle.hm_quiet_laws.specs.Rest.{IsAtRest}
use Rattle.hm_quiet_laws.specs.Quiet.{bounds_left, all_bounds}
use Rattle.hm_quiet_laws.proofs.alone.Ends.{DueAlong}
use Rattle.hm_quiet_laws.proofs.alone.TurnsAlong.{stood_at, turned, state_after, along_due}
use Rattle.hm_quiet_laws.proofs.alone.RunsOut.{EachEnds, RunsOut, runs_out}
use Rattle.hm_history.proofs.RunLemmas.{DueFrom-join, idle_quiet, turns_stop, has_room_below}

-- an actor with no more operations is idle
idle_due : (c : Program) (u : State) (a : ℕ) → op_at c a (u.going a).index ≡ None → due_in c u a ≡ Progress.Idle
idle_due c u a e = ap (λ x. due_top c u.after a x (u.going a).pages (u.going a).stack) e ∙ by (u.going a).stack
  where
    by : (st : List Phase) → due_top c u.after a None (u.going a).pages st ≡ Progress.Idle
    by [] = refl
    by (x ∷ st) = refl

-- its turns in a round
enough_is : enough ≡ 2000000
unfolding enough
enough_is = refl

on_true : (x y : List Entry) (b d : Bool) → b ≡ true → d ≡ true → (elim (b && d) as (λ z. List Entry) [ true ↦ x | false ↦ y ]) ≡ x
on_true x y b d h k = grind arith

turns_along : (c : Program) (h : List Entry) (a : ℕ) (es : List Entry) (n : ℕ) → DueAlong c (state_of c h) a es → length h + length es ≤ 2000000 → length es ≤ n → is_entry (due c (h ++ es) a) ≡ false → turns_on c h a n ≡ h ++ es
turns_along c h a [] n d l m e = turns_stop c h a n (subst (λ g. is_entry (due c g a) ≡ false) (append-nil h) e) ∙ sym (append-nil h)
turns_along c h a (x ∷ es) zero d l m e = absurd (omega arith)
turns_along c h a (x ∷ es) (suc n) d l m e = on_true (turns_on c (turn c h a) a n) h (is_entry (due c h a)) (has_room h) (ap is_entry d.0) (has_room_below h (omega arith))
    ∙ (ap (λ g. turns_on c g a n) (turned c h a x d.0 (omega arith))
    ∙ (turns_along c (h ++ x ∷ []) a es n (subst (λ u. DueAlong c u a es) (sym (state_of-snoc c h x)) d.1) (omega (arith, length_snoc h x, l)) (omega (arith, m)) (subst (λ g. is_entry (due c g a) ≡ false) (sym (append_assoc h (x ∷ []) es)) e)
    ∙ append_assoc h (x ∷ []) es))

-- the actors from one on, so many, each alone until it is idle
record Drained (c : Program) (h g : List Entry) (from n : ℕ) : Type 0 where
  entries : List Entry
  is : g ≡ h ++ entries
  due : DueFrom c h entries
  few : length entries ≤ all_bounds c (state_of c h) from n
  rests : (b : ℕ) → IsAtRest c (state_of c g) b
  done : (b : ℕ) → from ≤ b → b < from + n → op_at c b ((state_of c g).going b).index ≡ None
  others : (b : ℕ) → (b < from) ⊎ (from + n ≤ b) → (state_of c g).going b ≡ (state_of c h).going b

same_bounds : (c : Program) (u v : State) (from n : ℕ) → ((b : ℕ) → from ≤ b → u.going b ≡ v.going b) → all_bounds c u from n ≡ all_bounds c v from n
same_bounds c u v from zero e = refl
same_bounds c u v from (suc n) e = omega (arith, same_bounds c u v (from + 1) n (λ b l. e b (omega (arith, l))), here (e from (omega arith)))
  where
    here : u.going from ≡ v.going from → bounds_left c u from ≡ bounds_left c v from
    here k = ap (λ (g : Going). sum_by (quiet_bound c) (drop g.index (ops_of c from))) k

not_less : (b from : ℕ) → from + 1 ≤ b → b ≡ from → ⊥
not_less b from l e = omega (arith, l, e)

rounds : (c : Program) → IsScript c → EachEnds c → (n from : ℕ) (h : List Entry) → DueFrom c [] h → ((b : ℕ) → IsAtRest c (state_of c h) b) → length h + all_bounds c (state_of c h) from n ≤ 2000000 → Drained c h (fold (λ g a. turns_on c g a enough) h (numbers from n)) from n
rounds c sc each zero from h d r l = record { entries = []; is = sym (append-nil h); due = tt; few = omega arith; rests = r; done = λ b i j. absurd (omega (arith, i, j)); others = λ b e. refl }
rounds c sc each (suc n) from h d r l = subst (λ g. Drained c h (fold (λ g a. turns_on c g a enough) g (numbers (from + 1) n)) from (suc n)) (sym turned_)
    (then_ (rounds c sc each n (from + 1) k (DueFrom-join c [] h w.entries d (along_due c h from w.entries w.due)) rests_ (omega (arith, length-append h w.entries, w.few, same_bounds c (state_of c k) u (from + 1) n (λ b i. stays b (not_less b from i)), l))))
  where
    u : State
    u = state_of c h

    w : RunsOut c u from (bounds_left c u from)
    w = runs_out c (small c sc) each from (drop (u.going from).index (ops_of c from)) u (stood_at c h sc d) (r from) (λ b ne. r b) refl

    k : List Entry
    k = h ++ w.entries

    after_ : state_of c k ≡ fold (state_next c) u w.entries
    after_ = state_after c h w.entries

    ended : op_at c from ((state_of c k).going from).index ≡ None
    ended = subst (λ (v : State). op_at c from (v.going from).index ≡ None) (sym after_) w.no_more

    turned_ : turns_on c h from enough ≡ k
    turned_ = turns_along c h from w.entries enough w.due (omega (arith, w.few, l)) (omega (arith, enough_is, w.few, l)) (ap is_entry (idle_due c (state_of c k) from ended))

    stays : (b : ℕ) → (b ≡ from → ⊥) → (state_of c k).going b ≡ u.going b
    stays b ne = ap (λ (v : State). v.going b) after_ ∙ w.others b ne

    rests_ : (b : ℕ) → IsAtRest c (state_of c k) b
    rests_ b = by (cases_eq b from)
      where
        by : (b ≡ from) ⊎ (b ≡ from → ⊥) → IsAtRest c (state_of c k) b
        by (inl e) = subst (IsAtRest c (state_of c k)) (sym e) (subst (λ v. IsAtRest c v from) (sym after_) w.rests)
        by (inr ne) = subst (λ (g : Going). g ≡ going_from c b g.index) (sym (stays b ne)) (r b)

    then_ : Drained c k (fold (λ g a. turns_on c g a enough) k (numbers (from + 1) n)) (from + 1) n → Drained c h (fold (λ g a. turns_on c g a enough) k (numbers (from + 1) n)) from (suc n)
    then_ z = record {
      entries = w.entries ++ z.entries;
      is = z.is ∙ append_assoc h w.entries z.entries;
      due = DueFrom-join c h w.entries z.entries (along_due c h from w.entries w.due) z.due;
      few = omega (arith, length-append w.entries z.entries, w.few, z.few, same_bounds c (state_of c k) u (from + 1) n (λ b i. stays b (not_less b from i)));
      rests = z.rests;
      done = λ b i j. by b i j (cases_eq b from);
      others = λ b e. z.others b (side b e) ∙ stays b (apart b e);
    }
      where
        by : (b : ℕ) → from ≤ b → b < from + suc n → (b ≡ from) ⊎ (b ≡ from → ⊥) → op_at c b ((state_of c (fold (λ g a. turns_on c g a enough) k (numbers (from + 1) n))).going b).index ≡ None
        by b i j (inl e) = subst (λ b. op_at c b ((state_of c (fold (λ g a. turns_on c g a enough) k (numbers (from + 1) n))).going b).index ≡ None) (sym e) (subst (λ (g : Going). op_at c from g.index ≡ None) (sym (z.others from (inl (omega arith)))) ended)
        by b i j (inr ne) = z.done b (omega (arith, i, ne)) (omega (arith, j))

        side : (b : ℕ) → (b < from) ⊎ (from + suc n ≤ b) → (b < from + 1) ⊎ (from + 1 + n ≤ b)
        side b (inl e) = inl (omega (arith, e))
        side b (inr e) = inr (omega (arith, e))

        apart : (b : ℕ) → (b < from) ⊎ (from + suc n ≤ b) → b ≡ from → ⊥
        apart b (inl e) i = omega (arith, e, i)
        apart b (inr e) i = omega (arith, e, i)

-- a round makes all idle, and so the drain ends there
idle_from : (c : Program) (h : List Entry) (n from : ℕ) → ((b : ℕ) → from ≤ b → b < from + n → op_at c b ((state_of c h).going b).index ≡ None) → list_all (λ a. is_idle (due c h a)) (numbers from n) ≡ true
idle_from c h zero from f = refl
idle_from c h (suc n) from f = two (is_idle (due c h from)) (list_all (λ a. is_idle (due c h a)) (numbers (from + 1) n)) (ap is_idle (idle_due c (state_of c h) from (f from (omega arith) (omega arith)))) (idle_from c h n (from + 1) (λ b i j. f b (omega (arith, i)) (omega (arith, j))))
  where
    two : (x y : Bool) → x ≡ true → y ≡ true → (x && y) ≡ true
    two x y i j = grind arith

none_overruns : (c : Program) (h : List Entry) (l : List ℕ) → list_all (λ a. is_idle (due c h a)) l ≡ true → some_overruns c h l ≡ false
none_overruns c h [] e = refl
none_overruns c h (a ∷ l) e = by (is_idle (due c h a)) refl e (none_overruns c h l)
  where
    neither : (x y z : Bool) → x ≡ false → z ≡ false → ((x && y) || z) ≡ false
    neither x y z i j = grind arith

    by : (b : Bool) → is_idle (due c h a) ≡ b → (b && list_all (λ a. is_idle (due c h a)) l) ≡ true → (list_all (λ a. is_idle (due c h a)) l ≡ true → some_overruns c h l ≡ false) → (overruns_turn c h a || some_overruns c h l) ≡ false
    by true i k ih = neither (is_entry (due c h a)) (not (has_room h)) (some_overruns c h l) (idle_quiet (due c h a) i) (ih k)
    by false i k ih = cc

drained_idle : (c : Program) (h : List Entry) (n : ℕ) → all_idle c h ≡ true → drained c h n ≡ h
drained_idle c h zero e = refl
drained_idle c h (suc n) e = stop (drained c (round c h) n) h (all_idle c h) (has_room h) e
  where
    stop : (x y : List Entry) (b d : Bool) → b ≡ true → (elim (not b && d) as (λ z. List Entry) [ true ↦ x | false ↦ y ]) ≡ y
    stop x y b d i = grind arith

full_room : (h : List Entry) → has_room h ≡ false → 2000000 ≤ length h
full_room h e = grind (arith, nat_tests)

nothing_more : (h es : List Entry) → 2000000 ≤ length h → length h + length es ≤ 2000000 → h ++ es ≡ h
nothing_more h [] l m = append-nil h
nothing_more h (x ∷ es) l m = absurd (omega arith)

pub drain_has_room : (c : Program) → IsScript c → EachEnds c → (h : List Entry) → DueFrom c [] h → ((b : ℕ) → IsAtRest c (state_of c h) b) → length h + all_bounds c (state_of c h) 0 (length c.actors) ≤ 2000000 → some_overruns c (drained c h enough) (actors_of c) ≡ false
drain_has_room c sc each h d r l = subst (λ n. some_overruns c (drained c h n) (actors_of c) ≡ false) (sym some_more.1) (by (all_idle c h) refl (has_room h) refl)
  where
    some_more : (m : ℕ) × (enough ≡ suc m)
    some_more = (1999999, omega (arith, enough_is))

    w : Drained c h (round c h) 0 (length c.actors)
    w = rounds c sc each (length c.actors) 0 h d r l

    idle : all_idle c (round c h) ≡ true
    idle = idle_from c (round c h) (length c.actors) 0 w.done

    by : (b : Bool) → all_idle c h ≡ b → (x : Bool) → has_room h ≡ x → some_overruns c (drained c h (suc some_more.0)) (actors_of c) ≡ false
    by true e x ex = subst (λ g. some_overruns c g (actors_of c) ≡ false) (sym (drained_idle c h (suc some_more.0) e)) (none_overruns c h (actors_of c) e)
    by false e true ex = subst (λ g. some_overruns c g (actors_of c) ≡ false) (sym (go (drained c (round c h) some_more.0) h (all_idle c h) (has_room h) e ex ∙ drained_idle c (round c h) some_more.0 idle)) (none_overruns c (round c h) (actors_of c) idle)
      where
        go : (x y : List Entry) (b d : Bool) → b ≡ false → d ≡ true → (elim (not b && d) as (λ z. List Entry) [ true ↦ x | false ↦ y ]) ≡ x
        go x y b d i j = grind arith
    by false e false ex = absurd (no (all_idle c h) (subst (λ g. all_idle c g ≡ true) (w.is ∙ nothing_more h w.entries (full_room h ex) (omega (arith, w.few, l))) idle) e)
      where
        no : (b : Bool) → b ≡ true → b ≡ false → ⊥
        no b i j = cc
