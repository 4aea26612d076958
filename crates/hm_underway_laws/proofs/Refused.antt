-- An operation that is refused has left the plain state as it was, and a removal the device withdrawn.
use Rattle.std.proofs.Common.{◌≡◌, ◌⊎◌, inl, inr, ℕ, ◌+◌, ◌<◌, Bool, true, false, not, ◌&&◌, Option, Some, None, List, [], ◌∷◌, ◌++◌, refl, sym, ap, ◌∙◌, subst, arith, append_assoc, append-nil}
use Rattle.std.proofs.lemmas.Bool.{cases_eq}
use Rattle.hm_base.specs.Program.{Program, IsScript}
use Rattle.hm_base.specs.declared.cause.Cause.{Cause}
use Rattle.hm_base.specs.declared.ops.Op.{Op}
use Rattle.hm_history.specs.Memory.Places.{Places, places_next}
use Rattle.hm_history.specs.Kernel.Stacks.{after_top, stack_after}
use Rattle.hm_history.specs.Memory.After.{After, after_entry}
use Rattle.hm_history.specs.Kernel.Going.{State, Going, op_at, first_stack, going_from, going_on, going_next, going_top, seen_at, recorded, state_of, state_next, state_of-snoc}
use Rattle.hm_history.specs.Kernel.Due.{due, due_phase}
use Rattle.hm_history.specs.Laws.{DueFrom}
use Rattle.hm_history.specs.declared.Entry.{Entry}
use Rattle.hm_history.specs.declared.Kind.{Kind}
use Rattle.hm_history.specs.declared.Progress.{Progress}
use Rattle.hm_history.specs.declared.phases.Migrating.{Migrating}
use Rattle.hm_history.specs.declared.phases.Phase.{Phase}
use Rattle.hm_history.specs.declared.phases.Next.{Next}
use Rattle.hm_history.specs.declared.phases.Next.TheVariants.{Do, Wait}
use Rattle.hm_laws.specs.Past.{Past, past_start, past_next}
use Rattle.hm_laws.specs.Stands.{Standing}
use Rattle.hm_laws.proofs.Histories.Sound.{Small, Turn, small, at_start, standing_on, standing_after, turn_of, after_is}
use Rattle.hm_history.proofs.Updates.{here_at, other_at, with_case}
use Rattle.hm_underway_laws.specs.Refused.{operation_of, ChangesNothing, OwnChangeNothing, IsRefused, RefusedLeavesPlain, RefusedRemovalWithdraws}
use Rattle.hm_laws.proofs.Due.FromOp.{FromOp, Given, from_op}
use Rattle.hm_underway_laws.proofs.Clean.{is_clean, unchanged, clean_before, refused_clean}

-- one entry more
own_more : (c : Program) (b n : ℕ) (h es : List Entry) (e : Entry) → OwnChangeNothing c b n h es → (e.actor ≡ b → operation_of c (h ++ es) b ≡ n → ChangesNothing e.kind) → OwnChangeNothing c b n h (es ++ e ∷ [])
own_more c b n h [] e o i = ((λ a k. i a (ap (λ l. operation_of c l b) (append-nil h) ∙ k)), tt)
own_more c b n h (x ∷ xs) e o i = (o.0, own_more c b n (h ++ x ∷ []) xs e o.1 (λ a k. i a (ap (λ l. operation_of c l b) (sym (append_assoc h (x ∷ []) xs)) ∙ k)))

-- the first entry of a removal withdraws its device
abbrev Begun : ℕ → After → Going → Type 0
Begun d s g = (s.places.withdrawn d ≡ true) ⊎ (g.stack ≡ Phase.Frames 0 0 ∷ [])

-- no entry is of a later operation of the actor, and as long as its operation may be refused, none of that has changed
-- the plain state
record Own (c : Program) (s : After) (b : ℕ) (g : Going) (h : List Entry) : Type 0 where
  later : (n : ℕ) → g.index < n → OwnChangeNothing c b n [] h
  clean : (o : Op) → op_at c b g.index ≡ Some o → is_clean o g.stack ≡ true → OwnChangeNothing c b g.index [] h
  begun : (d : ℕ) → op_at c b g.index ≡ Some (Op.Remove d) → Begun d s g

withdrawn_stays : (t : Places) (k : Kind) (d : ℕ) → t.withdrawn d ≡ true → (places_next t k).withdrawn d ≡ true
withdrawn_stays t (Kind.Withdrawn e) d h = with_case (λ i x. i ≡ d → x ≡ true) t.withdrawn e true d (λ here i. refl) (λ ne i. h) refl
withdrawn_stays t k d h = h

at_next : (c : Program) (s : After) (b i : ℕ) (h : List Entry) → ((n : ℕ) → i < n → OwnChangeNothing c b n [] h) → OwnChangeNothing c b i [] h → Own c s b (going_from c b i) h
at_next c s b i h later own = record {
  later = later;
  clean = λ o e cl. own;
  begun = λ d e. inr (ap first_stack e);
}

-- after an entry of another
own_other : (c : Program) (u : State) (e : Entry) (b : ℕ) (h : List Entry) → (b ≡ e.actor → ⊥) → Own c u.after b (u.going b) h → Own c (after_entry u.after e) b (u.going b) (h ++ e ∷ [])
own_other c u e b h ne own = record {
  later = λ n l. own_more c b n [] h e (own.later n l) (λ a k. absurd (ne (sym a)));
  clean = λ o i cl. own_more c b (u.going b).index [] h e (own.clean o i cl) (λ a k. absurd (ne (sym a)));
  begun = λ d i. begun d (own.begun d i);
}
  where
    begun : (d : ℕ) → Begun d u.after (u.going b) → Begun d (after_entry u.after e) (u.going b)
    begun d (inl w) = inl (withdrawn_stays u.after.places e.kind d w)
    begun d (inr f) = inr f

same_op : (x : Option Op) (o i : Op) → x ≡ Some o → x ≡ Some i → o ≡ i
same_op x o i e k = cc

given : (o : Op) (top : Phase) (n : Next) (k : Kind) → Given o top n → n ≡ Do k → FromOp o top k
given o top n k g e = subst (Given o top) e g

-- where a removal has not begun, its entry withdraws the device
withdraws : (c : Program) (s : After) (a d : ℕ) (xs : List Migrating) (k : Kind) → s.places.withdrawn d ≡ false → due_phase c s a (Op.Remove d) xs (Phase.Frames 0 0) ≡ Do k → k ≡ Kind.Withdrawn d
withdraws c s a d xs k w h = by _ (s.places.withdrawn d) w h
  where
    kind_of : Next → Kind
    kind_of (Do l) = l
    kind_of (Wait y) = Kind.Evicted 0

    by : (rest : Next) (b : Bool) → b ≡ false → elim (true && not b) as (λ i. Next) [ true ↦ Do (Kind.Withdrawn d) | false ↦ rest ] ≡ Do k → k ≡ Kind.Withdrawn d
    by rest false i e = sym (ap kind_of e)
    by rest true i e = cc

-- after an entry of the actor
module _ (c : Program) (u : State) (t : Past) (a : ℕ) (k : Kind) (h : List Entry) (is_after : (state_of c h) ≡ u) where
  abbrev entry : Entry
  entry = record { actor = a; kind = k }

  was_at : operation_of c h a ≡ (u.going a).index
  was_at = ap (λ (v : State). (v.going a).index) is_after

  own_led : (o : Op) (top : Phase) (below : List Phase) (xs : List Migrating) → op_at c a (u.going a).index ≡ Some o → (u.going a).stack ≡ top ∷ below → due_phase c u.after a o (u.going a).pages top ≡ Do k → Own c u.after a (u.going a) h →
      (st : List Phase) → after_top o top below k (seen_at u.after o (u.going a).pages top k) ≡ st → Own c (after_entry u.after entry) a (going_on c a (u.going a).index st xs) (h ++ entry ∷ [])
  own_led o top below xs is st due own [] e = at_next c (after_entry u.after entry) a ((u.going a).index + 1) (h ++ entry ∷ [])
      (λ n l. own_more c a n [] h entry (own.later n (omega (arith, l))) (λ i j. absurd (omega (arith, l, j, was_at))))
      (own_more c a ((u.going a).index + 1) [] h entry (own.later ((u.going a).index + 1) (omega arith)) (λ i j. absurd (omega (arith, j, was_at))))
  own_led o top below xs is st due own (y ∷ ys) e = record {
    later = λ n l. own_more c a n [] h entry (own.later n l) (λ i j. absurd (omega (arith, l, j, was_at)));
    clean = λ i ei cl. let same : o ≡ i = same_op (op_at c a (u.going a).index) o i is ei in
        let before = clean_before o top below k (seen_at u.after o (u.going a).pages top k) from (λ n. left n) (ap (is_clean o) e ∙ ap (λ j. is_clean j (y ∷ ys)) same ∙ cl) in
        own_more c a (u.going a).index [] h entry (own.clean o is (ap (is_clean o) st ∙ before.0)) (λ x j. unchanged k before.1);
    begun = λ d ei. begun d (same_op (op_at c a (u.going a).index) o (Op.Remove d) is ei) (own.begun d ei);
  }
    where
      from : FromOp o top k
      from = given o top (due_phase c u.after a o (u.going a).pages top) k (from_op c u.after a o (u.going a).pages top) due

      left : after_top o top below k (seen_at u.after o (u.going a).pages top k) ≡ [] → ⊥
      left n = cons_nil (sym e ∙ n)
        where
          cons_nil : y ∷ ys ≡ [] → ⊥
          cons_nil i = cc

      begun : (d : ℕ) → o ≡ Op.Remove d → Begun d u.after (u.going a) → Begun d (after_entry u.after entry) (going_on c a (u.going a).index (y ∷ ys) xs)
      begun d eo (inl w) = inl (withdrawn_stays u.after.places k d w)
      begun d eo (inr f) = by (u.after.places.withdrawn d) refl
        where
          first : Phase.Frames 0 0 ≡ top
          first = head_of (sym f ∙ st)
            where
              head_of : Phase.Frames 0 0 ∷ [] ≡ top ∷ below → Phase.Frames 0 0 ≡ top
              head_of i = cc

          at_first : due_phase c u.after a (Op.Remove d) (u.going a).pages (Phase.Frames 0 0) ≡ Do k
          at_first = ap (λ i. due_phase c u.after a (Op.Remove d) (u.going a).pages i) first ∙ ap (λ i. due_phase c u.after a i (u.going a).pages top) (sym eo) ∙ due

          by : (x : Bool) → u.after.places.withdrawn d ≡ x → Begun d (after_entry u.after entry) (going_on c a (u.going a).index (y ∷ ys) xs)
          by true w = inl (withdrawn_stays u.after.places k d w)
          by false w = inl (subst (λ i. (places_next u.after.places i).withdrawn d ≡ true) (sym (withdraws c u.after a d (u.going a).pages k w at_first)) (here_at u.after.places.withdrawn d true))

going_is : (c : Program) (s : After) (a : ℕ) (g : Going) (k : Kind) (o : Op) (top : Phase) (below : List Phase) → op_at c a g.index ≡ Some o → g.stack ≡ top ∷ below → going_next c s a g k ≡ going_on c a g.index (after_top o top below k (seen_at s o g.pages top k)) (recorded top (seen_at s o g.pages top k).page g.pages k)
going_is c s a g k o top below is st =
    ap (λ (x : Option Op). elim x as (λ y. Going) [ None ↦ g | Some i ↦ going_top c s a g i g.stack k ]) is ∙ ap (λ l. going_top c s a g o l k) st
    ∙ ap (λ l. going_on c a g.index (stack_after o l k (seen_at s o g.pages top k)) (recorded top (seen_at s o g.pages top k).page g.pages k)) st

own_self : (c : Program) (h : List Entry) (e : Entry) (t : Past) → Small c → Standing c (state_of c h) t → due c h e.actor ≡ Progress.Did e → Own c (state_of c h).after e.actor ((state_of c h).going e.actor) h → Own c (after_entry (state_of c h).after e) e.actor (going_next c (state_of c h).after e.actor ((state_of c h).going e.actor) e.kind) (h ++ e ∷ [])
own_self c h e t sm st d own =
    let u : State = state_of c h in
    let turn : Turn c u.after t e.actor e.kind (u.going e.actor) (going_next c u.after e.actor (u.going e.actor) e.kind) = turn_of c u t e sm st d in
    subst (λ g. Own c (after_entry u.after e) e.actor g (h ++ e ∷ [])) (sym (going_is c u.after e.actor (u.going e.actor) e.kind turn.op turn.top turn.below turn.is_op turn.is_stack))
    (own_led c u t e.actor e.kind h refl turn.op turn.top turn.below _ turn.is_op turn.is_stack turn.is_due own _ refl)

own_on : (c : Program) (h : List Entry) (e : Entry) (t : Past) → Small c → Standing c (state_of c h) t → due c h e.actor ≡ Progress.Did e → ((b : ℕ) → Own c (state_of c h).after b ((state_of c h).going b) h) → (b : ℕ) → Own c (state_of c (h ++ e ∷ [])).after b ((state_of c (h ++ e ∷ [])).going b) (h ++ e ∷ [])
own_on c h e t sm st d own b = subst (λ (u : State). Own c u.after b (u.going b) (h ++ e ∷ [])) (sym (state_of-snoc c h e)) (by (cases_eq b e.actor))
  where
    by : (b ≡ e.actor) ⊎ (b ≡ e.actor → ⊥) → Own c (after_entry (state_of c h).after e) b ((state_next c (state_of c h) e).going b) (h ++ e ∷ [])
    by (inl i) = subst (λ j. Own c (after_entry (state_of c h).after e) j ((state_next c (state_of c h) e).going j) (h ++ e ∷ [])) (sym i)
        (subst (λ g. Own c (after_entry (state_of c h).after e) e.actor g (h ++ e ∷ [])) (sym (here_at (state_of c h).going e.actor _)) (own_self c h e t sm st d (own e.actor)))
    by (inr ne) = subst (λ g. Own c (after_entry (state_of c h).after e) b g (h ++ e ∷ [])) (sym (other_at (state_of c h).going e.actor b _ ne)) (own_other c (state_of c h) e b h ne (own b))

own_after : (c : Program) (h es : List Entry) (t : Past) → Small c → Standing c (state_of c h) t → DueFrom c h es → ((b : ℕ) → Own c (state_of c h).after b ((state_of c h).going b) h) → (b : ℕ) → Own c (state_of c (h ++ es)).after b ((state_of c (h ++ es)).going b) (h ++ es)
own_after c h [] t sm st d own b = rw (append-nil h) (own b)
own_after c h (e ∷ es) t sm st d own b = subst (λ l. Own c (state_of c l).after b ((state_of c l).going b) l) (append_assoc h (e ∷ []) es)
    (own_after c (h ++ e ∷ []) es (past_next t (state_of c h).after.length e.actor e.kind) sm (standing_on c h e t sm st d.0) d.1 (own_on c h e t sm st d.0 own) b)

own_first : (c : Program) (b : ℕ) → Own c (state_of c []).after b ((state_of c []).going b) []
own_first c b = at_next c (state_of c []).after b 0 [] (λ n l. tt) tt

own_of : (c : Program) → IsScript c → (h : List Entry) → DueFrom c [] h → (a : ℕ) → Own c (state_of c h).after a ((state_of c h).going a) h
own_of c sc h d a = own_after c [] h past_start (small c sc) (at_start c (small c sc)) d (own_first c) a

-- the turn at which the operation is refused
turn_at : (c : Program) (sc : IsScript c) (h : List Entry) → DueFrom c [] h → (a : ℕ) (why : Cause) → IsRefused c h a why → (t : Past) × Turn c (state_of c h).after t a (Kind.Refused why) ((state_of c h).going a) (going_next c (state_of c h).after a ((state_of c h).going a) (Kind.Refused why))
turn_at c sc h d a why r = let st : (t : Past) × Standing c (state_of c h) t = standing_after c [] h past_start (small c sc) (at_start c (small c sc)) d in
    (st.0, turn_of c (state_of c h) st.0 (record { actor = a; kind = Kind.Refused why }) (small c sc) st.1 r)

pub refused_leaves_plain : RefusedLeavesPlain
refused_leaves_plain c sc h d a why r =
    let u : State = state_of c h in
    let x : (t : Past) × Turn c u.after t a (Kind.Refused why) (u.going a) (going_next c u.after a (u.going a) (Kind.Refused why)) = turn_at c sc h d a why r in
    let w = x.1 in
    let from : FromOp w.op w.top (Kind.Refused why) = given w.op w.top (due_phase c u.after a w.op (u.going a).pages w.top) (Kind.Refused why) (from_op c u.after a w.op (u.going a).pages w.top) w.is_due in
    (own_of c sc h d a).clean w.op w.is_op (ap (is_clean w.op) w.is_stack ∙ refused_clean u.after x.0 a w.op (u.going a).pages w.top w.below w.known from)

pub refused_removal_withdraws : RefusedRemovalWithdraws
refused_removal_withdraws c sc h d a i why r is = subst (λ s. s.places.withdrawn i ≡ true) (after_is c h) (by ((own_of c sc h d a).begun i is))
  where
    u : State
    u = state_of c h

    x : (t : Past) × Turn c (state_of c h).after t a (Kind.Refused why) ((state_of c h).going a) (going_next c (state_of c h).after a ((state_of c h).going a) (Kind.Refused why))
    x = turn_at c sc h d a why r

    never : Kind.Refused why ≡ Kind.Withdrawn i → ⊥
    never e = cc

    first : ((state_of c h).going a).stack ≡ Phase.Frames 0 0 ∷ [] → Phase.Frames 0 0 ≡ x.1.top
    first f = head_of x.1.top x.1.below (sym f ∙ x.1.is_stack)
      where
        head_of : (top : Phase) (below : List Phase) → Phase.Frames 0 0 ∷ [] ≡ top ∷ below → Phase.Frames 0 0 ≡ top
        head_of top below e = cc

    at_first : ((state_of c h).going a).stack ≡ Phase.Frames 0 0 ∷ [] → due_phase c (state_of c h).after a (Op.Remove i) ((state_of c h).going a).pages (Phase.Frames 0 0) ≡ Do (Kind.Refused why)
    at_first f = ap (λ j. due_phase c (state_of c h).after a (Op.Remove i) ((state_of c h).going a).pages j) (first f) ∙ ap (λ j. due_phase c (state_of c h).after a j ((state_of c h).going a).pages x.1.top) (same_op (op_at c a ((state_of c h).going a).index) (Op.Remove i) x.1.op is x.1.is_op) ∙ x.1.is_due

    by : Begun i (state_of c h).after ((state_of c h).going a) → (state_of c h).after.places.withdrawn i ≡ true
    by (inl w) = w
    by (inr f) = at ((state_of c h).after.places.withdrawn i) refl
      where
        at : (b : Bool) → (state_of c h).after.places.withdrawn i ≡ b → (state_of c h).after.places.withdrawn i ≡ true
        at true e = e
        at false e = absurd (never (withdraws c (state_of c h).after a i ((state_of c h).going a).pages (Kind.Refused why) e (at_first f)))
