-- After any entries that are due with variants that leave the state as it is found, the rules hold, and each actor knows
-- what stands at its stack.
use Rattle.std.proofs.Common.{◌≡◌, ◌⊎◌, inl, inr, ℕ, Bool, true, false, List, [], ◌∷◌, refl, sym, subst, if◌then◌else◌}
use Rattle.std.proofs.lemmas.Bool.{cases_eq}
use Rattle.hm_base.specs.Program.{Program, IsScript}
use Rattle.hm_history.specs.Memory.Words.{with_at}
use Rattle.hm_history.specs.Memory.After.{After, after_entry}
use Rattle.hm_history.specs.Kernel.Going.{Going, op_at, state_of, going_next}
use Rattle.hm_history.specs.Kernel.Due.{due_in}
use Rattle.hm_history.specs.Laws.{DueFrom}
use Rattle.hm_history.specs.declared.Kind.{Kind}
use Rattle.hm_history.specs.declared.Entry.{Entry}
use Rattle.hm_history.specs.declared.Progress.{Progress}
use Rattle.hm_history.proofs.Updates.{other_at, here_at}
use Rattle.hm_laws.specs.Past.{Past, past_next, past_start}
use Rattle.hm_laws.specs.Sound.{Sound}
use Rattle.hm_laws.specs.Order.{OrderRules}
use Rattle.hm_laws.specs.Stands.{Standing}
use Rattle.hm_laws.specs.Allowed.{next, Allowed}
use Rattle.hm_laws.specs.Facts.{Fact, facts_of, HoldsAll, Knows}
use Rattle.hm_laws.proofs.Due.Good.{takes_for_itself}
use Rattle.hm_laws.proofs.Kept.Sound.{kept}
use Rattle.hm_laws.proofs.Kept.AreaOrder.{order_kept}
use Rattle.hm_laws.proofs.Other.Fetched.{ForItself}
use Rattle.hm_laws.proofs.Other.Stable.{stable}
use Rattle.hm_laws.proofs.Histories.Sound.{Small, Turn, small, turn_of, at_start, standing_after}
use Rattle.hm_linux.specs.declared.variant.Variant.{Variant}
use Rattle.hm_linux.specs.Noted.{Varied, varied_from}
use Rattle.hm_linux.specs.Instead.{found, due_as, due_varied_top, going_varied, varied_next, varied_on, varied_after}
use Rattle.hm_linux.specs.Instead.{DueAs}
use Rattle.hm_linux.specs.Variants.{LeaveState}
use Rattle.hm_linux.specs.UnmapLetsIn.{areas_left, map_left}
use Rattle.hm_linux.proofs.Differing.{Other, due_or_other}
use Rattle.hm_linux.proofs.Leading.{TurnAs, leads_same, other_turn}

-- ---- the state as it is found

pub same_found : (l : Variant) (c : Program) (t : Varied) → LeaveState l → found l c t ≡ t.state.after
same_found l c t leave = by l.unmap_lets_in leave.lets_in
  where
    s : After
    s = t.state.after

    by : (b : Bool) → b ≡ false → record s {
      plain = record s.plain { areas = if b then areas_left c t.state else s.plain.areas };
      locks = record s.locks { map = if b then map_left c t.state else s.locks.map };
    } ≡ s
    by false e = refl
    by true e = cc

-- ---- one turn

-- what is due is due by the definitions, or is put in its place
pub due_here : (l : Variant) (c : Program) (t : Varied) (a : ℕ) (k : Kind) → LeaveState l
    → due_as l c t a ≡ Progress.Did (record { actor = a; kind = k })
    → (due_in c t.state a ≡ Progress.Did (record { actor = a; kind = k }))
    ⊎ Other l t.noted t.state.after a (op_at c a (t.state.going a).index) (t.state.going a).pages
    (t.state.going a).stack k
due_here l c t a k leave d = let g : Going = t.state.going a in
    due_or_other l c t.noted t.state.after a (op_at c a g.index) g.pages g.stack k leave
    (subst (λ z. due_varied_top l c t.noted z a (op_at c a g.index) g.pages g.stack
    ≡ Progress.Did (record { actor = a; kind = k })) (same_found l c t leave) d)

pub turn_as : (l : Variant) (c : Program) (t : Varied) (past : Past) (a : ℕ) (k : Kind) → LeaveState l → Small c
    → Standing c t.state past → due_as l c t a ≡ Progress.Did (record { actor = a; kind = k })
    → TurnAs l c t.state.after past a k (t.state.going a)
turn_as l c t past a k leave sm st d = by (due_here l c t a k leave d)
  where
    s : After
    s = t.state.after

    was : Going
    was = t.state.going a

    by : (due_in c t.state a ≡ Progress.Did (record { actor = a; kind = k }))
        ⊎ Other l t.noted s a (op_at c a was.index) was.pages was.stack k → TurnAs l c s past a k was
    by (inr p) = other_turn l c t.noted s past a k was st.sound (st.known a) p
    by (inl e) = record {
      stand = k;
      same_state = refl;
      same_past = refl;
      op = tn.op;
      top = tn.top;
      allowed = tn.allowed;
      fair = tn.fair;
      own_kind = inl tn.allowed;
      knows = subst (Knows c (next s a k) (past_next past s.length a k) a)
          (sym (leads_same l c s a was k (going_next c s a was k) e)) tn.knows;
    }
      where
        tn : Turn c s past a k was (going_next c s a was k)
        tn = turn_of c t.state past (record { actor = a; kind = k }) sm st e

-- what another actor knows stays
known_still : (c : Program) (s : After) (t : Past) (a b : ℕ) (k : Kind) → Sound c s t → (b ≡ a → ⊥) → Allowed c s t a k
    → ForItself a k → (l : List Fact) → HoldsAll s t b l → HoldsAll (next s a k) (past_next t s.length a k) b l
known_still c s t a b k so ne ok own [] h = tt
known_still c s t a b k so ne ok own (x ∷ l) h =
    (stable c s t a b so ne k ok own x h.0, known_still c s t a b k so ne ok own l h.1)

pub next_stands : (l : Variant) (c : Program) (t : Varied) (past : Past) (e : Entry) → LeaveState l → Small c
    → Standing c t.state past → due_as l c t e.actor ≡ Progress.Did e
    → Standing c (varied_next l c t e).state (past_next past t.state.after.length e.actor e.kind)
next_stands l c t past e leave sm st d = record {
  sound = subst (λ z. Sound c z after_past) turn.same_state
      (subst (Sound c (next s e.actor turn.stand)) turn.same_past (kept c s past e.actor turn.stand st.sound turn.allowed));
  order = subst (λ (z : After). OrderRules z.plain.areas) turn.same_state
      (order_kept c s past e.actor turn.op was.pages turn.top turn.stand turn.allowed turn.fair st.order);
  known = λ b. knows b (cases_eq b e.actor);
}
  where
    s : After
    s = t.state.after

    was : Going
    was = t.state.going e.actor

    after_past : Past
    after_past = past_next past s.length e.actor e.kind

    turn : TurnAs l c s past e.actor e.kind was
    turn = turn_as l c t past e.actor e.kind leave sm st d

    going : Going
    going = going_varied l c e.actor was e.kind (going_next c s e.actor was e.kind)

    other : (b : ℕ) → (b ≡ e.actor → ⊥) → Knows c (after_entry s e) after_past b (t.state.going b)
    other b ne = subst (λ z. Knows c z after_past b (t.state.going b)) turn.same_state
        (subst (λ z. Knows c (next s e.actor turn.stand) z b (t.state.going b)) turn.same_past
        (known_still c s past e.actor b turn.stand st.sound ne turn.allowed
        (takes_for_itself c s e.actor turn.op was.pages turn.stand turn.top turn.fair)
        (facts_of (op_at c b (t.state.going b).index) (t.state.going b).pages (t.state.going b).stack) (st.known b)))

    knows : (b : ℕ) → (b ≡ e.actor) ⊎ (b ≡ e.actor → ⊥)
        → Knows c (after_entry s e) after_past b (with_at t.state.going e.actor going b)
    knows b (inl i) = subst (λ j. Knows c (after_entry s e) after_past j (with_at t.state.going e.actor going j)) (sym i)
        (subst (Knows c (after_entry s e) after_past e.actor) (sym (here_at t.state.going e.actor going)) turn.knows)
    knows b (inr ne) = subst (Knows c (after_entry s e) after_past b) (sym (other_at t.state.going e.actor b going ne))
        (other b ne)

-- ---- any entries

stands_on : (l : Variant) (c : Program) (t : Varied) (past : Past) (es : List Entry) → LeaveState l → Small c
    → Standing c t.state past → DueAs l c t es → (p : Past) × Standing c (varied_on l c t es).state p
stands_on l c t past [] leave sm st d = (past, st)
stands_on l c t past (e ∷ es) leave sm st d =
    stands_on l c (varied_next l c t e) (past_next past t.state.after.length e.actor e.kind) es leave sm
    (next_stands l c t past e leave sm st d.0) d.1

pub stands_after : (l : Variant) (c : Program) (h es : List Entry) → LeaveState l → IsScript c → DueFrom c [] h
    → DueAs l c (varied_from (state_of c h)) es → (p : Past) × Standing c (varied_after l c h es).state p
stands_after l c h es leave sc d due = stands_on l c (varied_from (state_of c h)) st.0 es leave (small c sc) st.1 due
  where
    st : (p : Past) × Standing c (state_of c h) p
    st = standing_after c [] h past_start (small c sc) (at_start c (small c sc)) d
