-- What is known after a set-up and any entries that are due with variants that leave the state as it is found.
use Rattle.std.proofs.Common.{◌≡◌, ◌⊎◌, inl, inr, List, [], ◌∷◌, ◌++◌, refl, sym, ap, ◌∙◌, subst, append_assoc}
use Rattle.std.proofs.Common.{append-nil}
use Rattle.std.proofs.lemmas.List.Sums.{fold-append}
use Rattle.hm_base.specs.Program.{Program, IsScript}
use Rattle.hm_history.specs.Memory.After.{After, after, after_entry, after_nothing}
use Rattle.hm_history.specs.Kernel.Going.{Going, State, op_at, going_next, state_start, state_next, state_of}
use Rattle.hm_history.specs.Kernel.Going.{state_of-snoc}
use Rattle.hm_history.specs.Kernel.Due.{due_in}
use Rattle.hm_history.specs.Laws.{DueFrom}
use Rattle.hm_history.specs.declared.Entry.{Entry}
use Rattle.hm_history.specs.declared.Progress.{Progress}
use Rattle.hm_laws.specs.Past.{Past, past_next, past_start}
use Rattle.hm_laws.specs.Stands.{Standing}
use Rattle.hm_laws.proofs.Past.Told.{PastIs, past_is_start, past_is_step}
use Rattle.hm_laws.proofs.Histories.Sound.{Small, small, turn, turn_of, at_start}
use Rattle.hm_linux.specs.declared.variant.Variant.{Variant}
use Rattle.hm_linux.specs.Noted.{Varied, varied_from}
use Rattle.hm_linux.specs.Instead.{due_as, going_varied, varied_next, varied_on, varied_after, DueAs}
use Rattle.hm_linux.specs.Variants.{LeaveState}
use Rattle.hm_linux.proofs.Differing.{Other}
use Rattle.hm_linux.proofs.Standing.{due_here, next_stands}
use Rattle.hm_linux.proofs.Short.{GivesShort, AllShort, all_short_start, turn_short, other_short, led_short, all_short}

-- the rules hold after these entries, and what is kept of them is so
pub record Walked (c : Program) (h : List Entry) (u : State) (t : Past) : Type 0 where
  pub standing : Standing c u t
  pub past : PastIs h u.after.length t u.after.places.table
  pub is_after : u.after ≡ after h
  pub short : AllShort c h u

after_more : (s : After) (h : List Entry) (e : Entry) → s ≡ after h → after_entry s e ≡ after (h ++ e ∷ [])
after_more s h e i = ap (λ z. after_entry z e) i ∙ sym (fold-append after_entry after_nothing h (e ∷ []))

walked_history : (c : Program) (h es : List Entry) (t : Past) → Small c → Walked c h (state_of c h) t → DueFrom c h es
    → (p : Past) × Walked c (h ++ es) (state_of c (h ++ es)) p
walked_history c h [] t sm w d = (t, rw append-nil w)
walked_history c h (e ∷ es) t sm w d = subst
    (λ l. (p : Past) × Walked c l (state_of c l) p) (append_assoc h (e ∷ []) es)
    (walked_history c (h ++ e ∷ []) es after_past sm
    (subst (λ u. Walked c (h ++ e ∷ []) u after_past) (sym (state_of-snoc c h e)) on) d.1)
  where
    u : State
    u = state_of c h

    after_past : Past
    after_past = past_next t u.after.length e.actor e.kind

    on : Walked c (h ++ e ∷ []) (state_next c u e) after_past
    on = record {
      standing = turn c u t e sm w.standing d.0;
      past = past_is_step h u.after.places t u.after.length e w.past;
      is_after = after_more u.after h e w.is_after;
      short = all_short c h e u.going (going_next c u.after e.actor (u.going e.actor) e.kind) w.short
          (turn_short c h u.after t e.actor e.kind (u.going e.actor) w.is_after (turn_of c u t e sm w.standing d.0)
          (w.short e.actor));
    }

-- where the actor of an entry goes, no frame was free if it gives up there
own_short : (l : Variant) (c : Program) (h : List Entry) (t : Varied) (past : Past) (e : Entry) → LeaveState l → Small c
    → Walked c h t.state past → due_as l c t e.actor ≡ Progress.Did e
    → GivesShort c (h ++ e ∷ []) e.actor (going_varied l c e.actor (t.state.going e.actor) e.kind
    (going_next c t.state.after e.actor (t.state.going e.actor) e.kind)).stack
own_short l c h t past e leave sm w d = led_short l c (h ++ e ∷ []) e.actor was e.kind going
    (by (due_here l c t e.actor e.kind leave d))
  where
    s : After
    s = t.state.after

    was : Going
    was = t.state.going e.actor

    going : Going
    going = going_next c s e.actor was e.kind

    by : (due_in c t.state e.actor ≡ Progress.Did e)
        ⊎ Other l t.noted s e.actor (op_at c e.actor was.index) was.pages was.stack e.kind
        → GivesShort c (h ++ e ∷ []) e.actor going.stack
    by (inl i) = turn_short c h s past e.actor e.kind was w.is_after (turn_of c t.state past e sm w.standing i)
        (w.short e.actor)
    by (inr p) = other_short l c t.noted (h ++ e ∷ []) s past e.actor e.kind was (w.standing.known e.actor) p

walked_on : (l : Variant) (c : Program) (h : List Entry) (t : Varied) (past : Past) (es : List Entry) → LeaveState l
    → Small c → Walked c h t.state past → DueAs l c t es
    → (p : Past) × Walked c (h ++ es) (varied_on l c t es).state p
walked_on l c h t past [] leave sm w d = (past, rw append-nil w)
walked_on l c h t past (e ∷ es) leave sm w d = subst
    (λ g. (p : Past) × Walked c g (varied_on l c (varied_next l c t e) es).state p) (append_assoc h (e ∷ []) es)
    (walked_on l c (h ++ e ∷ []) (varied_next l c t e) after_past es leave sm (record {
      standing = next_stands l c t past e leave sm w.standing d.0;
      past = past_is_step h t.state.after.places past t.state.after.length e w.past;
      is_after = after_more t.state.after h e w.is_after;
      short = all_short c h e t.state.going going w.short (own_short l c h t past e leave sm w d.0);
    }) d.1)
  where
    was : Going
    was = t.state.going e.actor

    going : Going
    going = going_varied l c e.actor was e.kind (going_next c t.state.after e.actor was e.kind)

    after_past : Past
    after_past = past_next past t.state.after.length e.actor e.kind

pub walked_after : (l : Variant) (c : Program) (h es : List Entry) → LeaveState l → IsScript c → DueFrom c [] h
    → DueAs l c (varied_from (state_of c h)) es → (p : Past) × Walked c (h ++ es) (varied_after l c h es).state p
walked_after l c h es leave sc d due =
    walked_on l c h (varied_from (state_of c h)) set_up.0 es leave (small c sc) set_up.1 due
  where
    set_up : (p : Past) × Walked c h (state_of c h) p
    set_up = walked_history c [] h past_start (small c sc) (record {
      standing = at_start c (small c sc);
      past = past_is_start (state_start c).after.places.table (λ m v. refl);
      is_after = refl;
      short = all_short_start c;
    }) d
