-- From entries that are due to an actor one after the other to its turns.
use Rattle.std.proofs.Common.{◌≡◌, ℕ, ◌+◌, ◌<◌, ◌≤◌, true, false, List, [], ◌∷◌, ◌++◌, sym, ap, ◌∙◌, subst, arith, length, fold}
use Rattle.std.proofs.Common.{append_assoc, append-nil}
use Rattle.std.proofs.lemmas.List.Sums.{fold-append}
use Rattle.hm_base.specs.Program.{Program, IsScript}
use Rattle.hm_history.specs.Kernel.Going.{State, state_start, state_next, state_of, state_of-snoc}
use Rattle.hm_history.specs.Kernel.Due.{due, due_in}
use Rattle.hm_history.specs.Kernel.Run.{added, turn, turns}
use Rattle.hm_history.specs.Laws.{DueFrom}
use Rattle.hm_history.specs.declared.Entry.{Entry}
use Rattle.hm_history.specs.declared.Progress.{Progress}
use Rattle.hm_laws.specs.Past.{Past, past_start, past_next}
use Rattle.hm_laws.specs.Stands.{Standing}
use Rattle.hm_laws.proofs.Histories.Sound.{Small, small, at_start, turn as turn_stands}
use Rattle.hm_laws.proofs.Past.Told.{length_snoc}
use Rattle.hm_quiet_laws.proofs.measure.Counts.{Counted}
use Rattle.hm_quiet_laws.proofs.alone.Ends.{DueAlong}
use Rattle.hm_quiet_laws.proofs.counts.CountsKept.{counted_next, counted_start}
use Rattle.hm_history.proofs.Going.{own_actor}
use Rattle.hm_history.proofs.RunLemmas.{has_room_below}

pub due_own : (c : Program) (u : State) (a : ℕ) (e : Entry) → due_in c u a ≡ Progress.Did e → due_in c u e.actor ≡ Progress.Did e
due_own c u a e h = ap (due_in c u) (own_actor c u a e h) ∙ h

-- what stands after entries that were due
pub record Stood (c : Program) (u : State) : Type 0 where
  pub past : Past
  pub stands : Standing c u past
  pub counted : Counted c u

pub stood_next : (c : Program) (u : State) (e : Entry) → Small c → Stood c u → due_in c u e.actor ≡ Progress.Did e → Stood c (state_next c u e)
stood_next c u e sm st d = record { past = past_next st.past u.after.length e.actor e.kind; stands = turn_stands c u st.past e sm st.stands d; counted = counted_next c sm u st.past e st.stands d st.counted }

pub stood_along : (c : Program) (u : State) (a : ℕ) (es : List Entry) → Small c → Stood c u → DueAlong c u a es → Stood c (fold (state_next c) u es)
stood_along c u a [] sm st d = st
stood_along c u a (e ∷ es) sm st d = stood_along c (state_next c u e) a es sm (stood_next c u e sm st (due_own c u a e d.0)) d.1

pub stood_from : (c : Program) (h es : List Entry) → Small c → Stood c (state_of c h) → DueFrom c h es → Stood c (state_of c (h ++ es))
stood_from c h [] sm st d = rw append-nil st
stood_from c h (e ∷ es) sm st d = subst (λ l. Stood c (state_of c l)) (append_assoc h (e ∷ []) es) (stood_from c (h ++ e ∷ []) es sm (subst (Stood c) (sym (state_of-snoc c h e)) (stood_next c (state_of c h) e sm st d.0)) d.1)

pub stood_at : (c : Program) (h : List Entry) → IsScript c → DueFrom c [] h → Stood c (state_of c h)
stood_at c h sc d = stood_from c [] h (small c sc) (record { past = past_start; stands = at_start c (small c sc); counted = counted_start c }) d

pub turned : (c : Program) (h : List Entry) (a : ℕ) (e : Entry) → due c h a ≡ Progress.Did e → length h < 2000000 → turn c h a ≡ h ++ e ∷ []
turned c h a e d l = ap (added h) d ∙ ap (λ b. elim b as (λ x. List Entry) [ true ↦ h ++ e ∷ [] | false ↦ h ]) (has_room_below h l)

pub state_after : (c : Program) (h es : List Entry) → state_of c (h ++ es) ≡ fold (state_next c) (state_of c h) es
state_after c h es = fold-append (state_next c) (state_start c) h es

pub along_due : (c : Program) (h : List Entry) (a : ℕ) (es : List Entry) → DueAlong c (state_of c h) a es → DueFrom c h es
along_due c h a [] d = tt
along_due c h a (e ∷ es) d = (due_own c (state_of c h) a e d.0, along_due c (h ++ e ∷ []) a es (subst (λ u. DueAlong c u a es) (sym (state_of-snoc c h e)) d.1))

pub along_turns : (c : Program) (h : List Entry) (a : ℕ) (es : List Entry) → DueAlong c (state_of c h) a es → length h + length es ≤ 2000000 → turns c h a (length es) ≡ h ++ es
along_turns c h a [] d l = sym (append-nil h)
along_turns c h a (e ∷ es) d l = ap (λ g. turns c g a (length es)) (turned c h a e d.0 (omega arith))
    ∙ (along_turns c (h ++ e ∷ []) a es (subst (λ u. DueAlong c u a es) (sym (state_of-snoc c h e)) d.1) (omega (arith, length_snoc h e, l)) ∙ append_assoc h (e ∷ []) es)
