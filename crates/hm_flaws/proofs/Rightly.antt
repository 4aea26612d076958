-- The right driver breaks no part of legality.
use Rattle.std.proofs.Common.{◌≡◌, ℕ, true, false, Some, None, List, [], ◌∷◌, ◌++◌, refl, sym, ap, ◌∙◌, subst, fold, append_assoc, append-nil}
use Rattle.std.proofs.lemmas.List.Sums.{fold-append}
use Rattle.hm_base.specs.Program.{Program, IsScript}
use Rattle.hm_history.specs.Memory.After.{after}
use Rattle.hm_history.specs.Kernel.Going.{State, Going, state_next, state_start, state_of, state_of-snoc}
use Rattle.hm_history.specs.Kernel.Due.{due_in}
use Rattle.hm_history.specs.Kernel.Legal.{MayFollow, LegalFrom, kept_rightly}
use Rattle.hm_history.specs.Laws.{DueFrom}
use Rattle.hm_history.specs.declared.Entry.{Entry}
use Rattle.hm_history.specs.declared.Progress.{Progress}
use Rattle.hm_history.proofs.RunLemmas.{DueFrom-append}
use Rattle.hm_laws.specs.Laws.{HistoryIsLegal}
use Rattle.hm_flaws.specs.declared.flaws.Flaw.{Flaw}
use Rattle.hm_flaws.specs.Flawed.{Flawed, flawed_from, flawed_next, flawed_after}
use Rattle.hm_flaws.specs.Parts.{Part, meets_part, broken_part}
use Rattle.hm_flaws.specs.Judged.{UnbrokenBy, BreaksNone}

states_along : (c : Program) (t : Flawed) (es : List Entry) → (fold (flawed_next Flaw.NoFlaw c) t es).state ≡ fold (state_next c) t.state es
states_along c t [] = refl
states_along c t (e ∷ es) = states_along c (flawed_next Flaw.NoFlaw c t e) es

right_state : (c : Program) (h es : List Entry) → (flawed_after Flaw.NoFlaw c h es).state ≡ state_of c (h ++ es)
right_state c h es = states_along c (flawed_from (state_of c h)) es ∙ sym (fold-append (state_next c) (state_start c) h es)

-- what the right driver did was due
was_due : (parts : List Part) (c : Program) (h es : List Entry) (t : Flawed) → t.state ≡ state_of c h → DueFrom c [] h → UnbrokenBy parts Flaw.NoFlaw c h t es → DueFrom c [] (h ++ es)
was_due parts c h [] t s d u = subst (DueFrom c []) (sym (append-nil h)) d
was_due parts c h (e ∷ es) t s d u = subst (DueFrom c []) (append_assoc h (e ∷ []) es) (was_due parts c (h ++ e ∷ []) es (flawed_next Flaw.NoFlaw c t e) (ap (λ x. state_next c x e) s ∙ sym (state_of-snoc c h e)) (DueFrom-append c [] h e d (subst (λ x. due_in c x e.actor ≡ Progress.Did e) s u.0)) u.2)

last_follows : (c : Program) (g es : List Entry) (e : Entry) → LegalFrom c g (es ++ e ∷ []) → MayFollow c (g ++ es) e
last_follows c g [] e l = subst (λ z. MayFollow c z e) (sym (append-nil g)) l.0
last_follows c g (x ∷ es) e l = subst (λ z. MayFollow c z e) (append_assoc g (x ∷ []) es) (last_follows c (g ++ x ∷ []) es e l.1)

meets_all : (c : Program) (h : List Entry) (e : Entry) (u : State) → u ≡ state_of c h → u.after ≡ after h → MayFollow c h e → (part : Part) → meets_part c h u.going e part ≡ true
meets_all c h e u s t m Part.Answers = m.rules.answers
meets_all c h e u s t m Part.Places = m.rules.places
meets_all c h e u s t m Part.Frames = m.rules.frames
meets_all c h e u s t m Part.Sequences = m.rules.sequences
meets_all c h e u s t m Part.Untold = m.rules.untold
meets_all c h e u s t m Part.Guarded = m.rules.guarded
meets_all c h e u s t m Part.Kept = ap (λ z. kept_rightly c z e) same ∙ m.kept
  where
    same : record { after = after h; going = u.going } ≡ state_of c h
    same = ap (λ z. record { after = z; going = u.going }) (sym t) ∙ s

none_broken : (parts : List Part) (c : Program) (h : List Entry) (e : Entry) (g : ℕ → Going) → ((part : Part) → meets_part c h g e part ≡ true) → broken_part parts c h g e ≡ None
none_broken [] c h e g m = refl
none_broken (part ∷ parts) c h e g m = ap (λ b. elim b [ true ↦ broken_part parts c h g e | false ↦ Some part ]) (m part) ∙ none_broken parts c h e g m

pub right_breaks_none : ((c : Program) (h : List Entry) → (state_of c h).after ≡ after h) → HistoryIsLegal → (parts : List Part) (c : Program) → IsScript c → (h : List Entry) → DueFrom c [] h → BreaksNone parts Flaw.NoFlaw c h
right_breaks_none after_is legal parts c sc h d es u e k = none_broken parts c (h ++ es) e (flawed_after Flaw.NoFlaw c h es).state.going (meets_all c (h ++ es) e (flawed_after Flaw.NoFlaw c h es).state same (ap (λ (z : State). z.after) same ∙ after_is c (h ++ es)) (last_follows c [] (h ++ es) e (legal c sc ((h ++ es) ++ e ∷ []) all_due)))
  where
    same : (flawed_after Flaw.NoFlaw c h es).state ≡ state_of c (h ++ es)
    same = right_state c h es

    all_due : DueFrom c [] ((h ++ es) ++ e ∷ [])
    all_due = DueFrom-append c [] (h ++ es) e (was_due parts c h es (flawed_from (state_of c h)) refl d u) (subst (λ x. due_in c x e.actor ≡ Progress.Did e) same k)
