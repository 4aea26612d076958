-- Entries that are due and break no part are turns of their actors.
use Rattle.std.proofs.Common.{◌≡◌, ℕ, ◌+◌, Some, None, List, [], ◌∷◌, ◌++◌, length, map, sym, ap, ◌∙◌, subst, fold, append_assoc, append-nil, arith}
use Rattle.std.proofs.lemmas.List.{length-append, length-map}
use Rattle.std.proofs.lemmas.List.Sums.{fold-append}
use Rattle.hm_base.specs.Program.{Program}
use Rattle.hm_history.specs.Kernel.Going.{state_of}
use Rattle.hm_history.specs.declared.Entry.{Entry}
use Rattle.hm_flaws.specs.declared.flaws.Flaw.{Flaw}
use Rattle.hm_flaws.specs.declared.parts.Part.{Part}
use Rattle.hm_flaws.specs.Flawed.{Flawed, flawed_from, flawed_next, flawed_after, due_by}
use Rattle.hm_flaws.specs.Judged.{UnbrokenBy, Unbroken, Breaks, Judged, judged_entry, judged_turn, judged_after}
use Rattle.hm_flaw_parts.specs.Races.Races.{FlawPoint, point_from, point_entry, point_turn, point_turned}
use Rattle.hm_flaw_parts.specs.Races.Judging.{point_after, point_of}
use Rattle.hm_flaw_parts.proofs.MarkedTurns.{broken_same}
use Rattle.hm_flaw_parts.proofs.Turns.{state_after, turns_are_judged}

-- the actors of entries
abbrev pub actors_in : List Entry → List ℕ
actors_in es = map (λ (e : Entry). e.actor) es

-- nothing is broken after these entries
abbrev pub clear : Flawed → List Entry → Judged
clear t es = record { flawed = t; entries = es; broken = None }

judged_along : (parts : List Part) (l : Flaw) (c : Program) (h : List Entry) (es gs : List Entry) (t : Flawed) → UnbrokenBy parts l c (h ++ gs) t es
    → judged_after parts l c h (actors_in es) (clear t gs) ≡ clear (fold (flawed_next l c) t es) (gs ++ es)
judged_along parts l c h [] gs t u = ap (clear t) (sym (append-nil gs))
judged_along parts l c h (e ∷ es) gs t u =
    ap (judged_after parts l c h (actors_in es)) step
    ∙ (judged_along parts l c h es (gs ++ e ∷ []) (flawed_next l c t e) (subst (λ z. UnbrokenBy parts l c z (flawed_next l c t e) es) (append_assoc h gs (e ∷ [])) u.2)
    ∙ ap (clear (fold (flawed_next l c) (flawed_next l c t e) es)) (append_assoc gs (e ∷ []) es))
  where
    step : judged_turn parts l c h (clear t gs) (due_by l c t e.actor) ≡ clear (flawed_next l c t e) (gs ++ e ∷ [])
    step = ap (judged_turn parts l c h (clear t gs)) u.0 ∙ ap (judged_entry parts l c h (clear t gs) e) u.1

-- the point after them
pub unbroken_point : (parts : List Part) (l : Flaw) (c : Program) (h es : List Entry) → Unbroken parts l c h es → point_after parts l c h (actors_in es) ≡ point_of c h (clear (flawed_after l c h es) es)
unbroken_point parts l c h es u = turns_are_judged parts l c h (actors_in es) ∙ ap (point_of c h) (judged_along parts l c h es [] (flawed_from (state_of c h)) (subst (λ z. UnbrokenBy parts l c z (flawed_from (state_of c h)) es) (sym (append-nil h)) u))

-- the turns of a race that breaks a part
abbrev pub turns_in : List Entry → Entry → List ℕ
turns_in es e = actors_in es ++ e.actor ∷ []

pub turns_long : (es : List Entry) (e : Entry) → length (turns_in es e) ≡ length es + 1
turns_long es e = omega (arith, length-append (actors_in es) (e.actor ∷ []), length-map es (λ (x : Entry). x.actor))

-- at the point after them that part is broken
pub breaks_point : (parts : List Part) (l : Flaw) (c : Program) (h es : List Entry) (e : Entry) (part : Part) → Breaks parts l c h es e part → (point_after parts l c h (turns_in es e)).broken ≡ Some part
breaks_point parts l c h es e part b =
    ap (λ (x : FlawPoint). x.broken) (fold-append (point_turn parts l c) (point_from c h) (actors_in es) (e.actor ∷ []))
    ∙ (ap (λ (x : FlawPoint). (point_turn parts l c x e.actor).broken) (unbroken_point parts l c h es b.unbroken)
    ∙ (ap (λ p. (point_turned parts l c here p).broken) b.is_due
    ∙ ap (λ o. (point_entry l c here e o).broken) (broken_same parts c (h ++ es) (flawed_after l c h es) e (state_after l c h es) ∙ b.broken)))
  where
    here : FlawPoint
    here = point_of c h (clear (flawed_after l c h es) es)
