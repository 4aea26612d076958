-- States that are equal but for positions go on alike, so a closed set of their keys has every outcome.
use Rattle.std.proofs.Common.{◌≡◌, ℕ, Bool, true, false, List, [], ◌∷◌, ◌++◌, refl, sym, ap, ◌∙◌, subst, append_assoc, append-nil}
use Rattle.hm_base.specs.Program.{Program}
use Rattle.hm_history.specs.Memory.Words.{with_at}
use Rattle.hm_history.specs.Kernel.Going.{state_next, state_of}
use Rattle.hm_history.specs.Kernel.Due.{due, due_in}
use Rattle.hm_history.specs.Kernel.Run.{has_room, added, turn}
use Rattle.hm_history.specs.Laws.{DueFrom}
use Rattle.hm_history.specs.declared.Kind.{Kind}
use Rattle.hm_history.specs.declared.Entry.{Entry}
use Rattle.hm_history.specs.declared.Progress.{Progress}
use Rattle.hm_race_laws.specs.Outcomes.{Point, point_next, with_answer, answer_of, answers_next, ended_in, raced}
use Rattle.hm_race_laws.specs.Positions.{forget_state, forget_kind, forget_entry, forget_progress}
use Rattle.hm_race_laws.specs.Laws.{TellsApart, ClosedIsComplete, RacedIsDue}
use Rattle.hm_race_laws.proofs.Closed.{Match, Likeness, all_outcomes}
use Rattle.hm_race_laws.proofs.DuePositions.{due_forgets}
use Rattle.hm_race_laws.proofs.NextPositions.{next_forgets}
use Rattle.hm_history.proofs.Going.{own_actor}

abbrev Alike : Point → Point → Type 0
Alike x y = (forget_state x.state ≡ forget_state y.state) × (x.answers ≡ y.answers)

answer_forgets : (k : Kind) → answer_of k ≡ answer_of (forget_kind k)
answer_forgets (Kind.Set m v f w from) = refl
answer_forgets _ = refl

abbrev entry_of : Entry → Progress → Entry
entry_of e (Progress.Did d) = d
entry_of e _ = e

dues : (c : Program) (x y : Point) (a : ℕ) → Alike x y → forget_progress (due_in c x.state a) ≡ forget_progress (due_in c y.state a)
dues c x y a h = due_forgets c x.state a ∙ (ap (λ z. forget_progress (due_in c z a)) h.0 ∙ sym (due_forgets c y.state a))

answers_like : (f g : ℕ → List Kind) (e d : Entry) → f ≡ g → forget_entry e ≡ forget_entry d → answers_next f e ≡ answers_next g d
answers_like f g e d h k = ap (λ z. with_at f e.actor (with_answer z (f e.actor))) (answer_forgets e.kind) ∙ (ap (λ (z : Entry). with_at f z.actor (with_answer (answer_of z.kind) (f z.actor))) k ∙ (ap (λ (z : ℕ → List Kind). with_at z d.actor (with_answer (answer_of (forget_kind d.kind)) (z d.actor))) h ∙ ap (λ z. with_at g d.actor (with_answer z (g d.actor))) (sym (answer_forgets d.kind))))

nexts : (c : Program) (x y : Point) (e d : Entry) → Alike x y → forget_entry e ≡ forget_entry d → Alike (point_next c x e) (point_next c y d)
nexts c x y e d h k = (
  next_forgets c x.state e ∙ (ap (λ z. forget_state (state_next c z (forget_entry e))) h.0 ∙ (ap (λ z. forget_state (state_next c (forget_state y.state) z)) k ∙ sym (next_forgets c y.state d))),
  answers_like x.answers y.answers e d h.1 k,
)

goes_alike : (c : Program) (x y : Point) (e : Entry) → Alike x y → due_in c x.state e.actor ≡ Progress.Did e → Match c Alike x y e
goes_alike c x y e h d = by (due_in c y.state e.actor) refl (sym (dues c x y e.actor h) ∙ ap forget_progress d)
  where
    by : (p : Progress) → due_in c y.state e.actor ≡ p → forget_progress p ≡ Progress.Did (forget_entry e) → Match c Alike x y e
    by (Progress.Did z) ez k = record {
      entry = z;
      actor = ap (λ (w : Entry). w.actor) same;
      is_due = ap (due_in c y.state) (ap (λ (w : Entry). w.actor) same) ∙ ez;
      next = nexts c x y e z h (sym same);
    }
      where
        same : forget_entry z ≡ forget_entry e
        same = ap (entry_of (forget_entry e)) k
    by (Progress.Waiting z) ez k = cc
    by Progress.Idle ez k = cc

pub by_positions : (c : Program) (h : List Entry) (key : Point → List ℕ) → TellsApart c h key → Likeness c h key Alike
by_positions c h key tells = record {
  by_key = λ x y rx ry e. tells x y rx ry e;
  joined = λ x y z p q. (p.0 ∙ q.0, p.1 ∙ q.1);
  goes_on = goes_alike c;
  same_answers = λ x y p. p.1;
  same_end = λ x y p. ap (ended_in c) p.0;
}

pub closed_is_complete : ClosedIsComplete
closed_is_complete c h key ks xs tells s es d en = all_outcomes c h key Alike ks xs (by_positions c h key tells) s es d en

-- turns in any order add entries that are due
abbrev Ran : Program → List Entry → List Entry → Type 0
Ran c h g = (es : List Entry) × DueFrom c h es × (h ++ es ≡ g)

pub raced_is_due : RacedIsDue
raced_is_due c h [] = ([], tt, append-nil h)
raced_is_due c h (a ∷ actors) = by (due c h a) refl (raced_is_due c (turn c h a) actors)
  where
    stays : (t : List Entry) → t ≡ h → Ran c t (raced c t actors) → Ran c h (raced c t actors)
    stays t e z = (z.0, subst (λ l. DueFrom c l z.0) e z.1, ap (λ l. l ++ z.0) (sym e) ∙ z.2)

    adds : (t : List Entry) (x : Entry) → t ≡ h ++ x ∷ [] → due c h a ≡ Progress.Did x → Ran c t (raced c t actors) → Ran c h (raced c t actors)
    adds t x e d z = (x ∷ z.0, (ap (due c h) (own_actor c (state_of c h) a x d) ∙ d, subst (λ l. DueFrom c l z.0) e z.1), sym (append_assoc h (x ∷ []) z.0) ∙ (ap (λ l. l ++ z.0) (sym e) ∙ z.2))

    room : (b : Bool) (x : Entry) → due c h a ≡ Progress.Did x → (elim b [ true ↦ h ++ x ∷ [] | false ↦ h ]) ≡ turn c h a → Ran c (turn c h a) (raced c (turn c h a) actors) → Ran c h (raced c (turn c h a) actors)
    room true x d e z = adds (turn c h a) x (sym e) d z
    room false x d e z = stays (turn c h a) (sym e) z

    by : (p : Progress) → due c h a ≡ p → Ran c (turn c h a) (raced c (turn c h a) actors) → Ran c h (raced c (turn c h a) actors)
    by (Progress.Did x) d z = room (has_room h) x d (sym (ap (added h) d)) z
    by (Progress.Waiting y) d z = stays (turn c h a) (ap (added h) d) z
    by Progress.Idle d z = stays (turn c h a) (ap (added h) d) z
