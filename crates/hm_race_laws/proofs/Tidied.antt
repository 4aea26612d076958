-- States that are equal but for positions, absolute sequences and the order of placed pages go on alike.
use Rattle.std.proofs.Common.{◌≡◌, ℕ, List, [], ◌∷◌, ◌++◌, refl, sym, ap, ◌∙◌, subst, fold}
use Rattle.hm_base.specs.Program.{Program}
use Rattle.hm_history.specs.Memory.Words.{is_empty_place}
use Rattle.hm_history.specs.Memory.Places.{Places, places_next}
use Rattle.hm_history.specs.Kernel.Going.{State, state_next, state_start}
use Rattle.hm_history.specs.Kernel.Due.{due_in}
use Rattle.hm_history.specs.Laws.{DueFrom}
use Rattle.hm_history.specs.declared.Kind.{Kind}
use Rattle.hm_history.specs.declared.Entry.{Entry}
use Rattle.hm_history.specs.declared.Progress.{Progress}
use Rattle.hm_laws.proofs.Histories.Sound.{Small, small}
use Rattle.hm_race_laws.specs.Outcomes.{Point, Reached, ended_in}
use Rattle.hm_race_laws.specs.Blur.{blurred, blurred_entry, blurred_progress, unlisted, tidied, form_of}
use Rattle.hm_race_laws.specs.Laws.{BlurredIsComplete, TidiedIsComplete, FormsAreComplete}
use Rattle.hm_race_laws.proofs.Points.{state_after}
use Rattle.hm_race_laws.proofs.Closed.{Match, Likeness, all_outcomes}
use Rattle.hm_race_laws.specs.Forms.{Distinct, restate}
use Rattle.hm_race_laws.proofs.PlacedLists.{still_distinct}
use Rattle.hm_race_laws.proofs.PlacedDues.{Agree, due_relisted, next_relisted}
use Rattle.hm_race_laws.proofs.Blurred.{Valid, valid_next, reached_valid, blurred_due, blurred_next, answers_like}

-- pages are listed once
abbrev Once : State → Type 0
Once u = Distinct u.after.places.placed

once_places : (t : Places) (k : Kind) → Distinct t.placed → Distinct (places_next t k).placed
once_places t (Kind.Place p v x) d = still_distinct p v t.placed d
once_places t _ d = d

once_next : (c : Program) (u : State) (e : Entry) → Once u → Once (state_next c u e)
once_next c u e d = once_places u.after.places e.kind d

once_after : (c : Program) (u : State) (h : List Entry) → Once u → Once (fold (state_next c) u h)
once_after c u [] d = d
once_after c u (e ∷ h) d = once_after c (state_next c u e) h (once_next c u e d)

pub record Alike (c : Program) (x y : Point) : Type 0 where
  pub left : Valid c x.state
  pub right : Valid c y.state
  pub left_once : Once x.state
  pub right_once : Once y.state
  pub states : tidied c x.state ≡ tidied c y.state
  pub answers : x.answers ≡ y.answers

agree : (c : Program) (x y : Point) → Alike c x y → Agree x.state.after.places.place x.state.after.places.placed y.state.after.places.placed
agree c x y h = record {
  left = λ p v e. h.left.stage.sound.places.listed p v e;
  right = λ p v e. h.right.stage.sound.places.listed p v (ap is_empty_place (sym (ap (λ (u : State). u.after.places.place p v) h.states)) ∙ e);
  left_once = h.left_once;
  right_once = h.right_once;
}

same_but : (c : Program) (x y : Point) → Alike c x y → restate (blurred c x.state) y.state.after.places.placed ≡ blurred c y.state
same_but c x y h = ap (λ u. restate u y.state.after.places.placed) h.states

dues : (c : Program) (x y : Point) (a : ℕ) → Alike c x y → blurred_progress (due_in c x.state a) ≡ blurred_progress (due_in c y.state a)
dues c x y a h = blurred_due c x.state a h.left ∙ (ap blurred_progress (due_relisted c (blurred c x.state) y.state.after.places.placed a (agree c x y h)) ∙ (ap (λ u. blurred_progress (due_in c u a)) (same_but c x y h) ∙ sym (blurred_due c y.state a h.right)))

nexts : (c : Program) (x y : Point) (e d : Entry) → Small c → Alike c x y → due_in c x.state e.actor ≡ Progress.Did e → due_in c y.state d.actor ≡ Progress.Did d → blurred_entry e ≡ blurred_entry d → tidied c (state_next c x.state e) ≡ tidied c (state_next c y.state d)
nexts c x y e d sm h de dd same = ap unlisted (blurred_next c x.state e sm h.left de) ∙ (ap (blurred c) (next_relisted c (blurred c x.state) y.state.after.places.placed (blurred_entry e) (agree c x y h)) ∙ (ap (λ u. blurred c (unlisted (state_next c u (blurred_entry e)))) (same_but c x y h) ∙ (ap (λ z. blurred c (unlisted (state_next c (blurred c y.state) z))) same ∙ sym (ap unlisted (blurred_next c y.state d sm h.right dd)))))

abbrev entry_of : Entry → Progress → Entry
entry_of e (Progress.Did d) = d
entry_of e _ = e

pub goes_alike : (c : Program) (x y : Point) (e : Entry) → Small c → Alike c x y → due_in c x.state e.actor ≡ Progress.Did e → Match c (Alike c) x y e
goes_alike c x y e sm h d = by (due_in c y.state e.actor) refl (sym (dues c x y e.actor h) ∙ ap blurred_progress d)
  where
    by : (p : Progress) → due_in c y.state e.actor ≡ p → blurred_progress p ≡ Progress.Did (blurred_entry e) → Match c (Alike c) x y e
    by (Progress.Did z) ez k = record {
      entry = z;
      actor = ap (λ (w : Entry). w.actor) same;
      is_due = own;
      next = record {
        left = valid_next c x.state e sm h.left d;
        right = valid_next c y.state z sm h.right own;
        left_once = once_next c x.state e h.left_once;
        right_once = once_next c y.state z h.right_once;
        states = nexts c x y e z sm h d own (sym same);
        answers = answers_like x.answers y.answers e z h.answers (sym same);
      };
    }
      where
        same : blurred_entry z ≡ blurred_entry e
        same = ap (entry_of (blurred_entry e)) k

        own : due_in c y.state z.actor ≡ Progress.Did z
        own = ap (due_in c y.state) (ap (λ (w : Entry). w.actor) same) ∙ ez
    by (Progress.Waiting z) ez k = cc
    by Progress.Idle ez k = cc

pub reached_once : (c : Program) (h : List Entry) (x : Point) → Reached c h x → Once x.state
reached_once c h x r = subst Once (sym (state_after c h r.entries) ∙ ap (λ (z : Point). z.state) r.same) (once_after c (state_start c) (h ++ r.entries) tt)

-- equal keys of reached points are states and answers that are equal but for all this
abbrev Tells : {K : Type 0} → Program → List Entry → (Point → K) → Type 0
Tells c h key = (x y : Point) → Reached c h x → Reached c h y → key x ≡ key y → (tidied c x.state ≡ tidied c y.state) × (x.answers ≡ y.answers)

pub likeness : {K : Type 0} (c : Program) (h : List Entry) (key : Point → K) → Small c → DueFrom c [] h → Tells c h key → Likeness c h key (Alike c)
likeness c h key sm d tells = record {
  by_key = λ x y rx ry e. record {
    left = reached_valid c h x sm d rx;
    right = reached_valid c h y sm d ry;
    left_once = reached_once c h x rx;
    right_once = reached_once c h y ry;
    states = (tells x y rx ry e).0;
    answers = (tells x y rx ry e).1;
  };
  joined = λ x y z p q. record { left = p.left; right = q.right; left_once = p.left_once; right_once = q.right_once; states = p.states ∙ q.states; answers = p.answers ∙ q.answers };
  goes_on = λ x y e p k. goes_alike c x y e sm p k;
  same_answers = λ x y p. p.answers;
  same_end = λ x y p. ap (ended_in c) p.states;
}

pub tidied_is_complete : TidiedIsComplete
tidied_is_complete c sc h d key ks xs tells s es k en = all_outcomes c h key (Alike c) ks xs (likeness c h key (small c sc) d tells) s es k en

-- so are those of which less is left out
pub blurred_is_complete : BlurredIsComplete
blurred_is_complete c sc h d key ks xs tells s es k en = all_outcomes c h key (Alike c) ks xs (likeness c h key (small c sc) d (λ x y rx ry e. let same = tells x y rx ry e in (ap unlisted same.0, same.1))) s es k en

pub forms_tell : (c : Program) (h : List Entry) → Tells c h (form_of c)
forms_tell c h x y rx ry e = (ap (λ (z : Point). z.state) e, ap (λ (z : Point). z.answers) e)

pub forms_are_complete : FormsAreComplete
forms_are_complete c sc h d ks xs s es k en = all_outcomes c h (form_of c) (Alike c) ks xs (likeness c h (form_of c) (small c sc) d (forms_tell c h)) s es k en
