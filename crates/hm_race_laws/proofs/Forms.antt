-- A turn at a form is a turn at each state that has it.
use Rattle.std.proofs.Common.{◌≡◌, ℕ, List, refl, sym, ap, ◌∙◌, subst}
use Rattle.hm_base.specs.Program.{Program}
use Rattle.hm_history.specs.Kernel.Due.{due_in}
use Rattle.hm_history.specs.Kernel.Going.{state_next}
use Rattle.hm_history.specs.Kernel.Run.{is_entry}
use Rattle.hm_history.specs.declared.Kind.{Kind}
use Rattle.hm_history.specs.declared.Entry.{Entry}
use Rattle.hm_history.specs.declared.Progress.{Progress}
use Rattle.hm_laws.proofs.Histories.Sound.{Small, small}
use Rattle.hm_race_laws.specs.Outcomes.{Point, point_next}
use Rattle.hm_race_laws.specs.Positions.{forget_kind}
use Rattle.hm_race_laws.specs.Numbers.{small_kind}
use Rattle.hm_race_laws.specs.Blur.{blurred, blurred_entry, blurred_progress, unlisted, tidied, form_of}
use Rattle.hm_race_laws.specs.Forms.{ListsPlaces, opened_form, AddsAlike, Adds, TurnsAlike}
use Rattle.hm_race_laws.specs.Closed.{IsListed}
use Rattle.hm_race_laws.specs.Laws.{FormsGoOn, FormsGoAlike, FormsEndAlike, FormsAreAll}
use Rattle.hm_race_laws.proofs.Points.{point_made}
use Rattle.hm_race_laws.proofs.Closed.{Match, Met, complete}
use Rattle.hm_race_laws.proofs.PlacedDues.{Agree, due_relisted, next_relisted}
use Rattle.hm_race_laws.proofs.Blurred.{Valid, reached_valid, blurred_due, blurred_next, answers_like}
use Rattle.hm_race_laws.proofs.Tidied.{Alike, goes_alike, likeness, forms_tell, reached_once}
use Rattle.hm_history.proofs.Going.{own_actor}

-- what is left out once is left out
kind_twice : (k : Kind) → forget_kind (small_kind k) ≡ forget_kind (small_kind (forget_kind (small_kind k)))
kind_twice (Kind.Set m v f w from) = refl
kind_twice (Kind.Attached m d p r q) = refl
kind_twice (Kind.Detaching m q) = refl
kind_twice (Kind.Start p r q) = refl
kind_twice (Kind.Told m r q) = refl
kind_twice (Kind.End p r q) = refl
kind_twice (Kind.Begin m q) = refl
kind_twice _ = refl

entry_twice : (e : Entry) → blurred_entry e ≡ blurred_entry (blurred_entry e)
entry_twice e = ap (λ k. record { actor = e.actor; kind = k }) (kind_twice e.kind)

abbrev entry_of : Entry → Progress → Entry
entry_of e (Progress.Did d) = d
entry_of e _ = e

same_test : (p : Progress) → is_entry (blurred_progress p) ≡ is_entry p
same_test (Progress.Did e) = refl
same_test (Progress.Waiting y) = refl
same_test Progress.Idle = refl

module _ (c : Program) (x : Point) (sm : Small c) (valid : Valid c x.state) (pages : List (ℕ × ℕ)) (ok : Agree x.state.after.places.place x.state.after.places.placed pages) (a : ℕ) where
  -- the form, opened
  abbrev there : Point
  there = opened_form (form_of c x) pages

  dues : blurred_progress (due_in c there.state a) ≡ blurred_progress (due_in c x.state a)
  dues = ap blurred_progress (sym (due_relisted c (blurred c x.state) pages a ok)) ∙ sym (blurred_due c x.state a valid)

  entries : (e d : Entry) → due_in c x.state a ≡ Progress.Did e → due_in c there.state a ≡ Progress.Did d → blurred_entry e ≡ blurred_entry d
  entries e d ex ed = ap (entry_of (blurred_entry e)) (ap blurred_progress (sym ex) ∙ (sym dues ∙ ap blurred_progress ed))

  nexts : (e d : Entry) → due_in c x.state e.actor ≡ Progress.Did e → blurred_entry e ≡ blurred_entry d → tidied c (state_next c x.state e) ≡ tidied c (state_next c there.state (blurred_entry d))
  nexts e d ex same = ap unlisted (blurred_next c x.state e sm valid ex) ∙ (ap (blurred c) (next_relisted c (blurred c x.state) pages (blurred_entry e) ok) ∙ ap (λ z. tidied c (state_next c there.state z)) same)

  adds : (e d : Entry) → due_in c x.state a ≡ Progress.Did e → due_in c there.state a ≡ Progress.Did d → AddsAlike c x there a e d
  adds e d ex ed = record {
    entry = same;
    next = point_made _ _ _ _ (nexts e d (ap (due_in c x.state) (own_actor c x.state a e ex) ∙ ex) same) (answers_like x.answers x.answers e (blurred_entry d) refl (same ∙ entry_twice d));
  }
    where
      same : blurred_entry e ≡ blurred_entry d
      same = entries e d ex ed

  did : (d : Entry) → due_in c there.state a ≡ Progress.Did d → Adds c x a (λ e. AddsAlike c x there a e d)
  did d ed = by (due_in c x.state a) refl (sym (ap blurred_progress (sym ed) ∙ dues))
    where
      by : (p : Progress) → due_in c x.state a ≡ p → blurred_progress p ≡ Progress.Did (blurred_entry d) → Adds c x a (λ e. AddsAlike c x there a e d)
      by (Progress.Did e) ex k = record { entry = e; due = ex; holds = adds e d ex ed }
      by (Progress.Waiting y) ex k = cc
      by Progress.Idle ex k = cc

  turns : TurnsAlike c x there a
  turns = record {
    due = dues;
    is_due = sym (same_test (due_in c there.state a)) ∙ (ap is_entry dues ∙ same_test (due_in c x.state a));
    adds = adds;
    did = did;
  }

pub forms_go_on : FormsGoOn
forms_go_on c sc h dh x r f same pages lists a = subst (λ g. TurnsAlike c x (opened_form g pages) a) same (turns c x (small c sc) valid pages agree a)
  where
    valid : Valid c x.state
    valid = reached_valid c h x (small c sc) dh r

    here : ListsPlaces (form_of c x).state.after.places.place pages
    here = subst (λ (g : Point). ListsPlaces g.state.after.places.place pages) (sym same) lists

    agree : Agree x.state.after.places.place x.state.after.places.placed pages
    agree = record { left = valid.stage.sound.places.listed; right = here.each; left_once = reached_once c h x r; right_once = here.once }

pub forms_go_alike : FormsGoAlike
forms_go_alike c sc h dh x y rx ry same a e due = by (goes_alike c x y e (small c sc) like own)
  where
    own : due_in c x.state e.actor ≡ Progress.Did e
    own = ap (due_in c x.state) (own_actor c x.state a e due) ∙ due

    like : Alike c x y
    like = (likeness c h (form_of c) (small c sc) dh (forms_tell c h)).by_key x y rx ry same

    by : Match c (Alike c) x y e → Adds c y a (λ d. form_of c (point_next c x e) ≡ form_of c (point_next c y d))
    by m = record {
      entry = m.entry;
      due = ap (due_in c y.state) (sym (m.actor ∙ own_actor c x.state a e due)) ∙ m.is_due;
      holds = point_made _ _ _ _ m.next.states m.next.answers;
    }

pub forms_end_alike : FormsEndAlike
forms_end_alike c x = refl

pub forms_are_all : FormsAreAll
forms_are_all c sc h dh ks xs s x r = subst (λ y. IsListed ks (form_of c y)) r.same (by (complete c h (form_of c) (Alike c) ks xs (likeness c h (form_of c) (small c sc) dh (forms_tell c h)) s r.entries r.due))
  where
    by : {y : Point} → Met c h (form_of c) (Alike c) ks xs y → IsListed ks (form_of c y)
    by m = subst (IsListed ks) (sym (point_made _ _ _ _ m.alike.states m.alike.answers ∙ m.done.stands.has_key)) m.listed
