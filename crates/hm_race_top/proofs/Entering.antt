-- An entry at hand that is due after a history: the state that shows the history takes it.
use Rattle.std.proofs.Common.{◌≡◌, ℕ, ◌+◌, ◌<◌, ◌≤◌, true, List, [], ◌∷◌, ◌++◌, length, get_or, take, sym, ap, ◌∙◌, subst}
use Rattle.std.proofs.lemmas.List.{take_more}
use Rattle.hm_base.specs.Program.{Program, IsScript}
use Rattle.hm_history.proofs.RunLemmas.{due_at}
use Rattle.hm_history.specs.Kernel.Due.{due, due_in}
use Rattle.hm_history.specs.Kernel.Going.{State, state_next}
use Rattle.hm_history.specs.Kernel.Run.{is_entry}
use Rattle.hm_history.specs.Laws.{DueFrom}
use Rattle.hm_history.specs.declared.Entry.{Entry}
use Rattle.hm_history.specs.declared.Progress.{Progress}
use Rattle.hm_race_laws.specs.Blur.{blurred_entry, tidied, unlisted}
use Rattle.hm_race_laws.specs.Forms.{ListsPlaces}
use Rattle.hm_race_laws.specs.Laws.{FormsGoOn}
use Rattle.hm_race_states.specs.Afters.{ActorTakes, PartsTake}
use Rattle.hm_race_states.specs.States.{state_in}
use Rattle.hm_race_states.specs.declared.state.RaceState.{RaceState}
use Rattle.hm_race_top.specs.Run.Turns.{Shows}
use Rattle.hm_race_top.proofs.Turning.{adds, goes_on, has_actor, parts, takes, there, turns}
use Rattle.hm_race_top.proofs.Turns.{Did, did}

module _ (law : FormsGoOn) (c : Program) (sc : IsScript c) (h : List Entry) (x : RaceState) (shows : Shows c h x) (lists : ListsPlaces (state_in x).after.places.place (state_in x).after.places.placed)
    (e : Entry) (was : due c h e.actor ≡ Progress.Did e) where
  abbrev shown_there : State
  shown_there = state_in x

  goes : is_entry (due_in c shown_there e.actor) ≡ true
  goes = (turns law c sc h x shows lists e.actor).is_due
      ∙ (ap (λ (v : State). is_entry (due_in c v e.actor)) (there law c sc h x shows lists e.actor) ∙ ap is_entry was)

  -- what is due at the state
  at_state : Did (due_in c shown_there e.actor)
  at_state = did (due_in c shown_there e.actor) goes

  -- it is due after the history too
  same : (adds law c sc h x shows lists e.actor at_state.entry at_state.same).entry ≡ e
  same =
      let both = sym (adds law c sc h x shows lists e.actor at_state.entry at_state.same).due
      ∙ (ap (λ (v : State). due_in c v e.actor) (there law c sc h x shows lists e.actor) ∙ was) in
      cc

  -- and is that entry, but for positions and sequences
  alike : blurred_entry at_state.entry ≡ blurred_entry e
  alike = sym (adds law c sc h x shows lists e.actor at_state.entry at_state.same).holds.entry ∙ ap blurred_entry same

  pub has_its_actor : (b : Entry) → b ≡ blurred_entry e → b.actor < length x.tasks.items
  has_its_actor b is = subst (λ (y : Entry). y.actor < length x.tasks.items) (alike ∙ sym is)
      (has_actor law c sc h x shows lists e.actor at_state.entry at_state.same)

  pub takes_it : (b : Entry) → b ≡ blurred_entry e → length h ≤ 2000000 → ActorTakes c shown_there b
  takes_it b is few = subst (ActorTakes c shown_there) (alike ∙ sym is) (takes law c sc h x shows lists e.actor at_state.entry at_state.same few)

  pub parts_take_it : (b : Entry) → b ≡ blurred_entry e → PartsTake shown_there b.kind
  parts_take_it b is = subst (λ (y : Entry). PartsTake shown_there y.kind) (alike ∙ sym is) (parts law c sc h x shows lists e.actor at_state.entry at_state.same)

  pub goes_on_by : (b : Entry) → b ≡ blurred_entry e → (y : RaceState) → unlisted (state_in y) ≡ tidied c (state_next c shown_there b) → Shows c (h ++ e ∷ []) y
  goes_on_by b is y next = subst (λ (d : Entry). Shows c (h ++ d ∷ []) y) same
      (goes_on law c sc h x shows lists e.actor at_state.entry at_state.same y (next ∙ ap (λ (d : Entry). tidied c (state_next c shown_there d)) (is ∙ sym alike)))

-- each entry of a set-up is due after those before it
pub set_up_due : (c : Program) (h : List Entry) (i : ℕ) (e : Entry) → DueFrom c [] h → i < length h → e ≡ get_or h i e → due c (take i h) e.actor ≡ Progress.Did e
set_up_due c h i e dues below is = subst (λ (y : Entry). due c (take i h) y.actor ≡ Progress.Did y) (sym is) (due_at c [] h i e below dues)

-- a set-up, entry by entry
pub set_up_on : (c : Program) (h : List Entry) (i : ℕ) (e : Entry) (y : RaceState) → i < length h → e ≡ get_or h i e → Shows c (take i h ++ e ∷ []) y → Shows c (take (i + 1) h) y
set_up_on c h i e y below is shows = subst (λ (es : List Entry). Shows c es y) (ap (λ (d : Entry). take i h ++ d ∷ []) is ∙ sym (take_more h i e below)) shows
