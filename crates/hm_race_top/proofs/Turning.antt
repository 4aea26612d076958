-- A turn at a state that a race has come to.
use Rattle.std.proofs.Common.{◌≡◌, ℕ, ◌+◌, ◌<◌, ◌≤◌, ◌⊎◌, inl, inr, false, Some, None, List, [], ◌∷◌, ◌++◌, length, map, refl, sym, ap, ◌∙◌, subst, zero-add, arith}
use Rattle.std.proofs.lemmas.Bool.{cases_lt}
use Rattle.std.specs.Rc.{rc_value}
use Rattle.std.proofs.lemmas.List.{length-append, length-map}
use Rattle.hm_base.specs.Program.{Program, IsScript}
use Rattle.hm_history.proofs.RunLemmas.{DueFrom-append, DueFrom-join}
use Rattle.hm_history.specs.Kernel.Due.{due, due_in}
use Rattle.hm_history.specs.Memory.After.{After, after}
use Rattle.hm_history.specs.Kernel.Going.{Going, State, state_next, state_of, state_of-snoc, state_start}
use Rattle.hm_history.specs.Laws.{DueFrom}
use Rattle.hm_history.specs.Kernel.Run.{is_entry}
use Rattle.hm_history.specs.declared.Kind.{Kind}
use Rattle.hm_history.specs.declared.Entry.{Entry}
use Rattle.hm_history.specs.declared.Progress.{Progress}
use Rattle.hm_laws.specs.Stands as laws
use Rattle.hm_laws.proofs.Histories.Stands.{history_stands}
use Rattle.hm_race_laws.specs.Outcomes.{Point, Reached, point_after, answer_of, with_answer, answers_next}
use Rattle.hm_history.specs.Memory.Words.{with_at}
use Rattle.hm_race_laws.specs.Positions.{forget_kind}
use Rattle.hm_race_laws.specs.Numbers.{small_kind}
use Rattle.hm_race_keys.specs.Trail.{answers_in}
use Rattle.hm_race_top.specs.Run.Known.{IsNext}
use Rattle.hm_race_states.specs.Keyed.{form_in}
use Rattle.hm_race_states.specs.declared.key.StateKey.{StateKey}
use Rattle.hm_race_laws.specs.Forms.{ListsPlaces, Adds, AddsAlike, TurnsAlike, opened_form}
use Rattle.hm_race_laws.specs.Blur.{blurred_entry, tidied, unlisted, form_of}
use Rattle.hm_race_laws.specs.Laws.{FormsGoOn}
use Rattle.hm_race_states.specs.Afters.{ActorTakes, PartsTake}
use Rattle.hm_race_states.specs.States.{state_in}
use Rattle.hm_race_states.specs.declared.state.RaceState.{RaceState}
use Rattle.hm_race_top.specs.Run.Turns.{Shows, IsShown, IsTurned}
use Rattle.hm_race_top.specs.declared.run.turn.Turned.{Turned}
use Rattle.hm_race_top.proofs.Taking.{HasCounted, HasShort, actor_takes, blurred_counted, due_phase, known_counted, known_short, parts_take, tidied_short}
use Rattle.hm_history.proofs.Going.{lengths, own_actor}
use Rattle.hm_race_states.proofs.Lists.{past}
use Rattle.hm_race_laws.proofs.Points.{state_after, point_made}

-- the point after a history, which is all of the race
here : (c : Program) (h : List Entry) → DueFrom c [] h → Reached c [] (point_after c [] h)
here c h d = record { entries = h; due = d; same = refl }

module _ (law : FormsGoOn) (c : Program) (sc : IsScript c) (h : List Entry) (x : RaceState) (shows : Shows c h x) (lists : ListsPlaces (state_in x).after.places.place (state_in x).after.places.placed) (a : ℕ) where
  abbrev u : State
  u = state_in x

  abbrev at : Point
  at = point_after c [] h

  abbrev form : Point
  form = record { state = unlisted u; answers = at.answers }

  pub there : at.state ≡ state_of c h
  there = state_after c [] h

  pub formed : form_of c at ≡ form
  formed = ap {B = Point} (λ (v : State). record { state = tidied c v; answers = at.answers }) there ∙ ap {B = Point} (λ (v : State). record { state = v; answers = at.answers }) (sym shows.same)

  pub turns : TurnsAlike c at (opened_form form u.after.places.placed) a
  turns = law c sc [] tt at (here c h shows.due) form formed u.after.places.placed lists a

  -- nothing is due
  idle : is_entry (due_in c u a) ≡ false → is_entry (due c h a) ≡ false
  idle e = ap (λ (v : State). is_entry (due_in c v a)) (sym there) ∙ (sym turns.is_due ∙ e)

  module _ (d : Entry) (did : due_in c u a ≡ Progress.Did d) where
    pub adds : Adds c at a (λ e. AddsAlike c at (opened_form form u.after.places.placed) a e d)
    adds = turns.did d did

    abbrev e : Entry
    e = adds.entry

    is_due : due c h a ≡ Progress.Did e
    is_due = ap (λ (v : State). due_in c v a) (sym there) ∙ adds.due

    own : e.actor ≡ a
    own = own_actor c at.state a e adds.due

    own_due : due c h e.actor ≡ Progress.Did e
    own_due = ap (due c h) own ∙ is_due

    abbrev more : List Entry
    more = h ++ e ∷ []

    dues : DueFrom c [] more
    dues = DueFrom-append c [] h e shows.due own_due

    stands : laws.Stands c more
    stands = history_stands c sc more dues

    before : laws.Stands c h
    before = history_stands c sc h shows.due

    come : state_next c at.state e ≡ state_of c more
    come = ap (λ (v : State). state_next c v e) there ∙ sym (state_of-snoc c h e)

    nexts : tidied c (state_next c at.state e) ≡ tidied c (state_next c u (blurred_entry d))
    nexts = ap (λ (y : Point). y.state) adds.holds.next

    -- all that has to do with the actor takes the entry
    pub takes : length h ≤ 2000000 → ActorTakes c u (blurred_entry d)
    takes few = actor_takes c u (blurred_entry d) counted short
      where
        far : (after h).length ≡ length h
        far = ap (λ (s : After). s.length) (sym before.same_after) ∙ (lengths c (state_start c) h ∙ zero-add (length h))

        counted : HasCounted c d.actor (u.going d.actor)
        counted = subst (HasCounted c d.actor) (sym (ap (λ (v : State). v.going d.actor) shows.same))
            (blurred_counted c (state_of c h).after.sequences d.actor ((state_of c h).going d.actor)
            (known_counted c (after h) before.past d.actor ((state_of c h).going d.actor) (omega (arith, few, far)) (before.known d.actor)))

        short : HasShort c d.actor ((state_next c u (blurred_entry d)).going d.actor)
        short = tidied_short c (state_of c more) (state_next c u (blurred_entry d)) d.actor (ap (tidied c) (sym come) ∙ nexts)
            (known_short c (after more) stands.past d.actor ((state_of c more).going d.actor) stands.rules (stands.known d.actor))

    -- so do the other parts
    pub parts : PartsTake u (blurred_entry d).kind
    parts = subst (λ (x : Entry). PartsTake u x.kind) adds.holds.entry
        (parts_take c (after h) before.past e.actor e.kind u
        (ap (λ (v : State). v.after.plain) shows.same ∙ ap (λ (s : After). record s.plain { been = λ q. false }) before.same_after)
        (ap (λ (v : State). v.after.sequences.active) shows.same ∙ ap (λ (s : After). s.sequences.active) before.same_after)
        before.rules (before.allows e own_due))

    -- and the state has the actor
    pub has_actor : (blurred_entry d).actor < length x.tasks.items
    has_actor = by (cases_lt d.actor (length x.tasks.items))
      where
        by : (d.actor < length x.tasks.items) ⊎ (length x.tasks.items ≤ d.actor) → d.actor < length x.tasks.items
        by (inl l) = l
        by (inr l) = absurd (due_phase c u a d did (subst (λ b. (u.going b).stack ≡ []) (own_actor c u a d did) (ap (λ (g : Going). g.stack) (past (map rc_value x.tasks.items) d.actor (omega (arith, l, length-map x.tasks.items rc_value))))))

    -- the state after it is shown
    pub goes_on : (y : RaceState) → unlisted (state_in y) ≡ tidied c (state_next c u (blurred_entry d)) → Shows c (h ++ e ∷ []) y
    goes_on y is = record {
      due = dues;
      same = is ∙ (sym nexts ∙ ap (tidied c) come);
    }

    pub turned : (t : Turned) → t.entry ≡ blurred_entry d → unlisted (state_in t.state) ≡ tidied c (state_next c u (blurred_entry d)) → IsTurned c h a (Some t)
    turned t te is = (e, is_due, te ∙ sym adds.holds.entry, goes_on t.state is)

  pub not_turned : (p : Progress) → due_in c u a ≡ p → is_entry p ≡ false → IsTurned c h a None
  not_turned p is e = idle (ap is_entry is ∙ e)

-- a state is that after a history of more entries too
pub shown_upto : (c : Program) (x : RaceState) (n most : ℕ) → n ≤ most → IsShown c x n → IsShown c x most
shown_upto c x n most l s = record { history = s.history; shows = s.shows; few = omega (arith, l, s.few) }

-- the state after a turn is that after one entry more
pub shown_next : (c : Program) (x : RaceState) (n a : ℕ) (t : Turned) → (s : IsShown c x n) → IsTurned c s.history a (Some t) → IsShown c t.state (n + 1)
shown_next c x n a t s turned = record { history = s.history ++ turned.0 ∷ []; shows = turned.3; few = omega (arith, s.few, length-append s.history (turned.0 ∷ [])) }

-- answers have neither positions nor sequences
answer_blurred : (k : Kind) → answer_of (forget_kind (small_kind k)) ≡ answer_of k
answer_blurred (Kind.Set m v f w from) = refl
answer_blurred (Kind.Attached m d p r q) = refl
answer_blurred (Kind.Detaching m q) = refl
answer_blurred (Kind.Start p r q) = refl
answer_blurred (Kind.Told m r q) = refl
answer_blurred (Kind.End p r q) = refl
answer_blurred (Kind.Begin m q) = refl
answer_blurred _ = refl

answers_blurred : (f : ℕ → List Kind) (e : Entry) → answers_next f (blurred_entry e) ≡ answers_next f e
answers_blurred f e = ap (λ o. with_at f e.actor (with_answer o (f e.actor))) (answer_blurred e.kind)

-- a key of a point to which a race has come
module _ (c : Program) (h : List Entry) (dues : DueFrom c [] h) (x : Point) (r : Reached c h x) (k : StateKey) (has : form_of c x ≡ form_in k) where
  pub far : x.state ≡ state_of c (h ++ r.entries)
  far = ap (λ (y : Point). y.state) (sym r.same) ∙ state_after c h r.entries

  pub shown : Shows c (h ++ r.entries) k.state
  shown = record {
    due = DueFrom-join c [] h r.entries dues r.due;
    same = sym (ap (λ (y : Point). y.state) has) ∙ ap (tidied c) far;
  }

  pub next_none : (a : ℕ) → IsTurned c (h ++ r.entries) a None → is_entry (due_in c x.state a) ≡ false
  next_none a e = ap (λ (v : State). is_entry (due_in c v a)) far ∙ e

  pub next_some : (a : ℕ) (t : Turned) (l : StateKey) → IsTurned c (h ++ r.entries) a (Some t) → l.state ≡ t.state → answers_in l.answers.value.lists.items ≡ answers_next (answers_in k.answers.value.lists.items) t.entry → IsNext form_in c x a (Some l)
  next_some a t l turned same an = (e, ap (λ (v : State). due_in c v a) far ∙ turned.1, point_made _ _ _ _ states answers)
    where
      e : Entry
      e = turned.0

      states : unlisted (state_in l.state) ≡ tidied c (state_next c x.state turned.0)
      states = ap (λ y. unlisted (state_in y)) same ∙ (turned.3.same ∙ ap (tidied c) (state_of-snoc c (h ++ r.entries) turned.0 ∙ ap (λ (v : State). state_next c v turned.0) (sym far)))

      answers : answers_in l.answers.value.lists.items ≡ answers_next x.answers turned.0
      answers = an ∙ (ap (λ (f : ℕ → List Kind). answers_next f t.entry) (sym (ap (λ (y : Point). y.answers) has)) ∙ (ap (answers_next x.answers) turned.2 ∙ answers_blurred x.answers turned.0))
