-- The outcomes of what is known.
use Rattle.std.proofs.Common.{◌≡◌, ◌⊎◌, inl, inr, Bool, true, false, if◌then◌else◌, List, [], ◌∷◌, refl, sym, ap, ◌∙◌, subst, map, fold}
use Rattle.hm_base.specs.Program.{Program}
use Rattle.hm_history.specs.declared.Kind.{Kind}
use Rattle.hm_history.specs.declared.Entry.{Entry}
use Rattle.hm_race_laws.specs.Blur.{form_of}
use Rattle.hm_race_laws.specs.Closed.{IsListed, Outcome}
use Rattle.hm_race_laws.specs.Outcomes.{Point, point_from, point_next, point_turn, point_turned, point_after, point_at, DueAlong, outcome, answers_of, ended_in}
use Rattle.hm_race_laws.proofs.Points.{state_after, answers_after, due_along}
use Rattle.hm_race_laws.proofs.Turned.{at_reached}
use Rattle.hm_search.specs.Known as search
use Rattle.hm_search.proofs.Exploring.{From, from_map}
use Rattle.hm_race_top.specs.Run.Systems.{race_of}
use Rattle.hm_race_top.specs.Run.Known.{KnownValue, outcomes_of}
use Rattle.hm_race_top.specs.Run.Laws.{TurnsAreAll, FormsHaveOutcomes, KnownAreReal}

-- ---- turns

-- entries that are due are turns of their actors
along : (c : Program) (x : Point) (es : List Entry) → DueAlong c x.state es → fold (point_turn c) x (map (λ (e : Entry). e.actor) es) ≡ fold (point_next c) x es
along c x [] d = refl
along c x (e ∷ es) d = ap (λ y. fold (point_turn c) y (map (λ (z : Entry). z.actor) es)) (ap (point_turned c x) d.0) ∙ along c (point_next c x e) es d.1

pub turns_are_all : TurnsAreAll
turns_are_all c h known all x r = subst (λ y. IsListed (search.forms known) (form_of c y)) (along c (point_from c h) r.entries (due_along c h r.entries r.due) ∙ r.same) (all (map (λ (e : Entry). e.actor) r.entries))

-- ---- outcomes

-- each outcome is that of a known state
record Ends (c : Program) (known : List KnownValue) (x : List (List Kind)) : Type 0 where
  state : KnownValue
  listed : IsListed known state
  ended : state.ended ≡ true
  same : outcome c state.form.answers ≡ x

of_known : (c : Program) (known : List KnownValue) (x : List (List Kind)) → IsListed (outcomes_of c known) x → Ends c known x
of_known c [] x h = absurd h
of_known c (n ∷ known) x h = by (of_known c known x) n.ended refl h
  where
    more : Ends c known x → Ends c (n ∷ known) x
    more z = record { state = z.state; listed = inr z.listed; ended = z.ended; same = z.same }

    by : (IsListed (outcomes_of c known) x → Ends c known x) → (b : Bool) → n.ended ≡ b → IsListed (if b then outcome c n.form.answers ∷ outcomes_of c known else outcomes_of c known) x → Ends c (n ∷ known) x
    by ih true b (inl e) = record { state = n; listed = inl refl; ended = b; same = e }
    by ih true b (inr k) = more (ih k)
    by ih false b k = more (ih k)

known_ends : (c : Program) (known : List KnownValue) (n : KnownValue) → IsListed known n → n.ended ≡ true → IsListed (outcomes_of c known) (outcome c n.form.answers)
known_ends c [] n h e = absurd h
known_ends c (m ∷ known) n h e = by (λ k. known_ends c known n k e) m.ended refl h
  where
    by : (IsListed known n → IsListed (outcomes_of c known) (outcome c n.form.answers)) → (b : Bool) → m.ended ≡ b → (m ≡ n) ⊎ IsListed known n → IsListed (if b then outcome c m.form.answers ∷ outcomes_of c known else outcomes_of c known) (outcome c n.form.answers)
    by ih true b (inl k) = inl (ap (λ (z : KnownValue). outcome c z.form.answers) k)
    by ih true b (inr k) = inr (ih k)
    by ih false b (inl k) = absurd (differ (sym b ∙ (ap (λ (z : KnownValue). z.ended) k ∙ e)))
      where
        differ : false ≡ true → ⊥
        differ q = cc
    by ih false b (inr k) = ih k

pub known_are_real : KnownAreReal
known_are_real c h known each x l = by (of_known c known x l)
  where
    by : Ends c known x → Outcome c h x
    by z = let k = each z.state z.listed in record {
      point = point_at c h z.state.turns;
      reached = at_reached c h z.state.turns;
      ended = sym k.ended ∙ z.ended;
      same = ap (λ (f : Point). outcome c f.answers) (sym k.form) ∙ z.same;
    }

pub forms_have_outcomes : FormsHaveOutcomes
forms_have_outcomes c h known each all es due end = by (from_map (λ (n : KnownValue). n.form) known (form_of c x) (all x (record { entries = es; due = due; same = refl })))
  where
    x : Point
    x = point_after c h es

    ends : ended_in c x.state ≡ true
    ends = ap (ended_in c) (state_after c h es) ∙ end

    by : From (λ (n : KnownValue). n.form) known (form_of c x) → IsListed (outcomes_of c known) (outcome c (answers_of es))
    by z = subst (λ f. IsListed (outcomes_of c known) (outcome c f)) (ap (λ (f : Point). f.answers) z.same ∙ answers_after c h es) (known_ends c known z.item z.listed (k.ended ∙ (ap (λ (f : Point). ended_in c f.state) (sym k.form ∙ z.same) ∙ ends)))
      where
        k : search.IsKnown (race_of c h) z.item
        k = each z.item z.listed
