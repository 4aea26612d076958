-- Turns lead by entries that are due to the point that is known of them.
use Rattle.std.proofs.Common.{◌≡◌, ℕ, ◌<◌, ◌≤◌, Bool, true, false, List, [], ◌∷◌, ◌++◌, length, refl, sym, ap, ◌∙◌, subst, fold, arith, append_assoc, append-nil}
use Rattle.std.proofs.lemmas.List.Sums.{fold-append}
use Rattle.hm_base.specs.Program.{Program}
use Rattle.hm_history.specs.Kernel.Due.{due, due_in}
use Rattle.hm_history.specs.Kernel.Going.{State, state_of, state_next, state_of-snoc}
use Rattle.hm_history.specs.Laws.{DueFrom}
use Rattle.hm_history.specs.Kernel.Run.{added}
use Rattle.hm_history.specs.declared.Entry.{Entry}
use Rattle.hm_history.specs.declared.Progress.{Progress}
use Rattle.hm_history.proofs.RunLemmas.{due_own, DueFrom-append, has_room_below}
use Rattle.hm_race_laws.specs.Outcomes.{Point, point_next, point_from, point_turned, point_turn, answers_of, answers_next, no_answers, raced}
use Rattle.hm_race_top.specs.Text.Laws.{PointsAreLed}
use Rattle.hm_history.proofs.Going.{lengths}

-- a point's history has so many entries
abbrev size : Point → ℕ
size x = x.state.after.length

-- turns leave none out
abbrev Growing : Program → Point → Progress → Type 0
Growing c x p = size x ≤ size (point_turned c x p)

grows : (c : Program) (x : Point) (p : Progress) → Growing c x p
grows c x (Progress.Did e) = omega arith
grows c x (Progress.Waiting why) = omega arith
grows c x Progress.Idle = omega arith

all_grow : (c : Program) (x : Point) (turns : List ℕ) → size x ≤ size (fold (point_turn c) x turns)
all_grow c x [] = omega arith
all_grow c x (a ∷ turns) =
    let one = grows c x (due_in c x.state a) in
    let more = all_grow c (point_turn c x a) turns in
    omega (arith, one, more)

-- the point stands for the history that goes on by these entries
record At (c : Program) (h es : List Entry) (x : Point) : Type 0 where
  due : DueFrom c h es
  state : state_of c (h ++ es) ≡ x.state
  answers : answers_of es ≡ x.answers

-- it does after one more that is due
more_at : (c : Program) (h es : List Entry) (x : Point) (e : Entry) → At c h es x → due_in c x.state e.actor ≡ Progress.Did e → At c h (es ++ e ∷ []) (point_next c x e)
more_at c h es x e at d = record {
  due = DueFrom-append c h es e at.due (subst (λ (u : State). due_in c u e.actor ≡ Progress.Did e) (sym at.state) d);
  state = ap (state_of c) (sym (append_assoc h es (e ∷ []))) ∙ state_of-snoc c (h ++ es) e ∙ ap (λ (u : State). state_next c u e) at.state;
  answers = fold-append answers_next no_answers es (e ∷ []) ∙ ap (λ f. answers_next f e) at.answers;
}

-- and so after any turns, where there is room
led_from : (c : Program) (h es : List Entry) (x : Point) (turns : List ℕ) → At c h es x → size (fold (point_turn c) x turns) ≤ 2000000
    → (more : List Entry) × (raced c (h ++ es) turns ≡ h ++ more) × At c h more (fold (point_turn c) x turns)
led_from c h es x [] at room = (es, refl, at)
led_from c h es x (a ∷ turns) at room = by (λ fs y. led_from c h fs y turns) (due_in c x.state a) refl room
  where
    now : due c (h ++ es) a ≡ due_in c x.state a
    now = ap (λ (u : State). due_in c u a) at.state

    few : length (h ++ es) ≡ size x
    few = let n = lengths c (state_of c []) (h ++ es) in let s = ap (λ (u : State). u.after.length) at.state in omega (arith, n, s)

    by : ((fs : List Entry) (y : Point) → At c h fs y → size (fold (point_turn c) y turns) ≤ 2000000
        → (more : List Entry) × (raced c (h ++ fs) turns ≡ h ++ more) × At c h more (fold (point_turn c) y turns))
        → (p : Progress) → due_in c x.state a ≡ p → size (fold (point_turn c) (point_turned c x p) turns) ≤ 2000000
        → (more : List Entry) × (raced c (added (h ++ es) (due c (h ++ es) a)) turns ≡ h ++ more) × At c h more (fold (point_turn c) (point_turned c x p) turns)
    by go (Progress.Did e) d room =
        let all = all_grow c (point_next c x e) turns in
        let below : length (h ++ es) < 2000000 = omega (arith, all, few, room) in
        let own : due_in c x.state e.actor ≡ Progress.Did e = subst (λ (u : State). due_in c u e.actor ≡ Progress.Did e) at.state (due_own c (h ++ es) a e (now ∙ d)) in
        let rest = go (es ++ e ∷ []) (point_next c x e) (more_at c h es x e at own) room in
        let adds : added (h ++ es) (due c (h ++ es) a) ≡ h ++ (es ++ e ∷ []) =
        ap (added (h ++ es)) (now ∙ d) ∙ ap (λ (b : Bool). elim b as (λ _. List Entry) [ true ↦ (h ++ es) ++ e ∷ [] | false ↦ h ++ es ]) (has_room_below (h ++ es) below) ∙ append_assoc h es (e ∷ []) in
        (rest.0, ap (λ (g : List Entry). raced c g turns) adds ∙ rest.1, rest.2)
    by go (Progress.Waiting why) d room =
        let rest = go es x at room in
        (rest.0, ap (λ (g : List Entry). raced c g turns) (ap (added (h ++ es)) (now ∙ d)) ∙ rest.1, rest.2)
    by go Progress.Idle d room =
        let rest = go es x at room in
        (rest.0, ap (λ (g : List Entry). raced c g turns) (ap (added (h ++ es)) (now ∙ d)) ∙ rest.1, rest.2)

pub points_are_led : PointsAreLed
points_are_led c h turns room =
    let all = led_from c h [] (point_from c h) turns (record { due = tt; state = ap (state_of c) (append-nil h); answers = refl }) room in
    record {
      entries = all.0;
      same = subst (λ (g : List Entry). raced c g turns ≡ h ++ all.0) (append-nil h) all.1;
      due = all.2.due;
      state = all.2.state;
      answers = all.2.answers;
    }
