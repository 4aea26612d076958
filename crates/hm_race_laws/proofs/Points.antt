-- Points, and the histories that lead to them.
use Rattle.std.proofs.Common.{◌≡◌, ℕ, ap, List, [], ◌∷◌, ◌++◌, refl, sym, ◌∙◌, subst, fold}
use Rattle.std.proofs.lemmas.List.Sums.{fold-append}
use Rattle.hm_base.specs.Program.{Program}
use Rattle.hm_history.specs.Kernel.Going.{State, state_next, state_start, state_of, state_of-snoc}
use Rattle.hm_history.specs.Laws.{DueFrom}
use Rattle.hm_history.specs.declared.Entry.{Entry}
use Rattle.hm_history.specs.declared.Kind.{Kind}
use Rattle.hm_race_laws.specs.Outcomes.{answers_next, answers_of, Point, point_next, point_from, point_after, DueAlong}

pub state_along : (c : Program) (x : Point) (es : List Entry) → (fold (point_next c) x es).state ≡ fold (state_next c) x.state es
state_along c x [] = refl
state_along c x (e ∷ es) = state_along c (point_next c x e) es

answers_along : (c : Program) (x : Point) (es : List Entry) → (fold (point_next c) x es).answers ≡ fold answers_next x.answers es
answers_along c x [] = refl
answers_along c x (e ∷ es) = answers_along c (point_next c x e) es

pub state_after : (c : Program) (h es : List Entry) → (point_after c h es).state ≡ state_of c (h ++ es)
state_after c h es = state_along c (point_from c h) es ∙ sym (fold-append (state_next c) (state_start c) h es)

pub answers_after : (c : Program) (h es : List Entry) → (point_after c h es).answers ≡ answers_of es
answers_after c h es = answers_along c (point_from c h) es

pub due_along : (c : Program) (h es : List Entry) → DueFrom c h es → DueAlong c (state_of c h) es
due_along c h [] d = tt
due_along c h (e ∷ es) d = (d.0, subst (λ u. DueAlong c u es) (state_of-snoc c h e) (due_along c (h ++ e ∷ []) es d.1))

-- equal parts make equal points
pub point_made : (u v : State) (f g : ℕ → List Kind) → u ≡ v → f ≡ g → ◌≡◌ {A = Point} (record { state = u; answers = f }) (record { state = v; answers = g })
point_made u v f g e i = ap {B = Point} (λ (s : State). record { state = s; answers = f }) e ∙ ap {B = Point} (λ (k : ℕ → List Kind). record { state = v; answers = k }) i
