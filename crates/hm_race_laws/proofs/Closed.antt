-- A closed set of keys has every point, up to a likeness.
use Rattle.std.proofs.Common.{◌≡◌, true, List, [], ◌∷◌, ◌++◌, refl, sym, ap, ◌∙◌, subst, fold, append_assoc, append-nil}
use Rattle.std.proofs.lemmas.List.Sums.{fold-append}
use Rattle.hm_base.specs.Program.{Program}
use Rattle.hm_history.specs.Kernel.Going.{state_of}
use Rattle.hm_history.specs.Kernel.Due.{due_in}
use Rattle.hm_history.specs.Laws.{DueFrom}
use Rattle.hm_history.specs.declared.Kind.{Kind}
use Rattle.hm_history.specs.declared.Entry.{Entry}
use Rattle.hm_history.specs.declared.Progress.{Progress}
use Rattle.hm_race_laws.specs.Outcomes.{Point, Reached, point_next, point_from, point_after, DueAlong, outcome, ended_in, ended, answers_of}
use Rattle.hm_race_laws.specs.Closed.{IsListed, Done, Searched}
use Rattle.hm_race_laws.proofs.Points.{state_after, answers_after, due_along}

-- what is due at a point that is like this one, to the same actor
pub record Match (c : Program) (R : Point → Point → Type 0) (x y : Point) (e : Entry) : Type 0 where
  pub entry : Entry
  pub actor : entry.actor ≡ e.actor
  pub is_due : due_in c y.state entry.actor ≡ Progress.Did entry
  pub next : R (point_next c x e) (point_next c y entry)

-- a likeness of points: equal keys are alike, and points that are alike go on alike
pub record Likeness {K : Type 0} (c : Program) (h : List Entry) (key : Point → K) (R : Point → Point → Type 0) : Type 0 where
  pub by_key : (x y : Point) → Reached c h x → Reached c h y → key x ≡ key y → R x y
  pub joined : (x y z : Point) → R x y → R y z → R x z
  pub goes_on : (x y : Point) (e : Entry) → R x y → due_in c x.state e.actor ≡ Progress.Did e → Match c R x y e
  pub same_answers : (x y : Point) → R x y → x.answers ≡ y.answers
  pub same_end : (x y : Point) → R x y → ended_in c x.state ≡ ended_in c y.state

-- a point that is like this one, and whose key is listed and done
pub record Met {K : Type 0} (c : Program) (h : List Entry) (key : Point → K) (R : Point → Point → Type 0) (ks : List K) (xs : List (List (List Kind))) (x : Point) : Type 0 where
  pub key_of : K
  pub listed : IsListed ks key_of
  pub done : Done c h key ks xs key_of
  pub alike : R x done.stands.point

pub due_more : (c : Program) (h es : List Entry) (e : Entry) → DueFrom c h es → due_in c (state_of c (h ++ es)) e.actor ≡ Progress.Did e → DueFrom c h (es ++ e ∷ [])
due_more c h [] e d k = (subst (λ l. due_in c (state_of c l) e.actor ≡ Progress.Did e) (append-nil h) k, tt)
due_more c h (x ∷ es) e d k = (d.0, due_more c (h ++ x ∷ []) es e d.1 (subst (λ l. due_in c (state_of c l) e.actor ≡ Progress.Did e) (sym (append_assoc h (x ∷ []) es)) k))

pub snoc_reached : (c : Program) (h : List Entry) (x : Point) (e : Entry) → Reached c h x → due_in c x.state e.actor ≡ Progress.Did e → Reached c h (point_next c x e)
snoc_reached c h x e r d = record {
  entries = r.entries ++ e ∷ [];
  due = due_more c h r.entries e r.due (subst (λ u. due_in c u e.actor ≡ Progress.Did e) (ap (λ (z : Point). z.state) (sym r.same) ∙ state_after c h r.entries) d);
  same = fold-append (point_next c) (point_from c h) r.entries (e ∷ []) ∙ ap (λ z. point_next c z e) r.same;
}

pub from_reached : (c : Program) (h : List Entry) → Reached c h (point_from c h)
from_reached c h = record { entries = []; due = tt; same = refl }

meets : {K : Type 0} (c : Program) (h : List Entry) (key : Point → K) (R : Point → Point → Type 0) (ks : List K) (xs : List (List (List Kind))) → Likeness c h key R → ((k : K) → IsListed ks k → Done c h key ks xs k) → (es : List Entry) (x : Point) → Reached c h x → Met c h key R ks xs x → DueAlong c x.state es → Met c h key R ks xs (fold (point_next c) x es)
meets c h key R ks xs like each [] x r m d = m
meets c h key R ks xs like each (e ∷ es) x r m d = meets c h key R ks xs like each es (point_next c x e) (snoc_reached c h x e r d.0) (on (like.goes_on x m.done.stands.point e m.alike d.0)) d.1
  where
    on : Match c R x m.done.stands.point e → Met c h key R ks xs (point_next c x e)
    on g = record { key_of = key y; listed = l; done = z; alike = like.joined _ y _ g.next (like.by_key y z.stands.point ry z.stands.reached (sym z.stands.has_key)) }
      where
        y : Point
        y = point_next c m.done.stands.point g.entry

        ry : Reached c h y
        ry = snoc_reached c h m.done.stands.point g.entry m.done.stands.reached g.is_due

        l : IsListed ks (key y)
        l = m.done.onward g.entry g.is_due

        z : Done c h key ks xs (key y)
        z = each (key y) l

-- where nothing is left to look at, each point of the race is met
pub complete : {K : Type 0} (c : Program) (h : List Entry) (key : Point → K) (R : Point → Point → Type 0) (ks : List K) (xs : List (List (List Kind))) → Likeness c h key R → Searched c h key xs ks [] → (es : List Entry) → DueFrom c h es → Met c h key R ks xs (point_after c h es)
complete {K = K} c h key R ks xs like s es d = meets c h key R ks xs like each es (point_from c h) (from_reached c h) first (due_along c h es d)
  where
    each : (k : K) → IsListed ks k → Done c h key ks xs k
    each k l = subst (λ z. Done c h key z xs k) (append-nil ks) (s.each k l)

    first : Met c h key R ks xs (point_from c h)
    first = let l = subst (λ z. IsListed z (key (point_from c h))) (append-nil ks) s.from in
        record { key_of = key (point_from c h); listed = l; done = each (key (point_from c h)) l; alike = like.by_key _ _ (from_reached c h) (each (key (point_from c h)) l).stands.reached (sym (each (key (point_from c h)) l).stands.has_key) }

-- and each outcome is listed
pub all_outcomes : {K : Type 0} (c : Program) (h : List Entry) (key : Point → K) (R : Point → Point → Type 0) (ks : List K) (xs : List (List (List Kind))) → Likeness c h key R → Searched c h key xs ks [] → (es : List Entry) → DueFrom c h es → ended c (h ++ es) ≡ true → IsListed xs (outcome c (answers_of es))
all_outcomes c h key R ks xs like s es d en = by (complete c h key R ks xs like s es d)
  where
    by : Met c h key R ks xs (point_after c h es) → IsListed xs (outcome c (answers_of es))
    by m = subst (λ f. IsListed xs (outcome c f)) (sym (like.same_answers _ _ m.alike) ∙ answers_after c h es)
        (m.done.told (sym (like.same_end _ _ m.alike) ∙ (ap (ended_in c) (state_after c h es) ∙ en)))
