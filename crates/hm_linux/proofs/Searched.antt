-- A search with nothing left to look at has every outcome.
use Rattle.std.proofs.Common.{◌≡◌, true, List, [], ◌∷◌, ◌++◌, fold, refl, sym, ap, ◌∙◌, subst}
use Rattle.hm_base.specs.Program.{Program}
use Rattle.hm_history.specs.Kernel.Going.{state_of}
use Rattle.hm_history.specs.declared.Kind.{Kind}
use Rattle.hm_history.specs.declared.Entry.{Entry}
use Rattle.hm_history.specs.declared.Progress.{Progress}
use Rattle.hm_race_laws.specs.Outcomes.{outcome, ended_in}
use Rattle.hm_race_laws.specs.Closed.{IsListed}
use Rattle.hm_linux.specs.declared.variant.Variant.{Variant}
use Rattle.hm_linux.specs.Noted.{Varied, varied_from}
use Rattle.hm_linux.specs.Instead.{due_as, varied_next, varied_on, DueAs}
use Rattle.hm_linux.specs.Outcomes.{VariedPoint, ReachedAs, all_said, said_next, nothing_said, varied_point_from, varied_point_next}
use Rattle.hm_linux.specs.Closed.{Matched, GoesAlike, DoneAs, ClosedAs}
use Rattle.hm_linux.specs.Laws.{ClosedHasAll}

-- the parts of a point after entries
point_on : (l : Variant) (c : Program) (x : VariedPoint) (es : List Entry)
    → fold (varied_point_next l c) x es ≡ record { varied = varied_on l c x.varied es; said = fold (said_next l) x.said es }
point_on l c x [] = refl
point_on l c x (e ∷ es) = point_on l c (varied_point_next l c x e) es

due_more : (l : Variant) (c : Program) (t : Varied) (es : List Entry) (e : Entry) → DueAs l c t es
    → due_as l c (varied_on l c t es) e.actor ≡ Progress.Did e → DueAs l c t (es ++ e ∷ [])
due_more l c t [] e d k = (k, tt)
due_more l c t (x ∷ es) e d k = (d.0, due_more l c (varied_next l c t x) es e d.1 k)

point_more : (l : Variant) (c : Program) (x : VariedPoint) (es : List Entry) (e : Entry)
    → fold (varied_point_next l c) x (es ++ e ∷ []) ≡ varied_point_next l c (fold (varied_point_next l c) x es) e
point_more l c x [] e = refl
point_more l c x (y ∷ es) e = point_more l c (varied_point_next l c x y) es e

reached_next : (l : Variant) (c : Program) (h : List Entry) (x : VariedPoint) (e : Entry) → ReachedAs l c h x
    → due_as l c x.varied e.actor ≡ Progress.Did e → ReachedAs l c h (varied_point_next l c x e)
reached_next l c h x e r d = record {
  entries = r.entries ++ e ∷ [];
  due = due_more l c (varied_from (state_of c h)) r.entries e r.due
      (subst (λ (z : VariedPoint). due_as l c z.varied e.actor ≡ Progress.Did e)
      (sym r.same ∙ point_on l c (varied_point_from c h) r.entries) d);
  same = point_more l c (varied_point_from c h) r.entries e ∙ ap (λ z. varied_point_next l c z e) r.same;
}

-- a done key that a point has
record Met {K : Type 0} (l : Variant) (c : Program) (h : List Entry) (key : VariedPoint → K) (ks : List K)
    (xs : List (List (List Kind))) (x : VariedPoint) : Type 0 where
  reached : ReachedAs l c h x
  done : DoneAs l c h key ks xs (key x)

met_next : {K : Type 0} (l : Variant) (c : Program) (h : List Entry) (key : VariedPoint → K) (ks : List K)
    (xs : List (List (List Kind))) → GoesAlike l c h key → ClosedAs l c h key ks xs → (x : VariedPoint) (e : Entry)
    → Met l c h key ks xs x → due_as l c x.varied e.actor ≡ Progress.Did e
    → Met l c h key ks xs (varied_point_next l c x e)
met_next l c h key ks xs alike closed x e m d = record {
  reached = reached_next l c h x e m.reached d;
  done = closed.each _ (subst (IsListed ks) (sym match.next) (m.done.onward match.entry match.due));
}
  where
    match : Matched l c key x m.done.stands.point e
    match = alike.goes_on x m.done.stands.point m.reached m.done.stands.reached (sym m.done.stands.has_key) e d

met_on : {K : Type 0} (l : Variant) (c : Program) (h : List Entry) (key : VariedPoint → K) (ks : List K)
    (xs : List (List (List Kind))) → GoesAlike l c h key → ClosedAs l c h key ks xs → (x : VariedPoint)
    (es : List Entry) → Met l c h key ks xs x → DueAs l c x.varied es
    → Met l c h key ks xs (fold (varied_point_next l c) x es)
met_on l c h key ks xs alike closed x [] m d = m
met_on l c h key ks xs alike closed x (e ∷ es) m d =
    met_on l c h key ks xs alike closed (varied_point_next l c x e) es
    (met_next l c h key ks xs alike closed x e m d.0) d.1

listed : {K : Type 0} (l : Variant) (c : Program) (h : List Entry) (key : VariedPoint → K) (ks : List K)
    (xs : List (List (List Kind))) → GoesAlike l c h key → (x : VariedPoint) → Met l c h key ks xs x
    → ended_in c x.varied.state ≡ true → IsListed xs (outcome c (all_said x.said))
listed l c h key ks xs alike x m e = subst (IsListed xs)
    (sym (alike.same_answers x m.done.stands.point m.reached m.done.stands.reached (sym m.done.stands.has_key)))
    (m.done.told (sym (alike.same_end x m.done.stands.point m.reached m.done.stands.reached
    (sym m.done.stands.has_key)) ∙ e))

pub closed_has_all : ClosedHasAll
closed_has_all l c h key ks xs alike closed x is = subst (IsListed xs) is.same
    (listed l c h key ks xs alike end (subst (Met l c h key ks xs) (point_on l c (varied_point_from c h) is.entries)
    (met_on l c h key ks xs alike closed (varied_point_from c h) is.entries first is.due)) is.ended)
  where
    end : VariedPoint
    end = record {
      varied = varied_on l c (varied_from (state_of c h)) is.entries;
      said = fold (said_next l) nothing_said is.entries;
    }

    first : Met l c h key ks xs (varied_point_from c h)
    first = record {
      reached = record { entries = []; due = tt; same = refl };
      done = closed.each (key (varied_point_from c h)) closed.from;
    }
