use Rattle.std.proofs.Common.{◌≡◌, Option, Some, None, not, is_none, true, false, refl, sym, ap, ◌∙◌}
use Rattle.std.specs.Prelude.{is_some, Bool}
use Rattle.hm_history.specs.Memory.Places.{lowest_named}
use Rattle.hm_tables.proofs.ReadsShown.{lowest_named_shown}
use Rattle.hm_folds.proofs.PlaceAccepts.{and_then}
use Rattle.hm_folds.proofs.places.PlaceState.may_drop.Goals as goal

none_of : {X : Type 0} (o : Option X) (b : Bool) → is_some o ≡ not b → b ≡ is_none o
none_of None true e = refl
none_of None false e = cc
none_of (Some x) true e = cc
none_of (Some x) false e = refl

pub returns-then-is_held-clause-same : goal.returns-then-is_held-clause-same
returns-then-is_held-clause-same c = λ p s h. let f = c.args.frame.now in
    none_of _ c.is_none.result c.is_none.ensures ∙ ap is_none (c.lowest_named.ensures ∙ lowest_named_shown p s _ h.tables f)
    ∙ and_then (s.held f) (is_none (lowest_named s f)) (sym (h.held f) ∙ sym c.is_held.ensures ∙ c.if-is_held.true)
