use Rattle.std.proofs.Common.{List, [], ◌∷◌, ◌++◌, None, false, ap, refl, rules, subst, sym, ◌∙◌}
use Rattle.hm_history.specs.declared.phases.Migrating.{Migrating}
use Rattle.hm_actors.specs.Rising.{Rises}
use Rattle.hm_actors.proofs.records.Records.push.Goals as goal

pub invariant_of-self : goal.invariant_of-self
invariant_of-self c = let new : Migrating = record { page = c.args.page; source = c.args.source; dest = None; moved = false } in (
  search rules,
  λ e. subst Rises (ap (λ (xs : List Migrating). xs ++ (new ∷ [])) c.deref.ensures.value ∙ sym c.in-Ok.ensures.items) (c.rises_by-self-inside.ensures e new refl),
)
