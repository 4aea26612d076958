use Rattle.std.proofs.Common.{false, ap, ◌∙◌}
use Rattle.std.specs.Prelude.{is_none, Bool, if◌then◌else◌}
use Rattle.std.proofs.lemmas.Bool.{and_parts}
use Rattle.hm_base.specs.PlaceWords.{same_frame}
use Rattle.hm_history.specs.Memory.Places.{lowest_named}
use Rattle.hm_folds.proofs.PlaceSteps.{named_dropped, none_names}
use Rattle.hm_folds.proofs.places.PlaceState.drop_frame.Goals as goal

pub returns-clause-ok : goal.returns-clause-ok
returns-clause-ok c = λ p s h e. let f = c.args.frame.now in record {
  tables = h.tables;
  frames = λ pool. c.in_ok-drop_frame.ensures.frames pool ∙ h.frames pool;
  held = λ g. c.in_ok-drop_frame.ensures.ok g ∙ ap (λ (b : Bool). if same_frame g f then false else b) (h.held g);
  committed = h.committed;
  standing = h.standing;
  moving = h.moving;
  withdrawn = h.withdrawn;
  removed = h.removed;
  table = h.table;
  device = h.device;
  named = named_dropped s h.named f (none_names s h.tables.listed f (and_parts (s.held f) (is_none (lowest_named s f)) e).1);
  one = h.one;
}
