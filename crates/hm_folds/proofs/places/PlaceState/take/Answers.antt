use Rattle.std.proofs.Common.{true, None, ap, ◌∙◌}
use Rattle.std.specs.Prelude.{Option, Bool, if◌then◌else◌}
use Rattle.hm_base.specs.declared.Frame.{Frame}
use Rattle.hm_base.specs.PlaceWords.{same_frame}
use Rattle.hm_folds.proofs.PlaceAccepts.{free_of}
use Rattle.hm_folds.proofs.PlaceSteps.{take_stepped, take_one_writer, named_taken}
use Rattle.hm_folds.proofs.places.PlaceState.take.Goals as goal

pub returns-clause-ok : goal.returns-clause-ok
returns-clause-ok c = λ p s h e. let f = c.args.frame.now in let free = free_of p s c.args.self.now h f c.requires in record {
  tables = h.tables;
  frames = λ pool. c.in_ok-take.ensures.frames pool ∙ h.frames pool;
  held = λ g. c.in_ok-take.ensures.ok g ∙ ap (λ (b : Bool). if same_frame g f then true else b) (h.held g);
  committed = λ g. c.forget.ensures g ∙ ap (λ (o : Option Frame). if same_frame g f then None else o) (h.committed g);
  standing = λ t. h.standing t ∙ take_stepped s h.named f free t;
  moving = h.moving;
  withdrawn = h.withdrawn;
  removed = h.removed;
  table = h.table;
  device = h.device;
  named = named_taken s h.named f;
  one = take_one_writer s h.named h.tables.once h.one f free;
}
