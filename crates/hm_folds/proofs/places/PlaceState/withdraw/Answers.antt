use Rattle.std.proofs.Common.{ℕ, true, false, refl, ap, ◌∙◌, arith}
use Rattle.std.specs.Prelude.{Bool}
use Rattle.hm_history.specs.Memory.Words.{with_at}
use Rattle.hm_folds.proofs.Writes.{written_at}
use Rattle.hm_folds.proofs.places.PlaceState.withdraw.Goals as goal

pub returns-clause-shown : goal.returns-clause-shown
returns-clause-shown c = λ p s h. record {
  tables = h.tables;
  frames = h.frames;
  held = h.held;
  committed = h.committed;
  standing = h.standing;
  moving = h.moving;
  withdrawn = written_at (λ b. b) c.args.self.now.withdrawn c.number.result c.args.dev true false true c.number.ensures.same (omega arith) refl ∙ ap (λ (f : ℕ → Bool). with_at f c.args.dev true) h.withdrawn;
  removed = h.removed;
  table = h.table;
  device = h.device;
  named = h.named;
  one = h.one;
}
