use Rattle.hm_folds.proofs.LeastHeld.{first_held}
use Rattle.hm_folds.proofs.held.HeldNumbers.held_from.Goals as goal

pub returns : goal.returns
returns c = let x = c.args.self.now in first_held x.frames x.next x.held x.free c.args.from c.first.result x.sound c.first.ensures
