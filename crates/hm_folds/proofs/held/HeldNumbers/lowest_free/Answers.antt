use Rattle.hm_folds.proofs.LeastHeld.{first_free, next_free, none_free}
use Rattle.hm_folds.proofs.held.HeldNumbers.lowest_free.Goals as goal

pub returns-in-Some : goal.returns-in-Some
returns-in-Some c = let x = c.args.self.now in first_free x.frames x.next x.held x.free c.in-Some.number x.sound c.in-Some.ensures

pub returns-then-self : goal.returns-then-self
returns-then-self c = let x = c.args.self.now in next_free x.frames x.next x.held x.free x.sound c.in-None.ensures c.if-self.true

pub returns-else-self : goal.returns-else-self
returns-else-self c = let x = c.args.self.now in none_free x.frames x.next x.held x.free x.sound c.in-None.ensures c.if-self.false
