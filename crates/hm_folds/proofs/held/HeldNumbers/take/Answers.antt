use Rattle.std.proofs.Common.{arith}
use Rattle.hm_folds.proofs.LeastHeld.{taken_next, sound_next}
use Rattle.hm_folds.proofs.held.HeldNumbers.take.Goals as goal

pub overflow_add-self : goal.overflow_add-self
overflow_add-self c =
    let x = c.args.self.now in
    let e = taken_next x.frames x.next x.held x.free c.args.number x.sound c.requires c.if-number-self.false in
    omega (arith, e.1, x.sound.few)

pub invariant_of-self-else-number-self : goal.invariant_of-self-else-number-self
invariant_of-self-else-number-self c =
    let x = c.args.self.now in
    let e = taken_next x.frames x.next x.held x.free c.args.number x.sound c.requires c.if-number-self.false in
    record { sound = sound_next x.frames x.next x.held x.free c.add.new.self c.args.number x.sound e c.in_ok-add.ensures.ok }
