use Rattle.std.proofs.Common.{◌∙◌, refl, sym}
use Rattle.hm_machine.proofs.Draining.{drain_ends, drained_within}
use Rattle.hm_history.specs.Kernel.Run.{enough}
use Rattle.hm_machine.proofs.Machine.drain.Goals as goal
use Rattle.hm_history.proofs.Growing.{grows_drained}

pub returns-then-has_room : goal.returns-then-has_room
returns-then-has_room g c = (c.in_ok-rounds.ensures.0, drained_within c.args.self.now c.rounds.new.self _ c.in_ok-rounds.ensures.0 (sym c.has_room.ensures ∙ c.if-has_room.true))

pub returns : goal.returns
returns g c =
    let s = c.args.self.now in
    drain_ends s c.rounds.new.self c.turns_beyond.new.self _ _ c.turns_beyond.result c.in_ok-rounds.ensures.0 (grows_drained s.script s.history enough) c.turns_beyond.ensures refl
