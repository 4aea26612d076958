use Rattle.std.proofs.Common.{◌≡◌, ◌-◌, ◌∙◌, true, false, refl, sym, subst}
use Rattle.std.proofs.lemmas.Result.{err_from_is_err_and}
use Rattle.std.specs.Prelude.{Ok}
use Rattle.hm_history.specs.Kernel.Run.{enough, has_room}
use Rattle.hm_machine.specs.Turning.{Adds}
use Rattle.hm_machine.proofs.Draining.{ended, turn_fails, turn_rests, turn_goes, turns_end}
use Rattle.hm_machine.proofs.Rounds.{on_full}
use Rattle.hm_machine.proofs.Machine.turns_on.Goals.{then-not-has_room-via-then-not-has_room, then-not-has_room-via-else-not-has_room+in_ok-adds+then-not-branch}
use Rattle.hm_machine.proofs.Machine.turns_on.Goals as goal

pub returns-then-not-has_room : goal.returns-then-not-has_room
returns-then-not-has_room g c = elim c.then-not-has_room.branch [
  | then-not-has_room-via-then-not-has_room w ↦
      let full : has_room c.loop-turn.self.history ≡ false = sym c.has_room.ensures ∙ w.if-not-has_room.true in
      (w.self-is ∙ ended c.args.self.now c.loop-turn.self _ _ c.loop-turn.invariant (on_full c.args.self.now.script c.loop-turn.self.history c.args.actor (enough - c.loop-turn.turn) full), refl)
  | then-not-has_room-via-else-not-has_room+in_ok-adds+then-not-branch w ↦
      let still = subst (λ b. Adds c.loop-turn.self c.args.actor (Ok b) w.adds.new.self) w.if-not-branch.true w.in_ok-adds.ensures in
      (w.self-is ∙ turn_rests c.args.self.now c.loop-turn.self w.adds.new.self c.args.actor (enough - c.loop-turn.turn) _ c.loop-turn.invariant still, refl)
]

pub returns-in_err-adds : goal.returns-in_err-adds
returns-in_err-adds g c =
    let p = err_from_is_err_and c.from_residual.result c.from_residual.ensures.1 in
    let room : has_room c.loop-turn.self.history ≡ true = sym c.has_room.ensures ∙ c.if-not-has_room.false in
    rw (p.1, p.2) (turn_fails c.args.self.now c.loop-turn.self c.adds.new.self c.args.actor (enough - c.loop-turn.turn) c.in_err-adds.field-0.0 _ c.loop-turn.invariant room c.in_err-adds.ensures)

pub loop-turn-preserved : goal.loop-turn-preserved
loop-turn-preserved g c =
    let room : has_room c.loop-turn.self.history ≡ true = sym c.has_room.ensures ∙ c.if-not-has_room.false in
    turn_goes c.args.self.now c.loop-turn.self c.adds.new.self c.args.actor c.loop-turn.turn c.in_ok-adds.field-0 _ c.loop-turn.invariant c.loop-turn-test.true room c.in_ok-adds.ensures

pub returns : goal.returns
returns g c = (turns_end c.args.self.now c.loop-turn.self c.args.actor c.loop-turn.turn _ c.loop-turn.invariant c.loop-turn-test.false, refl)
