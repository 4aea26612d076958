use Rattle.std.proofs.Common.{◌++◌, refl, subst}
use Rattle.hm_race_top.specs.Run.Turns.{IsTurned}
use Rattle.hm_race_top.proofs.Turning.{shown, shown_next, next_none, next_some}
use Rattle.hm_race_top.proofs.run.keys.next_key.Goals as goal

pub returns-in-None-clause-next : goal.returns-in-None-clause-next
returns-in-None-clause-next c = λ h x d r e. next_none c.args.script.now h d x r c.args.key.now e c.args.actor
    (subst (IsTurned c.args.script.now (h ++ r.entries) c.args.actor) c.in-None.is (c.in_ok-turn.ensures (h ++ r.entries) (shown c.args.script.now h d x r c.args.key.now e)))

pub returns-in_ok-answers-in-Some-clause-next : goal.returns-in_ok-answers-in-Some-clause-next
returns-in_ok-answers-in-Some-clause-next c = λ h x d r e. next_some c.args.script.now h d x r c.args.key.now e c.args.actor c.in-Some.turned
    (record { state = c.in-Some.turned.state; answers = c.in_ok-answers-in-Some.answers })
    (subst (IsTurned c.args.script.now (h ++ r.entries) c.args.actor) c.in-Some.is (c.in_ok-turn.ensures (h ++ r.entries) (shown c.args.script.now h d x r c.args.key.now e)))
    refl c.in_ok-answers-in-Some.ensures

pub returns-in_ok-answers-in-Some-clause-kept : goal.returns-in_ok-answers-in-Some-clause-kept
returns-in_ok-answers-in-Some-clause-kept c = λ n s. shown_next c.args.script.now c.args.key.now.state n c.args.actor c.in-Some.turned s
    (subst (IsTurned c.args.script.now s.history c.args.actor) c.in-Some.is (c.in_ok-turn.ensures s.history s.shows))
