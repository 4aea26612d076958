use Rattle.std.proofs.Common.{◌≡◌, true}
use Rattle.hm_flaw_states.proofs.Compared.{alike_actors, alike_places, alike_processes, one_state}
use Rattle.hm_flaw_states.proofs.state.FlawState.same.Goals as goal

pub returns-then-not-same_actors-clause-apart : goal.returns-then-not-same_actors-clause-apart
returns-then-not-same_actors-clause-apart c e =
    let h : c.same_actors.result ≡ true = c.same_actors.ensures.no (alike_actors c.args.self.now c.args.other.now e) in
    cc

pub returns-then-not-same_places-clause-apart : goal.returns-then-not-same_places-clause-apart
returns-then-not-same_places-clause-apart c e =
    let h : c.same_places.result ≡ true = c.same_places.ensures.no (alike_places c.args.self.now c.args.other.now e) in
    cc

pub returns-clause-apart : goal.returns-clause-apart
returns-clause-apart c e = c.same_processes.ensures.no (alike_processes c.args.self.now c.args.other.now e)

pub returns-clause-alike : goal.returns-clause-alike
returns-clause-alike c e =
    one_state c.args.self.now c.args.other.now (c.same_actors.ensures.yes c.if-not-same_actors.false) (c.same_places.ensures.yes c.if-not-same_places.false) (c.same_processes.ensures.yes e)
