use Rattle.std.proofs.Common.{◌≡◌, true}
use Rattle.hm_race_states.proofs.Compared.{alike_actors, alike_answers, alike_places, alike_processes}
use Rattle.hm_race_states.proofs.compare.StateKeySearchKey.same.Goals as goal

pub returns-then-not-same_actors-clause-apart : goal.returns-then-not-same_actors-clause-apart
returns-then-not-same_actors-clause-apart c e =
    let h : c.same_actors.result ≡ true = c.same_actors.ensures.no (alike_actors c.args.self.now c.args.other.now e) in
    cc

pub returns-then-not-same_answers-clause-apart : goal.returns-then-not-same_answers-clause-apart
returns-then-not-same_answers-clause-apart c e =
    let h : c.same_answers.result ≡ true = c.same_answers.ensures.no (alike_answers c.args.self.now c.args.other.now e) in
    cc

pub returns-then-not-same_places-clause-apart : goal.returns-then-not-same_places-clause-apart
returns-then-not-same_places-clause-apart c e =
    let h : c.same_places.result ≡ true = c.same_places.ensures.no (alike_places c.args.self.now c.args.other.now e) in
    cc

pub returns-clause-apart : goal.returns-clause-apart
returns-clause-apart c e = c.same_processes.ensures.no (alike_processes c.args.self.now c.args.other.now e)
