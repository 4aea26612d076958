use Rattle.hm_judge.proofs.Telling.{judgement_behind}
use Rattle.hm_judge.proofs.behind.judge_behind.Goals as goal
use Rattle.std.proofs.lemmas.Result.{IfOk-weaker}

pub returns : goal.returns
returns c = IfOk-weaker c.judge_rest.result _ _ (λ j at. judgement_behind c.one_text.ensures c.every_history_is_legal.ensures c.args.bytes.now c.in-Ok.taken.rest.now c.args.script c.in-Ok.taken.world.script c.in-Ok.taken.world.history c.args.first j c.in-Ok.ensures.taken at) c.judge_rest.ensures
