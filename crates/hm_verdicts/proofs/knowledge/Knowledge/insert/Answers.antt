use Rattle.std.proofs.Common.{ap, ◌∙◌}
use Rattle.hm_history.specs.Memory.Words.{with_at}
use Rattle.hm_verdicts.specs.Numbers.{positions_in}
use Rattle.hm_verdicts.specs.Knowledge.{known_of}
use Rattle.hm_verdicts.proofs.Fields.{inserted}
use Rattle.hm_verdicts.proofs.knowledge.Knowledge.insert.Goals as goal

pub returns : goal.returns
returns c = inserted (known_of c.args.self.now) _ _ _ _ _ _ _ _ _ _ c.in_ok-set_or_take.ensures
    (c.in_ok-set.ensures ∙ ap (with_at (positions_in c.args.self.now.first) c.args.mirror) c.first.ensures)
    c.in_ok-set-2.ensures c.forget.ensures c.forget-2.ensures
