use Rattle.std.proofs.Common.{ap, ◌∙◌}
use Rattle.std.specs.Prelude.{map}
use Rattle.hm_protocol.specs.Known.{Known}
use Rattle.hm_verdicts.specs.Knowledge.{known_of}
use Rattle.hm_verdicts.specs.Changes.{returned_in}
use Rattle.hm_verdicts.proofs.knowledge.Knowledge.told.Goals as goal

pub returns : goal.returns
returns c =
    let k : Known = known_of c.args.self.now in
    ap (λ cs. record k { calls = cs }) c.in_ok-return_all.ensures
    ∙ ap (λ ys. record k { calls = map (returned_in k.at c.args.seq k.calls ys c.args.thread c.args.mirror) k.calls })
    c.oldest_first-moves.ensures
