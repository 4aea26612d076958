use Rattle.std.proofs.Common.{sym, ◌∙◌, arith}
use Rattle.hm_race_states.specs.Bytes.{bytes_in}
use Rattle.hm_folds.proofs.Written.{same_all, same_not}
use Rattle.hm_flaw_states.proofs.judging.answers.has_bytes.Goals as goal

pub returns-then-bytes-number : goal.returns-then-bytes-number
returns-then-bytes-number c =
    let f = bytes_in c.args.kept.now c.args.proc in
    sym (same_not f c.args.addr c.args.bytes.now c.loop-number.number (omega arith) (λ e. c.if-bytes-number.true (e ∙ sym c.byte.ensures)))

pub returns : goal.returns
returns c =
    let f = bytes_in c.args.kept.now c.args.proc in
    sym (same_all f c.args.addr c.args.bytes.now (λ k l. c.loop-number.invariant k (omega arith)))
