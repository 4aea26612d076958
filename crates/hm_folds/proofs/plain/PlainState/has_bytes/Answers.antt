use Rattle.std.proofs.Common.{sym, ◌∙◌, arith}
use Rattle.hm_folds.specs.Memory.{bytes_of}
use Rattle.hm_folds.proofs.Written.{same_all, same_not}
use Rattle.hm_folds.proofs.plain.PlainState.has_bytes.Goals as goal

pub returns-then-bytes-number : goal.returns-then-bytes-number
returns-then-bytes-number c =
    let f = bytes_of c.args.self.now.memory.processes.items c.args.proc in
    sym (same_not f c.args.addr c.args.bytes.now c.loop-number.number (omega arith) (λ e. c.if-bytes-number.true (e ∙ sym c.byte.ensures)))

pub returns : goal.returns
returns c =
    let f = bytes_of c.args.self.now.memory.processes.items c.args.proc in
    sym (same_all f c.args.addr c.args.bytes.now (λ k l. c.loop-number.invariant k (omega arith)))
