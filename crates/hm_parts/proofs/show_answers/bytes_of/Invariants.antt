use Rattle.std.proofs.Common.{◌≡◌}
use Rattle.hm_history.specs.Memory.Words.{bytes_from}
use Rattle.hm_folds.specs.Plain.{plain_of}
use Rattle.hm_parts.proofs.show_answers.bytes_of.Given as goal

-- the bytes so far
abbrev pub invariant-loop-number : goal.invariant-loop-number
invariant-loop-number l = l.all ≡ bytes_from ((plain_of l.state).bytes l.proc) l.addr l.number
