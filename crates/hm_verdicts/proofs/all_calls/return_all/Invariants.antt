use Rattle.std.proofs.Common.{◌≡◌, reverse}
use Rattle.hm_verdicts.specs.Changes.{returned_in}
use Rattle.hm_verdicts.proofs.Mapping.{mapped_to}
use Rattle.hm_verdicts.proofs.all_calls.return_all.Given as goal

abbrev pub invariant-loop-number : goal.invariant-loop-number
invariant-loop-number l = l.calls.items
    ≡ mapped_to (returned_in l.at l.seq l.fn.calls.items (reverse l.moves) l.thread l.mirror) l.number l.fn.calls.items
