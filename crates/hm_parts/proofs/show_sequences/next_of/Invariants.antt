use Rattle.std.proofs.Common.{◌≡◌, ◌-◌}
use Rattle.hm_folds.specs.Kept.{sequences_of}
use Rattle.hm_history.specs.Memory.Sequences.{sequences_accept}
use Rattle.hm_history.specs.Memory.Words.{least}
use Rattle.hm_parts.specs.Shown.{next_of, telling}
use Rattle.hm_parts.proofs.show_sequences.next_of.Given as goal

-- none before this mirror may be told
abbrev pub invariant-loop-number : goal.invariant-loop-number
invariant-loop-number l =
    let s = sequences_of l.sequences in
    next_of s l.proc l.span l.actor ≡ least (λ m. sequences_accept s l.actor (telling s l.proc l.span m)) l.number (32 - l.number)
