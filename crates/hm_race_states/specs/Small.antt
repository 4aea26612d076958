-- The small sequences that a state keeps, as contracts see them.
use Rattle.std.specs.Prelude.{false, None, slice_index_or}
use Rattle.hm_history.specs.Memory.Sequences.{Sequences}
use Rattle.hm_race_laws.specs.Numbers.{small_sequences}
use Rattle.hm_folds.specs.Kept.{interval_at}
use Rattle.hm_race_states.specs.SeqBy.{seq_by}
use Rattle.hm_race_states.specs.declared.small.SmallSeqs.{SmallSeqs}
use Rattle.hm_race_states.specs.declared.small.Between.{Between}

-- the sequences of the definitions that the kept ones stand for; guards are left out
abbrev pub kept_seqs : SmallSeqs → Sequences
kept_seqs x = record {
  seq = λ p. seq_by (slice_index_or x.odd p false);
  active = λ p. slice_index_or x.active p 0;
  interval = interval_at x.intervals.items;
  guard = λ a. None;
}

-- the sequences between an entry and the next small ones
abbrev pub between_seqs : Between → Sequences
between_seqs x = record {
  seq = λ p. slice_index_or x.seqs p 2;
  active = λ p. slice_index_or x.active p 0;
  interval = interval_at x.intervals;
  guard = λ a. None;
}

-- sequences without guards
abbrev pub unguarded : Sequences → Sequences
unguarded s = record s { guard = λ a. None }

-- sequences made small again, without guards
abbrev pub settled : Sequences → Sequences
settled s = unguarded (small_sequences s)
