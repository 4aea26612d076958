use Rattle.std.proofs.Common.{◌≡◌, replicate}
use Rattle.hm_tables.specs.Values.{no_words}
use Rattle.hm_tables.proofs.tables.new_tables.Given as goal

abbrev pub invariant-loop-proc : goal.invariant-loop-proc
invariant-loop-proc l = l.tables.items ≡ replicate l._proc no_words
